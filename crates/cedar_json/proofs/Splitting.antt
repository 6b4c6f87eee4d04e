-- Entities in several bodies.
use Rattle.std.proofs.Common.{◌≡◌, ℕ, ◌+◌, ◌-◌, ◌<◌, ◌≤◌, zero, suc, true, Option, Some, None, is_some, List, [], ◌∷◌, ◌++◌, drop, length, refl, sym, ap, ◌∙◌, subst, append_assoc, arith, lit<}
use Rattle.std.specs.Prelude.{All, IsUtf8, encode_utf8, encode_utf8_all}
use Rattle.std.proofs.lemmas.List.{length-append}
use Rattle.std.proofs.lemmas.List.Elements.{All-nil, All-cons}
use Rattle.std.proofs.lemmas.Str.{encodes-append, encode_ascii}
use Rattle.json.specs.Find.{get_item}
use Rattle.json.specs.Json.{Json, null, boolean, number, string, array, object, Items, no_items, item, document}
use Rattle.json.specs.Value.{items_view}
use Rattle.json.specs.declared.value.Value.{Value}
use Rattle.cedar_language.specs.Uid.{Text}
use Rattle.cedar_world.specs.Bodies.{and_then, read_with, EntityBody}
use Rattle.cedar_json.specs.declared.bodies.SplitError.{SplitError}
use Rattle.cedar_json.specs.declared.bodies.SplitError.TheVariants as split
use Rattle.cedar_json.specs.Bodies.{AreBodiesOf, joined, SaysBodies, items_of, before, all_of, IsWithin, AreWithin, IsNext, IsSplit, IsLong, IsTooLongBehind, IsTooLong, IsUnsplit}
use Rattle.cedar_json.specs.Entities.{body_in, bodies_of, entities_in}
use Rattle.cedar_json.specs.EntitiesWritten.{one_written, bodies_written}
use Rattle.cedar_json.specs.Written.{AreTexts, ItemsAreTexts}
use Rattle.cedar_json.proofs.Appending.{grown, pushed}
use Rattle.cedar_json.proofs.EntityTexts.{entities_text}
use Rattle.cedar_json.proofs.Saying.{some_is}

-- ---- items in order

before_before : (js ks ls : Items) → before (before js ks) ls ≡ before js (before ks ls)
before_before no_items ks ls = refl
before_before (item j js) ks ls = ap (item j) (before_before js ks ls)

pub before_none : (js : Items) → before js no_items ≡ js
before_none no_items = refl
before_none (item j js) = ap (item j) (before_none js)

all_more : (parts : List Items) (js : Items) → all_of (parts ++ js ∷ []) ≡ before (all_of parts) js
all_more [] js = before_none js
all_more (ks ∷ parts) js = ap (before ks) (all_more parts js) ∙ sym (before_before ks (all_of parts) js)

within_more : (limit : ℕ) (texts : List Text) (parts : List Items) (text : Text) (js : Items) → AreWithin limit texts parts → IsWithin limit js text
    → AreWithin limit (texts ++ text ∷ []) (parts ++ js ∷ [])
within_more limit [] [] text js all is = (is, tt)
within_more limit [] (ks ∷ parts) text js all is = absurd all
within_more limit (t ∷ texts) [] text js all is = absurd all
within_more limit (t ∷ texts) (ks ∷ parts) text js all is = (all.0, within_more limit texts parts text js all.1 is)

-- ---- a body that is still open

-- each item and its comma
abbrev unclosed : Items → List ℕ
unclosed no_items = []
unclosed (item j js) = one_written j ++ 44 ∷ unclosed js

closed_is : (js : Items) → bodies_written js ≡ unclosed js ++ 93 ∷ []
closed_is no_items = refl
closed_is (item j js) = ap (λ s. one_written j ++ 44 ∷ s) (closed_is js) ∙ sym (append_assoc (one_written j) (44 ∷ unclosed js) (93 ∷ []))

open_more : (js : Items) (j : Json) → unclosed (before js (item j no_items)) ≡ unclosed js ++ (one_written j ++ 44 ∷ [])
open_more no_items j = refl
open_more (item i js) j = ap (λ s. one_written i ++ 44 ∷ s) (open_more js j) ∙ sym (append_assoc (one_written i) (44 ∷ unclosed js) (one_written j ++ 44 ∷ []))

-- the text is an open body of the items up to this index
pub record IsOpen (limit from at : ℕ) (first left : Items) (text : List ℕ) : Type 0 where
  pub items : Items
  pub is : first ≡ before items left
  pub bytes : text ≡ encode_utf8_all (91 ∷ unclosed items)
  pub onward : from ≤ at
  pub fits : from < at → length text < limit
  pub none : at ≡ from → items ≡ no_items

pub opened : (limit from : ℕ) (first : Items) (text : List ℕ) → text ≡ encode_utf8 91 → IsOpen limit from from first first text
opened limit from first text e =
    record { items = no_items; is = refl; bytes = pushed [] text 91 e; onward = omega arith; fits = λ h. absurd (omega arith); none = λ h. refl }

pub opened_more : (limit from at : ℕ) (first left rest : Items) (j : Json) (text one new : List ℕ) → IsOpen limit from at first left text
    → left ≡ item j rest → one ≡ encode_utf8_all (one_written j ++ 44 ∷ []) → new ≡ text ++ one → length one < limit - length text
    → IsOpen limit from (at + 1) first rest new
opened_more limit from at first left rest j text one new o here e f h =
    record {
      items = before o.items (item j no_items);
      is = o.is ∙ ap (before o.items) here ∙ sym (before_before o.items (item j no_items) rest);
      bytes = grown [] text new (91 ∷ unclosed o.items) (one_written j ++ 44 ∷ []) o.bytes (f ∙ ap (λ s. text ++ s) e)
          ∙ ap (λ s. encode_utf8_all (91 ∷ s)) (sym (open_more o.items j));
      onward = let k = o.onward in omega (arith, k);
      fits = λ k. let l = ap length f ∙ length-append text one in omega (arith, l, h);
      none = λ k. let l = o.onward in absurd (omega (arith, l, k));
    }

pub closes : (limit from at : ℕ) (first left : Items) (text closed : List ℕ) → IsOpen limit from at first left text → from < at
    → IsUtf8 closed → closed ≡ text ++ encode_utf8 93 → IsNext limit first left closed
closes limit from at first left text closed o h u e = (o.items, o.is, within)
  where
    within : IsWithin limit o.items closed
    within =
        let l = ap length e ∙ length-append text (encode_utf8 93) in
        let k = ap length (encode_ascii 93 (lit< tt)) in
        let f = o.fits h in
        record {
          utf8 = u;
          bytes = sym (grown [] text closed (91 ∷ unclosed o.items) (93 ∷ []) o.bytes (pushed text closed 93 e)
              ∙ ap (λ s. encode_utf8_all (91 ∷ s)) (sym (closed_is o.items)));
          fits = omega (arith, l, k, f);
        }

alone : (j : Json) → length (encode_utf8_all (91 ∷ (one_written j ++ 44 ∷ 93 ∷ []))) ≡ 1 + (length (encode_utf8_all (one_written j ++ 44 ∷ [])) + 1)
alone j =
    let one = one_written j ++ 44 ∷ [] in
    let a = ap (λ s. encode_utf8_all (91 ∷ s)) (sym (append_assoc (one_written j) (44 ∷ []) (93 ∷ []))) ∙ encodes-append (91 ∷ []) (one ++ 93 ∷ [])
    ∙ ap (λ s. encode_utf8_all (91 ∷ []) ++ s) (encodes-append one (93 ∷ [])) in
    let b = ap length a ∙ length-append (encode_utf8_all (91 ∷ [])) (encode_utf8_all one ++ encode_utf8_all (93 ∷ [])) in
    let c = length-append (encode_utf8_all one) (encode_utf8_all (93 ∷ [])) in
    let d = ap length (pushed [] (encode_utf8 91) 91 refl) in
    let e = ap length (pushed [] (encode_utf8 93) 93 refl) in
    let f = ap length (encode_ascii 91 (lit< tt)) in
    let g = ap length (encode_ascii 93 (lit< tt)) in
    omega (arith, b, c, d, e, f, g)

pub is_long : (limit from at : ℕ) (first left rest : Items) (j : Json) (text one : List ℕ) → IsOpen limit from at first left text → left ≡ item j rest
    → at ≡ from → one ≡ encode_utf8_all (one_written j ++ 44 ∷ []) → limit - length text ≤ length one → IsLong limit (get_item zero first)
is_long limit from at first left rest j text one o here e f h =
    let none = o.none e in
    let whole : first ≡ item j rest = o.is ∙ ap (λ js. before js left) none ∙ here in
    let a = ap length (o.bytes ∙ ap (λ js. encode_utf8_all (91 ∷ unclosed js)) none) in
    let b = ap length (pushed [] (encode_utf8 91) 91 refl) in
    let c = ap length (encode_ascii 91 (lit< tt)) in
    let d = ap length f in
    let k = alone j in
    (j, ap (get_item zero) whole, omega (arith, a, b, c, d, k, h))

-- ---- one body behind another

abbrev pub IsSoFar : ℕ → List Text → Items → Items → Type 0
IsSoFar limit texts all left = (parts : List Items) × (all ≡ before (all_of parts) left) × AreWithin limit texts parts

pub so_far_more : (limit : ℕ) (texts : List Text) (all left others : Items) (text : Text) → IsSoFar limit texts all left → IsNext limit left others text
    → IsSoFar limit (texts ++ text ∷ []) all others
so_far_more limit texts all left others text so is = (
  so.0 ++ is.0 ∷ [],
  so.1 ∙ ap (before (all_of so.0)) is.1 ∙ sym (before_before (all_of so.0) is.0 others) ∙ ap (λ js. before js others) (sym (all_more so.0 is.0)),
  within_more limit texts so.0 text is.0 so.2 is.2,
)

pub so_far_all : (limit : ℕ) (texts : List Text) (all left : Items) → IsSoFar limit texts all left → left ≡ no_items → IsSplit limit texts all
so_far_all limit texts all left so e = (so.0, so.1 ∙ ap (before (all_of so.0)) e ∙ before_none (all_of so.0), so.2)

module _ {A : Type 0} where
  first_of : (vs : List (Value A)) (i : ℕ) → get_item zero (items_view (drop i vs)) ≡ get_item i (items_view vs)
  first_of [] zero = refl
  first_of [] (suc i) = refl
  first_of (v ∷ vs) zero = refl
  first_of (v ∷ vs) (suc i) = first_of vs i

  pub too_long : (limit from : ℕ) (vs : List (Value A)) (e : SplitError) → IsTooLongBehind limit from (items_view (drop from vs)) e
      → IsTooLong limit (items_view vs) e
  too_long limit from vs split.Memory h = tt
  too_long limit from vs split.Unsaid h = absurd h
  too_long limit from vs (split.TooLong index) h =
      subst (IsLong limit) (first_of vs from ∙ ap (λ i. get_item i (items_view vs)) (sym h.0)) h.1

-- ---- what the bodies say

parts_joined : (js : Items) (rest : Items) (es : List EntityBody) → bodies_of (before js rest) ≡ Some es
    → (fs : List EntityBody) × (gs : List EntityBody) × (bodies_of js ≡ Some fs) × (bodies_of rest ≡ Some gs) × (es ≡ fs ++ gs)
parts_joined no_items rest es e = ([], es, refl, e, refl)
parts_joined (item j js) rest es e = by (λ cs g. parts_joined js rest cs g) (body_in j) refl (bodies_of (before js rest)) refl e
  where
    Parts : Items → List EntityBody → Type 0
    Parts ks cs = (fs : List EntityBody) × (gs : List EntityBody) × (bodies_of ks ≡ Some fs) × (bodies_of rest ≡ Some gs) × (cs ≡ fs ++ gs)

    by : ((cs : List EntityBody) → bodies_of (before js rest) ≡ Some cs → Parts js cs) → (o : Option EntityBody) → body_in j ≡ o
        → (os : Option (List EntityBody)) → bodies_of (before js rest) ≡ os → read_with o os ≡ Some es
        → Parts (item j js) es
    by others None f os g e = absurd (cc e)
    by others (Some b) f None g e = absurd (cc e)
    by others (Some b) f (Some cs) g e =
        let more = others cs g in
        let same : b ∷ cs ≡ es = cc e in
        (b ∷ more.0, more.1, ap (λ o. read_with o (bodies_of js)) f ∙ ap (read_with (Some b)) more.2, more.3, sym same ∙ ap (λ x. b ∷ x) more.4)

texts_apart : (js rest : Items) → ItemsAreTexts (before js rest) → ItemsAreTexts js × ItemsAreTexts rest
texts_apart no_items rest a = (tt, a)
texts_apart (item j js) rest a = let more = texts_apart js rest a.1 in ((a.0, more.0), more.1)

parts_said : (limit : ℕ) (parts : List Items) (texts : List Text) (es : List EntityBody) → bodies_of (all_of parts) ≡ Some es → ItemsAreTexts (all_of parts)
    → AreWithin limit texts parts → (said : List (List EntityBody)) × (es ≡ joined said) × AreBodiesOf texts said
parts_said limit [] [] es e a all = let same : [] ≡ es = cc e in ([], sym same, tt)
parts_said limit [] (text ∷ texts) es e a all = absurd all
parts_said limit (js ∷ parts) [] es e a all = absurd all
parts_said limit (js ∷ parts) (text ∷ texts) es e a all =
    let two = parts_joined js (all_of parts) es e in
    let apart = texts_apart js (all_of parts) a in
    let more = parts_said limit parts texts two.1 two.3 apart.1 all.1 in
    let one = all.0 in (
      two.0 ∷ more.0,
      two.4 ∙ ap (λ x. two.0 ++ x) more.1,
      (entities_text (array js) two.0 text apart.0 two.2 one.utf8 one.bytes, more.2),
    )

split_said : (json : Text) (limit : ℕ) (j : Json) (texts : List Text) (es : List EntityBody) → document json ≡ Some j → entities_in j ≡ Some es → AreTexts j
    → IsSplit limit texts (items_of j) → SaysBodies json texts
split_said json limit (array js) texts es d e a is =
    let said = parts_said limit is.0 texts es (ap bodies_of (sym is.1) ∙ e) (subst ItemsAreTexts is.1 a) is.2 in
    (said.0, ap (λ o. and_then o entities_in) d ∙ e ∙ ap Some said.1, said.2)
split_said json limit null texts es d e a is = absurd (cc e)
split_said json limit (boolean b) texts es d e a is = absurd (cc e)
split_said json limit (number s) texts es d e a is = absurd (cc e)
split_said json limit (string s) texts es d e a is = absurd (cc e)
split_said json limit (object ms) texts es d e a is = absurd (cc e)

pub bodies_said : (json : Text) (limit : ℕ) (j : Json) (texts : List Text) → document json ≡ Some j → is_some (entities_in j) ≡ true → AreTexts j
    → IsSplit limit texts (items_of j) → SaysBodies json texts
bodies_said json limit j texts d some a is = let es = some_is (entities_in j) some in split_said json limit j texts es.0 d es.1 a is

all_within : (limit : ℕ) (parts : List Items) (texts : List Text) → AreWithin limit texts parts → All (λ text. length text ≤ limit) texts
all_within limit [] [] all = All-nil (λ text. length text ≤ limit)
all_within limit (js ∷ parts) [] all = absurd all
all_within limit [] (text ∷ texts) all = absurd all
all_within limit (js ∷ parts) (text ∷ texts) all =
    All-cons (λ t. length t ≤ limit) text texts all.0.fits (all_within limit parts texts all.1)

pub bodies_within : (limit : ℕ) (js : Items) (texts : List Text) → IsSplit limit texts js → All (λ text. length text ≤ limit) texts
bodies_within limit js texts is = all_within limit is.0 texts is.2

a_list : (j : Json) → is_some (entities_in j) ≡ true → j ≡ array (items_of j)
a_list (array js) e = refl
a_list null e = absurd (cc e)
a_list (boolean b) e = absurd (cc e)
a_list (number s) e = absurd (cc e)
a_list (string s) e = absurd (cc e)
a_list (object ms) e = absurd (cc e)

pub bodies_unsplit : (json : Text) (limit : ℕ) (j : Json) (e : SplitError) → document json ≡ Some j → is_some (entities_in j) ≡ true
    → IsTooLong limit (items_of j) e → IsUnsplit json limit e
bodies_unsplit json limit j split.Memory d some h = tt
bodies_unsplit json limit j split.Unsaid d some h = absurd h
bodies_unsplit json limit j (split.TooLong index) d some h =
    (ap (λ o. is_some (and_then o entities_in)) d ∙ some, items_of j, d ∙ ap Some (a_list j some), h)
