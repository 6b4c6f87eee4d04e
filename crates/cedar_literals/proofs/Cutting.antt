-- How the text of a uid is cut at its quotes and colons.
use Rattle.std.proofs.Common.{◌≡◌, ◌≢◌, ℕ, zero, suc, ◌<◌, get_or, [], ◌∷◌, ◌++◌, length, true, ◌&&◌, Option, Some, None, Ok, Err, MatchOption, refl, sym, ap, ◌∙◌, subst, arith, append_assoc, codes, IsUtf8}
use Rattle.std.proofs.lemmas.Bool.{false≢true}
use Rattle.std.proofs.lemmas.List.{append_cancel_right}
use Rattle.std.proofs.lemmas.Str.Pattern.{IsSplitOnceResult, split_after, split_parts}
use Rattle.std.specs.Cmp.{first_so, second_so}
use Rattle.std.specs.List.{list_all, flat_map}
use denote.Ref.{Bor}
use Rattle.cedar_language.specs.Uid.{Text, Name, Uid}
use Rattle.cedar_language.specs.Words.{begins_word, is_in_word}
use Rattle.cedar_names.specs.Identifiers.{is_id, IsId}
use Rattle.cedar_names.specs.Names.{IsName, name_text}
use Rattle.cedar_names.specs.Reading.{ReadsName}
use Rattle.cedar_names.specs.declared.errors.ParseNameError.{ParseNameError}
use Rattle.cedar_names.specs.declared.errors.ParseNameError.TheVariants.{NotNormalized, Reserved, Memory}
use Rattle.cedar_literals.specs.Escapes.{escaped, uid_text}
use Rattle.cedar_literals.specs.Reading.{IsCut, IsNoUid, ReadsUid}
use Rattle.cedar_literals.specs.Unescaping.{ReadsEscaped}
use Rattle.cedar_literals.specs.Laws.{UidsAreToldApart}
use Rattle.cedar_names.proofs.Splitting.{names_apart}
use Rattle.cedar_literals.proofs.ReadingBack.{texts_alike}

-- no quote
abbrev Unquoted : Text → Type 0
Unquoted [] = Unit {0}
Unquoted (c ∷ cs) = (c ≢ 34) × Unquoted cs

within_unquoted : (c : ℕ) → is_in_word c ≡ true → c ≢ 34
within_unquoted c h e = false≢true (subst (λ (d : ℕ). is_in_word d ≡ true) e h)

begins_unquoted : (c : ℕ) → begins_word c ≡ true → c ≢ 34
begins_unquoted c h e = false≢true (subst (λ (d : ℕ). begins_word d ≡ true) e h)

all_unquoted : (cs : Text) → list_all is_in_word cs ≡ true → Unquoted cs
all_unquoted [] h = tt
all_unquoted (c ∷ cs) h = (within_unquoted c (first_so _ _ h), all_unquoted cs (second_so _ _ h))

id_unquoted : (s : Text) → IsId s → Unquoted s
id_unquoted [] h = tt
id_unquoted (c ∷ cs) h =
    let w = first_so (begins_word c && list_all is_in_word cs) _ h in
    (begins_unquoted c (first_so _ _ w), all_unquoted cs (second_so _ _ w))

both_unquoted : (xs ys : Text) → Unquoted xs → Unquoted ys → Unquoted (xs ++ ys)
both_unquoted [] ys h k = k
both_unquoted (x ∷ xs) ys h k = (h.0, both_unquoted xs ys h.1 k)

colons_unquoted : (xs : Text) → Unquoted xs → Unquoted (58 ∷ 58 ∷ xs)
colons_unquoted xs h = ((λ e. absurd (cc)), ((λ e. absurd (cc)), h))

more_unquoted : (ts : Name) → list_all is_id ts ≡ true → Unquoted (flat_map (λ t. codes "::" ++ t) ts)
more_unquoted [] h = tt
more_unquoted (t ∷ ts) h = colons_unquoted (t ++ flat_map (λ t. codes "::" ++ t) ts) (both_unquoted t _ (id_unquoted t (first_so _ _ h)) (more_unquoted ts (second_so _ _ h)))

name_unquoted : (n : Name) → IsName n → Unquoted (name_text n)
name_unquoted [] h = tt
name_unquoted (t ∷ ts) h = both_unquoted t _ (id_unquoted t (first_so _ _ h.1)) (more_unquoted ts (second_so _ _ h.1))

unquoted_at : (xs : Text) → Unquoted xs → (i : ℕ) → i < length xs → get_or xs i 0 ≢ 34
unquoted_at [] h i l = absurd (omega (arith, l))
unquoted_at (x ∷ xs) h zero l = h.0
unquoted_at (x ∷ xs) h (suc i) l = unquoted_at xs h.1 i (omega (arith, l))

-- what stands before the first quote of a uid's text, and after it
abbrev front_text : Uid → Text
front_text u = (name_text u.type_name ++ 58 ∷ []) ++ 58 ∷ []

abbrev back_text : Uid → Text
back_text u = escaped u.id ++ 34 ∷ []

uid_shape : (u : Uid) → uid_text u ≡ front_text u ++ 34 ∷ back_text u
uid_shape u = simp append_assoc

front_unquoted : (u : Uid) → IsName u.type_name → Unquoted (front_text u)
front_unquoted u ok = both_unquoted (name_text u.type_name ++ 58 ∷ []) (58 ∷ []) (both_unquoted (name_text u.type_name) (58 ∷ []) (name_unquoted u.type_name ok) ((λ e. absurd (cc)), tt)) ((λ e. absurd (cc)), tt)

first_quote : (text : Text) (r : Option (Bor Text × Bor Text)) → IsSplitOnceResult 34 text r → (u : Uid) → IsName u.type_name → uid_text u ≡ text → MatchOption r ⊥ (λ x. (x.0.now ≡ front_text u) × (x.1.now ≡ back_text u))
first_quote text r cut u ok e = split_after 34 text (front_text u) (back_text u) r cut (omega arith) (sym e ∙ uid_shape u) (unquoted_at (front_text u) (front_unquoted u ok))

pub no_quote : (text : Text) → IsSplitOnceResult 34 text None → IsNoUid text
no_quote text cut = λ u ok e. first_quote text None cut u ok e

pub no_colon : (text : Text) (front back : Bor Text) → IsSplitOnceResult 34 text (Some (front, back)) → ((f : Text) → front.now ≢ f ++ 58 ∷ []) → IsNoUid text
no_colon text front back cut none = λ u ok e. none (name_text u.type_name ++ 58 ∷ []) (first_quote text (Some (front, back)) cut u ok e).0

pub one_colon : (text : Text) (front back : Bor Text) (middle : Text) → IsSplitOnceResult 34 text (Some (front, back)) → front.now ≡ middle ++ 58 ∷ [] → ((f : Text) → middle ≢ f ++ 58 ∷ []) → IsNoUid text
one_colon text front back middle cut e none = λ u ok f.
    none (name_text u.type_name) (append_cancel_right middle (name_text u.type_name ++ 58 ∷ []) (58 ∷ []) (sym e ∙ (first_quote text (Some (front, back)) cut u ok f).0))

pub no_last : (text : Text) (front back : Bor Text) → IsSplitOnceResult 34 text (Some (front, back)) → ((f : Text) → back.now ≢ f ++ 34 ∷ []) → IsNoUid text
no_last text front back cut none = λ u ok e. none (escaped u.id) (first_quote text (Some (front, back)) cut u ok e).1

pub a_cut : (text : Text) (front back : Bor Text) (middle name id : Text) → IsSplitOnceResult 34 text (Some (front, back)) → front.now ≡ middle ++ 58 ∷ [] → middle ≡ name ++ 58 ∷ [] → back.now ≡ id ++ 34 ∷ [] → IsCut text name id
a_cut text front back middle name id cut e f g =
    record {
      whole =
          (split_parts 34 text (Some (front, back)) cut (omega arith)).0 ∙ (λ i. (e ∙ ap (λ bs. bs ++ 58 ∷ []) f) i ++ 34 ∷ g i)
          ∙ append_assoc (name ++ 58 ∷ []) (58 ∷ []) (34 ∷ (id ++ 34 ∷ [])) ∙ append_assoc name (58 ∷ []) (58 ∷ 34 ∷ (id ++ 34 ∷ []));
      only = λ u ok h.
          let q = first_quote text (Some (front, back)) cut u ok h in
          let front_same = append_cancel_right (name_text u.type_name ++ 58 ∷ []) middle (58 ∷ []) (sym q.0 ∙ e) in
          (append_cancel_right (name_text u.type_name) name (58 ∷ []) (front_same ∙ f), append_cancel_right (escaped u.id) id (34 ∷ []) (sym q.1 ∙ g));
    }

-- ---- what is answered for the parts is answered for the uid

pub refused_id : (text name id : Text) (e : ParseNameError) → IsCut text name id → ReadsEscaped id (Err e) → ReadsUid text (Err e)
refused_id text name id NotNormalized cut refused = λ u ok s. refused u.id (cut.only u ok s).1
refused_id text name id (Reserved e) cut refused = absurd refused
refused_id text name id (Memory e) cut refused = tt

uid_parts : (n : Name) (s : Text) → uid_text (record { type_name = n; id = s }) ≡ name_text n ++ (codes "::\"" ++ (escaped s ++ codes "\""))
uid_parts n s = simp append_assoc

written_uid : (text name id : Text) (n : Name) (s : Text) → IsCut text name id → name_text n ≡ name → escaped s ≡ id → uid_text (record { type_name = n; id = s }) ≡ text
written_uid text name id n s cut e f = uid_parts n s ∙ (λ i. e i ++ (codes "::\"" ++ (f i ++ codes "\""))) ∙ sym cut.whole

pub refused_type : (text name id s : Text) (e : ParseNameError) → IsCut text name id → escaped s ≡ id → ReadsName name (Err e) → ReadsUid text (Err e)
refused_type text name id s NotNormalized cut f refused = λ u ok h. refused u.type_name ok (cut.only u ok h).0
refused_type text name id s (Reserved e) cut f refused = (s, (refused.0.0, written_uid text name id e.name s cut refused.0.1 f), refused.1)
refused_type text name id s (Memory e) cut f refused = tt

pub read_uid : (text name id s : Text) (n : Name) → IsCut text name id → (escaped s ≡ id) × IsUtf8 s → ReadsName name (Ok n) → ReadsUid text (Ok (record { type_name = n; id = s }))
read_uid text name id s n cut f read = ((read.0.0, written_uid text name id n s cut read.0.1 f.0), f.1, read.1)

-- ---- two uids are told apart by their texts

split_quote : (a b xs ys : Text) → Unquoted a → Unquoted b → a ++ 34 ∷ xs ≡ b ++ 34 ∷ ys → (a ≡ b) × (xs ≡ ys)
split_quote [] [] xs ys h k e = (refl, cc)
split_quote [] (d ∷ ds) xs ys h k e = absurd (k.0 (cc))
split_quote (c ∷ cs) [] xs ys h k e = absurd (h.0 (cc))
split_quote (c ∷ cs) (d ∷ ds) xs ys h k e =
    let first : c ≡ d = cc in
    let rest : cs ++ 34 ∷ xs ≡ ds ++ 34 ∷ ys = cc in
    let r = split_quote cs ds xs ys h.1 k.1 rest in
    (λ i. first i ∷ r.0 i, r.1)

uid_from : (u v : Uid) → u.type_name ≡ v.type_name → u.id ≡ v.id → u ≡ v
uid_from u v p q = λ i. record { type_name = p i; id = q i }

pub types_alike : (u v : Uid) → IsName u.type_name → IsName v.type_name → uid_text u ≡ uid_text v → (u.type_name ≡ v.type_name) × (escaped u.id ≡ escaped v.id)
types_alike u v m n e =
    let r = split_quote (front_text u) (front_text v) (back_text u) (back_text v) (front_unquoted u m) (front_unquoted v n) (sym (uid_shape u) ∙ e ∙ uid_shape v) in
    let colon = append_cancel_right (name_text u.type_name ++ 58 ∷ []) (name_text v.type_name ++ 58 ∷ []) (58 ∷ []) r.0 in
    let name = append_cancel_right (name_text u.type_name) (name_text v.type_name) (58 ∷ []) colon in
    (names_apart u.type_name v.type_name m n name, append_cancel_right (escaped u.id) (escaped v.id) (34 ∷ []) r.1)

pub told_apart : UidsAreToldApart
told_apart u v m n a b e = let r = types_alike u v m n e in uid_from u v r.0 (texts_alike u.id v.id a b r.1)
