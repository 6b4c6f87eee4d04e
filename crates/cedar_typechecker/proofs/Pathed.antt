-- A path of `has`, one attribute after another.
use Rattle.std.proofs.Common.{◌≡◌, ◌∙◌, refl, sym, ap, subst, ℕ, ◌+◌, ◌<◌, ◌≤◌, true, false, map, drop, get_or, length, Global, List, [], ◌∷◌, ◌++◌, Option, Some, None}
use Rattle.std.specs.Prelude.{◌≢◌, Result, Ok, Err}
use Rattle.std.specs.Result.{IsErr, IsErrAnd}
use Rattle.std.proofs.lemmas.List.{append_assoc, append-nil, at_drop_more, at_drop_all}
use Rattle.std.specs.Rc.{rc_str_bytes}
use Rattle.std.specs.declared.rc.RcStr.{RcStr}
use Rattle.cedar_language.specs.Uid.{Text}
use Rattle.cedar_language.specs.Tree.{Tree}
use Rattle.cedar_trees.specs.Bare.{bare}
use Rattle.cedar_typing.specs.Types.{BoolType, AlwaysTrue, AlwaysFalse, Unsure, CedarType, Booleans, Longs, Strings, Entities, Sets, Records, Extensions}
use Rattle.cedar_typing.specs.Capabilities.{an_attribute, Capabilities, is_among}
use Rattle.cedar_typing.specs.Faults.{TypingFault, UnexpectedType}
use Rattle.cedar_typing.specs.Schema.{Environment}
use Rattle.cedar_typing.specs.Lazies.{and_bool, and_with, and_typing}
use Rattle.cedar_typing.specs.Attributes.{Attributes, of_record, of_entity, of_none, attributes_of, get, get_type, has_by, has_in_record, has_in_entity, has_type, then_path, path_type}
use Rattle.cedar_typing.specs.Results.{Typing, HasType, Faulty, known}
use Rattle.cedar_typechecker.specs.Paths.{rest_type, Advances}
use Rattle.cedar_typechecker.specs.Results.{typing_view, fault_view, Lacks}
use Rattle.cedar_typechecker.specs.Types.{bool_type_in, type_view}
use Rattle.cedar_typechecker.specs.declared.faults.TypingError.{TypingError}
use Rattle.cedar_typechecker.specs.declared.faults.TypingError.TheVariants as error
use Rattle.cedar_typechecker.specs.declared.paths.Reached.{Reached}
use Rattle.cedar_typechecker.proofs.Lazily.{and_at, and_untold}

pub path_begins : (e : Environment) (x : Tree) (a : Text) (as_ : List Text) (c : Capabilities) (t : CedarType)
    → path_type e x a as_ c t ≡ rest_type e x a as_ c t (has_type (is_among (an_attribute x a) c) x a (attributes_of e.schema t))
path_begins e x a [] c t = refl
path_begins e x a (b ∷ bs) c t = refl

-- ---- tests that are gathered from the left

gathered : (s t : BoolType) (c d : Capabilities) (x : Typing) → s ≢ AlwaysFalse → t ≢ AlwaysFalse → and_with s c (and_with t d x) ≡ and_with (and_bool s t) (d ++ c) x
gathered AlwaysFalse t c d x h k = absurd (h refl)
gathered AlwaysTrue AlwaysFalse c d x h k = absurd (k refl)
gathered AlwaysTrue AlwaysTrue c d (Faulty k) h i = refl
gathered AlwaysTrue AlwaysTrue c d (HasType Longs f) h i = refl
gathered AlwaysTrue AlwaysTrue c d (HasType Strings f) h i = refl
gathered AlwaysTrue AlwaysTrue c d (HasType (Entities m) f) h i = refl
gathered AlwaysTrue AlwaysTrue c d (HasType (Sets e) f) h i = refl
gathered AlwaysTrue AlwaysTrue c d (HasType (Records fs) f) h i = refl
gathered AlwaysTrue AlwaysTrue c d (HasType (Extensions m o) f) h i = refl
gathered AlwaysTrue AlwaysTrue c d (HasType (Booleans AlwaysTrue) f) h i = ap (HasType (Booleans AlwaysTrue)) (append_assoc f d c)
gathered AlwaysTrue AlwaysTrue c d (HasType (Booleans AlwaysFalse) f) h i = refl
gathered AlwaysTrue AlwaysTrue c d (HasType (Booleans Unsure) f) h i = ap (HasType (Booleans Unsure)) (append_assoc f d c)
gathered AlwaysTrue Unsure c d (Faulty k) h i = refl
gathered AlwaysTrue Unsure c d (HasType Longs f) h i = refl
gathered AlwaysTrue Unsure c d (HasType Strings f) h i = refl
gathered AlwaysTrue Unsure c d (HasType (Entities m) f) h i = refl
gathered AlwaysTrue Unsure c d (HasType (Sets e) f) h i = refl
gathered AlwaysTrue Unsure c d (HasType (Records fs) f) h i = refl
gathered AlwaysTrue Unsure c d (HasType (Extensions m o) f) h i = refl
gathered AlwaysTrue Unsure c d (HasType (Booleans AlwaysTrue) f) h i = ap (HasType (Booleans Unsure)) (append_assoc f d c)
gathered AlwaysTrue Unsure c d (HasType (Booleans AlwaysFalse) f) h i = refl
gathered AlwaysTrue Unsure c d (HasType (Booleans Unsure) f) h i = ap (HasType (Booleans Unsure)) (append_assoc f d c)
gathered Unsure AlwaysFalse c d x h k = absurd (k refl)
gathered Unsure AlwaysTrue c d (Faulty k) h i = refl
gathered Unsure AlwaysTrue c d (HasType Longs f) h i = refl
gathered Unsure AlwaysTrue c d (HasType Strings f) h i = refl
gathered Unsure AlwaysTrue c d (HasType (Entities m) f) h i = refl
gathered Unsure AlwaysTrue c d (HasType (Sets e) f) h i = refl
gathered Unsure AlwaysTrue c d (HasType (Records fs) f) h i = refl
gathered Unsure AlwaysTrue c d (HasType (Extensions m o) f) h i = refl
gathered Unsure AlwaysTrue c d (HasType (Booleans AlwaysTrue) f) h i = ap (HasType (Booleans Unsure)) (append_assoc f d c)
gathered Unsure AlwaysTrue c d (HasType (Booleans AlwaysFalse) f) h i = refl
gathered Unsure AlwaysTrue c d (HasType (Booleans Unsure) f) h i = ap (HasType (Booleans Unsure)) (append_assoc f d c)
gathered Unsure Unsure c d (Faulty k) h i = refl
gathered Unsure Unsure c d (HasType Longs f) h i = refl
gathered Unsure Unsure c d (HasType Strings f) h i = refl
gathered Unsure Unsure c d (HasType (Entities m) f) h i = refl
gathered Unsure Unsure c d (HasType (Sets e) f) h i = refl
gathered Unsure Unsure c d (HasType (Records fs) f) h i = refl
gathered Unsure Unsure c d (HasType (Extensions m o) f) h i = refl
gathered Unsure Unsure c d (HasType (Booleans AlwaysTrue) f) h i = ap (HasType (Booleans Unsure)) (append_assoc f d c)
gathered Unsure Unsure c d (HasType (Booleans AlwaysFalse) f) h i = refl
gathered Unsure Unsure c d (HasType (Booleans Unsure) f) h i = ap (HasType (Booleans Unsure)) (append_assoc f d c)

-- what is found behind tests is found behind the test that they are together
shifted : (b : BoolType) (c d : Capabilities) (found : Typing) (f : Capabilities → Typing) → b ≢ AlwaysFalse
    → and_with b d (and_typing found (λ g. f (g ++ (d ++ c)))) ≡ and_typing (and_with b d found) (λ g. f (g ++ c))
shifted AlwaysFalse c d found f h = absurd (h refl)
shifted AlwaysTrue c d (Faulty k) f h = refl
shifted AlwaysTrue c d (HasType Longs g) f h = refl
shifted AlwaysTrue c d (HasType Strings g) f h = refl
shifted AlwaysTrue c d (HasType (Entities m) g) f h = refl
shifted AlwaysTrue c d (HasType (Sets e) g) f h = refl
shifted AlwaysTrue c d (HasType (Records fs) g) f h = refl
shifted AlwaysTrue c d (HasType (Extensions m o) g) f h = refl
shifted AlwaysTrue c d (HasType (Booleans AlwaysFalse) g) f h = refl
shifted AlwaysTrue c d (HasType (Booleans AlwaysTrue) g) f h = gathered AlwaysTrue AlwaysTrue d g (f (g ++ (d ++ c))) h (λ e. cc) ∙ ap (λ l. and_with AlwaysTrue (g ++ d) (f l)) (sym (append_assoc g d c))
shifted AlwaysTrue c d (HasType (Booleans Unsure) g) f h = gathered AlwaysTrue Unsure d g (f (g ++ (d ++ c))) h (λ e. cc) ∙ ap (λ l. and_with Unsure (g ++ d) (f l)) (sym (append_assoc g d c))
shifted Unsure c d (Faulty k) f h = refl
shifted Unsure c d (HasType Longs g) f h = refl
shifted Unsure c d (HasType Strings g) f h = refl
shifted Unsure c d (HasType (Entities m) g) f h = refl
shifted Unsure c d (HasType (Sets e) g) f h = refl
shifted Unsure c d (HasType (Records fs) g) f h = refl
shifted Unsure c d (HasType (Extensions m o) g) f h = refl
shifted Unsure c d (HasType (Booleans AlwaysFalse) g) f h = refl
shifted Unsure c d (HasType (Booleans AlwaysTrue) g) f h = gathered Unsure AlwaysTrue d g (f (g ++ (d ++ c))) h (λ e. cc) ∙ ap (λ l. and_with Unsure (g ++ d) (f l)) (sym (append_assoc g d c))
shifted Unsure c d (HasType (Booleans Unsure) g) f h = gathered Unsure Unsure d g (f (g ++ (d ++ c))) h (λ e. cc) ∙ ap (λ l. and_with Unsure (g ++ d) (f l)) (sym (append_assoc g d c))

moved : (e : Environment) (x : Tree) (n : Text) (bs : List Text) (b : BoolType) (c d : Capabilities) (u : CedarType) (found : Typing) → b ≢ AlwaysFalse
    → and_with b d (rest_type e x n bs (d ++ c) u found) ≡ rest_type e x n bs c u (and_with b d found)
moved e x n [] b c d u found h = refl
moved e x n (m ∷ ms) b c d u found h = shifted b c d found (λ l. then_path (get_type true n (attributes_of e.schema u)) (λ v. path_type e (get x n) m ms l v)) h

and_reached : (b : BoolType) (d : Capabilities) (f : Capabilities → Typing) → b ≢ AlwaysFalse → and_typing (HasType (Booleans b) d) f ≡ and_with b d (f d)
and_reached AlwaysTrue d f h = refl
and_reached AlwaysFalse d f h = absurd (h refl)
and_reached Unsure d f h = refl

module _ (e : Environment) (x : Tree) (a n : Text) (bs : List Text) (c : Capabilities) (t : CedarType) (b : BoolType) (d : Capabilities) (may : b ≢ AlwaysFalse) where
  -- the path from the next attribute on
  abbrev onward : CedarType → Typing
  onward u = path_type e (get x a) n bs (d ++ c) u

  reached_by : rest_type e x a (n ∷ bs) c t (HasType (Booleans b) d) ≡ and_with b d (then_path (get_type true a (attributes_of e.schema t)) onward)
  reached_by = and_reached b d (λ g. then_path (get_type true a (attributes_of e.schema t)) (λ u. path_type e (get x a) n bs (g ++ c) u)) may

  pub path_faulty : (k : TypingFault) → get_type true a (attributes_of e.schema t) ≡ Faulty k → rest_type e x a (n ∷ bs) c t (HasType (Booleans b) d) ≡ Faulty k
  path_faulty k h = reached_by ∙ ap (λ y. and_with b d (then_path y onward)) h

  pub path_advances : (u : CedarType) (g : Capabilities) → get_type true a (attributes_of e.schema t) ≡ HasType u g
      → rest_type e x a (n ∷ bs) c t (HasType (Booleans b) d) ≡ rest_type e (get x a) n bs c u (and_with b d (has_type (is_among (an_attribute (get x a) n) (d ++ c)) (get x a) n (attributes_of e.schema u)))
  path_advances u g h =
      reached_by
      ∙ ap (λ y. and_with b d (then_path y onward)) h
      ∙ ap (and_with b d) (path_begins e (get x a) n bs (d ++ c) u)
      ∙ moved e (get x a) n bs b c d u (has_type (is_among (an_attribute (get x a) n) (d ++ c)) (get x a) n (attributes_of e.schema u)) may

pub rest_faulty : (e : Environment) (x : Tree) (n : Text) (bs : List Text) (c : Capabilities) (u : CedarType) (k : TypingFault) → rest_type e x n bs c u (Faulty k) ≡ Faulty k
rest_faulty e x n [] c u k = refl
rest_faulty e x n (m ∷ ms) c u k = refl

-- ---- what is found behind a test

advance_faulty : (x y : Typing) (e : Environment) (n : Text) (bs : List Text) (c : Capabilities) (b : TypingError) → ((k : TypingFault) → y ≡ Faulty k → x ≡ Faulty k) → Lacks ⊥ y b → Lacks ⊥ x b
advance_faulty x y e n bs c (error.Faulty k) f h = f (fault_view k) h
advance_faulty x y e n bs c error.Memory f h = tt
advance_faulty x y e n bs c error.Depth f h = h

pub advance_passed : (x y : Typing) (e : Environment) (n : Text) (bs : List Text) (c : Capabilities) (b : TypingError) (r : Result (Option Reached) TypingError) → IsErr r × IsErrAnd r (λ f. f ≡ b) → ((k : TypingFault) → y ≡ Faulty k → x ≡ Faulty k) → Lacks ⊥ y b → Advances x e n bs c r
advance_passed x y e n bs c b (Ok o) err f h = absurd err.1
advance_passed x y e n bs c b (Err k) err f h = subst (λ z. Lacks ⊥ x z) (sym err.1) (advance_faulty x y e n bs c b f h)

pub advance_refused : (x : Typing) (e : Environment) (n : Text) (bs : List Text) (c : Capabilities) (r : Result (Option Reached) TypingError) → IsErr r × IsErrAnd r (λ f. f ≡ error.Memory) → Advances x e n bs c r
advance_refused x e n bs c (Ok o) err = absurd err.1
advance_refused x e n bs c (Err k) err = subst (λ z. Lacks ⊥ x z) (sym err.1) tt

module _ (e : Environment) (x : Tree) (a n : Text) (bs : List Text) (c : Capabilities) (t : CedarType) where
  pub rest_untold : (v : CedarType) (d : Capabilities) → None ≡ bool_type_in v → rest_type e x a (n ∷ bs) c t (HasType v d) ≡ Faulty UnexpectedType
  rest_untold v d h = and_untold v d (λ g. then_path (get_type true a (attributes_of e.schema t)) (λ u. path_type e (get x a) n bs (g ++ c) u)) h

  pub rest_never : (v : CedarType) (d : Capabilities) → Some AlwaysFalse ≡ bool_type_in v → rest_type e x a (n ∷ bs) c t (HasType v d) ≡ known false
  rest_never v d h = and_at v d (λ g. then_path (get_type true a (attributes_of e.schema t)) (λ u. path_type e (get x a) n bs (g ++ c) u)) AlwaysFalse h

boolean_back : (v : CedarType) (b : BoolType) → Some b ≡ bool_type_in v → v ≡ Booleans b
boolean_back (Booleans w) b h = let same : b ≡ w = cc in ap Booleans (sym same)
boolean_back Longs b h = cc
boolean_back Strings b h = cc
boolean_back (Entities m) b h = cc
boolean_back (Sets v) b h = cc
boolean_back (Records fs) b h = cc
boolean_back (Extensions m o) b h = cc

pub rest_as : (e : Environment) (x : Tree) (a n : Text) (bs : List Text) (c : Capabilities) (t v : CedarType) (b : BoolType) (d : Capabilities) (r : Result (Option Reached) TypingError) → Some b ≡ bool_type_in v
    → Advances (rest_type e x a (n ∷ bs) c t (HasType (Booleans b) d)) e n bs c r → Advances (rest_type e x a (n ∷ bs) c t (HasType v d)) e n bs c r
rest_as e x a n bs c t v b d r h k = subst (λ w. Advances (rest_type e x a (n ∷ bs) c t (HasType w d)) e n bs c r) (sym (boolean_back v b h)) k

pub test_at : (e : Environment) (y z : Tree) (n : Text) (c d : Capabilities) (u : CedarType) → y ≡ z → c ≡ d
    → has_type (is_among (an_attribute y n) c) y n (attributes_of e.schema u) ≡ has_type (is_among (an_attribute z n) d) z n (attributes_of e.schema u)
test_at e y z n c d u h k =
    ap (λ (x : Tree). has_type (is_among (an_attribute x n) c) x n (attributes_of e.schema u)) h
    ∙ ap (λ l. has_type (is_among (an_attribute z n) l) z n (attributes_of e.schema u)) k

advanced : (x : Typing) (e : Environment) (n : Text) (bs : List Text) (c : Capabilities) (o : Option Reached) → Advances x e n bs c (Ok o) → o ≡ None → x ≡ known false
advanced x e n bs c None h is = h
advanced x e n bs c (Some r) h is = cc

pub never_advances : (x : Typing) (e : Environment) (n : Text) (bs : List Text) (c : Capabilities) (o : Option Reached) → o ≡ None → Advances x e n bs c (Ok o) → x ≡ known false
never_advances x e n bs c o is h = advanced x e n bs c o h is

pub advances_to : (x : Typing) (e : Environment) (n : Text) (bs : List Text) (c : Capabilities) (o : Option Reached) (r : Reached) → o ≡ Some r → Advances x e n bs c (Ok o)
    → x ≡ rest_type e (bare r.of.value) n bs c (type_view r.of_type) (typing_view r.found)
advances_to x e n bs c o r is h = subst (λ p. Advances x e n bs c (Ok p)) is h

-- one more attribute of a path
pub attributes_left : (e : Environment) (x : Tree) (a : Text) (ts : List (RcStr Global)) (i : ℕ) (t : RcStr Global) (c : Capabilities) (u : CedarType) (f : Typing) → i < length ts → t ≡ get_or ts i t
    → rest_type e x a (map rc_str_bytes (drop i ts)) c u f ≡ rest_type e x a (rc_str_bytes t ∷ map rc_str_bytes (drop (i + 1) ts)) c u f
attributes_left e x a ts i t c u f lt is =
    at_drop_more (λ (l : List (RcStr Global)). rest_type e x a (map rc_str_bytes l) c u f) ts i t lt
    ∙ ap (λ (s : RcStr Global). rest_type e x a (rc_str_bytes s ∷ map rc_str_bytes (drop (i + 1) ts)) c u f) (sym is)

pub attributes_end : (e : Environment) (x : Tree) (a : Text) (ts : List (RcStr Global)) (n : ℕ) (c : Capabilities) (u : CedarType) (f : Typing) → length ts ≤ n → rest_type e x a (map rc_str_bytes (drop n ts)) c u f ≡ f
attributes_end e x a ts n c u f le = at_drop_all (λ (l : List (RcStr Global)). rest_type e x a (map rc_str_bytes l) c u f) ts n le
