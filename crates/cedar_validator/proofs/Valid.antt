-- A condition is valid where it is Boolean in the environment of each kind of requests.
use Rattle.std.proofs.Common.{◌≡◌, ℕ, ◌+◌, ◌<◌, ◌≤◌, Bool, true, false, ◌&&◌, ◌||◌, List, [], ◌∷◌, map, length, drop, get_or, Option, Some, None, refl, sym, ap, ◌∙◌, subst}
use mathlib.Core.Path.{fun_ext}
use Rattle.std.specs.Prelude.{◌↔◌, IsTrue, is_some, option_map, Result, Ok, Err}
use Rattle.std.specs.List.{list_any, list_all}
use Rattle.std.proofs.lemmas.List.{at_drop_more, at_drop_all}
use Rattle.cedar_language.specs.Uid.{Name, Uid}
use Rattle.cedar_language.specs.Order.{same_name, same_uid}
use Rattle.cedar_language.specs.Tree.{SlotId, Tree}
use Rattle.cedar_literals.specs.Laws.{same_uid_equiv}
use Rattle.cedar_typing.specs.Types.{CedarType, Booleans, Longs, Strings, Entities, Sets, Records, Extensions}
use Rattle.cedar_typing.specs.Capabilities.{Capabilities}
use Rattle.cedar_typing.specs.Faults.{TypingFault}
use Rattle.cedar_typing.specs.Results.{Typing, HasType, Faulty}
use Rattle.cedar_typing.specs.Schema.{Schema, Environment, IsEnvironment}
use Rattle.cedar_typing.specs.Typing.{type_of}
use Rattle.cedar_typing.specs.Validated.{IsValidIn, IsValid}
use Rattle.cedar_typing.proofs.Sameness.{name_is, uid_is, name_same}
use Rattle.cedar_schema_grammar.specs.Environments.{Application, application}
use Rattle.cedar_typechecker.specs.Types.{bool_type_view, bool_type_in}
use Rattle.cedar_typechecker.specs.declared.types.BoolType.{BoolType}
use Rattle.cedar_validator_schema.specs.Applying.{applies_in}
use Rattle.cedar_validator_schema.specs.Applying as schema
use Rattle.cedar_validator.specs.Environments.{request_view, same_request, environment_of, same_option, just_these}
use Rattle.cedar_validator.specs.Validating.{is_boolean_type, is_boolean, is_valid_in, Answers}
use Rattle.cedar_validator.specs.declared.refusals.ValidationRefusal.{ValidationRefusal}
use Rattle.cedar_validator.specs.declared.refusals.ValidationRefusal.TheVariants as refusal
use Rattle.cedar_validator.specs.declared.environments.RequestType.{RequestType}

-- ---- in one environment

by_type : (t : CedarType) → is_boolean_type t ≡ is_some (bool_type_in t)
by_type (Booleans b) = refl
by_type Longs = refl
by_type Strings = refl
by_type (Entities n) = refl
by_type (Sets t) = refl
by_type (Records fs) = refl
by_type (Extensions n o) = refl

some_map : {A B : Type 0} (f : A → B) (o : Option A) → is_some (option_map f o) ≡ is_some o
some_map f (Some x) = refl
some_map f None = refl

pub boolean_by_type : (x : Typing) (t : CedarType) (c : Capabilities) (o : Option BoolType) → x ≡ HasType t c
    → option_map bool_type_view o ≡ bool_type_in t → is_some o ≡ is_boolean x
boolean_by_type x t c o is found = sym (some_map bool_type_view o) ∙ ap is_some found ∙ sym (by_type t) ∙ sym (ap is_boolean is)

pub faulty_is_none : (x : Typing) (k : TypingFault) → x ≡ Faulty k → false ≡ is_boolean x
faulty_is_none x k is = sym (ap is_boolean is)

-- ---- in each

module _ (P : Application → Bool) (rs : List RequestType) (i : ℕ) (r : RequestType) where
  cut : i < length rs → r ≡ get_or rs i r → list_all P (map request_view (drop i rs)) ≡ (P (request_view r) && list_all P (map request_view (drop (i + 1) rs)))
  cut lt is =
      at_drop_more (λ (l : List RequestType). list_all P (map request_view l)) rs i r lt
      ∙ ap (λ (x : RequestType). P (request_view x) && list_all P (map request_view (drop (i + 1) rs))) (sym is)

  pub next_holds : i < length rs → r ≡ get_or rs i r → P (request_view r) ≡ true
      → list_all P (map request_view (drop i rs)) ≡ list_all P (map request_view (drop (i + 1) rs))
  next_holds lt is h = cut lt is ∙ ap (λ b. b && list_all P (map request_view (drop (i + 1) rs))) h

  pub next_fails : i < length rs → r ≡ get_or rs i r → P (request_view r) ≡ false → list_all P (map request_view (drop i rs)) ≡ false
  next_fails lt is h = cut lt is ∙ ap (λ b. b && list_all P (map request_view (drop (i + 1) rs))) h

pub all_hold : (P : Application → Bool) (rs : List RequestType) (i : ℕ) → length rs ≤ i → list_all P (map request_view (drop i rs)) ≡ true
all_hold P rs i le = at_drop_all (λ (l : List RequestType). list_all P (map request_view l)) rs i le

-- ---- requests that are alike

front : (a b : Bool) → (a && b) ≡ true → a ≡ true
front true b h = refl
front false b h = absurd cc

back : (a b : Bool) → (a && b) ≡ true → b ≡ true
back true b h = h
back false b h = absurd cc

both : (a b : Bool) → a ≡ true → b ≡ true → (a && b) ≡ true
both a b h k = ap (λ x. x && b) h ∙ k

or_second : (a b : Bool) → b ≡ true → (a || b) ≡ true
or_second true b h = refl
or_second false b h = h

is_same : (x y : Application) → same_request x y ≡ true → x ≡ y
is_same x y h =
    let names = back (same_uid x.action y.action) (same_name x.principal y.principal && same_name x.resource y.resource) h in
    let action : x.action ≡ y.action = uid_is x.action y.action (front (same_uid x.action y.action) (same_name x.principal y.principal && same_name x.resource y.resource) h) in
    let principal : x.principal ≡ y.principal = name_is x.principal y.principal (front (same_name x.principal y.principal) (same_name x.resource y.resource) names) in
    let resource : x.resource ≡ y.resource = name_is x.resource y.resource (back (same_name x.principal y.principal) (same_name x.resource y.resource) names) in
    λ i. record { action = action i; principal = principal i; resource = resource i }

itself : (x : Application) → same_request x x ≡ true
itself x = both (same_uid x.action x.action) (same_name x.principal x.principal && same_name x.resource x.resource) (same_uid_equiv.refl x.action)
    (both (same_name x.principal x.principal) (same_name x.resource x.resource) (name_same x.principal) (name_same x.resource))

member : (P : Application → Bool) (rs : List Application) (a : Application) → list_any (same_request a) rs ≡ true → list_all P rs ≡ true → P a ≡ true
member P [] a m h = absurd cc
member P (r ∷ rs) a m h = by (same_request a r) refl m (λ k. member P rs a k (back (P r) (list_all P rs) h))
  where
    by : (b : Bool) → same_request a r ≡ b → (b || list_any (same_request a) rs) ≡ true → (list_any (same_request a) rs ≡ true → P a ≡ true)
        → P a ≡ true
    by true g k later = ap P (is_same a r g) ∙ front (P r) (list_all P rs) h
    by false g k later = later k

each : (P : Application → Bool) (rs : List Application) → ((a : Application) → list_any (same_request a) rs ≡ true → P a ≡ true) → list_all P rs ≡ true
each P [] h = refl
each P (r ∷ rs) h = both (P r) (list_all P rs) (h r (ap (λ b. b || list_any (same_request r) rs) (itself r)))
    (each P rs (λ a m. h a (or_second (same_request a r) (list_any (same_request a) rs) m)))

-- ---- the whole

option_is : (o p : Option Name) → same_option o p ≡ true → o ≡ p
option_is (Some n) (Some m) h = ap Some (name_is n m h)
option_is (Some n) None h = absurd cc
option_is None (Some m) h = absurd cc
option_is None None h = refl

option_itself : (o : Option Name) → same_option o o ≡ true
option_itself (Some n) = name_same n
option_itself None = refl

boolean_is : (e : Environment) (x : Tree) (y : Typing) → type_of e x [] ≡ y → is_boolean y ≡ true → IsValidIn e x
boolean_is e x (HasType (Booleans b) d) is h = (b, d, is)
boolean_is e x (HasType Longs d) is h = absurd cc
boolean_is e x (HasType Strings d) is h = absurd cc
boolean_is e x (HasType (Entities n) d) is h = absurd cc
boolean_is e x (HasType (Sets t) d) is h = absurd cc
boolean_is e x (HasType (Records fs) d) is h = absurd cc
boolean_is e x (HasType (Extensions n o) d) is h = absurd cc
boolean_is e x (Faulty k) is h = absurd cc

module _ (s : Schema) (slots : SlotId → Option Name) (x : Tree) (rs : List Application)
    (listed : (u : Uid) (n m : Name) → list_any (same_request (application u n m)) rs ≡ s.applies u n m)
    (acts : (u : Uid) (n m : Name) → s.applies u n m ≡ true → s.is_action u ≡ true) where
  abbrev holds : Application → Bool
  holds a = is_valid_in (environment_of s slots a) x

  pub valid_from_all : list_all holds rs ≡ true → IsValid s (just_these slots) x
  valid_from_all h = λ e is.
      let a = application e.action e.principal e.resource in
      let among : list_any (same_request a) rs ≡ true = listed e.action e.principal e.resource ∙ is.applies in
      let bound : slots ≡ e.slot = fun_ext (λ t. option_is (slots t) (e.slot t) (is.slots t)) in
      let of : s ≡ e.schema = sym is.of in
      let whole : environment_of s slots a ≡ e = λ i. record { schema = of i; principal = e.principal; action = e.action; resource = e.resource; slot = bound i } in
      subst (λ (f : Environment). IsValidIn f x) whole
      (boolean_is (environment_of s slots a) x (type_of (environment_of s slots a) x []) refl (member holds rs a among h))

  pub all_from_valid : IsValid s (just_these slots) x → list_all holds rs ≡ true
  all_from_valid valid = each holds rs (λ a m.
      let applies : s.applies a.action a.principal a.resource ≡ true = sym (listed a.action a.principal a.resource) ∙ m in
      let found = valid (environment_of s slots a) (record {
        of = refl;
        is_action = acts a.action a.principal a.resource applies;
        applies = applies;
        slots = λ t. option_itself (slots t);
      }) in
      ap is_boolean found.2)

pub applied_acts : (o : Option schema.Application) (n m : Name) → applies_in o n m ≡ true → is_some o ≡ true
applied_acts (Some a) n m h = refl
applied_acts None n m h = absurd cc

pub answers_map : (D : Type 0) (P Q : Bool → Type 0) (r : Result Bool ValidationRefusal) → ((b : Bool) → P b → Q b) → Answers D P r → Answers D Q r
answers_map D P Q (Ok b) f h = f b h
answers_map D P Q (Err refusal.Depth) f h = h
answers_map D P Q (Err refusal.Memory) f h = tt
