-- What is left of policies is a set of static policies, where no id stands twice.
use Rattle.std.proofs.Common.{◌≡◌, Bool, true, false, cond, Some, None, List, [], ◌∷◌, ◌++◌, map, inl, inr, refl, sym, ◌∙◌, ap, subst}
use Rattle.std.specs.Prelude.{⊤, Result, Ok, Err, IfOk, IfErr}
use Rattle.std.specs.List.{IsDistinct, list_any}
use Rattle.std.specs.Map.{keys_of}
use Rattle.std.specs.Cmp.Lexicographic.{nat_list_eq_equiv}
use Rattle.std.proofs.lemmas.List.{append_assoc, append-nil, map-append}
use Rattle.std.proofs.lemmas.Map.Keys.{IsDistinct-push}
use Rattle.std.proofs.lemmas.Map.Made.{is_some-lookup}
use Rattle.cedar_language.specs.Answering.{Permit, Forbid}
use Rattle.cedar_language.specs.Order.{same_text}
use Rattle.cedar_language.specs.Uid.{Text}
use Rattle.cedar_policy_set.specs.Entries.{Entry, static_policy, template, link, Entries, is_bound, is_policy, policies_of}
use Rattle.cedar_policy_set.specs.Refused.{taken, in_the_way, added, AddsAll}
use Rattle.cedar_policy_set.specs.declared.errors.PolicySetError.{PolicySetError}
use Rattle.cedar_policy_set.specs.declared.errors.PolicySetError.TheVariants.{Occupied, Memory}
use Rattle.cedar_evaluator.specs.Reauthorizing.{IsFirstTwice, IsNoSet}
use Rattle.cedar_evaluator.specs.Residuals.{left_satisfied, left_false, left_open, residuals_with, is_any}
use Rattle.cedar_evaluator.specs.declared.partial_response.PartialResponse.{PartialResponse}
use Rattle.cedar_evaluator.proofs.Residuals.{satisfied_permits_left, false_permits_left, open_permits_left, satisfied_forbids_left, false_forbids_left, open_forbids_left, left_all}

-- ---- static policies alone

abbrev IsStatic : Entry → Type 0
IsStatic (static_policy s) = ⊤
IsStatic (template s) = ⊥
IsStatic (link t s b) = ⊥

abbrev AreStatic : Entries → Type 0
AreStatic [] = ⊤
AreStatic (e ∷ es) = IsStatic e.1 × AreStatic es

both_static : (es fs : Entries) → AreStatic es → AreStatic fs → AreStatic (es ++ fs)
both_static [] fs h k = k
both_static (e ∷ es) fs h k = (h.0, both_static es fs h.1 k)

each_static : {X : Type 0} (left : X → Text × Entry) → ((x : X) → IsStatic (left x).1) → (xs : List X) → AreStatic (map left xs)
each_static left is [] = tt
each_static left is (x ∷ xs) = (is x, each_static left is xs)

left_static : (r : PartialResponse) → AreStatic (residuals_with is_any r)
left_static r =
    subst AreStatic (sym (left_all r))
    (both_static _ (open_forbids_left r)
    (both_static _ (false_forbids_left r)
    (both_static _ (satisfied_forbids_left r)
    (both_static _ (open_permits_left r)
    (both_static (satisfied_permits_left r) (false_permits_left r)
    (each_static (left_satisfied Permit) (λ e. tt) r.satisfied_permits)
    (each_static (left_false Permit) (λ e. tt) r.false_permits))
    (each_static (left_open Permit) (λ e. tt) r.residual_permits))
    (each_static (left_satisfied Forbid) (λ e. tt) r.satisfied_forbids))
    (each_static (left_false Forbid) (λ e. tt) r.false_forbids))
    (each_static (left_open Forbid) (λ e. tt) r.residual_forbids))

-- ---- they are policies, and are added one after another

static_is_policy : (x : Entry) → IsStatic x → is_policy x ≡ true
static_is_policy (static_policy s) h = refl
static_is_policy (template s) h = absurd h
static_is_policy (link t s b) h = absurd h

policies_are : (es : Entries) → AreStatic es → policies_of es ≡ es
policies_are [] h = refl
policies_are (e ∷ es) h = ap (λ b. cond b (e ∷ policies_of es) (policies_of es)) (static_is_policy e.1 h.0) ∙ ap (λ l. e ∷ l) (policies_are es h.1)

way : (es : Entries) (id : Text) (x : Entry) → IsStatic x → in_the_way es id x ≡ taken es id
way es id (static_policy s) h = refl
way es id (template s) h = absurd h
way es id (link t s b) h = absurd h

added_last : (es : Entries) (id : Text) (x : Entry) → IsStatic x → added es id x ≡ es ++ (id, x) ∷ []
added_last es id (static_policy s) h = refl
added_last es id (template s) h = absurd h
added_last es id (link t s b) h = absurd h

one_further : (e : Text × Entry) (more done : Entries) → IsStatic e.1 → added done e.0 e.1 ++ more ≡ done ++ e ∷ more
one_further e more done h = ap (λ l. l ++ more) (added_last done e.0 e.1 h) ∙ append_assoc done (e ∷ []) more

all_added : (more done : Entries) → AreStatic more → (set : Entries) → AddsAll done more (Ok set) → set ≡ done ++ more
all_added [] done h set adds = adds ∙ sym (append-nil done)
all_added (e ∷ more) done h set (inl x) = all_added more (added done e.0 e.1) h.1 set x.1 ∙ one_further e more done h.0
all_added (e ∷ more) done h set (inr x) = absurd x

-- ---- whose ids are apart

-- an entry that isn't bound yet, and one that is
is_free : (b : Bool) (id : Text) → cond b (Some id) None ≡ None → b ≡ false
is_free true id is = absurd (cc is)
is_free false id is = refl

is_there : (b : Bool) (id other : Text) → cond b (Some id) None ≡ Some other → (b ≡ true) × (other ≡ id)
is_there true id other is = (refl, cc is)
is_there false id other is = absurd (cc is)

listed : (done : Entries) (id : Text) → is_bound done id ≡ list_any (same_text id) (keys_of done)
listed done id = is_some-lookup (same_text id) done

one_more_apart : (e : Text × Entry) (done : Entries) → IsStatic e.1 → in_the_way done e.0 e.1 ≡ None → IsDistinct same_text (keys_of done) → IsDistinct same_text (keys_of (added done e.0 e.1))
one_more_apart e done h free apart =
    let other = sym (listed done e.0) ∙ is_free (is_bound done e.0) e.0 (sym (way done e.0 e.1 h) ∙ free) in
    subst (λ (es : Entries). IsDistinct same_text (keys_of es)) (sym (added_last done e.0 e.1 h))
    (subst (IsDistinct same_text) (sym (map-append (λ x. x.0) done (e ∷ []))) (IsDistinct-push nat_list_eq_equiv (keys_of done) e.0 apart other))

all_apart : (more done : Entries) → AreStatic more → (set : Entries) → AddsAll done more (Ok set) → IsDistinct same_text (keys_of done) → IsDistinct same_text (keys_of (done ++ more))
all_apart [] done h set adds apart = subst (λ (es : Entries). IsDistinct same_text (keys_of es)) (sym (append-nil done)) apart
all_apart (e ∷ more) done h set (inl x) apart =
    subst (λ (es : Entries). IsDistinct same_text (keys_of es)) (one_further e more done h.0)
    (all_apart more (added done e.0 e.1) h.1 set x.1 (one_more_apart e done h.0 x.0 apart))
all_apart (e ∷ more) done h set (inr x) apart = absurd x

-- the id for which they are refused is the first that stands twice
first_twice : (more done : Entries) → AreStatic more → (id : Text) → AddsAll done more (Err (Occupied id)) → IsDistinct same_text (keys_of done) → IsFirstTwice (keys_of (done ++ more)) id
first_twice [] done h id adds apart = absurd adds
first_twice (e ∷ more) done h id (inl x) apart =
    subst (λ (es : Entries). IsFirstTwice (keys_of es) id) (one_further e more done h.0)
    (first_twice more (added done e.0 e.1) h.1 id x.1 (one_more_apart e done h.0 x.0 apart))
first_twice (e ∷ more) done h id (inr x) apart =
    let (there, is) = is_there (is_bound done e.0) e.0 id (sym (way done e.0 e.1 h.0) ∙ x) in
    record {
      before = keys_of done;
      after = keys_of more;
      order = map-append (λ x. x.0) done (e ∷ more) ∙ ap (λ t. keys_of done ++ t ∷ keys_of more) (sym is);
      apart = apart;
      again = ap (λ t. list_any (same_text t) (keys_of done)) is ∙ sym (listed done e.0) ∙ there;
    }

none_apart : IsDistinct same_text []
unfolding IsDistinct
none_apart = tt

-- ---- what is left of a response

module _ (r : PartialResponse) (seen : Entries) (is : seen ≡ residuals_with is_any r) where
  pub are_bound : (result : Result Entries PolicySetError) → AddsAll [] seen result → IfOk result (λ set. policies_of set ≡ residuals_with is_any r)
  are_bound (Ok set) adds =
      let es = residuals_with is_any r in
      ap policies_of (all_added es [] (left_static r) set (subst (λ (l : Entries). AddsAll [] l (Ok set)) is adds)) ∙ policies_are es (left_static r)
  are_bound (Err e) adds = tt

  pub are_apart : (result : Result Entries PolicySetError) → AddsAll [] seen result → IfOk result (λ set. IsDistinct same_text (keys_of (residuals_with is_any r)))
  are_apart (Ok set) adds = all_apart (residuals_with is_any r) [] (left_static r) set (subst (λ (l : Entries). AddsAll [] l (Ok set)) is adds) none_apart
  are_apart (Err e) adds = tt

  pub are_refused : (result : Result Entries PolicySetError) → AddsAll [] seen result → IfErr result (IsNoSet (residuals_with is_any r))
  are_refused (Ok set) adds = tt
  are_refused (Err (Occupied id)) adds = first_twice (residuals_with is_any r) [] (left_static r) id (subst (λ (l : Entries). AddsAll [] l (Err (Occupied id))) is adds) none_apart
  are_refused (Err (Memory e)) adds = tt
