-- What is said of the last command or test, which is lent and changed.
use Rattle.std.proofs.Common.{◌≡◌, ℕ, ◌+◌, ◌-◌, ◌<◌, ◌≤◌, true, false, List, [], ◌∷◌, ◌++◌, length, map, set, get_or, Option, Some, None, MatchOption, option_map, is_some, refl, sym, ap, subst, ◌∙◌, arith}
use Rattle.std.proofs.lemmas.Bool.{ne_eqb, true≢false, false≢true}
use Rattle.std.proofs.lemmas.List.{get_or_at, set_at, map-append, length_push}
use Rattle.std.specs.Option.{IsSome}
use Rattle.cedar_language.specs.Uid.{Text}
use Rattle.cedar_scripts.specs.declared.script.Step.{Step}
use Rattle.cedar_scripts.specs.declared.script.Test.{Test}
use Rattle.cedar_scripts.specs.ScriptLines.{Said, begins_with}
use Rattle.cedar_scripts.specs.ScriptTexts.{StepText, TestText, ScriptText, IsStep, StepsGoOn, ScriptGoesOn, step_text, test_text}
use Rattle.cedar_scripts.specs.ScriptFaults.{last_of, steps_of_last}
use Rattle.cedar_scripts.proofs.Turns.{last_split}
use Rattle.cedar_scripts.proofs.Adding.{goes_last, whole_in_set_up, whole_in_test}

-- ---- the last value of a list

-- what stands last, and what the list is once it is another
record Lent {A : Type 0} (xs : List A) (at : ℕ) (x y : A) : Type 0 where
  front : List A
  old : xs ≡ front ++ x ∷ []
  new : set xs at y ≡ front ++ y ∷ []

lent_from : {A : Type 0} (xs front : List A) (last : A) (at : ℕ) (x y : A) → xs ≡ front ++ last ∷ [] → at ≡ length front → x ≡ get_or xs at x → Lent xs at x y
lent_from xs front last at x y split e read =
    let same : x ≡ last = read ∙ ap (λ l. get_or l at x) split ∙ get_or_at front last [] x at (sym e) in
    record { front = front; old = split ∙ ap (λ z. front ++ z ∷ []) (sym same); new = ap (λ l. set l at y) split ∙ set_at front last [] y at (sym e) }

lent : {A : Type 0} (xs : List A) (len : ℕ) (x y : A) → len ≡ length xs → 0 < length xs → x ≡ get_or xs (len - 1) x → Lent xs (len - 1) x y
lent [] len x y e some read = absurd (omega arith)
lent (z ∷ zs) len x y e some read =
    let r = last_split z zs in
    let far : len - 1 ≡ length r.0 = omega (arith, e, ap length r.2, length_push r.0 r.1) in
    lent_from (z ∷ zs) r.0 r.1 (len - 1) x y r.2 far read

pub last_of-push : {A : Type 0} (before : Option A) (xs : List A) (x : A) → last_of before (xs ++ x ∷ []) ≡ Some x
last_of-push before [] x = refl
last_of-push before (y ∷ ys) x = last_of-push (Some y) ys x

pub steps_of_last-push : (before : List StepText) (ts : List TestText) (t : TestText) → steps_of_last before (ts ++ t ∷ []) ≡ t.steps
steps_of_last-push before [] t = refl
steps_of_last-push before (u ∷ us) t = steps_of_last-push u.steps us t

map-push : {A B : Type 0} (f : A → B) (xs front : List A) (x : A) → xs ≡ front ++ x ∷ [] → map f xs ≡ map f front ++ f x ∷ []
map-push f xs front x e = ap (map f) e ∙ map-append f front (x ∷ [])

-- ---- commands

pub last_is : (xs : List Step) (len : ℕ) (x : Step) → len ≡ length xs → 0 < length xs → x ≡ get_or xs (len - 1) x → last_of None (map step_text xs) ≡ Some (step_text x)
last_is xs len x e some read =
    let r = lent xs len x x e some read in
    ap (last_of None) (map-push step_text xs r.front x r.old) ∙ last_of-push None (map step_text r.front) (step_text x)

pub step_changes : (number : ℕ) (said : Said) (xs : List Step) (len : ℕ) (x y : Step) → len ≡ length xs → 0 < length xs → x ≡ get_or xs (len - 1) x
    → ((n : ℕ) (own : List Said) → number ≡ n + length own → IsStep n own (step_text x) → IsStep n (own ++ said ∷ []) (step_text y))
    → StepsGoOn number said (map step_text xs) (map step_text (set xs (len - 1) y))
step_changes number said xs len x y e some read change =
    let r = lent xs len x y e some read in
    let go = goes_last number said (map step_text r.front) (step_text x) (step_text y) change in
    subst (λ l. StepsGoOn number said l (map step_text (set xs (len - 1) y))) (sym (map-push step_text xs r.front x r.old))
    (subst (λ l. StepsGoOn number said (map step_text r.front ++ step_text x ∷ []) l) (sym (map-push step_text (set xs (len - 1) y) r.front y r.new)) go)

-- ---- tests

abbrev with_tests : List StepText → List TestText → ScriptText
with_tests set_up tests = record { set_up = set_up; tests = tests }

pub last_steps_are : (before : List StepText) (ts : List Test) (len : ℕ) (t : Test) → len ≡ length ts → 0 < length ts → t ≡ get_or ts (len - 1) t
    → steps_of_last before (map test_text ts) ≡ map step_text t.steps.items
last_steps_are before ts len t e some read =
    let r = lent ts len t t e some read in
    ap (steps_of_last before) (map-push test_text ts r.front t r.old) ∙ steps_of_last-push before (map test_text r.front) (test_text t)

pub test_changes : (number : ℕ) (said : Said) (set_up : List StepText) (ts : List Test) (len : ℕ) (t u : Test) → len ≡ length ts → 0 < length ts
    → t ≡ get_or ts (len - 1) t → StepsGoOn number said (map step_text t.steps.items) (map step_text u.steps.items) → u ≡ record t { steps = u.steps }
    → ScriptGoesOn number said (with_tests set_up (map test_text ts)) (with_tests set_up (map test_text (set ts (len - 1) u)))
test_changes number said set_up ts len t u e some read go same =
    let r = lent ts len t u e some read in
    let front = map test_text r.front in
    let old = map-push test_text ts r.front t r.old in
    let new = map-push test_text (set ts (len - 1) u) r.front u r.new in
    let whole = whole_in_test number said set_up front (test_text t) (map step_text u.steps.items) go in
    let renamed = subst (λ v. ScriptGoesOn number said (with_tests set_up (front ++ test_text t ∷ [])) (with_tests set_up (front ++ v ∷ []))) (sym (ap test_text same)) whole in
    subst (λ l. ScriptGoesOn number said (with_tests set_up l) (with_tests set_up (map test_text (set ts (len - 1) u)))) (sym old)
    (subst (λ l. ScriptGoesOn number said (with_tests set_up (front ++ test_text t ∷ [])) (with_tests set_up l)) (sym new) renamed)

pub set_up_changes : (number : ℕ) (said : Said) (old new : List StepText) (ts : List Test) → length ts ≤ 0 → StepsGoOn number said old new
    → ScriptGoesOn number said (with_tests old (map test_text ts)) (with_tests new (map test_text ts))
set_up_changes number said old new [] none go = whole_in_set_up number said old new go
set_up_changes number said old new (t ∷ ts) none go = absurd (omega arith)

-- ---- what may be there

pub match_some : {A B : Type 0} (f : A → B) (o : Option A) (P Q : Type 0) → is_some o ≡ true → Q → MatchOption (option_map f o) P (λ _. Q)
match_some f None P Q some q = absurd (false≢true some)
match_some f (Some x) P Q some q = q

pub match_none : {A B : Type 0} (f : A → B) (o : Option A) (P Q : Type 0) → is_some o ≡ false → P → MatchOption (option_map f o) P (λ _. Q)
match_none f None P Q none p = p
match_none f (Some x) P Q none p = absurd (true≢false none)

pub none_of : {A B : Type 0} (f : A → B) (o : Option A) → is_some o ≡ false → option_map f o ≡ None
none_of f None none = refl
none_of f (Some x) none = absurd (true≢false none)

pub some_of : {A B : Type 0} (f : A → B) (o : Option A) → is_some o ≡ true → IsSome (option_map f o)
some_of f None some = absurd (false≢true some)
some_of f (Some x) some = refl

-- ---- first bytes

pub begins_otherwise : (byte : ℕ) (text : Text) → ((rest : Text) → text ≡ byte ∷ rest → ⊥) → begins_with byte text ≡ false
begins_otherwise byte [] other = refl
begins_otherwise byte (b ∷ bs) other = ne_eqb b byte (λ e. other bs (ap (λ x. x ∷ bs) e))
