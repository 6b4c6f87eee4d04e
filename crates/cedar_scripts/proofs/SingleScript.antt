-- ScriptText scripts are read in one way.
use Rattle.std.proofs.Common.{◌≡◌, ℕ, ◌+◌, Bool, true, false, List, [], ◌∷◌, ◌++◌, length, Option, Some, None, option_map, refl, sym, ap, ◌∙◌}
use Rattle.cedar_language.specs.Uid.{Text}
use Rattle.cedar_scripts.specs.ScriptLines.{Said, Nothing, Further, Title, Answer, Command, is_blank}
use Rattle.cedar_scripts.specs.ScriptTexts.{StepText, TestText, ScriptText, IsTest, MakeScript}
use Rattle.cedar_scripts.proofs.Runs.{run, run-cons, run-both, run-in_turn, run-lift}
use Rattle.cedar_scripts.proofs.Single.{on_last, on_last-push, steps_taken, steps-taken}

-- ---- what a line makes of a script

abbrev pub title_taken : ℕ → Text → ScriptText → Bool → Option ScriptText
title_taken number name script true = None
title_taken number name script false = Some (record script { tests = script.tests ++ record { line = number; name = name; steps = [] } ∷ [] })

abbrev pub in_test : ℕ → Said → TestText → Option TestText
in_test number said t = option_map (λ l. record t { steps = l }) (steps_taken number said t.steps)

abbrev pub in_last : ℕ → Said → List StepText → List TestText → Option ScriptText
in_last number said set_up [] = option_map (λ l. record { set_up = l; tests = [] }) (steps_taken number said set_up)
in_last number said set_up (t ∷ ts) = option_map (λ l. record { set_up = set_up; tests = l }) (on_last (in_test number said) (t ∷ ts))

abbrev pub whole_taken : ℕ → Said → ScriptText → Option ScriptText
whole_taken number (Title name) script = title_taken number name script (is_blank name)
whole_taken number said script = in_last number said script.set_up script.tests

in_set_up : (n : ℕ) (said : Said) (s t : List StepText) → steps_taken n said s ≡ Some t
    → whole_taken n said (record { set_up = s; tests = [] }) ≡ Some (record { set_up = t; tests = [] })
in_set_up n Nothing s t e = ap (option_map (λ (l : List StepText). record { set_up = l; tests = [] })) e
in_set_up n (Further text) s t e = ap (option_map (λ (l : List StepText). record { set_up = l; tests = [] })) e
in_set_up n (Answer words) s t e = ap (option_map (λ (l : List StepText). record { set_up = l; tests = [] })) e
in_set_up n (Command verb first) s t e = ap (option_map (λ (l : List StepText). record { set_up = l; tests = [] })) e
in_set_up n (Title name) s t e = cc

in_last-push : (n : ℕ) (said : Said) (set_up : List StepText) (ts : List TestText) (t u : TestText) → in_test n said t ≡ Some u
    → in_last n said set_up (ts ++ t ∷ []) ≡ Some (record { set_up = set_up; tests = ts ++ u ∷ [] })
in_last-push n said set_up [] t u e = ap (option_map (λ (l : List TestText). record { set_up = set_up; tests = l })) (on_last-push (in_test n said) [] t u e)
in_last-push n said set_up (x ∷ xs) t u e = ap (option_map (λ (l : List TestText). record { set_up = set_up; tests = l })) (on_last-push (in_test n said) (x ∷ xs) t u e)

in_tests : (line : ℕ) (name : Text) (set_up : List StepText) (ts : List TestText) (n : ℕ) (said : Said) (s t : List StepText) → steps_taken n said s ≡ Some t
    → whole_taken n said (record { set_up = set_up; tests = ts ++ record { line = line; name = name; steps = s } ∷ [] })
    ≡ Some (record { set_up = set_up; tests = ts ++ record { line = line; name = name; steps = t } ∷ [] })
in_tests line name set_up ts n (Title other) s t e = cc
in_tests line name set_up ts n Nothing s t e =
    in_last-push n Nothing set_up ts (record { line = line; name = name; steps = s }) (record { line = line; name = name; steps = t }) (ap (option_map (λ (l : List StepText). record { line = line; name = name; steps = l })) e)
in_tests line name set_up ts n (Further text) s t e =
    in_last-push n (Further text) set_up ts (record { line = line; name = name; steps = s }) (record { line = line; name = name; steps = t }) (ap (option_map (λ (l : List StepText). record { line = line; name = name; steps = l })) e)
in_tests line name set_up ts n (Answer words) s t e =
    in_last-push n (Answer words) set_up ts (record { line = line; name = name; steps = s }) (record { line = line; name = name; steps = t }) (ap (option_map (λ (l : List StepText). record { line = line; name = name; steps = l })) e)
in_tests line name set_up ts n (Command verb first) s t e =
    in_last-push n (Command verb first) set_up ts (record { line = line; name = name; steps = s }) (record { line = line; name = name; steps = t }) (ap (option_map (λ (l : List StepText). record { line = line; name = name; steps = l })) e)

-- ---- tests, and all

abbrev titled : ℕ → Text → List StepText → TestText
titled number name steps = record { line = number; name = name; steps = steps }

abbrev with_tests : List StepText → List TestText → ScriptText
with_tests set_up tests = record { set_up = set_up; tests = tests }

test-taken : (set_up : List StepText) (n : ℕ) (own : List Said) (ts : List TestText) (t : TestText) → IsTest n own t
    → run whole_taken n own (with_tests set_up ts) ≡ Some (with_tests set_up (ts ++ t ∷ []))
test-taken set_up n own ts t h =
    ap (λ l. run whole_taken n l (with_tests set_up ts)) h.are
    ∙ run-cons whole_taken n (Title t.name) h.own (with_tests set_up ts) (with_tests set_up (ts ++ titled n t.name [] ∷ [])) (ap (title_taken n t.name (with_tests set_up ts)) h.named)
    ∙ run-lift steps_taken whole_taken (λ l. with_tests set_up (ts ++ titled n t.name l ∷ [])) (in_tests n t.name set_up ts) (n + 1) h.own [] t.steps (steps-taken (n + 1) h.own t.steps h.steps)
    ∙ ap (λ k. Some (with_tests set_up (ts ++ titled k t.name t.steps ∷ []))) (sym h.begins)

-- what lines that are a script make of an empty one
pub whole-read : (said : List Said) (script : ScriptText) → MakeScript said script → run whole_taken 1 said (with_tests [] []) ≡ Some script
whole-read said script h =
    ap (λ l. run whole_taken 1 l (with_tests [] [])) h.are
    ∙ run-both whole_taken 1 (1 + length h.own) h.own h.more (with_tests [] []) (with_tests script.set_up []) refl
    (run-lift steps_taken whole_taken (λ l. with_tests l []) in_set_up 1 h.own [] script.set_up (steps-taken 1 h.own script.set_up h.set_up))
    ∙ run-in_turn whole_taken IsTest (λ l. with_tests script.set_up l) (test-taken script.set_up) (1 + length h.own) h.more [] script.tests h.tests

pub one_whole : (said : List Said) (script other : ScriptText) → MakeScript said script → MakeScript said other → script ≡ other
one_whole said script other h k =
    let same : Some script ≡ Some other = sym (whole-read said script h) ∙ whole-read said other k in cc
