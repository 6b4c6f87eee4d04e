-- Scripts are read in one way.
use Rattle.std.proofs.Common.{◌≡◌, ℕ, ◌+◌, ◌-◌, Bool, true, false, List, [], ◌∷◌, ◌++◌, length, drop, replicate, Option, Some, None, option_map, refl, sym, ap, subst, ◌∙◌, append_assoc, length-append, arith}
use Rattle.std.proofs.lemmas.List.{append-nil, length-replicate}
use Rattle.std.specs.Str.{trim}
use Rattle.cedar_language.specs.Uid.{Text}
use Rattle.cedar_frames.specs.declared.verb.Verb.{Verb}
use Rattle.cedar_scripts.specs.ScriptLines.{Said, Nothing, Further, Title, Answer, Command, begins_with, is_blank}
use Rattle.cedar_scripts.specs.ScriptTexts.{StepText, idle, further_lines, added, IsBody, IsAnswer, IsStep, AreSteps}
use Rattle.cedar_scripts.proofs.Runs.{run, run-cons, run-both, run-idle, run-in_turn, run-lift}

-- ---- what a line makes of a command

abbrev pub further_of : ℕ → Text → StepText → Option Text → Option Text → Option StepText
further_of number text s None None = Some (record s { body = (s.body ++ replicate (number - s.last_line) 10) ++ text; last_line = number })
further_of number text s _ _ = None

abbrev pub answer_of : Text → StepText → Option Text → Bool → Option StepText
answer_of words s None false = Some (record s { expected = Some (trim words) })
answer_of words s _ _ = None

abbrev pub step_taken : ℕ → Said → StepText → Option StepText
step_taken number Nothing s = Some s
step_taken number (Further text) s = further_of number text s s.expected s.file
step_taken number (Answer words) s = answer_of words s s.expected (is_blank words)
step_taken number _ s = None

-- a command as its first line has it
abbrev opened : ℕ → Verb → Text → Option Text → StepText
opened number verb body file = record { line = number; last_line = number; verb = verb; body = body; file = file; expected = None }

abbrev pub file_from : ℕ → Verb → Text → Bool → Option StepText
file_from number verb words true = None
file_from number verb words false = Some (opened number verb [] (Some (trim words)))

abbrev step_from : ℕ → Verb → Text → Bool → Option StepText
step_from number verb first false = Some (opened number verb first None)
step_from number verb first true = file_from number verb (drop 1 first) (is_blank (drop 1 first))

abbrev pub new_step : ℕ → Verb → Text → Option StepText
new_step number verb first = step_from number verb first (begins_with 60 first)

-- the same command on other lines, and with another body
abbrev at : StepText → ℕ → Text → StepText
at s last body = record s { last_line = last; body = body }

keeps_step : (n : ℕ) (s : StepText) → step_taken n Nothing s ≡ Some s
keeps_step n s = refl

-- a further line
one_further : (s : StepText) (last gap : ℕ) (body text : Text) → s.expected ≡ None → s.file ≡ None
    → step_taken ((last + 1) + gap) (Further text) (at s last body) ≡ Some (at s ((last + 1) + gap) (body ++ (replicate (gap + 1) 10 ++ text)))
one_further s last gap body text none inside =
    let feeds : ((last + 1) + gap) - last ≡ gap + 1 = omega arith in
    let spelled : (body ++ replicate (((last + 1) + gap) - last) 10) ++ text ≡ body ++ (replicate (gap + 1) 10 ++ text) =
    ap (λ k. (body ++ replicate k 10) ++ text) feeds ∙ append_assoc body (replicate (gap + 1) 10) text in
    ap (λ e. further_of ((last + 1) + gap) text (at s last body) e s.file) none ∙ ap (λ f. further_of ((last + 1) + gap) text (at s last body) None f) inside
    ∙ ap (λ b. Some (at s ((last + 1) + gap) b)) spelled

-- further lines
further-taken : (s : StepText) (last : ℕ) (body : Text) (further : List (ℕ × Text)) → s.expected ≡ None → s.file ≡ None
    → run step_taken (last + 1) (further_lines further) (at s last body) ≡ Some (at s (last + length (further_lines further)) (body ++ added further))
further-taken s last body [] none inside =
    let same : last ≡ last + 0 = omega arith in
    ap (λ k. Some (at s k body)) same ∙ ap (λ b. Some (at s (last + 0) b)) (sym (append-nil body))
further-taken s last body (p ∷ further) none inside =
    let lines = further_lines further in
    let new = (last + 1) + p.0 in
    let text = body ++ (replicate (p.0 + 1) 10 ++ p.1) in
    let gap : (last + 1) + p.0 ≡ (last + 1) + length (idle p.0) = omega (arith, length-replicate p.0 Nothing) in
    let first = run-both step_taken (last + 1) new (idle p.0) (Further p.1 ∷ []) (at s last body) (at s last body) gap (run-idle step_taken keeps_step (last + 1) p.0 (at s last body))
    ∙ run-cons step_taken new (Further p.1) [] (at s last body) (at s new text) (one_further s last p.0 body p.1 none inside) in
    let counted : new + 1 ≡ (last + 1) + length (idle p.0 ++ Further p.1 ∷ []) = omega (arith, gap, length-append (idle p.0) (Further p.1 ∷ [])) in
    let ends : new + length lines ≡ last + length ((idle p.0 ++ Further p.1 ∷ []) ++ lines) = omega (arith, counted, length-append (idle p.0 ++ Further p.1 ∷ []) lines) in
    run-both step_taken (last + 1) (new + 1) (idle p.0 ++ Further p.1 ∷ []) lines (at s last body) (at s new text) counted first ∙ further-taken s new text further none inside
    ∙ ap (λ k. Some (at s k (text ++ added further))) ends
    ∙ ap (λ b. Some (at s (last + length ((idle p.0 ++ Further p.1 ∷ []) ++ lines)) b)) (append_assoc body (replicate (p.0 + 1) 10 ++ p.1) (added further))

-- a command with its body, as the lines up to its answer have it
abbrev unanswered : ℕ → List Said → Verb → Text → Option Text → StepText
unanswered number lines verb body file = at (opened number verb body file) (number + length lines) body

body-taken : (number : ℕ) (verb : Verb) (first : Text) (further : List (ℕ × Text)) (body : Text) (file : Option Text) → IsBody first further body file
    → (s : StepText) × (new_step number verb first ≡ Some s) × (run step_taken (number + 1) (further_lines further) s ≡ Some (unanswered number (further_lines further) verb body file))
body-taken number verb first further body None h = (
  opened number verb first None,
  ap (step_from number verb first) h.0,
  further-taken (opened number verb first None) number first further refl refl ∙ ap (λ b. Some (unanswered number (further_lines further) verb b None)) (sym h.1),
)
body-taken number verb first further body (Some file) h =
    let same : number ≡ number + 0 = omega arith in
    let none : run step_taken (number + 1) [] (opened number verb [] (Some file)) ≡ Some (unanswered number [] verb body (Some file)) =
    ap (λ k. Some (at (opened number verb [] (Some file)) k [])) same ∙ ap (λ b. Some (unanswered number [] verb b (Some file))) (sym h.5) in (
      opened number verb [] (Some file),
      ap (new_step number verb) h.1 ∙ ap (file_from number verb h.0) h.2 ∙ ap (λ f. Some (opened number verb [] (Some f))) (sym h.3),
      subst (λ l. run step_taken (number + 1) (further_lines l) (opened number verb [] (Some file)) ≡ Some (unanswered number (further_lines l) verb body (Some file))) (sym h.4) none,
    )

-- the lines behind a body
answer-taken : (s : StepText) (number : ℕ) (behind : List Said) (expected : Option Text) → s.expected ≡ None → IsAnswer behind expected
    → run step_taken number behind s ≡ Some (record s { expected = expected })
answer-taken s number behind None none h =
    ap (λ l. run step_taken number l s) h.1 ∙ run-idle step_taken keeps_step number h.0 s ∙ ap (λ e. let t : StepText = record s { expected = e } in Some t) none
answer-taken s number behind (Some expected) none h =
    let t : StepText = record s { expected = Some (trim h.2) } in
    let here : step_taken (number + h.0) (Answer h.2) s ≡ Some t = ap (λ e. answer_of h.2 s e (is_blank h.2)) none ∙ ap (λ b. answer_of h.2 s None b) h.4 in
    let gap : number + h.0 ≡ number + length (idle h.0) = omega (arith, length-replicate h.0 Nothing) in
    ap (λ l. run step_taken number l s) h.3 ∙ run-both step_taken number (number + h.0) (idle h.0) (Answer h.2 ∷ idle h.1) s s gap (run-idle step_taken keeps_step number h.0 s)
    ∙ run-cons step_taken (number + h.0) (Answer h.2) (idle h.1) s t here ∙ run-idle step_taken keeps_step ((number + h.0) + 1) h.1 t
    ∙ ap (λ w. let u : StepText = record s { expected = Some w } in Some u) (sym h.5)

-- ---- what a line makes of commands

abbrev pub on_last : {A : Type 0} → (A → Option A) → List A → Option (List A)
on_last f [] = None
on_last f (x ∷ []) = option_map (λ y. y ∷ []) (f x)
on_last f (x ∷ y ∷ more) = option_map (λ l. x ∷ l) (on_last f (y ∷ more))

abbrev pub steps_taken : ℕ → Said → List StepText → Option (List StepText)
steps_taken number Nothing steps = Some steps
steps_taken number (Command verb first) steps = option_map (λ s. steps ++ s ∷ []) (new_step number verb first)
steps_taken number (Title name) steps = None
steps_taken number said steps = on_last (step_taken number said) steps

pub on_last-push : {A : Type 0} (f : A → Option A) (xs : List A) (x y : A) → f x ≡ Some y → on_last f (xs ++ x ∷ []) ≡ Some (xs ++ y ∷ [])
on_last-push f [] x y e = ap (option_map (λ z. z ∷ [])) e
on_last-push f (z ∷ []) x y e = ap (λ o. option_map (λ l. z ∷ l) (option_map (λ z. z ∷ []) o)) e
on_last-push f (z ∷ w ∷ more) x y e = ap (option_map (λ l. z ∷ l)) (on_last-push f (w ∷ more) x y e)

in_steps : (steps : List StepText) (n : ℕ) (said : Said) (s t : StepText) → step_taken n said s ≡ Some t → steps_taken n said (steps ++ s ∷ []) ≡ Some (steps ++ t ∷ [])
in_steps steps n Nothing s t e = ap (option_map (λ u. steps ++ u ∷ [])) e
in_steps steps n (Further text) s t e = on_last-push (step_taken n (Further text)) steps s t e
in_steps steps n (Answer words) s t e = on_last-push (step_taken n (Answer words)) steps s t e
in_steps steps n (Title name) s t e = cc
in_steps steps n (Command verb first) s t e = cc

step-taken : (n : ℕ) (own : List Said) (steps : List StepText) (s : StepText) → IsStep n own s → run steps_taken n own steps ≡ Some (steps ++ s ∷ [])
step-taken n own steps s h =
    let body = body-taken n s.verb h.first h.further s.body s.file h.body in
    let lines = further_lines h.further in
    let mid = unanswered n lines s.verb s.body s.file in
    let begun : steps_taken n (Command s.verb h.first) steps ≡ Some (steps ++ body.0 ∷ []) = ap (option_map (λ t. steps ++ t ∷ [])) body.1 in
    let ends : StepText = record mid { expected = s.expected } in
    let inside : run step_taken (n + 1) (lines ++ h.behind) body.0 ≡ Some ends =
    run-both step_taken (n + 1) ((n + 1) + length lines) lines h.behind body.0 mid refl body.2 ∙ answer-taken mid ((n + 1) + length lines) h.behind s.expected refl h.answer in
    let is : ends ≡ s =
    ap (λ k. let t : StepText = record ends { line = k } in t) (sym h.begins) ∙ ap (λ k. let t : StepText = record s { last_line = k } in t) (sym h.ends) in
    ap (λ l. run steps_taken n l steps) h.are ∙ run-cons steps_taken n (Command s.verb h.first) (lines ++ h.behind) steps (steps ++ body.0 ∷ []) begun
    ∙ run-lift step_taken steps_taken (λ t. steps ++ t ∷ []) (in_steps steps) (n + 1) (lines ++ h.behind) body.0 ends inside ∙ ap (λ t. Some (steps ++ t ∷ [])) is

keeps_steps : (n : ℕ) (steps : List StepText) → steps_taken n Nothing steps ≡ Some steps
keeps_steps n steps = refl

pub steps-taken : (n : ℕ) (lines : List Said) (steps : List StepText) → AreSteps n lines steps → run steps_taken n lines [] ≡ Some steps
steps-taken n lines steps h =
    let gap : n + h.0 ≡ n + length (idle h.0) = omega (arith, length-replicate h.0 Nothing) in
    ap (λ l. run steps_taken n l []) h.2 ∙ run-both steps_taken n (n + h.0) (idle h.0) h.1 [] [] gap (run-idle steps_taken keeps_steps n h.0 [])
    ∙ run-in_turn steps_taken IsStep (λ l. l) step-taken (n + h.0) h.1 [] steps h.3
