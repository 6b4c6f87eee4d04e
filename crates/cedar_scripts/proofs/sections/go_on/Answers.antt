use Rattle.std.proofs.Common.{◌≡◌, ◌-◌, ◌++◌, replicate, string_bytes, refl, sym, ap, subst, ◌∙◌, [], ◌∷◌}
use Rattle.cedar_scripts.specs.declared.fault.ScriptFault.TheVariants.{BehindAnswer, BehindFile}
use Rattle.cedar_scripts.specs.ScriptLines.{Further}
use Rattle.cedar_scripts.specs.ScriptFaults.{CannotStand}
use Rattle.cedar_scripts.specs.ScriptTexts.{StepText, IsStep, step_text}
use Rattle.cedar_scripts.proofs.Adding.{step_further}
use Rattle.cedar_scripts.proofs.Lending.{last_is, step_changes, match_some, match_none, none_of, some_of}
use Rattle.cedar_scripts.proofs.sections.go_on.Goals as goal

pub returns-then-is_some-clause-fault : goal.returns-then-is_some-clause-fault
returns-then-is_some-clause-fault c =
    let step = c.in-Some.step.now in
    let last = last_is c.args.steps.now.items c.args.steps.now.len step c.args.steps.now.ok.0 c.in-Some.ensures.item.3.0 c.in-Some.ensures.value in
    let why = match_some string_bytes step.expected _ _ (sym c.if-is_some.ensures) refl in
    (refl, subst (λ l. CannotStand l (Further c.args.text.now) BehindAnswer) (sym last) why)

pub returns-then-is_some-2-clause-fault : goal.returns-then-is_some-2-clause-fault
returns-then-is_some-2-clause-fault c =
    let step = c.in-Some.step.now in
    let last = last_is c.args.steps.now.items c.args.steps.now.len step c.args.steps.now.ok.0 c.in-Some.ensures.item.3.0 c.in-Some.ensures.value in
    let why = match_none string_bytes step.expected _ _ (sym c.if-is_some.ensures) (refl, some_of string_bytes step.file (sym c.if-is_some-2.ensures)) in
    (refl, subst (λ l. CannotStand l (Further c.args.text.now) BehindFile) (sym last) why)

pub returns-clause-taken : goal.returns-clause-taken
returns-clause-taken c =
    let step = c.in-Some.step.now in
    let new = c.push_line.new.step in
    let none = none_of string_bytes step.expected (sym c.if-is_some.ensures) in
    let inside = none_of string_bytes step.file (sym c.if-is_some-2.ensures) in
    let is : step_text new ≡ record (step_text step) { body = (string_bytes step.body ++ replicate (c.args.number - step.last_line) 10) ++ c.args.text.now; last_line = c.args.number } =
    ap step_text c.in_ok-push_line.ensures.others ∙ ap (λ b. let s : StepText = record (step_text step) { body = b; last_line = c.args.number } in s) c.in_ok-push_line.ensures.body in
    step_changes c.args.number (Further c.args.text.now) c.args.steps.now.items c.args.steps.now.len step new c.args.steps.now.ok.0 c.in-Some.ensures.item.3.0 c.in-Some.ensures.value
    (λ n own e h. subst (λ s. IsStep n (own ++ Further c.args.text.now ∷ []) s) (sym is) (step_further c.args.number n own (step_text step) c.args.text.now e none inside h))
