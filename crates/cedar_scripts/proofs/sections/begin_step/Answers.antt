use Rattle.std.proofs.Common.{◌≡◌, ◌∷◌, ◌++◌, [], map, None, Some, sym, ap, subst, ◌∙◌, arith}
use Rattle.std.proofs.lemmas.List.{map-append}
use Rattle.std.proofs.lemmas.Str.Pattern.{strip_prefix_char}
use Rattle.cedar_scripts.specs.ScriptLines.{Command}
use Rattle.cedar_scripts.specs.ScriptTexts.{IsStep, StepsGoOn, step_text}
use Rattle.cedar_scripts.proofs.Adding.{goes_new}
use Rattle.cedar_scripts.proofs.Lending.{begins_otherwise}
use Rattle.cedar_scripts.proofs.sections.begin_step.Goals as goal
use Rattle.cedar_scripts.proofs.sections.begin_step.Goals.{in-Some+in_ok-step-in-Some, in-None+in_ok-step-in-None}

pub step_in_text-requires : goal.step_in_text-requires
step_in_text-requires c = record { text = begins_otherwise 60 c.args.body.now (strip_prefix_char 60 c.args.body.now None c.in-None.ensures.cases (omega arith)) }

pub returns-clause-taken : goal.returns-clause-taken
returns-clause-taken c =
    let old = c.args.steps.now.items in
    let said = Command c.args.verb c.args.body.now in
    let step = c.match-strip_prefix.step in
    let new : map step_text c.push.new.self.items ≡ map step_text old ++ step_text step ∷ [] = ap (map step_text) c.in_ok-push.ensures.items ∙ map-append step_text old (step ∷ []) in
    let here : IsStep c.args.number (said ∷ []) (step_text step) =
    elim c.match-strip_prefix.branch [
      | in-Some+in_ok-step-in-Some w ↦
          let file = strip_prefix_char 60 c.args.body.now (Some w.in-Some.file) w.in-Some.ensures.cases (omega arith) in
          subst (λ s. IsStep c.args.number (said ∷ []) (step_text s)) (sym w.step-is)
          (subst (λ b. IsStep c.args.number (Command c.args.verb b ∷ []) (step_text w.in_ok-step-in-Some.step)) (sym file) w.in_ok-step-in-Some.ensures.step)
      | in-None+in_ok-step-in-None w ↦ subst (λ s. IsStep c.args.number (said ∷ []) (step_text s)) (sym w.step-is) w.in_ok-step-in-None.ensures
    ] in
    subst (λ l. StepsGoOn c.args.number said (map step_text old) l) (sym new) (goes_new c.args.number said (map step_text old) (step_text step) here)
