use Rattle.std.proofs.Common.{◌≡◌, Some, true, false, string_bytes, refl, sym, ap, subst, ◌∙◌, length, ◌==◌, [], ◌∷◌, ◌++◌}
use Rattle.cedar_scripts.specs.declared.fault.ScriptFault.TheVariants.{NoAnswer, SecondAnswer}
use Rattle.cedar_scripts.specs.ScriptLines.{Answer, is_blank}
use Rattle.cedar_scripts.specs.ScriptFaults.{CannotStand}
use Rattle.cedar_scripts.specs.ScriptTexts.{IsStep, step_text}
use Rattle.cedar_scripts.proofs.Adding.{step_answer}
use Rattle.cedar_scripts.proofs.Lending.{last_is, step_changes, match_some, match_none, none_of}
use Rattle.cedar_scripts.proofs.sections.expect_answer.Goals as goal

pub returns-then-is_some-clause-fault : goal.returns-then-is_some-clause-fault
returns-then-is_some-clause-fault c =
    let step = c.in-Some.step.now in
    let last = last_is c.args.steps.now.items c.args.steps.now.len step c.args.steps.now.ok.0 c.in-Some.ensures.item.3.0 c.in-Some.ensures.value in
    let why = match_some string_bytes step.expected _ _ (sym c.if-is_some.ensures) refl in
    (refl, subst (λ l. CannotStand l (Answer c.args.words.now) SecondAnswer) (sym last) why)

pub returns-then-is_empty-clause-fault : goal.returns-then-is_empty-clause-fault
returns-then-is_empty-clause-fault c =
    let step = c.in-Some.step.now in
    let last = last_is c.args.steps.now.items c.args.steps.now.len step c.args.steps.now.ok.0 c.in-Some.ensures.item.3.0 c.in-Some.ensures.value in
    let blank : is_blank c.args.words.now ≡ true = ap (λ t. length t == 0) (sym c.trim-expected.ensures.trim) ∙ sym c.if-is_empty.ensures in
    let why = match_none string_bytes step.expected _ _ (sym c.if-is_some.ensures) (refl, blank) in
    (refl, subst (λ l. CannotStand l (Answer c.args.words.now) NoAnswer) (sym last) why)

pub returns-clause-taken : goal.returns-clause-taken
returns-clause-taken c =
    let step = c.in-Some.step.now in
    let none = none_of string_bytes step.expected (sym c.if-is_some.ensures) in
    let filled : is_blank c.args.words.now ≡ false = ap (λ t. length t == 0) (sym c.trim-expected.ensures.trim) ∙ sym c.if-is_empty.ensures in
    let words = c.in_ok-from_str.ensures.ok ∙ c.trim-expected.ensures.trim in
    step_changes c.args.number (Answer c.args.words.now) c.args.steps.now.items c.args.steps.now.len step _ c.args.steps.now.ok.0 c.in-Some.ensures.item.3.0 c.in-Some.ensures.value
    (λ n own _ h.
    subst (λ w. IsStep n (own ++ Answer c.args.words.now ∷ []) (record (step_text step) { expected = Some w })) (sym words) (step_answer n own (step_text step) c.args.words.now none filled h))
