-- Told exactly where the test is true.
use Rattle.std.proofs.Common.{◌≡◌, ◌++◌, ◌∷◌, [], ◌||◌, false, true, sym, ap, ◌∙◌}
use Rattle.std.specs.Prelude.{map}
use Rattle.std.proofs.lemmas.Result.{on_ok_weaker}
use Rattle.cedar_schema_grammar.specs.Faults as grammar
use Rattle.cedar_schema_faults.specs.Views.{faults_view}
use Rattle.cedar_schema_faults.proofs.Declaring.{exactly_where, exactly_not, empty_mapped}
use Rattle.cedar_schema_faults.proofs.declarations.tell_action_type.Goals as goal

pub returns-then-not-is_of_actions : goal.returns-then-not-is_of_actions
returns-then-not-is_of_actions c = exactly_not (faults_view c.args.told.now) _ _ (sym (c.is_action-is_of_actions.ensures) ∙ c.if-not-is_of_actions.true)

pub returns : goal.returns
returns c = on_ok_weaker c.tell.result
    (λ e. exactly_where (faults_view c.args.told.now) (faults_view c.tell.new.told) _ _ (sym (c.is_action-is_of_actions.ensures) ∙ c.if-not-is_of_actions.false)
    (e ∙ ap (λ n. faults_view c.args.told.now ++ grammar.ActionEntityTypeDeclared n ∷ []) c.in_ok-name.ensures))
    c.tell.ensures
