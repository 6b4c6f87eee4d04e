-- Told exactly where the name is reserved.
use Rattle.std.proofs.Common.{◌≡◌, ◌++◌, ◌∷◌, [], ◌||◌, false, true, sym, ap, ◌∙◌}
use Rattle.std.proofs.lemmas.Result.{on_ok_weaker}
use Rattle.cedar_schema_grammar.specs.Faults as grammar
use Rattle.cedar_schema_syntax.specs.View.{name_view}
use Rattle.cedar_schema_faults.specs.Views.{faults_view}
use Rattle.cedar_schema_faults.proofs.Declaring.{exactly_where, exactly_not}
use Rattle.cedar_schema_faults.proofs.declarations.tell_reserved_type.Goals as goal

pub returns-then-not-is_reserved : goal.returns-then-not-is_reserved
returns-then-not-is_reserved c = exactly_not (faults_view c.args.told.now) _ _
    (sym (ap (λ b. b || c.is_cedar.result) c.is_built_in_name.ensures
    ∙ ap (λ b. grammar.is_built_in_name (name_view c.args.common.now.own.now) || b) c.is_cedar.ensures)
    ∙ c.if-not-is_reserved.true)

pub returns : goal.returns
returns c = on_ok_weaker c.tell.result
    (λ e. exactly_where (faults_view c.args.told.now) (faults_view c.tell.new.told) _ _
    (sym (ap (λ b. b || c.is_cedar.result) c.is_built_in_name.ensures
    ∙ ap (λ b. grammar.is_built_in_name (name_view c.args.common.now.own.now) || b) c.is_cedar.ensures)
    ∙ c.if-not-is_reserved.false)
    (e ∙ ap (λ n. faults_view c.args.told.now ++ grammar.ReservedName n ∷ []) c.in_ok-name.ensures))
    c.tell.ensures
