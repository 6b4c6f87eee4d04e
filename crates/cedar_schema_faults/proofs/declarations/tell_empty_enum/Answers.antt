-- Told exactly where the test is true.
use Rattle.std.proofs.Common.{◌≡◌, ◌==◌, length, ◌++◌, ◌∷◌, [], ◌||◌, false, true, sym, ap, ◌∙◌}
use Rattle.std.specs.Prelude.{map}
use Rattle.std.proofs.lemmas.Result.{on_ok_weaker}
use Rattle.std.specs.Rc.{rc_str_bytes}
use Rattle.cedar_schema_grammar.specs.Faults as grammar
use Rattle.cedar_schema_faults.specs.Views.{faults_view}
use Rattle.cedar_schema_faults.proofs.Declaring.{exactly_where, exactly_not, empty_mapped}
use Rattle.cedar_schema_faults.proofs.declarations.tell_empty_enum.Goals as goal

pub returns-then-not-is_empty : goal.returns-then-not-is_empty
returns-then-not-is_empty c = exactly_not (faults_view c.args.told.now) _ _ (sym (c.is_empty-is_empty.ensures
    ∙ ap (λ xs. (length xs == 0)) c.as_slice-ids.ensures.value ∙ empty_mapped rc_str_bytes c.args.listed.now.ids.items) ∙ c.if-not-is_empty.true)

pub returns : goal.returns
returns c = on_ok_weaker c.tell.result
    (λ e. exactly_where (faults_view c.args.told.now) (faults_view c.tell.new.told) _ _ (sym (c.is_empty-is_empty.ensures
    ∙ ap (λ xs. (length xs == 0)) c.as_slice-ids.ensures.value ∙ empty_mapped rc_str_bytes c.args.listed.now.ids.items) ∙ c.if-not-is_empty.false)
    (e ∙ ap (λ n. faults_view c.args.told.now ++ grammar.EmptyEnum n ∷ []) c.in_ok-name.ensures))
    c.tell.ensures
