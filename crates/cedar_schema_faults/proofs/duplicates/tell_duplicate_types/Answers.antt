-- Those whose keys stand again are told.
use Rattle.std.proofs.Common.{◌≡◌, ◌++◌, sym, ap, ◌∙◌}
use Rattle.std.specs.Prelude.{map}
use Rattle.std.proofs.lemmas.Result.{on_ok_weaker}
use Rattle.cedar_language.specs.Order.{same_name, name_cmp}
use Rattle.cedar_names.specs.Laws.{same_name_equiv, name_cmp_ties}
use Rattle.cedar_schema_grammar.specs.Faults as grammar
use Rattle.cedar_schema_faults.specs.Views.{faults_view}
use Rattle.cedar_schema_faults.proofs.Keying.{repeated_faults}
use Rattle.cedar_schema_faults.proofs.duplicates.tell_duplicate_types.Goals as goal

pub returns : goal.returns
returns c = on_ok_weaker c.tell_repeated.result
    (λ e. e ∙ ap (λ fs. faults_view c.args.told.now
    ++ fs) (repeated_faults grammar.DuplicateCommonType name_cmp same_name (λ x y. sym (name_cmp_ties y x)
    ∙ same_name_equiv.symm y x) _ c.in_ok-keyed.keyed.items c.in_ok-keyed.ensures))
    c.tell_repeated.ensures
