-- Those whose keys stand again are told.
use Rattle.std.proofs.Common.{◌≡◌, ◌++◌, sym, ap, ◌∙◌}
use Rattle.std.specs.Prelude.{map}
use Rattle.std.proofs.lemmas.Result.{on_ok_weaker}
use Rattle.cedar_language.specs.Order.{same_text, text_cmp}
use Rattle.std.specs.Cmp.Lexicographic.{texts_ties, nat_list_eq_equiv}
use Rattle.cedar_schema_grammar.specs.Faults as grammar
use Rattle.cedar_schema_faults.proofs.Keying.{names_are}
use Rattle.cedar_schema_grammar.specs.Faults.{repeated}
use Rattle.cedar_schema_faults.specs.Views.{faults_view}
use Rattle.cedar_schema_faults.proofs.Keying.{repeated_faults}
use Rattle.cedar_schema_faults.proofs.duplicates.tell_duplicate_attributes.Goals as goal

pub returns : goal.returns
returns c = on_ok_weaker c.tell_repeated.result
    (λ e. e ∙ ap (λ fs. faults_view c.args.told.now ++ fs) (repeated_faults grammar.DuplicateAttribute text_cmp same_text (λ x y. sym (texts_ties y x)
    ∙ nat_list_eq_equiv.symm y x) _ c.in_ok-keyed.keyed.items c.in_ok-keyed.ensures)
    ∙ ap (λ ks. faults_view c.args.told.now ++ map grammar.DuplicateAttribute (repeated same_text ks)) (names_are c.args.attributes.now))
    c.tell_repeated.ensures
