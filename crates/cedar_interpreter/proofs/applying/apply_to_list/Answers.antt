-- A call, and the set or the record as an answer.
use Rattle.std.proofs.Common.{◌∙◌, ap, sym, map, subst}
use Rattle.cedar_language.specs.Order.{all_of}
use Rattle.std.specs.Prelude.{None}
use Rattle.cedar_grammar.specs.Build.{trees}
use Rattle.cedar_trees.specs.Bare.{bare, bare_kind}
use Rattle.cedar_trees.proofs.Bares.{bare_is, bare-ExtensionFunctionApp}
use Rattle.cedar_extensions.specs.Table.{as_table}
use Rattle.cedar_partial_evaluation.specs.Question.{name_held}
use Rattle.cedar_restricted_evaluation.specs.Findings.{Calls}
use Rattle.cedar_interpreter.specs.Holding.{value_told}
use Rattle.cedar_interpreter.specs.Meeting.{MeetsAt}
use Rattle.cedar_interpreter.specs.Operating.{applied_in}
use Rattle.cedar_interpreter.proofs.Called.{call_operates}
use Rattle.cedar_interpreter.proofs.Operated.{operated_values}
use Rattle.cedar_interpreter.proofs.applying.apply_to_list.Goals as goal

pub returns-in-ExtensionFunctionApp : goal.returns-in-ExtensionFunctionApp
returns-in-ExtensionFunctionApp g c = λ facts functions holds told.
    let table = as_table g.F.ExtensionFunctionObject.answers c.args.extensions.now in
    let name = c.in-ExtensionFunctionApp.fn_name in
    call_operates facts table holds (λ n. name_held (value_told c.args.told n) n None) (bare c.args.expr.now) name (trees (map bare c.in-ExtensionFunctionApp.args.value.items)) (all_of c.args.values.items) c.named.result
    (bare_is _ c.args.expr.now ∙ ap bare_kind c.in-ExtensionFunctionApp.is ∙ bare-ExtensionFunctionApp _ name c.in-ExtensionFunctionApp.args)
    functions told (c.named.ensures table name (all_of c.args.values.items) (subst (λ vs. Calls table name (all_of vs) c.call-answer.result) c.deref.ensures.value c.call-answer.ensures))

pub returns-in_default : goal.returns-in_default
returns-in_default g c = λ facts functions holds told.
    let table = as_table g.F.ExtensionFunctionObject.answers c.args.extensions.now in
    subst (λ b. MeetsAt ⊥ b c.known.result) (sym (operated_values facts table.has_unknown holds (bare c.args.expr.now) (all_of c.args.values.items) c.requires.list c.collected.ensures.other))
    (c.known.ensures (applied_in facts (bare c.args.expr.now) (all_of c.args.values.items)) (c.collected.ensures.found facts))
