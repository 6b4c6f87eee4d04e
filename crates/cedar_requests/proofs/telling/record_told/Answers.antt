-- What is told is written in the places of its unknowns (PutIn), and the record in which it stands is evaluated (ToldRecords).
use Rattle.std.proofs.Common.{◌≡◌, true, sym, subst}
use Rattle.std.specs.Prelude.{None}
use Rattle.cedar_trees.specs.Bare.{bare}
use Rattle.cedar_extensions.specs.Table.{as_table}
use Rattle.cedar_restricted.specs.Views.{borrowed_tree}
use Rattle.cedar_substitution.specs.Typed.{SubstitutesValues, mistyped_in}
use Rattle.cedar_requests.specs.Contexts.{is_record}
use Rattle.cedar_requests.specs.Telling.{IsMistypingOf}
use Rattle.cedar_requests.proofs.PutIn.{stays_restricted, stays_record}
use Rattle.cedar_requests.proofs.ToldRecords.{tells}
use Rattle.cedar_requests.proofs.telling.record_told.Goals as goal

pub new_unchecked-expr-requires : goal.new_unchecked-expr-requires
new_unchecked-expr-requires g c =
    let law = c.written_values_are_restricted.ensures in
    stays_restricted law.written law.ground c.args.told.now.entries (bare c.args.expr.now) (bare c.in_ok-expr.expr) c.requires.restricted c.in_ok-expr.ensures

pub evaluated-requires : goal.evaluated-requires
evaluated-requires g c =
    let law = c.written_values_are_restricted.ensures in
    subst (λ t. is_record t ≡ true) (sym c.new_unchecked-expr.ensures)
    (stays_record law.written law.ground c.args.told.now.entries (bare c.args.expr.now) (bare c.in_ok-expr.expr) c.requires.restricted c.requires.record c.in_ok-expr.ensures)

pub returns : goal.returns
returns g c =
    let told = c.args.told.now.entries in
    let t = bare c.args.expr.now in
    let u = borrowed_tree c.new_unchecked-expr.result in
    let fitting : IsMistypingOf (mistyped_in c.args.told.now.entries (bare c.args.expr.now)) None = rw c.in_default.is at c.in_ok-error.ensures in
    tells (as_table g.F.ExtensionFunctionObject.answers c.args.extensions.now) c.args.depth told t u (subst (SubstitutesValues told t) (sym c.new_unchecked-expr.ensures) c.in_ok-expr.ensures)
    (mistyped_in told t) c.evaluated.result fitting c.evaluated.ensures.meaning c.evaluated.ensures.answer
