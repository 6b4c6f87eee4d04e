-- Where the kinds differ they decide; kinds that are one hold one sort of thing, and what is held decides.
use Rattle.std.proofs.Common.{◌≡◌, ◌∙◌, rules}
use Rattle.std.specs.declared.cmp.Ordering.TheVariants.{Equal}
use Rattle.std.specs.Ordering.{nat_cmp}
use Rattle.cedar_trees.specs.Bare.{bare_kind}
use Rattle.cedar_shapes.specs.ShapeOrder.{mark, kind_number}
use Rattle.cedar_shapes.proofs.MarkOrder.{kinds_less, kinds_greater, one_sort, what_is_held}
use Rattle.cedar_shapes.proofs.marks.cmp_marks.Goals as goal

pub returns-in-Less : goal.returns-in-Less
returns-in-Less g c = kinds_less (mark (bare_kind c.args.a.now)) (mark (bare_kind c.args.b.now)) (search rules)

pub returns-in-Greater : goal.returns-in-Greater
returns-in-Greater g c = kinds_greater (mark (bare_kind c.args.a.now)) (mark (bare_kind c.args.b.now)) (search rules)

pub cmp_held-requires : goal.cmp_held-requires
cmp_held-requires g c =
    let same : nat_cmp (kind_number (bare_kind c.args.a.now)) (kind_number (bare_kind c.args.b.now)) ≡ Equal = search rules in
    let sorts = one_sort (mark (bare_kind c.args.a.now)) (mark (bare_kind c.args.b.now)) same in
    search (rules, sorts)

pub returns-in-Equal : goal.returns-in-Equal
returns-in-Equal g c =
    let same : nat_cmp (kind_number (bare_kind c.args.a.now)) (kind_number (bare_kind c.args.b.now)) ≡ Equal = search rules in
    c.cmp_held.ensures ∙ what_is_held (mark (bare_kind c.args.a.now)) (mark (bare_kind c.args.b.now)) same c.held_by.result c.held_by-in-Equal.result c.held_by.ensures.node c.held_by-in-Equal.ensures.node
