-- The tree of a record's construct is the record of its entries, which a copy shares.
use Rattle.std.proofs.Common.{rules, ◌≡◌, ◌∙◌, ap}
use Rattle.cedar_trees.specs.Bare.{bare, bare_kind, bare_entries, record_tree}
use Rattle.cedar_trees.proofs.Bares.{bare_is, bare-Record}
use Rattle.cedar_requests.proofs.evaluating.entries_of.Goals as goal

pub returns : goal.returns
returns c =
    let is : bare c.args.expr.now ≡ record_tree (bare_entries c.in-Record.entries.value.entries) = bare_is (Unit {0}) c.args.expr.now ∙ ap bare_kind c.in-Record.is ∙ bare-Record (Unit {0}) c.in-Record.entries in
    search rules
