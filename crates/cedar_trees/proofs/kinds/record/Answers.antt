-- The entries that the pairs make are those of the record, and its bare tree is made of them.
use Rattle.std.proofs.Common.{◌∙◌, ap, sym}
use Rattle.std.specs.Prelude.{Ok}
use Rattle.cedar_trees.specs.Bare.{bare_entries, record_tree}
use Rattle.cedar_trees.proofs.Bares.{bare-Record}
use Rattle.cedar_trees.proofs.Records.{record_from}
use Rattle.cedar_trees.proofs.kinds.record.Goals as goal

pub returns : goal.returns
returns g c =
    record_from (bare_entries c.args.pairs.items) (bare_entries c.in_ok-entries.entries.entries) c.in_ok-entries.ensures
    ∙ ap (λ m. Ok (record_tree (bare_entries m.entries))) (sym c.in_ok-new.ensures.ok)
    ∙ ap Ok (sym (bare-Record g.row.T.Denot c.in_ok-new.field-0))
