-- A record that is made of restricted entries is restricted; a repeated key is refused as among their trees.
use Rattle.std.proofs.Common.{◌≡◌, ◌∙◌, ap, sym}
use Rattle.std.specs.Prelude.{Ok}
use Rattle.cedar_trees.specs.Bare.{bare}
use Rattle.cedar_trees.specs.Records.{record_made}
use Rattle.cedar_restricted.specs.Views.{restricted_entries}
use Rattle.cedar_restricted.proofs.Making.{record_is_restricted}
use Rattle.cedar_restricted.proofs.restricted.RestrictedExpr.record.Goals as goal

pub invariant_of-result : goal.invariant_of-result
invariant_of-result c =
    let made : record_made (restricted_entries c.args.pairs.items) ≡ Ok (bare c.in_ok-record.field-0) = ap record_made (sym c.in_ok-pairs.ensures) ∙ c.in_ok-record.ensures in
    record { restricted = record_is_restricted c.args.pairs.items (bare c.in_ok-record.field-0) made }

pub returns : goal.returns
returns c = ap record_made (sym c.in_ok-pairs.ensures) ∙ c.in_ok-record.ensures
