-- What is left is put among those that are put.
use Rattle.std.proofs.Common.{◌≡◌, Some, length}
use Rattle.cedar_schema.specs.Types.{named_views}
use Rattle.cedar_schema.specs.Tables.{in_order}
use Rattle.cedar_schema.proofs.Puts.{shown, put_all}
use Rattle.cedar_schema.proofs.tables.attributes_by_name.Given as goal

abbrev pub invariant-loop-name : goal.invariant-loop-name
invariant-loop-name l = record {
  same : in_order (named_views l.fn.typed.items) ≡ put_all (named_views l.left.items) (Some (shown l.by_name.entries));
}

abbrev pub decreases-loop-name : goal.decreases-loop-name
decreases-loop-name l = length l.left.items
