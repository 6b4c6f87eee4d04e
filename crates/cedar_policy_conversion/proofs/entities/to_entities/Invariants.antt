-- The entities of the items so far; and what was told, the items show.
use Rattle.std.proofs.Common.{map, take}
use Rattle.std.specs.Prelude.{IfErr}
use Rattle.cedar_grammar.specs.Loose as loose
use Rattle.cedar_grammar.specs.Converting.{each}
use Rattle.cedar_cst.specs.View.{shown_expr}
use Rattle.cedar_faults.specs.Converts.{Finds}
use Rattle.cedar_faults.specs.Telling.{TellsOnly}
use Rattle.cedar_policy_conversion.specs.Entities.{entity}
use Rattle.cedar_policy_conversion.specs.PartsShow.{entities_show}
use Rattle.cedar_policy_conversion.proofs.entities.to_entities.Given as goal

abbrev pub invariant-items : goal.invariant-items
invariant-items g l = record {
  entities : Finds (λ us. us.items) l.uids (each entity (map shown_expr (take l.item-index l.item-items)));
  shown : IfErr l.uids (λ e. TellsOnly e (entities_show (loose.exprs (map shown_expr l.item-items))));
}
