-- What is closed under children and has the edited has all that keep one of them (Known).
use Rattle.std.proofs.Common.{ap, ◌∙◌}
use Rattle.std.specs.List.{list_any}
use Rattle.cedar_language.specs.Order.{same_uid}
use Rattle.cedar_entities.specs.Kept.{in_map}
use Rattle.cedar_entities.proofs.Closed.{clones_are_equal}
use Rattle.cedar_entities.proofs.Known.{touched_are}
use Rattle.cedar_entities.proofs.touching.touched_below.Goals as goal

pub that_lead_to-requires : goal.that_lead_to-requires
that_lead_to-requires c = clones_are_equal

pub returns : goal.returns
returns c =
    touched_are (in_map c.args.map.now) c.args.index.now c.args.edited.now.keys c.deref.result.now c.requires.closed c.requires.children
    (λ q. ap (λ us. list_any (same_uid q) us) c.deref.ensures.value ∙ c.in_ok-edited.ensures q)
    (λ v. v.items) c.that_lead_to.result c.that_lead_to.ensures.targets c.that_lead_to.ensures.sources
