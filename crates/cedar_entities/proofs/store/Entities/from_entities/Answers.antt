-- An empty store finds nothing at each uid.
use Rattle.std.proofs.Common.{◌≡◌, subst, option_map, IfOk}
use Rattle.cedar_entities.specs.Held.{held_of}
use Rattle.cedar_entities.specs.Store.{is_partial_store, AddsAs, Adds}
use Rattle.cedar_entities.proofs.store.Entities.from_entities.Goals as goal

pub returns-clause-edited : goal.returns-clause-edited
returns-clause-edited c = subst (λ f. AddsAs c.args.tc_computation f c.args.entities.items c.add_entities.result) (λ i uid. c.new.ensures.found uid i) c.add_entities.ensures.edited

pub returns-clause-added : goal.returns-clause-added
returns-clause-added c = λ now plain. subst (λ h. Adds h c.args.entities.items c.add_entities.result) (λ i uid. option_map held_of (c.new.ensures.found uid i)) (c.add_entities.ensures.added now c.new.ensures.closed plain)

pub returns-clause-partial : goal.returns-clause-partial
returns-clause-partial c = subst (λ b. IfOk c.add_entities.result (λ store. is_partial_store store ≡ b)) c.new.ensures.partial c.add_entities.ensures.partial
