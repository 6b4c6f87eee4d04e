-- Uids that are equal by the test are one.
use Rattle.std.proofs.Common.{◌∙◌}
use Rattle.cedar_language.specs.Order.{same_uid}
use Rattle.cedar_entities.proofs.UidLemmas.{same_entity, other_entity}
use Rattle.cedar_entities.proofs.entity.Entity.deep_eq.Goals as goal

pub returns-then-eq : goal.returns-then-eq
returns-then-eq c =
    same_entity c.args.self.now c.args.other.now c.eq.result c.is_version_of.result (c.eq.ensures ∙ (λ i. same_uid (c.self.view_is i).uid (c.other.view_is i).uid)) c.if-eq.true c.is_version_of.ensures

pub returns-else-eq : goal.returns-else-eq
returns-else-eq c = other_entity c.args.self.now c.args.other.now c.eq.result (c.eq.ensures ∙ (λ i. same_uid (c.self.view_is i).uid (c.other.view_is i).uid)) c.if-eq.false
