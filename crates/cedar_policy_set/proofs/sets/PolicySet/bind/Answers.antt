-- A free id is bound at the end, and the set stays whole.
use Rattle.cedar_policy_set.proofs.Edits.{absent, bind_is, sound_bind, counts_bind, covers_bind}
use Rattle.cedar_policy_set.proofs.sets.PolicySet.bind.Goals as goal

pub push-requires : goal.push-requires
push-requires c = absent _ _ c.self.view_is _ c.requires.free

pub invariant_of-self-2 : goal.invariant_of-self-2
invariant_of-self-2 c =
    record {
      sound = sound_bind _ _ _ c.self.view_is c.self.invariant.sound _ _ c.requires.free c.in_ok-push.ensures.pushed c.requires.named c.requires.listed c.requires.template c.requires.full;
      counts = counts_bind _ _ _ c.self.view_is c.self.invariant.sound _ _ c.requires.free c.in_ok-push.ensures.pushed _ c.self.invariant.counts;
      covers = covers_bind _ _ _ c.self.view_is c.self.invariant.sound _ _ c.requires.free c.in_ok-push.ensures.pushed _ c.self.invariant.covers;
    }

pub returns-clause-bound : goal.returns-clause-bound
returns-clause-bound c = bind_is _ _ _ c.self.view_is c.self.invariant.sound _ _ c.requires.free c.in_ok-push.ensures.pushed
