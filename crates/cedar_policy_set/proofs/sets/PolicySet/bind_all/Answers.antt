-- Ids that are apart from those that are bound go to the end, and the caller says that the whole is a set.
use Rattle.cedar_policy_set.proofs.Edits.{apart, append_is, sound_append, counts_append, covers_append}
use Rattle.cedar_policy_set.proofs.sets.PolicySet.bind_all.Goals as goal

pub append-requires : goal.append-requires
append-requires c = apart _ _ _ c.self.view_is c.requires.whole

pub invariant_of-self-2 : goal.invariant_of-self-2
invariant_of-self-2 c =
    record {
      sound = sound_append _ _ _ c.self.view_is c.self.invariant.sound _ c.requires.whole c.in_ok-append.ensures.appended c.requires.named c.requires.listed;
      counts = counts_append _ _ _ c.self.view_is c.self.invariant.sound _ c.requires.whole c.in_ok-append.ensures.appended _ c.self.invariant.counts;
      covers = covers_append _ _ _ c.self.view_is c.self.invariant.sound _ c.requires.whole c.in_ok-append.ensures.appended _ c.self.invariant.covers;
    }

pub returns-clause-appended : goal.returns-clause-appended
returns-clause-appended c = append_is _ _ _ c.self.view_is c.self.invariant.sound _ c.requires.whole c.in_ok-append.ensures.appended
