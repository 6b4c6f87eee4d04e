-- Without an id that no link names the set stays whole, and is covered as far as it was.
use Rattle.std.proofs.Common.{ap, sym, ◌∙◌}
use Rattle.std.specs.Option.{option_map}
use Rattle.cedar_policy_set.specs.Bounds.{entry_of}
use Rattle.cedar_policy_set.specs.Entries.{bound_at}
use Rattle.cedar_policy_set.proofs.Edits.{without_is, sound_without, counts_gone, covers_gone}
use Rattle.cedar_policy_set.proofs.Uncovering.{covers_taken, covers_absent}
use Rattle.cedar_policy_set.proofs.Views.{found_entry, taken_named}
use Rattle.cedar_policy_set.proofs.sets.PolicySet.take_away.Goals as goal

pub invariant_of-self : goal.invariant_of-self
invariant_of-self c =
    let es = c.self.inside.bound in
    record {
      sound = sound_without _ _ _ c.self.view_is c.self.invariant.sound _ c.shift_remove_full.ensures.entries c.shift_remove_full.ensures.unique c.requires;
      counts = counts_gone _ _ _ c.self.view_is c.self.invariant.sound _ c.shift_remove_full.ensures.entries _ _ c.take_away.ensures c.self.invariant.counts;
      covers = covers_gone _ _ _ c.self.view_is c.self.invariant.sound _ c.shift_remove_full.ensures.entries _
          (covers_absent es c.args.id.now c.self.inside.scopes c.self.invariant.covers c.in-None.ensures.position);
    }

pub invariant_of-self-in-Some : goal.invariant_of-self-in-Some
invariant_of-self-in-Some c =
    let es = c.self.inside.bound in
    let x = c.self.inside.scopes in
    let covers = covers_taken es c.args.id.now x c.self.invariant.covers c.in-Some.position c.take_out.new.self c.in-Some.ensures.position
    c.take_out.ensures.within c.take_out.ensures.fewer c.take_out.ensures.kept in
    record {
      sound = sound_without _ _ _ c.self.view_is c.self.invariant.sound _ c.shift_remove_full.ensures.entries c.shift_remove_full.ensures.unique c.requires;
      counts = counts_gone _ _ _ c.self.view_is c.self.invariant.sound _ c.shift_remove_full.ensures.entries _ _ c.take_away.ensures c.self.invariant.counts;
      covers = covers_gone _ _ _ c.self.view_is c.self.invariant.sound _ c.shift_remove_full.ensures.entries _ covers;
    }

pub returns-in-None-clause-removed : goal.returns-in-None-clause-removed
returns-in-None-clause-removed c = without_is _ _ _ c.self.view_is c.self.invariant.sound _ c.shift_remove_full.ensures.entries

pub returns-in-Some-clause-removed : goal.returns-in-Some-clause-removed
returns-in-Some-clause-removed c = without_is _ _ _ c.self.view_is c.self.invariant.sound _ c.shift_remove_full.ensures.entries

pub returns-in-None-clause-entry : goal.returns-in-None-clause-entry
returns-in-None-clause-entry c = ap (option_map entry_of) c.in-None.ensures.value ∙ sym (found_entry c.self.inside.bound c.args.id.now)
    ∙ ap (λ es. bound_at es c.args.id.now) c.self.view_is

pub returns-in-Some-clause-entry : goal.returns-in-Some-clause-entry
returns-in-Some-clause-entry c = ap (option_map entry_of) c.in-Some.ensures.value ∙ sym (found_entry c.self.inside.bound c.args.id.now)
    ∙ ap (λ es. bound_at es c.args.id.now) c.self.view_is

pub returns-in-Some-clause-id : goal.returns-in-Some-clause-id
returns-in-Some-clause-id c = taken_named c.self.inside.bound c.self.invariant.sound.named c.args.id.now _ c.in-Some.ensures.value
