-- Sets joined by a renaming are what the world's load leaves, and the policies of a text name no unknown.
use Rattle.std.proofs.Common.{◌<◌, ◌^◌, subst}
use Rattle.cedar_held.proofs.Loaded.{loaded, loaded_held}
use Rattle.cedar_held.proofs.loading.load.Goals as goal

pub returns-clause-loaded : goal.returns-clause-loaded
returns-clause-loaded c =
    loaded c.args.set.now c.args.policies.now c.join.new.self c.in_ok-renaming.renaming c.in_ok-ids.ids.items c.in_ok-renaming.ensures c.in_ok-join.ensures.joined c.texts_are_loaded.ensures c.len-mine.ensures.whole c.requires.held
    (subst (λ n. n < 2 ^ 63) c.len-theirs.ensures.len c.len-theirs.ensures.small) c.in_ok-ids.ensures

pub returns-clause-held : goal.returns-clause-held
returns-clause-held c =
    loaded_held c.args.set.now c.args.policies.now c.join.new.self c.in_ok-renaming.renaming c.in_ok-ids.ids.items c.in_ok-renaming.ensures c.in_ok-join.ensures.joined c.requires.held c.requires.text
