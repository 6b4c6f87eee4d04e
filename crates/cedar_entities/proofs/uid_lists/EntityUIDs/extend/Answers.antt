-- A few that are put in their places stand beside those that were there (Inserted).
use Rattle.std.proofs.Common.{ap, ◌∙◌}
use Rattle.std.specs.FinSet as set
use Rattle.std.proofs.lemmas.Result.{on_ok_weaker}
use Rattle.cedar_entities.proofs.Inserted.{joined_set}
use Rattle.cedar_entities.proofs.uid_lists.EntityUIDs.extend.Goals as goal

pub returns-then-len-le-SHORT-clause-added : goal.returns-then-len-le-SHORT-clause-added
returns-then-len-le-SHORT-clause-added c =
    let old = c.self.inside.uids.items in
    let us = c.args.uids.items in
    on_ok_weaker c.insert_each_in_turn.result
    (λ h. joined_set old c.insert_each_in_turn.new.list.items us h ∙ ap (λ s. set.union s (set.from_list us)) c.self.view_is)
    c.insert_each_in_turn.ensures.added
