-- A list of one uid has it alone.
use Rattle.std.proofs.Common.{◌∷◌, [], ◌++◌, ap, ◌∙◌}
use Rattle.std.specs.FinSet as set
use Rattle.std.proofs.lemmas.Result.{on_ok_weaker}
use Rattle.cedar_language.specs.Order.{uid_cmp}
use Rattle.cedar_entities.proofs.UidSets.{one_more}
use Rattle.cedar_entities.proofs.uid_lists.EntityUIDs.insert.Goals as goal

pub returns-clause-added : goal.returns-clause-added
returns-clause-added c = on_ok_weaker c.extend.result
    (λ is. is ∙ ap (λ us. set.union c.args.self.now (set.from_list {R = uid_cmp} us)) (c.in_ok-push.ensures.items ∙ ap (λ us. us ++ c.args.uid ∷ []) c.new-uids.ensures.items) ∙ one_more c.args.self.now c.args.uid)
    c.extend.ensures.added
