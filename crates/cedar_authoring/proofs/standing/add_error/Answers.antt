-- It is put under the id of the policy that errs (KeptByIds).
use Rattle.std.proofs.Common.{ap, ◌∙◌, ◌||◌}
use Rattle.cedar_language.specs.Order.{same_text}
use Rattle.cedar_authoring.specs.Standing.{is_in}
use Rattle.cedar_authoring.proofs.KeptByIds.{put_more}
use Rattle.cedar_authoring.proofs.standing.add_error.Goals as goal

pub returns : goal.returns
returns c = λ q.
    let old = c.args.by_id.now in
    let named = c.in_ok-copy_of.ensures ∙ c.parts_of.ensures in
    ap (is_in q) c.in_ok-insert.ensures.put ∙ (put_more old _ _ q ∙ ap (λ i. is_in q old || same_text q i) named)
