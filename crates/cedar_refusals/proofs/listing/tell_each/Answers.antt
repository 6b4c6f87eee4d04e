-- One policy more is told of (Told).
use Rattle.std.proofs.Common.{[], ◌≤◌, List, length, string_bytes, subst, arith}
use Rattle.std.proofs.lemmas.List.{take_all}
use Rattle.cedar_language.specs.Uid.{Text}
use Rattle.cedar_refusals.specs.Checks.{TellsPolicy}
use Rattle.cedar_messages.specs.Telling.{TellsEach}
use Rattle.cedar_messages.proofs.Told.{TellsEach-more}
use Rattle.cedar_refusals.proofs.listing.tell_each.Goals as goal

pub loop-id-preserved : goal.loop-id-preserved
loop-id-preserved c =
    TellsEach-more (TellsPolicy c.args.name.now) [] c.args.ids.now c.loop-id.id-index c.id-item.result (string_bytes c.loop-id.told) (string_bytes c.tell_policy.new.told)
    (omega arith) c.id-item.is c.loop-id.invariant c.in_ok-tell_policy.ensures

pub returns : goal.returns
returns c =
    let past : length c.args.ids.now ≤ c.loop-id.id-index = omega arith in
    let P : List Text → Type 0 = λ ids. TellsEach (TellsPolicy c.args.name.now) ids (string_bytes c.loop-id.told) in
    subst P (take_all c.loop-id.id-index c.args.ids.now past) c.loop-id.invariant
