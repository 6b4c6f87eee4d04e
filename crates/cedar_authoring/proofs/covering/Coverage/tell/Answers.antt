-- One policy more is told of (Told).
use Rattle.std.proofs.Common.{◌≡◌, ℕ, ◌<◌, ◌≤◌, [], List, length, get_or, string_bytes, ap, subst, arith}
use Rattle.std.proofs.lemmas.List.{take_all}
use Rattle.cedar_authoring.specs.Covering.{TellsCovered}
use Rattle.cedar_messages.specs.Telling.{TellsEach}
use Rattle.cedar_authoring.specs.declared.covering.Seen.{Seen}
use Rattle.cedar_messages.proofs.Told.{TellsEach-more}
use Rattle.cedar_authoring.proofs.covering.Coverage.tell.Goals as goal

pub loop-seen-preserved : goal.loop-seen-preserved
loop-seen-preserved c =
    let all : List Seen = c.args.self.now.seen.items in
    let i : ℕ = c.loop-seen.seen-index in
    let s : Seen = c.seen-item.result in
    let are : c.deref-seen-items.result.now ≡ all = c.deref-seen-items.ensures.value in
    let within : i < length all = omega (arith, ap length are) in
    let is : s ≡ get_or all i s = cc in
    TellsEach-more TellsCovered [] all i s (string_bytes c.loop-seen.told) (string_bytes c.tell.new.told) within is c.loop-seen.invariant c.in_ok-tell.ensures

pub returns : goal.returns
returns c =
    let all : List Seen = c.args.self.now.seen.items in
    let are : c.deref-seen-items.result.now ≡ all = c.deref-seen-items.ensures.value in
    let past : length all ≤ c.loop-seen.seen-index = omega (arith, ap length are) in
    let P : List Seen → Type 0 = λ ss. TellsEach TellsCovered ss (string_bytes c.loop-seen.told) in
    subst P (take_all c.loop-seen.seen-index all past) c.loop-seen.invariant
