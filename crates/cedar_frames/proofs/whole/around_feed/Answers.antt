-- No byte that was passed is a line feed.
use Rattle.std.proofs.Common.{◌≡◌, ◌<◌, ◌∷◌, ◌++◌, ◌+◌, ◌-◌, take, drop, length, get_or, arith, subst, le_of_lt, length-take-le}
use Rattle.std.proofs.lemmas.List.{take_more}
use Rattle.cedar_frames.proofs.Heads.{lacks_more, parted_at}
use Rattle.cedar_frames.proofs.whole.around_feed.Goals as goal

pub loop-at-preserved : goal.loop-at-preserved
loop-at-preserved c =
    let xs = c.args.bytes.now in
    let i = c.loop-at.at in
    let within : i < length xs = omega arith in
    rw (take_more xs i 0 within) (lacks_more 10 (take i xs) (get_or xs i 0) c.loop-at.invariant c.if-bytes-at-eq10.false)

pub returns-then-bytes-at-eq10-clause-found : goal.returns-then-bytes-at-eq10-clause-found
returns-then-bytes-at-eq10-clause-found c =
    let xs = c.args.bytes.now in
    let i = c.loop-at.at in
    let within : i < length xs = omega arith in
    let feed : get_or xs i 0 ≡ 10 = c.if-bytes-at-eq10.true in (
      subst (λ b. xs ≡ take i xs ++ b ∷ take (length xs - (i + 1)) (drop (i + 1) xs)) feed (parted_at xs i within),
      c.loop-at.invariant,
      omega (arith, length-take-le i xs (le_of_lt within)),
    )
