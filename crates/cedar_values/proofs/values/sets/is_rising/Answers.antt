-- Where each is below the next, it is below all that follow, and where one isn't, the values don't rise.
use Rattle.std.proofs.Common.{◌≡◌, ◌∙◌, ◌-◌, suc, arith, refl, sym, ap, subst, true≢false, is_lt, get_or}
use Rattle.cedar_values.proofs.Sets.{rises, below_after}
use Rattle.cedar_values.proofs.values.sets.is_rising.Goals as goal

pub returns : goal.returns
returns c = (λ _. rises c.args.values.now (λ k d l. c.loop-at.invariant k d (omega (arith, l))), λ _. refl)

pub returns-then-not-is_lt : goal.returns-then-not-is_lt
returns-then-not-is_lt c = (
  λ t. absurd (true≢false (sym t)),
  λ s.
      let vs = c.args.values.now in
      let next : suc (c.loop-at.at - 1) ≡ c.loop-at.at = omega arith in
      let also = subst (λ k. c.index-values-at-in-loop-at.result ≡ get_or vs k c.index-values-at-in-loop-at.result) (sym next) c.index-values-at-in-loop-at.is in
      let below = below_after vs s (c.loop-at.at - 1) c.index-values-at.result c.index-values-at-in-loop-at.result (omega arith) c.index-values-at.is also in
      absurd (true≢false (sym (ap is_lt (c.cmp.ensures ∙ below)) ∙ sym c.is_lt.ensures ∙ c.if-not-is_lt.true)),
)
