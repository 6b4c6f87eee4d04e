-- The source is one of the numbers.
use Rattle.std.proofs.Common.{◌≡◌, ◌<◌, ◌∙◌, ℕ, sym, ap, length, slice_index_or, subst, arith}
use Rattle.std.specs.Global.{Vec}
use Rattle.std.proofs.lemmas.List.{length-set}
use Rattle.cedar_closure.specs.Numbers.{AreWithin}
use Rattle.cedar_closure.proofs.Numbered.{within_pushed}
use Rattle.cedar_closure.proofs.ordering.add_source.Goals.{then-target-len+in_ok-push, else-target-len}
use Rattle.cedar_closure.proofs.ordering.add_source.Goals as goal

pub loop-target-preserved : goal.loop-target-preserved
loop-target-preserved c =
    let inv = c.loop-target.invariant in
    let x = slice_index_or c.args.targets.now c.loop-target.target-index 0 in
    let old = c.loop-target.sources.items in
    elim c.if-target-len.branch [
      | then-target-len+in_ok-push w ↦
          let same : length c.loop-target.sources.items ≡ length c.args.sources.now.items = inv.count in
          let full : c.loop-target.sources.len ≡ length c.loop-target.sources.items = c.loop-target.sources.ok.0 in
          let from : c.args.from < length c.args.sources.now.items = c.requires.from_below in
          let below : slice_index_or c.args.targets.now c.loop-target.target-index 0 < length c.loop-target.sources.items = omega arith in
          let inside : c.args.from < length c.loop-target.sources.items = omega arith in
          let is = ap (λ (v : Vec (Vec ℕ)). v.items) w.sources-is in
          record {
            within = subst AreWithin (sym is) (within_pushed old x c.args.from w.index_mut.result.now w.push.new.self below inside w.index_mut.ensures.value w.in_ok-push.ensures.items inv.within);
            count = ap length is ∙ length-set old x w.push.new.self ∙ inv.count;
          }
      | else-target-len w ↦
          let is = ap (λ (v : Vec (Vec ℕ)). v.items) w.sources-is in
          record {
            within = subst AreWithin (sym is) inv.within;
            count = ap length is ∙ inv.count;
          }
    ]
