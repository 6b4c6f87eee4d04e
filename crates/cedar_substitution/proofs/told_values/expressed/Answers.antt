-- No name is told twice, so what is gathered under a name stays what writes its value.
use Rattle.std.proofs.Common.{◌∙◌, subst, sym}
use Rattle.std.specs.List.{IsDistinct}
use Rattle.std.specs.Map.{keys_of}
use Rattle.std.specs.Rc.{rc_str_bytes}
use Rattle.cedar_substitution.proofs.Lookups.{same_key, looked_up, keeps_texts, distinct_texts}
use Rattle.cedar_substitution.proofs.Telling.{AreGathered, apart_keys, gathers_none, gathers_more, all_gathered}
use Rattle.cedar_substitution.proofs.told_values.expressed.Goals as goal
use Rattle.cedar_substitution.proofs.told_values.expressed.Goals.{In_ok-insert}

pub loop-name-init : goal.loop-name-init
loop-name-init c =
    let gives = c.into_iter-name-iterator.ensures.into_iter_gives in
    (tt, tt, gathers_none _ _ _ gives.0 c.new-exprs.ensures.empty, subst (λ r. IsDistinct same_key (keys_of r)) (sym gives.0) (distinct_texts _ gives.5))

more : (c : In_ok-insert) → AreGathered c.next.new.self c.args.told.now.entries c.insert.new.self.entries × IsDistinct same_key (keys_of c.next.new.self)
more c =
    let key = c.in_ok-clone.field-0 in
    let put = c.in_ok-insert.ensures.updates in (
      gathers_more c.loop-name.name-iterator _ c.args.told.now.entries c.in-Some.name.now key c.in-Some.value.now c.in_ok-expr.expr c.loop-name.exprs.entries c.insert.new.self.entries c.in-Some.ensures.steps c.in_ok-clone.ensures.cases c.loop-name.invariant.3 c.in_ok-expr.ensures
          (sym (looked_up (rc_str_bytes key) c.insert.new.self.entries) ∙ put.1) (keeps_texts key _ _ put.3) c.loop-name.invariant.2,
      (apart_keys _ _ (subst (λ r. IsDistinct same_key (keys_of r)) c.in-Some.ensures.steps c.loop-name.invariant.3)).1,
    )

pub loop-name-preserved : goal.loop-name-preserved
loop-name-preserved c = let kept = more (goal.at.loop-name-preserved c).In_ok-insert in (tt, tt, kept.0, kept.1)

pub loop-name-preserved-in_ok-insert : goal.loop-name-preserved-in_ok-insert
loop-name-preserved-in_ok-insert c = let kept = more (goal.at.loop-name-preserved-in_ok-insert c).In_ok-insert in (tt, tt, kept.0, kept.1)

pub returns : goal.returns
returns c = all_gathered c.loop-name.name-iterator c.args.told.now.entries c.loop-name.exprs.entries c.in-None.ensures.steps.0 c.loop-name.invariant.2
