-- What is gathered grows by the one entity that the unknown stands for.
use Rattle.std.proofs.Common.{◌≡◌, ◌||◌, sym, ap, subst, ◌∙◌, Option, IfSome}
use Rattle.std.specs.List.{list_any}
use Rattle.std.specs.BTreeSet.{contains}
use Rattle.cedar_language.specs.Order.{uid_cmp, same_uid}
use Rattle.cedar_language.specs.Uid.{Uid}
use Rattle.cedar_trees.specs.Unknowns.{unknown_name, unknown_type}
use Rattle.cedar_policies.specs.Unknowns.{IsWrittenUid, stands_for, stands_for_found}
use Rattle.cedar_policies.proofs.Standing.{turn_found, written_more}
use Rattle.cedar_policies.proofs.unknowns.gather_entities.Goals as goal

pub loop-unknown-preserved-in_ok-insert : goal.loop-unknown-preserved-in_ok-insert
loop-unknown-preserved-in_ok-insert c =
    let v = c.in-Some-2.uid in
    let x = c.in-Some.unknown.now in
    let read : IsWrittenUid v = subst (λ (o : Option Uid). IfSome o IsWrittenUid) c.in-Some-2.is c.in_ok-uid.ensures.written in
    record {
      stand = λ u ok.
          let held = contains uid_cmp c.loop-unknown.uids u in
          let same : same_uid v u ≡ stands_for (unknown_name x, unknown_type x) u = ap (λ o. stands_for_found o u) (sym c.in-Some-2.is) ∙ c.in_ok-uid.ensures.stands u ok in
          turn_found v u held _ _ _ _ (c.in_ok-insert.ensures.updates.0 u) same (ap (λ xs. held || list_any (λ y. stands_for y u) xs) (sym c.in-Some.ensures.steps) ∙ c.loop-unknown.invariant.stand u ok);
      written = λ u. written_more v u (contains uid_cmp c.loop-unknown.uids u) _ (c.in_ok-insert.ensures.updates.0 u) read (c.loop-unknown.invariant.written u);
    }
