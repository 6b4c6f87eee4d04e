-- What an edge that is followed leads to is done.
use Rattle.std.proofs.Common.{slice_index_or, false, true, sym, ap, ◌≡◌, ◌∙◌, subst}
use Rattle.cedar_schema.specs.Orders.{AreWithin}
use Rattle.cedar_schema.specs.declared.ordering.Walk.{Walk}
use Rattle.cedar_schema.proofs.Walking.{mark_read}
use Rattle.cedar_schema.proofs.ordering.Walk.next_target.Goals as goal

pub following_target-target-requires-clause-within : goal.following_target-target-requires-clause-within
following_target-target-requires-clause-within c = subst AreWithin (sym (ap (λ (v : Walk). v.edges.now) c.loop-self.invariant.same)) c.requires.within

pub follow-requires-clause-done : goal.follow-requires-clause-done
follow-requires-clause-done c =
    let w = c.loop-self.self in
    let found = c.following_target-target in
    subst (λ t. slice_index_or w.is_done.items t false ≡ true) (sym found.ensures.place)
    (mark_read w.is_done.items found.result c.index-in-loop-self.result.now found.ensures.below c.index-in-loop-self.ensures ∙ c.if-not-index.false)
