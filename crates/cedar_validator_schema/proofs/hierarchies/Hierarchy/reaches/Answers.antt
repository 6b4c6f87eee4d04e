-- A search that follows the edges of all that it sees ends with what is reached.
use Rattle.std.proofs.Common.{◌≡◌, ◌+◌, ◌≤◌, length, true, sym, ap, ◌∙◌, subst, arith}
use Rattle.std.specs.Prelude.{◌↔◌}
use Rattle.std.specs.BTreeSet.{contains}
use Rattle.cedar_language.specs.Facts.{Reaches}
use Rattle.std.proofs.lemmas.List.{length_push}
use Rattle.cedar_validator_schema.specs.Hierarchies.{Leads}
use Rattle.cedar_validator_schema.specs.Searches.{SeesMore}
use Rattle.cedar_validator_schema.proofs.Found.{all_targets, found_first, found_more, not_more, found_all, none_left}
use Rattle.cedar_validator_schema.proofs.hierarchies.Hierarchy.reaches.Goals as goal

pub loop-via-init : goal.loop-via-init
loop-via-init g c =
    let eq = g.K.PartialEq.eq in
    let cmp = g.K.Ord.cmp in
    record {
      found = found_first eq cmp c.args.self.now c.args.from.now c.new-search.result c.see_all.new.self c.new-search.ensures
          (subst (λ ks. SeesMore eq cmp ks c.new-search.result c.see_all.new.self) c.targets_of.ensures c.in_ok-see_all.ensures);
    }

pub loop-via-preserved : goal.loop-via-preserved
loop-via-preserved g c =
    let eq = g.K.PartialEq.eq in
    let cmp = g.K.Ord.cmp in
    record {
      found = found_more eq cmp c.args.self.now c.args.from.now g.met.K.Eq.laws c.requires.same c.loop-via.search c.next.new.self
          c.see_all-in-Some.new.self c.in-Some.via c.loop-via.invariant.found c.next.ensures.seen c.in-Some.ensures.some
          (subst (λ ks. SeesMore eq cmp ks c.next.new.self c.see_all-in-Some.new.self) c.targets_of-in-Some.ensures c.in_ok-see_all-2.ensures);
    }

pub loop-via-smaller : goal.loop-via-smaller
loop-via-smaller g c =
    let eq = g.K.PartialEq.eq in
    let cmp = g.K.Ord.cmp in
    let more = subst (λ ks. SeesMore eq cmp ks c.next.new.self c.see_all-in-Some.new.self) c.targets_of-in-Some.ensures c.in_ok-see_all-2.ensures in
    let found = found_more eq cmp c.args.self.now c.args.from.now g.met.K.Eq.laws c.requires.same c.loop-via.search c.next.new.self
    c.see_all-in-Some.new.self c.in-Some.via c.loop-via.invariant.found c.next.ensures.seen c.in-Some.ensures.some more in
    let popped : length c.loop-via.search.pending.items ≡ length c.next.new.self.pending.items + 1
    = ap length c.in-Some.ensures.some ∙ length_push c.next.new.self.pending.items c.in-Some.via in
    let same : length c.next.new.self.seen.keys ≡ length c.loop-via.search.seen.keys = ap (λ x. length x.keys) c.next.ensures.seen in
    let as_many : length c.see_all-in-Some.new.self.pending.items + length c.next.new.self.seen.keys
    ≡ length c.next.new.self.pending.items + length c.see_all-in-Some.new.self.seen.keys = more.as_many in
    let most : length c.see_all-in-Some.new.self.seen.keys ≤ length (all_targets c.args.self.now.targets.entries)
    = not_more eq cmp c.args.self.now c.args.from.now g.met.K.Eq.laws g.met.K.Ord.matches_eq c.see_all-in-Some.new.self found in
    omega arith

pub returns : goal.returns
returns g c =
    let eq = g.K.PartialEq.eq in
    let cmp = g.K.Ord.cmp in
    let h = c.args.self.now in
    let s = c.loop-via.search in
    subst (λ b. (b ≡ true) ↔ Reaches (Leads eq cmp h) c.args.from.now c.args.to.now)
    (sym (c.has_seen.ensures ∙ ap (λ x. contains cmp x c.args.to.now) c.next.ensures.seen))
    (found_all eq cmp h c.args.from.now s c.loop-via.invariant.found (none_left c.next.result c.next.ensures.none c.in_default.not-Some) c.args.to.now)
