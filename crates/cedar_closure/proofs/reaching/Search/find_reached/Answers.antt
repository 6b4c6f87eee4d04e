-- Where nothing is pending, all is found.
use Rattle.std.proofs.Common.{◌≡◌, ◌≤◌, ◌<◌, ◌+◌, length, refl, ap, ◌∙◌, subst, arith}
use Rattle.std.proofs.lemmas.List.{length_push}
use Rattle.std.proofs.lemmas.Map.Steps.{length-le_from_distinct_below}
use Rattle.cedar_closure.proofs.NumberSets.{member_below}
use Rattle.cedar_closure.proofs.WholeRows.{way_goes_on, way_ends, pending_below, nothing_left}
use Rattle.cedar_closure.proofs.reaching.Search.find_reached.Goals as goal

pub insert_targets-requires-clause-below : goal.insert_targets-requires-clause-below
insert_targets-requires-clause-below c =
    let s = c.loop-via.self in
    let edges = c.args.rows.now.edges.now in
    let inv = c.loop-via.invariant in
    pending_below edges c.args.from c.in-Some.via (length edges) s c.pop.new.self.items inv.way c.in-Some.ensures.items c.requires.from_below
    (λ q h. subst (λ n. q < n) inv.bound (member_below s.found inv.set q h))

pub loop-via-smaller : goal.loop-via-smaller
loop-via-smaller c =
    let inv = c.loop-via.invariant in
    let found = c.insert_targets.new.self.found in
    let made = c.in_ok-insert_targets.ensures in
    let popped : length c.loop-via.self.pending.items ≡ length c.pop.new.self.items + 1 = ap length c.in-Some.ensures.items ∙ length_push c.pop.new.self.items c.in-Some.via in
    let fewer : length c.insert_targets.new.self.pending.items + length c.loop-via.self.found.members.items ≤ length c.pop.new.self.items + length c.insert_targets.new.self.found.members.items = made.more.fewer in
    let most : length c.insert_targets.new.self.found.members.items ≤ length c.insert_targets.new.self.found.is_member.items =
    length-le_from_distinct_below found.members.items (length found.is_member.items) made.set.distinct (member_below found made.set) in
    let same : length c.insert_targets.new.self.found.is_member.items ≡ length c.args.rows.now.edges.now = made.bound ∙ inv.bound in
    omega arith

pub loop-via-preserved : goal.loop-via-preserved
loop-via-preserved c =
    let inv = c.loop-via.invariant in
    let made = c.in_ok-insert_targets.ensures in
    record {
      set = made.set;
      bound = made.bound ∙ inv.bound;
      way = way_goes_on c.args.rows.now.edges.now c.args.from c.loop-via.self _ c.insert_targets.new.self c.in-Some.via refl c.in-Some.ensures.items made.more made.found inv.way;
    }

pub returns-clause-reached : goal.returns-clause-reached
returns-clause-reached c =
    let s = c.loop-via.self in
    let full : c.loop-via.self.pending.len ≡ length c.loop-via.self.pending.items = c.loop-via.self.pending.ok.0 in
    let zero : c.loop-via.self.pending.len ≡ 0 = c.in_default.ensures.cases.0 in
    way_ends c.args.rows.now.edges.now c.args.from s (nothing_left s.pending.items (omega arith)) c.loop-via.invariant.way
