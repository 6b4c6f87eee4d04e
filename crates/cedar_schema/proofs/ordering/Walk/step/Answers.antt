-- An edge back to the path closes a cycle, and any other leads on from all of the path.
use Rattle.std.proofs.Common.{◌≡◌, ◌<◌, ◌∙◌, ℕ, length, slice_index, slice_index_or, false, sym, ap, subst, arith}
use Rattle.cedar_language.specs.Facts.{Reaches}
use Rattle.cedar_schema.specs.Orders.{HasTarget}
use Rattle.cedar_schema.specs.declared.ordering.Walk.{Walk}
use Rattle.cedar_schema.proofs.Walking.{mark_read, path_leads, closes}
use Rattle.cedar_schema.proofs.ordering.Walk.step.Goals as goal

pub index-requires : goal.index-requires
index-requires c =
    let low : c.in-Some.target < length c.args.self.now.edges.now = c.requires.within c.args.top c.in-Some.target c.in-Some.ensures.target.0 in
    let same : length c.next_target.new.self.edges.now ≡ length c.args.self.now.edges.now = ap (λ (v : Walk). length v.edges.now) c.in-Some.ensures.same in
    let count : length c.next_target.new.self.is_seen.items ≡ length c.next_target.new.self.edges.now = c.in-Some.ensures.walk.seen_count in
    let full : c.next_target.new.self.is_seen.len ≡ length c.next_target.new.self.is_seen.items = c.next_target.new.self.is_seen.ok.0 in
    omega arith

pub enter-requires-clause-below : goal.enter-requires-clause-below
enter-requires-clause-below c =
    let low : c.in-Some.target < length c.args.self.now.edges.now = c.requires.within c.args.top c.in-Some.target c.in-Some.ensures.target.0 in
    let same : length c.next_target.new.self.edges.now ≡ length c.args.self.now.edges.now = ap (λ (v : Walk). length v.edges.now) c.in-Some.ensures.same in
    omega arith

pub enter-requires-clause-leads : goal.enter-requires-clause-leads
enter-requires-clause-leads c =
    subst (λ (v : Walk). (k : ℕ) → k < length v.path.items → Reaches (HasTarget v.edges.now) (slice_index v.path.items k) c.in-Some.target) (sym c.in-Some.ensures.same)
    (path_leads c.args.self.now c.requires.walk c.args.top c.requires.some c.requires.top c.in-Some.target c.in-Some.ensures.target.0)

pub returns-in-Some-clause-cycle : goal.returns-in-Some-clause-cycle
returns-in-Some-clause-cycle c =
    let w = c.args.self.now in
    let new = c.next_target.new.self in
    let t = c.in-Some.target in
    let low : c.in-Some.target < length c.args.self.now.edges.now = c.requires.within c.args.top c.in-Some.target c.in-Some.ensures.target.0 in
    let same : length c.next_target.new.self.edges.now ≡ length c.args.self.now.edges.now = ap (λ (v : Walk). length v.edges.now) c.in-Some.ensures.same in
    let count : length c.next_target.new.self.is_seen.items ≡ length c.next_target.new.self.edges.now = c.in-Some.ensures.walk.seen_count in
    let here : c.in-Some.target < length c.next_target.new.self.is_seen.items = omega arith in
    let seen = ap (λ (v : Walk). slice_index_or v.is_seen.items t false) (sym c.in-Some.ensures.same)
    ∙ mark_read new.is_seen.items t c.index.result.now here c.index.ensures ∙ c.if-index.true in
    closes w c.requires.walk c.args.top c.requires.some c.requires.top t c.in-Some.ensures.target.0 seen c.in-Some.ensures.target.1
