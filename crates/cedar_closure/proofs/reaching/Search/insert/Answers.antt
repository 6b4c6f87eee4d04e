-- A number is found together with its row, or is pending.
use Rattle.std.proofs.Common.{◌≡◌, ◌<◌, ◌↔◌, ◌∙◌, ℕ, IsTrue, true, false, sym, refl, ap, length, nat_eq, slice_index_or, subst, arith}
use Rattle.std.specs.Set.{is_member}
use Rattle.cedar_language.specs.Facts.{Reaches}
use Rattle.cedar_closure.specs.Numbers.{HasTarget}
use Rattle.cedar_closure.proofs.NumberSets.{mark_read}
use Rattle.cedar_closure.proofs.Numbered.{row_at}
use Rattle.cedar_closure.proofs.Search.{Reaches-last}
use Rattle.cedar_closure.proofs.WholeRows.{goes_on_whole, goes_on_pending, not_true}
use Rattle.cedar_closure.proofs.reaching.Search.insert.Goals as goal

pub insert_all-requires-clause-below : goal.insert_all-requires-clause-below
insert_all-requires-clause-below c = λ q h.
    let rows = c.args.rows.now in
    let n = c.args.number in
    let marks : length c.args.rows.now.is_known.items ≡ length c.args.rows.now.edges.now = c.requires.rows.marks in
    let low : c.args.number < length c.args.rows.now.edges.now = c.requires.below in
    let marked : c.args.number < length c.args.rows.now.is_known.items = omega arith in
    let known : slice_index_or rows.is_known.items n false ≡ true = mark_read rows.is_known.items n c.index.result.now marked c.index.ensures ∙ c.if-index.true in
    let is = row_at rows.rows.items n c.index-then-index.result.now (c.requires.rows.below n known) c.index-then-index.ensures in
    let last = Reaches-last ((c.requires.rows.reached n known q).0 (ap (λ ns. is_member nat_eq ns q) (is ∙ sym c.deref.ensures.value) ∙ h)) in
    let inside : q < length c.args.rows.now.edges.now = c.requires.rows.within last.0 q last.1 in
    let bound : length c.insert.new.self.is_member.items ≡ length c.args.self.now.found.is_member.items = c.in_ok-insert.ensures.bound in
    let same : length c.args.self.now.found.is_member.items ≡ length c.args.rows.now.edges.now = c.requires.bound in
    omega arith

pub returns-in_ok-insert_all-clause-more : goal.returns-in_ok-insert_all-clause-more
returns-in_ok-insert_all-clause-more c =
    let rows = c.args.rows.now in
    let n = c.args.number in
    let marks : length c.args.rows.now.is_known.items ≡ length c.args.rows.now.edges.now = c.requires.rows.marks in
    let low : c.args.number < length c.args.rows.now.edges.now = c.requires.below in
    let marked : c.args.number < length c.args.rows.now.is_known.items = omega arith in
    let known : slice_index_or rows.is_known.items n false ≡ true = mark_read rows.is_known.items n c.index.result.now marked c.index.ensures ∙ c.if-index.true in
    let is = row_at rows.rows.items n c.index-then-index.result.now (c.requires.rows.below n known) c.index-then-index.ensures in
    let reached : (q : ℕ) → IsTrue (is_member nat_eq c.deref.result.now q) ↔ Reaches (HasTarget rows.edges.now) n q = λ q.
    subst (λ ns. IsTrue (is_member nat_eq ns q) ↔ Reaches (HasTarget rows.edges.now) n q) (is ∙ sym c.deref.ensures.value) (c.requires.rows.reached n known q) in
    goes_on_whole rows.edges.now c.args.self.now _ c.insert.new.self.members.items c.deref.result.now c.in_ok-insert.ensures.behind.0 c.in_ok-insert_all.ensures.behind.0 n
    c.in_ok-insert.ensures.union c.in_ok-insert_all.ensures.union c.in_ok-insert.ensures.behind.1 c.in_ok-insert_all.ensures.behind.1 refl reached

pub returns-in_ok-push-clause-more : goal.returns-in_ok-push-clause-more
returns-in_ok-push-clause-more c =
    goes_on_pending c.args.rows.now.edges.now c.args.self.now _ c.in_ok-insert.ensures.behind.0 c.args.number
    c.in_ok-insert.ensures.union c.in_ok-insert.ensures.behind.1 c.in_ok-push.ensures.items
    (not_true (is_member nat_eq c.args.self.now.found.members.items c.args.number) c.in_ok-insert.field-0 c.in_ok-insert.ensures.added c.if-not-branch.false)
