-- One more row is known, or isn't asked for.
use Rattle.std.proofs.Common.{◌≤◌, ◌<◌, ◌+◌, ◌↔◌, IsTrue, false, length, drop, nat_eq, slice_index_or, ap, ◌∙◌, subst, arith}
use Rattle.std.specs.Set.{is_member}
use Rattle.std.proofs.Math.ListN.{drop_of_length-le}
use Rattle.cedar_language.specs.Facts.{Reaches}
use Rattle.cedar_closure.specs.Numbers.{HasTarget, numbers_at}
use Rattle.cedar_closure.proofs.Numbered.{drop_here}
use Rattle.cedar_closure.proofs.WholeRows.{known_step, known_end}
use Rattle.cedar_closure.proofs.reaching.reached_by_each.Goals as goal

pub loop-index-preserved : goal.loop-index-preserved
loop-index-preserved c =
    let inv = c.loop-index.invariant in
    let i = c.loop-index.index in
    let xs = c.in_ok-order.order.members.items in
    let x = c.member-number.result in
    let cut = drop_here xs i x c.member-number.ensures.value in
    let set = c.set.ensures in
    let made = c.in_ok-find_reached.ensures in
    record {
      set = c.clear.ensures.set;
      none_found = c.clear.ensures.empty;
      none_pending = made.none_pending;
      bound = c.clear.ensures.bound ∙ made.bound ∙ inv.bound;
      rows = set.rows;
      edges = set.edges ∙ inv.edges;
      count = set.count ∙ inv.count;
      known = λ a below. known_step c.loop-index.rows.is_known.items c.set.new.self.is_known.items (drop i xs) (drop (i + 1) xs) x a cut set.kept (λ e. ap (λ n. slice_index_or c.set.new.self.is_known.items n false) e ∙ set.known) (inv.known a below);
    }

pub returns-clause-reached : goal.returns-clause-reached
returns-clause-reached c = λ a below b.
    let inv = c.loop-index.invariant in
    let xs = c.in_ok-order.order.members.items in
    let past : length c.in_ok-order.order.members.items ≤ c.loop-index.index = omega arith in
    let known = known_end c.loop-index.rows.is_known.items (drop c.loop-index.index xs) a (drop_of_length-le xs past) (inv.known a (subst (λ n. a < n) inv.count below)) in
    subst (λ es. IsTrue (is_member nat_eq (numbers_at c.loop-index.rows.rows.items a) b) ↔ Reaches (HasTarget es) a b) inv.edges (inv.rows.reached a known b)
