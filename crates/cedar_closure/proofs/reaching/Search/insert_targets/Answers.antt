-- One more number to which an edge leads is found.
use Rattle.std.proofs.Common.{◌≡◌, ◌<◌, ◌+◌, ◌∙◌, ℕ, drop, sym, ap, length, nat_eq, slice_index_or, subst, arith}
use Rattle.std.specs.Global.{Vec}
use Rattle.std.specs.Set.{is_member}
use Rattle.std.proofs.lemmas.Cmp.{nat_eq_equiv}
use Rattle.std.proofs.lemmas.Option.{slice_get-get_or}
use Rattle.cedar_closure.specs.Numbers.{HasTarget}
use Rattle.cedar_closure.proofs.Members.{member_at}
use Rattle.cedar_closure.proofs.Numbered.{row_at, drop_at}
use Rattle.cedar_closure.proofs.WholeRows.{goes_on_then, taken_step}
use Rattle.cedar_closure.proofs.reaching.Search.insert_targets.Goals as goal

pub insert-requires-clause-below : goal.insert-requires-clause-below
insert-requires-clause-below c =
    let i = c.loop-number.number-index in
    let ns = c.deref-number-items.result.now in
    let edges = c.args.rows.now.edges.now in
    let here : c.loop-number.number-index < length c.deref-number-items.result.now = omega arith in
    let is = row_at edges c.args.via c.index-rows-via.result c.requires.below c.index-rows-via.is in
    let x = slice_index_or ns i 0 in
    c.requires.rows.within c.args.via x (ap (λ ms. is_member nat_eq ms x) (is ∙ ap (λ (r : Vec ℕ). r.items) c.index-rows-via.is ∙ sym c.deref-number-items.ensures.value) ∙ member_at nat_eq_equiv ns i x (slice_get-get_or ns i 0 here))

pub loop-number-preserved : goal.loop-number-preserved
loop-number-preserved c =
    let i = c.loop-number.number-index in
    let ns = c.deref-number-items.result.now in
    let edges = c.args.rows.now.edges.now in
    let inv = c.loop-number.invariant in
    let made = c.in_ok-insert.ensures in
    let here : c.loop-number.number-index < length c.deref-number-items.result.now = omega arith in
    let is = row_at edges c.args.via c.index-rows-via.result c.requires.below c.index-rows-via.is in
    let x = slice_index_or ns i 0 in
    let target : HasTarget edges c.args.via x = ap (λ ms. is_member nat_eq ms x) (is ∙ ap (λ (r : Vec ℕ). r.items) c.index-rows-via.is ∙ sym c.deref-number-items.ensures.value) ∙ member_at nat_eq_equiv ns i x (slice_get-get_or ns i 0 here) in
    record {
      set = made.set;
      bound = made.bound ∙ inv.bound;
      found = λ q h. taken_step c.loop-number.self.found.members.items c.insert.new.self.found.members.items (drop i ns) (drop (i + 1) ns) x (drop_at ns i here) made.more.kept made.found q (inv.found q h);
      more = goes_on_then edges (λ a. a ≡ c.args.via) (λ a. HasTarget edges a x) c.args.self.now c.loop-number.self c.insert.new.self (λ a e. subst (λ y. HasTarget edges y x) (sym e) target) inv.more made.more;
    }
