-- A row of numbers stands for what the key of its number reaches (Numbered), and the first numbers stand for the listed keys (Finding).
use Rattle.std.proofs.Common.{◌≡◌, ◌≤◌, ◌<◌, ◌+◌, ◌∷◌, [], ◌++◌, Some, IsTrue, refl, sym, ap, ◌∙◌, inl, inr, drop, take, length, slice_get, nat_eq, arith, subst, true≢false}
use Rattle.std.proofs.Math.ListN.{drop_of_length-le}
use Rattle.std.specs.Set.{is_member}
use Rattle.std.proofs.lemmas.Bool.{or_cases}
use Rattle.std.proofs.lemmas.List.{length-set}
use Rattle.std.proofs.lemmas.Option.{slice_get_read}
use Rattle.cedar_closure.specs.Graph.{edges_at, edges_of}
use Rattle.cedar_closure.specs.Found.{finds}
use Rattle.cedar_closure.specs.Numbering.{is_numbered}
use Rattle.cedar_closure.specs.declared.closing.Reached.{Reached}
use Rattle.cedar_closure.proofs.NodeLemmas.{edges_alike}
use Rattle.cedar_closure.proofs.Finding.{FindsNoMore, FindsBut, finds_no_more, finds_but}
use Rattle.cedar_closure.proofs.Numbered.{IsReachedAt, row_is, row_at, reached_below, reached_past, take_at, take_front, drop_here, longer}
use Rattle.cedar_closure.proofs.closing.reached_from_each.Goals as goal

pub keys_at-requires-clause-below : goal.keys_at-requires-clause-below
keys_at-requires-clause-below g c = λ q h.
    let num = c.in_ok-numbering.ensures in
    let edges = c.in_ok-numbering.numbering.edges.items in
    let rows = c.loop-number.rows.items in
    let count : length c.loop-number.rows.items ≡ c.len-count.result = c.loop-number.invariant.count in
    let below : c.loop-number.number < length c.loop-number.rows.items = omega arith in
    let reached : IsReachedAt edges rows c.loop-number.number = c.loop-number.invariant.reached c.loop-number.number (omega arith) below in
    let row = row_at rows c.loop-number.number c.index.result.now below c.index.ensures ∙ sym c.deref-in-loop-number-2.ensures.value in
    subst (λ ks. q < length ks) (sym c.deref-in-loop-number.ensures.value)
    (subst (λ n. q < n) num.lengths (reached_below edges rows num.within c.loop-number.number reached q (ap (λ ns. is_member nat_eq ns q) row ∙ h)))

pub loop-number-preserved : goal.loop-number-preserved
loop-number-preserved g c =
    let eq = g.K.PartialEq.eq in
    let laws = g.met.K.Eq.laws in
    let node = edges_of g.V.TCNode.direct g.V.TCNode.edges c.args.only_direct in
    let next = edges_at node (g.G.TCGraph.found c.args.nodes.now) in
    let same = edges_alike node (g.G.TCGraph.found c.args.nodes.now) eq (g.met.G.TCGraph.alike c.args.nodes.now) in
    let num = c.in_ok-numbering.ensures in
    let keys = c.in_ok-numbering.numbering.keys.items in
    let edges = c.in_ok-numbering.numbering.edges.items in
    let rows = c.loop-number.rows.items in
    let first = c.in_ok-first.first.keys.items in
    let all = c.loop-number.all.items in
    let i = c.loop-number.number in
    let n = c.len-count.result in
    let x = c.index-in-loop-number.result.now in
    let r : Reached g.row.K.Denot = record { from = c.in_ok-from.from; keys = c.in_ok-keys.keys } in
    let clone : IsTrue (eq x c.in_ok-from.from) = c.requires x c.in_ok-from.from c.in_ok-from.ensures.cases in
    let count : length c.loop-number.rows.items ≡ c.len-count.result = c.loop-number.invariant.count in
    let below : c.loop-number.number < length c.loop-number.rows.items = omega arith in
    let reached : IsReachedAt edges rows c.loop-number.number = c.loop-number.invariant.reached c.loop-number.number (omega arith) below in
    let firsts : c.len-count.result ≡ length c.in_ok-first.first.keys.items = c.len-count.ensures.len in
    let more : length c.in_ok-first.first.keys.items ≤ length c.in_ok-numbering.numbering.keys.items = longer first num.more keys num.cut in
    let inside : c.loop-number.number < length c.in_ok-numbering.numbering.keys.items = omega arith in
    let here : slice_get keys i ≡ Some x = slice_get_read keys (length keys) i x refl inside c.index-in-loop-number.ensures in
    let at : slice_get (take n keys) i ≡ Some x = take_at keys first num.more n i x num.cut firsts c.loop-number-test.true here in
    let row = c.deref-in-loop-number-2.ensures.value ∙ sym (row_at rows i c.index.result.now below c.index.ensures) in
    let is = row_is laws next same keys edges num.lengths num.within num.follows rows i reached x here c.in_ok-keys.keys.items
    (λ q. c.in_ok-keys.ensures q ∙ ap (λ ks. is_numbered eq ks c.deref-in-loop-number-2.result.now q) c.deref-in-loop-number.ensures.value ∙ ap (λ ns. is_numbered eq keys ns q) row) in
    let pushed : c.push.new.self.items ≡ all ++ r ∷ [] = c.in_ok-push.ensures.items in
    record {
      sound = subst (FindsNoMore eq next (take n keys)) (sym pushed) (finds_no_more laws next same (take n keys) all r x clone is i at c.loop-number.invariant.sound);
      whole = subst (λ rs. FindsBut eq next (take n keys) rs (drop (i + 1) (take n keys))) (sym pushed)
          (finds_but laws next same (take n keys) all r x clone is (drop (i + 1) (take n keys)) (subst (FindsBut eq next (take n keys) all) (drop_here (take n keys) i x at) c.loop-number.invariant.whole));
      count = length-set rows i _ ∙ c.loop-number.invariant.count;
      reached = reached_past edges rows i _ c.loop-number.invariant.reached;
    }

pub returns : goal.returns
returns g c =
    let eq = g.K.PartialEq.eq in
    let num = c.in_ok-numbering.ensures in
    let keys = c.in_ok-numbering.numbering.keys.items in
    let first = c.in_ok-first.first.keys.items in
    let n = c.len-count.result in
    let i = c.loop-number.number in
    let front : take n keys ≡ first = take_front keys first num.more n num.cut c.len-count.ensures.len in
    let long : length (take n keys) ≡ c.len-count.result = ap length front ∙ sym c.len-count.ensures.len in
    let past : length (take n keys) ≤ i = omega arith in
    record {
      sound = λ a q h. let s = c.loop-number.invariant.sound a q h in (sym (c.in_ok-first.ensures.keys a) ∙ sym (ap (λ xs. is_member eq xs a) front) ∙ s.0, s.1);
      whole = λ a q l r. elim (or_cases (finds eq c.loop-number.all.items a q) (is_member eq (drop i (take n keys)) a) (c.loop-number.invariant.whole a q (ap (λ xs. is_member eq xs a) front ∙ c.in_ok-first.ensures.keys a ∙ l) r)) [
        | inl k ↦ k
        | inr k ↦ absurd (true≢false (sym k ∙ ap (λ xs. is_member eq xs a) (drop_of_length-le (take n keys) past)))
      ];
    }
