-- The pieces of an answer's line in their order; ids and kinds are listed as in its sets.
use Rattle.std.proofs.Common.{◌≡◌, ◌∙◌, ap, map}
use Rattle.std.specs.FinMap as finite
use Rattle.cedar_frames.specs.Quoting.{quoted}
use Rattle.cedar_world.specs.Lines.{listed, with_kind, ids_listed}
use Rattle.cedar_replies.specs.Lines.{with_name}
use Rattle.cedar_replies.proofs.Lists.{answer_put, map_firsts}
use Rattle.cedar_replies.proofs.ErringIds.{names_are_kinds}
use Rattle.cedar_replies.proofs.lines.put_answer.Goals as goal

pub returns : goal.returns
returns g c =
    let a = c.args.answer.now in
    let name = rw (c.as_bytes.ensures.value, c.decision_text.ensures) at c.put.ensures in
    let must_is : listed (map quoted c.as_slice.result.now) ≡ ids_listed (finite.entries a.must) = ap (λ l. listed (map quoted l)) c.as_slice.ensures ∙ ap listed (map_firsts quoted (finite.entries a.must)) in
    let may_is : listed (map quoted c.as_slice-2.result.now) ≡ ids_listed (finite.entries a.may) = ap (λ l. listed (map quoted l)) c.as_slice-2.ensures ∙ ap listed (map_firsts quoted (finite.entries a.may)) in
    let erring_is : listed (map with_name c.as_slice-3.result.now) ≡ listed (map with_kind (finite.entries a.erring)) =
    ap listed (names_are_kinds c.as_slice-3.result.now c.as_slice-3.ensures.kinds ∙ ap (map with_kind) c.as_slice-3.ensures.entries) in
    answer_put _ _ _ _ _ _ _ _ _ _ _ _ _ _ _ _ _ _ _ (ids_listed (finite.entries a.must)) (ids_listed (finite.entries a.may)) (listed (map with_kind (finite.entries a.erring)))
    name c.put-2.ensures (rw must_is at c.put_ids.ensures) c.put-3.ensures (rw may_is at c.put_ids-2.ensures) c.put-4.ensures (rw erring_is at c.put_erring.ensures) c.put-5.ensures
