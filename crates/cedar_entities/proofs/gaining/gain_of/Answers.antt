-- What the parents and those kept of them are is what the entity reaches (GainedEdges).
use Rattle.std.proofs.Common.{◌&&◌, not, sym, ap, subst, ◌∙◌}
use Rattle.std.specs.FinSet as set
use Rattle.cedar_entities.specs.Gaining.{put_one}
use Rattle.cedar_entities.specs.Held.{IsAncestor}
use Rattle.cedar_entities.specs.Kept.{in_map, held_in, kept_at}
use Rattle.cedar_entities.proofs.GainedEdges.{above_is}
use Rattle.cedar_entities.proofs.gaining.gain_of.Goals as goal

pub returns-then-contains-clause-refused : goal.returns-then-contains-clause-refused
returns-then-contains-clause-refused c =
    let found = in_map c.args.map.now in
    let e = c.args.entity.now in
    let above = c.in_ok-above.above in
    let itself = sym (c.contains.ensures ∙ ap (set.contains above) c.uid-at.ensures) ∙ c.if-contains.true in
    subst (λ v. IsAncestor (held_in (put_one found e)) v v) (sym (c.in_ok-vertex_with_loop.ensures ∙ c.uid-at.ensures))
    ((above_is found e c.requires.closed c.requires.keeps above c.in_ok-above.ensures e.uid).0 itself)

pub returns-clause-gain : goal.returns-clause-gain
returns-clause-gain c =
    let found = in_map c.args.map.now in
    let e = c.args.entity.now in
    let above = c.in_ok-above.above in
    record {
      keeps = c.requires.keeps;
      above = above_is found e c.requires.closed c.requires.keeps above c.in_ok-above.ensures;
      acyclic = sym (c.contains.ensures ∙ ap (set.contains above) c.uid-at.ensures) ∙ c.if-contains.false;
      more = λ q. c.in_ok-more.ensures q ∙ ap (λ u. set.contains above q && not (set.contains (kept_at found u) q)) c.uid-at.ensures;
    }
