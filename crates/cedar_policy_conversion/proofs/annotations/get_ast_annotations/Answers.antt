-- What is made of the annotations before a place, and then of the one there, is made of those before the next.
use Rattle.std.proofs.Common.{◌⊎◌, ◌∷◌, [], ◌++◌, map, take, sym, ap, ◌∙◌, subst}
use Rattle.std.proofs.lemmas.List.{take_more}
use Rattle.cedar_grammar.specs.Build.{keys}
use Rattle.cedar_cst.specs.View.{shown_annotation}
use Rattle.cedar_policy_conversion.specs.Notes.{placed_notes, AreMade, Makes}
use Rattle.cedar_policy_conversion.specs.PartsShow.{annotation_shows, again_shows, annotations_show}
use Rattle.cedar_policy_conversion.proofs.NoteKeys.{more_keys, all_show}
use Rattle.cedar_policy_conversion.proofs.Ordering.{notes_more}
use Rattle.cedar_policy_conversion.proofs.Showing.{told_or}
use Rattle.cedar_policy_conversion.proofs.annotations.get_ast_annotations.Goals as goal

pub nodes-preserved : goal.nodes-preserved
nodes-preserved g c =
    let nodes = c.deref-node-items.result.now in
    let i = c.nodes.node-index in
    let x = c.node-item.result in
    let ks = keys c.nodes.notes.entries in
    let cut = take_more nodes i x c.nodes-test.true ∙ ap (λ n. take i nodes ++ n ∷ []) (sym c.node-item.is) in
    record {
      made = subst (Makes (λ done. AreMade (λ v p r. goal.F-post g c.args.maker v p r) c.insert_next-sound.new.notes.entries) c.insert_next-sound.result)
          (sym (ap placed_notes cut ∙ notes_more (take i nodes) x))
          (c.insert_next-sound.ensures.made (placed_notes (take i nodes)) c.nodes.invariant.made);
      shown = told_or c.nodes.sound c.insert_next-sound.result (annotations_show (map shown_annotation nodes)) (λ k. annotation_shows (shown_annotation x) k ⊎ again_shows ks (shown_annotation x) k) c.nodes.invariant.shown c.insert_next-sound.ensures.told
          (all_show shown_annotation nodes i x c.nodes-test.true c.node-item.is ks c.nodes.invariant.keys);
      keys = λ k h. more_keys shown_annotation nodes i x ks cut c.nodes.invariant.keys k (c.insert_next-sound.ensures.keys k h);
    }
