-- What was made of the annotations so far; what was told, the annotations show; and the keys are theirs.
use Rattle.std.proofs.Common.{map, take}
use Rattle.std.specs.Prelude.{IfErr}
use Rattle.cedar_grammar.specs.Build.{keys}
use Rattle.cedar_cst.specs.View.{shown_annotation}
use Rattle.cedar_faults.specs.Telling.{TellsOnly}
use Rattle.cedar_policy_conversion.specs.Notes.{placed_notes, AreMade, Makes}
use Rattle.cedar_policy_conversion.specs.PartsShow.{annotations_show}
use Rattle.cedar_policy_conversion.proofs.NoteKeys.{AreBefore}
use Rattle.cedar_policy_conversion.proofs.annotations.get_ast_annotations.Given as goal

abbrev pub invariant-nodes : goal.invariant-nodes
invariant-nodes g l = record {
  made : Makes (λ done. AreMade (λ v p r. goal.F-post g l.maker v p r) l.notes.entries) l.sound (placed_notes (take l.node-index l.node-items));
  shown : IfErr l.sound (λ e. TellsOnly e (annotations_show (map shown_annotation l.node-items)));
  keys : AreBefore shown_annotation (keys l.notes.entries) l.node-index l.node-items;
}
