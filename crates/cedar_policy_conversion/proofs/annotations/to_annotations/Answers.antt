-- The own maker keeps the text of each value, or the empty one, so what it makes are the annotations.
use Rattle.std.proofs.Common.{map, sym, ap, ◌∙◌, Some, rules}
use Rattle.cedar_cst.specs.View.{shown_annotation}
use Rattle.cedar_faults.specs.Reasons.{reason}
use Rattle.cedar_policy_conversion.specs.Notes.{notes_of, placed_notes}
use Rattle.cedar_policy_conversion.proofs.Gathering.{lacks_more, passed}
use Rattle.cedar_policy_conversion.proofs.OwnNotes.{own_found, none_own}
use Rattle.cedar_policy_conversion.proofs.annotations.to_annotations.Goals as goal

pub returns-in_err-made-clause-annotations : goal.returns-in_err-made-clause-annotations
returns-in_err-made-clause-annotations g c =
    let ns = c.args.nodes.now.items in
    let e = c.in_err-made.field-0.0 in
    passed (λ annotations. annotations) c.from_residual.result e (notes_of (map shown_annotation ns)) c.from_residual.ensures (lacks_more (reason e) (placed_notes ns) (notes_of (map shown_annotation ns)) (none_own ns) c.in_err-made.ensures.made)

pub returns-clause-annotations : goal.returns-clause-annotations
returns-clause-annotations g c =
    let made = c.in_ok-made.ensures.made in
    own_found _ (λ v p m k. search rules) c.args.nodes.now.items c.in_ok-made.made.entries made.value made.is made.stands ∙ ap Some (sym c.from.ensures)
