-- As ref_of does, of a word that stands as an identifier.
use Rattle.std.proofs.Common.{sym}
use Rattle.std.proofs.lemmas.Result.{err_from_is_err_and}
use Rattle.cedar_grammar.specs.Steps.{word_read}
use Rattle.cedar_grammar.specs.Loose as loose
use Rattle.cedar_grammar.specs.LooseReading.{mapped, needed, whole}
use Rattle.cedar_cst.specs.LeafView.{shown_ident}
use Rattle.cedar_loose.proofs.Loops.{first_fails}
use Rattle.cedar_loose.proofs.Limits.{all_read, not_all_read}
use Rattle.cedar_loose.proofs.parse.ident_of.Goals as goal

pub returns-in_err-tree : goal.returns-in_err-tree
returns-in_err-tree c =
    let p = err_from_is_err_and c.from_residual.result c.from_residual.ensures.1 in
    rw (p.1, p.2, sym c.new-cursor.ensures) (first_fails c.in_err-tree.field-0.0 (mapped loose.ident (needed (word_read c.new-cursor.result))) whole c.in_err-tree.ensures)

pub returns-in_err-finish : goal.returns-in_err-finish
returns-in_err-finish c =
    let p = err_from_is_err_and c.from_residual-in_err-finish.result c.from_residual-in_err-finish.ensures.1 in
    rw (p.1, p.2, sym c.new-cursor.ensures) (not_all_read (mapped loose.ident (needed (word_read c.new-cursor.result))) (shown_ident c.in_ok-tree.tree) c.ident.new.self c.in_ok-tree.ensures c.in_err-finish.field-0.0 c.in_err-finish.ensures)

pub returns : goal.returns
returns c = rw (sym c.new-cursor.ensures) (all_read (mapped loose.ident (needed (word_read c.new-cursor.result))) (shown_ident c.in_ok-tree.tree) c.ident.new.self c.in_ok-tree.ensures c.in_ok-finish.ensures)
