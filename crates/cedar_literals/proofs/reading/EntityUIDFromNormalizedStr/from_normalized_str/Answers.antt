-- A text is cut into type and id in one way, so what is answered of these is answered of the uid.
use Rattle.std.proofs.lemmas.Result.{err_from_is_err_and}
use Rattle.cedar_literals.proofs.Cutting.{refused_id, refused_type, read_uid}
use Rattle.cedar_literals.proofs.reading.EntityUIDFromNormalizedStr.from_normalized_str.Goals as goal

pub returns-in_err-unescaped : goal.returns-in_err-unescaped
returns-in_err-unescaped c =
    let p = err_from_is_err_and c.from_residual.result c.from_residual.ensures.1 in
    rw (p.1, p.2) (refused_id _ _ _ _ c.in-Some.ensures c.in_err-unescaped.ensures)

pub returns-in_err-entity_type : goal.returns-in_err-entity_type
returns-in_err-entity_type c =
    let p = err_from_is_err_and c.from_residual-in_err-entity_type.result c.from_residual-in_err-entity_type.ensures.1 in
    rw (p.1, p.2) (refused_type _ _ _ _ _ c.in-Some.ensures c.in_ok-unescaped.ensures.0 c.in_err-entity_type.ensures)

pub returns : goal.returns
returns c = rw (c.from_components.ensures, c.new-eid.ensures) (read_uid _ _ _ _ _ c.in-Some.ensures c.in_ok-unescaped.ensures c.in_ok-entity_type.ensures)
