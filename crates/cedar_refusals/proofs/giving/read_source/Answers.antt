-- The place told is that of the first byte that shows it.
use Rattle.std.proofs.Common.{◌≡◌, ◌∙◌, Some, string_bytes, ap, inl, subst}
use Rattle.std.specs.Str.Lossy.{utf8_valid_len}
use Rattle.cedar_messages.specs.Places.{position_at}
use Rattle.cedar_messages.specs.Telling.{TellsOf}
use Rattle.cedar_messages.specs.declared.places.Position.{Position}
use Rattle.cedar_refusals.proofs.giving.read_source.Goals as goal

pub returns-in_ok-report-in-Err-clause-told : goal.returns-in_ok-report-in-Err-clause-told
returns-in_ok-report-in-Err-clause-told c =
    let bytes = c.args.bytes.now in
    let at : c.position_in-place.result ≡ position_at bytes (utf8_valid_len bytes) =
    c.position_in-place.ensures ∙ ap (λ n. position_at bytes n) (c.valid_up_to.ensures ∙ c.in-Err.ensures.valid_len) in
    let P : Position → Type 0 = λ place. TellsOf c.args.name.now (Some place) (string_bytes c.in_ok-report-in-Err.report.text) in
    inl (c.in-Err.ensures.cases.0, subst P at c.in_ok-report-in-Err.ensures.told)
