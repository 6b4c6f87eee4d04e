-- The place told is that of the first byte that shows it.
use Rattle.std.proofs.Common.{◌≡◌, OnErr, Some, string_bytes, inl, ap, subst, ◌∙◌}
use Rattle.std.proofs.lemmas.Result.{IfOk-weaker}
use Rattle.std.specs.Str.Lossy.{utf8_valid_len}
use Rattle.cedar_language.specs.Uid.{Text}
use Rattle.cedar_refusals.specs.Checkers.{setting_in, world_in}
use Rattle.cedar_refusals.specs.Checks.{HasLoaded, TellsRefused}
use Rattle.cedar_messages.specs.Places.{position_at}
use Rattle.cedar_messages.specs.Telling.{TellsOf}
use Rattle.cedar_refusals.specs.declared.checking.Report.{Report}
use Rattle.cedar_messages.specs.declared.places.Position.{Position}
use Rattle.cedar_refusals.proofs.checking.Checker.check.Goals as goal

pub returns-in-Err-clause-refused : goal.returns-in-Err-clause-refused
returns-in-Err-clause-refused g c =
    let by = setting_in c.args.self.now in
    let name = c.args.name.now in
    let bytes = c.args.bytes.now in
    let at : c.position_in-place.result ≡ position_at bytes (utf8_valid_len bytes) =
    c.position_in-place.ensures ∙ ap (λ n. position_at bytes n) (c.valid_up_to.ensures ∙ c.in-Err.ensures.valid_len) in
    let P : Report → Type 0 = λ report. TellsOf name (Some c.position_in-place.result) (string_bytes report.text) in
    let Q : Report → Type 0 = λ report. report.status ≡ 1 → TellsRefused by name bytes (string_bytes report.text) in
    let at_place : (report : Report) → P report → Q report =
    λ report told refused. (
    let R : Position → Type 0 = λ place. TellsOf name (Some place) (string_bytes report.text) in
    inl (c.in-Err.ensures.cases.0, subst R at told)
    ) in
    IfOk-weaker c.refuse.result P Q at_place c.refuse.ensures.told

pub returns-in-Ok-clause-err : goal.returns-in-Ok-clause-err
returns-in-Ok-clause-err g c =
    let old = c.args.self.now in
    let new = world_in c.check_length.new.self in
    let P : Text → Type 0 = λ bytes. OnErr c.check_length.result (HasLoaded (setting_in old) (world_in old) new bytes) in
    subst P c.in-Ok.ensures.cases.0 c.check_length.ensures.err
