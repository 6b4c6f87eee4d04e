use Rattle.std.proofs.Common.{◌≡◌, ◌++◌, List, ap, ◌∙◌, codes, string_bytes}
use Rattle.std.proofs.lemmas.Result.{on_ok_weaker}
use Rattle.json.specs.Token.{Token}
use Rattle.cedar_language.specs.Uid.{Text}
use Rattle.cedar_json.specs.FaultTexts.{stated, kind_name}
use Rattle.cedar_json.proofs.Behind.{three_written}
use Rattle.cedar_json.proofs.fault_texts.write_told.Goals as goal

pub returns-clause-written : goal.returns-clause-written
returns-clause-written c =
    let fault = c.args.fault.now in
    let start = c.args.writer.now.tokens in
    let first = c.write_text.new.writer.tokens in
    let second = c.write_text-2.new.writer.tokens in
    let third = c.write_text-3.new.writer.tokens in
    on_ok_weaker c.write_text-3.result
    (λ e. three_written start first second third (stated (codes "pointer") (string_bytes fault.pointer)) (stated (codes "kind") (kind_name fault.kind))
    (stated (codes "message") (string_bytes fault.message))
    (c.in_ok-write_text.ensures.written ∙ ap (λ (s : Text). start ++ stated (codes "pointer") s) c.as_str.ensures.value)
    (c.in_ok-write_text-2.ensures.written ∙ ap (λ (s : Text). first ++ stated (codes "kind") s) c.name.ensures)
    (e ∙ ap (λ (s : Text). second ++ stated (codes "message") s) c.as_str-2.ensures.value)) c.write_text-3.ensures.written
