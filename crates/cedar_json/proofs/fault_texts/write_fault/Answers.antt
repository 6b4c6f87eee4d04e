use Rattle.std.proofs.Common.{[], ◌∷◌}
use Rattle.std.proofs.lemmas.Result.{on_ok_weaker}
use Rattle.json.specs.Token.{begin_object, end_object}
use Rattle.cedar_json.specs.FaultTexts.{place_members, told_members}
use Rattle.cedar_json.proofs.Behind.{four_written}
use Rattle.cedar_json.proofs.fault_texts.write_fault.Goals as goal

pub returns-clause-written : goal.returns-clause-written
returns-clause-written c =
    let fault = c.args.fault.now in
    on_ok_weaker c.end_object.result
    (λ e. four_written c.args.writer.now.tokens c.begin_object.new.self.tokens c.write_place.new.writer.tokens c.write_told.new.writer.tokens c.end_object.new.self.tokens
    (begin_object ∷ []) (place_members fault) (told_members fault) (end_object ∷ []) c.in_ok-begin_object.ensures.ok c.in_ok-write_place.ensures.written
    c.in_ok-write_told.ensures.written e) c.end_object.ensures.ok
