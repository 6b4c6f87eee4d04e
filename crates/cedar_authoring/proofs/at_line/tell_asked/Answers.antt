-- By the first response, or by that which takes it up again (Going).
use Rattle.std.proofs.Common.{Option, IfSome, inl, refl, subst, string_bytes}
use Rattle.std.proofs.lemmas.Result.{on_ok_weaker}
use Rattle.cedar_evaluator.specs.declared.partial_response.PartialResponse.{PartialResponse}
use Rattle.cedar_session.specs.Sessions.{setting_of, world_of}
use Rattle.cedar_authoring.specs.ScriptQuestions.{TakesUp}
use Rattle.cedar_authoring.proofs.Going.{open_told}
use Rattle.cedar_authoring.proofs.at_line.tell_asked.Goals as goal

pub returns-in-Some-2 : goal.returns-in-Some-2
returns-in-Some-2 g c =
    let by = setting_of c.args.session.now in
    let asked = world_of c.args.session.now in
    let first = c.in-Some.first.now in
    let response = c.in-Some-2.response in
    let P : Option PartialResponse → Type 0 = λ o. IfSome o (λ response. TakesUp first response) in
    let takes = subst P c.in-Some-2.is c.in_ok-response.ensures in
    on_ok_weaker c.tell_standings.result
    (open_told by asked first response (string_bytes c.args.told.now) (string_bytes c.tell_standings.new.told) c.in-Some.ensures.response takes) c.tell_standings.ensures

pub returns-in-None : goal.returns-in-None
returns-in-None g c =
    let by = setting_of c.args.session.now in
    let asked = world_of c.args.session.now in
    let first = c.in-Some.first.now in
    on_ok_weaker c.tell_standings-in-None.result
    (open_told by asked first first (string_bytes c.args.told.now) (string_bytes c.tell_standings-in-None.new.told) c.in-Some.ensures.response (inl refl)) c.tell_standings-in-None.ensures
