-- All comes from the one text, and is told of by its name (PastsTold).
use Rattle.std.proofs.Common.{subst, string_bytes}
use Rattle.std.proofs.lemmas.Result.{on_ok_weaker}
use Rattle.cedar_evaluator.specs.declared.partial_response.PartialResponse.{PartialResponse}
use Rattle.cedar_held.specs.PolicyWorlds.{policies_in}
use Rattle.cedar_language.specs.Uid.{Text}
use Rattle.cedar_session.specs.Sessions.{world_of}
use Rattle.cedar_world.specs.World.{Policies}
use Rattle.cedar_messages.specs.Telling.{Adds}
use Rattle.cedar_authoring.specs.Explaining.{TellsPolicies}
use Rattle.cedar_authoring.proofs.PastsTold.{told_of_text}
use Rattle.cedar_authoring.proofs.explaining.tell_policies.Goals as goal

pub returns : goal.returns
returns g c =
    let past = c.in_ok-past.past in
    let held = c.in_ok-held.held in
    let ids = c.args.ids.now in
    let old = string_bytes c.args.told.now in
    let new = string_bytes c.tell_each.new.told in
    let P : Text → Policies → PartialResponse → Type 0 = λ n ps r. Adds (TellsPolicies n ps r ids) old new in
    let world = (world_of c.args.session.now).policies in
    let policies = policies_in held.policies.now in
    let response = held.standings.response.now in
    on_ok_weaker c.tell_each.result
    (λ adds. subst (λ r. P c.args.source.name.now world r) c.in_ok-held.ensures.response
    (subst (λ ps. P c.args.source.name.now ps response) c.in_ok-held.ensures.policies
    (subst (λ n. P n policies response) c.in_ok-past.ensures.name (told_of_text past policies response ids old new adds c.in_ok-past.ensures.alone)))) c.tell_each.ensures
