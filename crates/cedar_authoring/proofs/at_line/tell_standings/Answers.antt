-- All that is held is told of, and then the names (Going).
use Rattle.std.proofs.Common.{List, subst, string_bytes}
use Rattle.std.proofs.lemmas.Result.{on_ok_weaker}
use Rattle.cedar_evaluator.specs.declared.partial_response.PartialResponse.{PartialResponse}
use Rattle.cedar_held.specs.PolicyWorlds.{policies_in}
use Rattle.cedar_session.specs.Sessions.{world_of}
use Rattle.cedar_world.specs.World.{Policies}
use Rattle.cedar_messages.specs.Telling.{Adds, TellsEach}
use Rattle.cedar_authoring.specs.ScriptQuestions.{TellsHeld}
use Rattle.cedar_authoring.proofs.Going.{all_held, standings_added}
use Rattle.cedar_authoring.proofs.PastsTold.{told_of_some}
use Rattle.cedar_authoring.proofs.at_line.tell_standings.Goals as goal

pub returns : goal.returns
returns g c =
    let asked = world_of c.args.session.now in
    let response = c.args.response.now in
    let own = c.in_ok-held.held in
    let ids = c.in_ok-ids.ids.items in
    let given = c.as_slice.result.now in
    let start = string_bytes c.args.told.now in
    let mid = string_bytes c.tell_each.new.told in
    let new = string_bytes c.tell_names.new.told in
    let held = all_held c.policies.result.now asked.policies ids c.policy_sets_are_worlds.ensures.finds c.policies.ensures.policies c.in_ok-ids.ensures in
    let P : Policies → PartialResponse → Type 0 = λ ps r. Adds (TellsEach (TellsHeld ps r) given) start mid in
    let policies = policies_in own.policies.now in
    let each = told_of_some c.args.past.now policies own.standings.response.now given start mid c.in_ok-tell_each.ensures in
    let told = subst (P asked.policies) c.in_ok-held.ensures.response (subst (λ ps. P ps own.standings.response.now) c.in_ok-held.ensures.policies each) in
    on_ok_weaker c.tell_names.result (standings_added asked response ids given start mid new held c.as_slice.ensures.value told) c.tell_names.ensures
