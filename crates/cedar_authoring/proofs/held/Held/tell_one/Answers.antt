-- What the world has under the id is told (Standings).
use Rattle.std.proofs.Common.{◌≡◌, refl, subst, sym, string_bytes}
use Rattle.std.proofs.lemmas.Result.{on_ok_weaker}
use Rattle.cedar_held.specs.PolicyWorlds.{policies_in}
use Rattle.cedar_language.specs.Uid.{Text}
use Rattle.cedar_authoring.specs.Standing.{standing_words, TellsStanding}
use Rattle.cedar_authoring.specs.StandingWords.{words_of}
use Rattle.cedar_messages.specs.Telling.{Adds}
use Rattle.cedar_authoring.proofs.Standings.{told_none, told_some}
use Rattle.cedar_authoring.proofs.held.Held.tell_one.Goals as goal

pub returns-in-Some : goal.returns-in-Some
returns-in-Some c =
    let es = c.args.self.now.policies.now in
    let id = c.args.id.now in
    let name = c.args.origin.name.now in
    let response = c.args.self.now.standings.response.now in
    let old = string_bytes c.args.told.now in
    let new = string_bytes c.tell_standing.new.told in
    let named = c.in-Some.ensures.id in
    let P : Text → Type 0 = λ i. words_of c.standing-standing.result ≡ standing_words response i in
    let Q : Text → Type 0 = λ i. Adds (TellsStanding name response i) old new in
    on_ok_weaker c.tell_standing.result
    (λ adds. told_some es c.args.self.now.told_by_slots c.len-bound.ensures.whole c.policy_sets_are_worlds.ensures.finds (policies_in es) refl id name response old new c.get.result c.in-Some.policy c.in-Some.is c.get.ensures.entry (subst Q named adds))
    (c.tell_standing.ensures response (subst P (sym named) c.standing-standing.ensures))

pub returns-in-None : goal.returns-in-None
returns-in-None c =
    let es = c.args.self.now.policies.now in
    let id = c.args.id.now in
    let name = c.args.origin.name.now in
    let response = c.args.self.now.standings.response.now in
    let old = string_bytes c.args.told.now in
    let new = string_bytes c.tell_template.new.told in
    told_none es c.args.self.now.told_by_slots c.len-bound.ensures.whole c.policy_sets_are_worlds.ensures.finds (policies_in es) refl id name response old new c.tell_template.result
    c.get.result c.in-None.is c.get.ensures.entry c.get_template.result c.get_template.ensures.syntax c.get_template.ensures.id c.tell_template.ensures.none c.tell_template.ensures.some
