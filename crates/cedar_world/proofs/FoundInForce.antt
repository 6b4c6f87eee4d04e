-- What is in force calls functions that are there and holds no slot, so policies err with ordinary kinds alone when a question is
-- asked; and what was left of them calls functions that are there too, and holds no slot where no clause of a template has one.
use Rattle.std.proofs.Common.{◌≡◌, true, sym, ◌∙◌, ap}
use Rattle.cedar_grammar.specs.Laws.{LinkConditions, ExprsHoldNoSlot}
use Rattle.cedar_grammar.specs.Policy.{slots}
use Rattle.cedar_world.specs.LinkLaws.{LinksAreStatic}
use Rattle.cedar_world.specs.NameLaws.{CallsAreFound}
use Rattle.cedar_world.specs.Setting.{Setting}
use Rattle.cedar_grammar.specs.Syntax.{condition}
use Rattle.cedar_grammar.proofs.HeldSlots.{none_left}
use Rattle.cedar_world.specs.Lookups.{finds_all, PoliciesInForceErrOrdinarily}
use Rattle.cedar_world.proofs.TextsInForce.{all_hold, in_force_holds, in_force_static}
use Rattle.cedar_world.proofs.Lookups.{early_ordinary, again_ordinary, policy_finds, found_kind, constructor_there, context_finds, context_holds_no_slot, texts_find, links_find}

pub policies_in_force_err_ordinarily : LinkConditions → ExprsHoldNoSlot → LinksAreStatic → ((by : Setting) → CallsAreFound by) → PoliciesInForceErrOrdinarily
policies_in_force_err_ordinarily links exprs static calls by commands replies world reached facts are id s force body tree q is asks told =
    let texts = texts_find by facts are (calls by) in
    let all = all_hold by (λ s. finds_all facts (condition s) ≡ true) texts commands replies world.policies reached.policies in
    let finds = in_force_holds by (λ s. finds_all facts (condition s) ≡ true) texts (links_find links facts) world.policies all id s force in
    let without = none_left (slots s) (in_force_static static world.policies reached.links id s force) in
    let constructs = constructor_there by facts are in
    let context = context_holds_no_slot by facts are (calls by) exprs body tree q is asks in
    record {
      early = early_ordinary facts constructs q context told s finds without;
      again = λ k so.
          let template = all so.id so.unbound so.held in
          found_kind k ((policy_finds facts constructs q (context_finds by facts are (calls by) body tree q is asks) told so.unbound template).again so.slots k so.stands);
      again_without_slots = λ free k so.
          again_ordinary facts constructs q context told so.unbound so.slots (all so.id so.unbound so.held) (sym (ap slots so.binds) ∙ without) (free so.id so.unbound so.held) k so.stands;
    }
