-- A policy that an index finds is among the positions that were found, or out of scope.
use Rattle.std.proofs.Common.{◌≡◌, ◌⊎◌, inl, inr, ℕ, ◌<◌, ◌≤◌, length, Bool, true, false, ◌||◌, Option, Some, None, List, refl, ◌∙◌, ap, subst, arith, true≢false}
use Rattle.std.specs.List.{slice_get}
use Rattle.std.specs.Option.{option_and}
use Rattle.std.proofs.lemmas.Option.{slice_get_within}
use Rattle.cedar_language.specs.Uid.{Text, Uid}
use Rattle.cedar_language.specs.Order.{same_uid}
use Rattle.cedar_language.specs.Tree.{Boolean, Principal, Action, Resource, PrincipalSlot, ResourceSlot}
use Rattle.cedar_language.specs.Value.{Plain}
use Rattle.cedar_language.specs.Facts.{Facts}
use Rattle.cedar_grammar.specs.Build.{conjunction}
use Rattle.cedar_grammar.specs.Policy.{Policy, constraint_tree, action_tree, scope_tree}
use Rattle.cedar_partial_evaluation.specs.Partial.{Evaluated, LeafAnswers, partial_in}
use Rattle.cedar_grammar.specs.Scopes.{and_then_met, action_meets}
use Rattle.cedar_grammar.specs.Bindings.{Bindings}
use Rattle.cedar_policy_parts.specs.Bindings.{unbound}
use Rattle.cedar_entities.specs.declared.store.Entities.{Entities}
use Rattle.cedar_operators.specs.Store.{HasFacts}
use Rattle.cedar_evaluator.specs.Asking.{Inquiry, variable_asked, request_held}
use Rattle.cedar_interpreter.specs.declared.given.GivenEntity.{GivenEntity}
use Rattle.cedar_policy_set.specs.Entries.{Entry, Entries, static_policy, template, link, is_policy}
use Rattle.cedar_policy_set.specs.Scopes.{IsEntryFound, Covers}
use Rattle.cedar_policy_set.specs.ScopeFinding.{IsFound, IsListedFor, by_nothing, by_principal, by_action, by_resource, by_pair, covered, stands_at, is_listed}
use Rattle.cedar_policy_set.specs.ScopeNaming.{named, is_settled, named_action}
use Rattle.cedar_policy_set.specs.declared.scope_index.index.ScopeIndex.{ScopeIndex}
use Rattle.cedar_evaluator.specs.Candidates.{HasPaired, HasFound, IsOutOfScope, is_in_given, is_in_known}
use Rattle.cedar_evaluator.specs.Scopes.{IsDecided, IsGivenAs, constraint_met}
use Rattle.cedar_evaluator.proofs.Scoped.{both_decided, constraint_held, action_held}
use Rattle.cedar_evaluator.proofs.Unmet.{false_behind, unmet, action_unmet, settled}

itself_in : (g : GivenEntity) (n : Uid) → same_uid g.uid.now n ≡ true → is_in_given g n ≡ true
itself_in g n is = by_test (same_uid g.uid.now n) _ is
  where
    by_test : (b c : Bool) → b ≡ true → (b || c) ≡ true
    by_test true c h = refl
    by_test false c h = absurd (cc h)

-- ---- what is asked of the entities, from the left

module _ (facts : Facts) (holds : LeafAnswers) (b : Bindings) (s : Policy) (p : GivenEntity)
    (principal : IsDecided facts holds (constraint_tree Principal PrincipalSlot s.principal) (constraint_met (is_in_given p) p.uid.now b.principal s.principal)) where
  abbrev principal_met : Option Bool
  principal_met = constraint_met (is_in_given p) p.uid.now b.principal s.principal

  -- by what is told of the action and the resource, of which either may be unknown
  scope_false : (action_met resource_met : Option Bool) → IsDecided facts holds (action_tree s.action) action_met → IsDecided facts holds (constraint_tree Resource ResourceSlot s.resource) resource_met →
      and_then_met (and_then_met principal_met action_met) resource_met ≡ Some false → partial_in facts holds (scope_tree s) ≡ Evaluated (Plain (Boolean false))
  scope_false action_met resource_met action resource is =
      subst (IsDecided facts holds (scope_tree s)) is
      (both_decided facts holds (conjunction (constraint_tree Principal PrincipalSlot s.principal) (action_tree s.action)) (constraint_tree Resource ResourceSlot s.resource) (and_then_met principal_met action_met) resource_met
      (both_decided facts holds (constraint_tree Principal PrincipalSlot s.principal) (action_tree s.action) principal_met action_met principal action) resource)

  principal_out : (n : Uid) → named b.principal s.principal ≡ Some n → is_in_given p n ≡ false → partial_in facts holds (scope_tree s) ≡ Evaluated (Plain (Boolean false))
  principal_out n names out =
      scope_false None None tt tt (ap (λ o. and_then_met (and_then_met o None) None) (unmet (is_in_given p) p.uid.now n (itself_in p n) out b.principal s.principal names))

  module _ (a : GivenEntity) (action : IsDecided facts holds (action_tree s.action) (Some (action_meets (λ _. is_in_given a) s.action a.uid.now))) where
    abbrev action_met : Bool
    action_met = action_meets (λ _. is_in_given a) s.action a.uid.now

    action_out : (n : Uid) → is_settled b.principal s.principal ≡ true → named_action s.action ≡ Some n → is_in_given a n ≡ false → partial_in facts holds (scope_tree s) ≡ Evaluated (Plain (Boolean false))
    action_out n bound names out =
        let (before, is) = settled (is_in_given p) p.uid.now b.principal s.principal bound in
        scope_false (Some action_met) None action tt
        (ap (λ o. and_then_met (and_then_met o (Some action_met)) None) is
        ∙ ap (λ c. and_then_met (and_then_met (Some before) (Some c)) None) (action_unmet (is_in_given a) a.uid.now n (itself_in a n) out s.action names)
        ∙ ap (λ o. and_then_met o None) (false_behind before))

    resource_out : (r : GivenEntity) → IsDecided facts holds (constraint_tree Resource ResourceSlot s.resource) (constraint_met (is_in_given r) r.uid.now b.resource s.resource) →
        (n : Uid) → is_settled b.principal s.principal ≡ true → named b.resource s.resource ≡ Some n → is_in_given r n ≡ false → partial_in facts holds (scope_tree s) ≡ Evaluated (Plain (Boolean false))
    resource_out r resource n bound names out =
        let (before, is) = settled (is_in_given p) p.uid.now b.principal s.principal bound in
        let resource_met = constraint_met (is_in_given r) r.uid.now b.resource s.resource in
        scope_false (Some action_met) resource_met action resource
        (ap (λ o. and_then_met (and_then_met o (Some action_met)) resource_met) is
        ∙ ap (and_then_met (and_then_met (Some before) (Some action_met))) (unmet (is_in_given r) r.uid.now n (itself_in r n) out b.resource s.resource names)
        ∙ behind_both before action_met)
      where
        behind_both : (b c : Bool) → and_then_met (and_then_met (Some b) (Some c)) (Some false) ≡ Some false
        behind_both true c = false_behind c
        behind_both false c = refl

-- ---- what an index finds

abbrev IsOut : Inquiry → Entities → Bindings → Policy → Type 0
IsOut i store b s = (facts : Facts) → HasFacts store facts → partial_in facts (request_held i b) (scope_tree s) ≡ Evaluated (Plain (Boolean false))

-- the positions at which these places stand are among the others
abbrev pub LeadsInto : ScopeIndex → List ℕ → List ℕ → Type 0
LeadsInto x ps qs = (t : ℕ) → is_listed ps t ≡ true → is_listed qs (stands_at x t) ≡ true

-- the test decides: where it holds the position is listed, and else the policy is out
listed_or : (Out : Type 0) (test : Uid → Bool) (n : Uid) (ps : List ℕ) (q : ℕ) → (test n ≡ true → is_listed ps q ≡ true) → (test n ≡ false → Out) → (is_listed ps q ≡ true) ⊎ Out
listed_or Out test n ps q listed out = by_test (test n) refl
  where
    by_test : (c : Bool) → test n ≡ c → (is_listed ps q ≡ true) ⊎ Out
    by_test true e = inl (listed e)
    by_test false e = inr (out e)

module _ (i : Inquiry) (store : Entities) (p : GivenEntity) (principal : IsGivenAs store (variable_asked i.request Principal) (Some p)) where
  module _ (facts : Facts) (has : HasFacts store facts) (b : Bindings) (s : Policy) where
    abbrev holds : LeafAnswers
    holds = request_held i b

    by_principal_given : IsDecided facts holds (constraint_tree Principal PrincipalSlot s.principal) (constraint_met (is_in_given p) p.uid.now b.principal s.principal)
    by_principal_given = constraint_held facts store has p.uid.now p.entity principal.1 holds Principal PrincipalSlot b.principal s.principal principal.0 refl

    by_action_given : (a : GivenEntity) → IsGivenAs store (variable_asked i.request Action) (Some a) → IsDecided facts holds (action_tree s.action) (Some (action_meets (λ _. is_in_given a) s.action a.uid.now))
    by_action_given a action = action_held facts store has a.uid.now a.entity action.1 holds s.action action.0

    by_resource_given : (r : GivenEntity) → IsGivenAs store (variable_asked i.request Resource) (Some r) → IsDecided facts holds (constraint_tree Resource ResourceSlot s.resource) (constraint_met (is_in_given r) r.uid.now b.resource s.resource)
    by_resource_given r resource = constraint_held facts store has r.uid.now r.entity resource.1 holds Resource ResourceSlot b.resource s.resource resource.0 refl

  -- what isn't given is told of no policy, and the resource only behind the action
  out_by_action : (o : Option GivenEntity) → IsGivenAs store (variable_asked i.request Action) o →
      (b : Bindings) (s : Policy) (n : Uid) → is_settled b.principal s.principal ≡ true → named_action s.action ≡ Some n → is_in_known o n ≡ false → IsOut i store b s
  out_by_action None action b s n bound names out = absurd (true≢false out)
  out_by_action (Some a) action b s n bound names out = λ facts has.
      action_out facts (request_held i b) b s p (by_principal_given facts has b s) a (by_action_given facts has b s a action) n bound names out

  out_by_resource : (o q : Option GivenEntity) → IsGivenAs store (variable_asked i.request Action) o → IsGivenAs store (variable_asked i.request Resource) q →
      (b : Bindings) (s : Policy) (n : Uid) → is_settled b.principal s.principal ≡ true → named b.resource s.resource ≡ Some n → is_in_known (option_and o q) n ≡ false → IsOut i store b s
  out_by_resource None q action resource b s n bound names out = absurd (true≢false out)
  out_by_resource (Some a) None action resource b s n bound names out = absurd (true≢false out)
  out_by_resource (Some a) (Some r) action resource b s n bound names out = λ facts has.
      resource_out facts (request_held i b) b s p (by_principal_given facts has b s) a (by_action_given facts has b s a action) r (by_resource_given facts has b s r resource) n bound names out

module _ (i : Inquiry) (store : Entities) (p : GivenEntity) (a r : Option GivenEntity)
    (principal : IsGivenAs store (variable_asked i.request Principal) (Some p))
    (action : IsGivenAs store (variable_asked i.request Action) a)
    (resource : IsGivenAs store (variable_asked i.request Resource) r) where
  module _ (x : ScopeIndex) (ps qs : List ℕ) (found : HasFound x p a (option_and a r) ps) (lead : LeadsInto x ps qs) where
    among_or_out : (t : ℕ) (b : Bindings) (s : Policy) → IsListedFor x t b s → (is_listed ps t ≡ true) ⊎ IsOut i store b s
    among_or_out t b s (by_nothing listed) = inl (found.others t listed)
    among_or_out t b s (by_principal n names listed) =
        listed_or (IsOut i store b s) (is_in_given p) n ps t (λ e. found.principals n e t listed)
        (λ e facts has. principal_out facts (request_held i b) b s p (by_principal_given i store p principal facts has b s) n names e)
    among_or_out t b s (by_action n bound names listed) =
        listed_or (IsOut i store b s) (is_in_known a) n ps t (λ e. found.actions n e t listed) (out_by_action i store p principal a action b s n bound names)
    among_or_out t b s (by_resource n bound names listed) =
        listed_or (IsOut i store b s) (is_in_known (option_and a r)) n ps t (λ e. found.resources n e t listed) (out_by_resource i store p principal a r action resource b s n bound names)
    among_or_out t b s (by_pair u v bound names also listed listed_too) = by found.pairs
      where
        by : HasPaired x p (option_and a r) ps → (is_listed ps t ≡ true) ⊎ IsOut i store b s
        by (inl principals) =
            listed_or (IsOut i store b s) (is_in_given p) u ps t (λ e. principals u e t listed)
            (λ e facts has. principal_out facts (request_held i b) b s p (by_principal_given i store p principal facts has b s) u names e)
        by (inr resources) =
            listed_or (IsOut i store b s) (is_in_known (option_and a r)) v ps t (λ e. resources v e t listed_too) (out_by_resource i store p principal a r action resource b s v bound also)

    -- a place that is listed leads to the position
    there_or_out : (q : ℕ) (b : Bindings) (s : Policy) → IsFound x q b s → (is_listed qs q ≡ true) ⊎ IsOut i store b s
    there_or_out q b s there = by (among_or_out there.place b s there.listed)
      where
        by : (is_listed ps there.place ≡ true) ⊎ IsOut i store b s → (is_listed qs q ≡ true) ⊎ IsOut i store b s
        by (inl h) = inl (subst (λ n. is_listed qs n ≡ true) there.stands (lead there.place h))
        by (inr out) = inr out

    entry_among_or_out : (q : ℕ) (e : Entry) → IsEntryFound x q e → is_policy e ≡ true → (is_listed qs q ≡ true) ⊎ IsOutOfScope i store e
    entry_among_or_out q (static_policy s) found_there is = there_or_out q unbound s found_there
    entry_among_or_out q (template s) found_there is = absurd (cc is)
    entry_among_or_out q (link t s b) found_there is = there_or_out q b s found_there

  -- where the index covers all entries, a policy stands among what was found, or is out of scope
  pub found_or_out : (x : ScopeIndex) (es : Entries) (ps qs : List ℕ) → HasFound x p a (option_and a r) ps → Covers es x → length es ≤ covered x → LeadsInto x ps qs →
      (q : ℕ) (e : Text × Entry) → slice_get es q ≡ Some e → is_policy e.1 ≡ true → (is_listed qs q ≡ true) ⊎ IsOutOfScope i store e.1
  found_or_out x es ps qs found covers whole lead q e at is =
      let inside : q < covered x = let here = slice_get_within es q e at in omega (arith, here, whole) in
      entry_among_or_out x ps qs found lead q e.1 (covers.found q e inside at) is
