-- How the policies of a first response stand that are taken up again once values are told.
use Rattle.std.proofs.Common.{◌≡◌, ◌∙◌, refl, ap, sym, subst, Bool, true, false, ◌&&◌, Option, Some, None, List, Contains}
use Rattle.std.specs.FinMap as finite
use Rattle.cedar_grammar.specs.Calls.{calls_only}
use Rattle.cedar_grammar.specs.Laws.{LinkConditions}
use Rattle.cedar_grammar.specs.Policy.{Constraint, anything, equals, within, of_type, of_type_within, bound_constraint, bound_body, bound}
use Rattle.cedar_language.specs.Facts.{Facts}
use Rattle.cedar_language.specs.Slots.{Slots, bound_slot, bound_tree, bound_trees}
use Rattle.cedar_language.specs.Tree.{SlotId, Tree, Lit, Var, Slot, Unknown, If, And, Or, Apply, Trees, no_trees, a_tree}
use Rattle.cedar_language.specs.Uid.{Text}
use Rattle.cedar_partial_evaluation.specs.MadeAgain.{HoldsMade}
use Rattle.cedar_partial_evaluation.specs.Mentions.{mentions_only}
use Rattle.cedar_partial_evaluation.specs.Partial.{Answer, LeafAnswers, partial_in}
use Rattle.cedar_partial_evaluation.specs.Question.{held_of}
use Rattle.cedar_partial_evaluation.specs.ReadUnknowns.{calls_unknown}
use Rattle.cedar_partial_evaluation.specs.Reauthorizing.{condition_again}
use Rattle.cedar_world.specs.PlainAnswers.{ArePlainLeaves, PlainAnswers}
use Rattle.cedar_world.specs.Asking.{Question}
use Rattle.cedar_world.specs.First.{NamesNoUnknown}
use Rattle.cedar_world.specs.Setting.{Setting}
use Rattle.cedar_grammar.specs.Syntax.{PolicySyntax, condition}
use Rattle.cedar_world.specs.World.{World}
use Rattle.cedar_world.specs.WorldFacts.{AreFactsOf}
use Rattle.cedar_policy_parts.specs.Bindings.{binding_of, unbound}
use Rattle.cedar_extensions.specs.Failures.{OfKind, LimitMet, MemoryRanOut}
use Rattle.cedar_extensions.specs.Table.{Table}
use Rattle.cedar_evaluator.specs.Asking.{untold, request_held}
use Rattle.cedar_interpreter.specs.Operating.{HasFunctions, NamesNothing}
use Rattle.cedar_operators.specs.Store.{HasFacts}
use Rattle.cedar_policy_set.specs.Entries.{Entry, static_policy, template, link, Entries, policies_of}
use Rattle.cedar_policy_set.specs.Texts.{syntax_in}
use Rattle.cedar_held.specs.PolicyWorlds.{FindsAsWorlds}
use Rattle.cedar_evaluator.specs.Evaluations.{Found, Satisfied, Unsatisfied, Erred, Open, Finds, bindings_in, condition_in, Kept, IsKept}
use Rattle.cedar_evaluator.specs.Responses.{Holding, error_id, errors_of}
use Rattle.cedar_evaluator.specs.declared.partial_response.PartialResponse.{PartialResponse}
use Rattle.cedar_evaluator.proofs.Standings.{is_settled}
use Rattle.cedar_asking.specs.Keeping.{IsFirstResponse}
use Rattle.cedar_evaluator.proofs.LeftStands.{again_is_clause}
use Rattle.cedar_asking.proofs.Exactness.{leaves_plain, clause_calls_none}
use Rattle.cedar_asking.proofs.Facts.{store_has_facts, table_is_served, facts_are_made}
use Rattle.cedar_asking.proofs.InForce.{written_entry, is_bound, written_by}
use Rattle.cedar_evaluator.proofs.Lists.{IsAmong, contains}
use Rattle.cedar_evaluator.proofs.Members.{gathered}
use Rattle.cedar_asking.proofs.Naming.{is_other, no_call}
use Rattle.cedar_asking.proofs.Standings.{nothing_bound, held_so, names_as_written}
use Rattle.cedar_evaluator.proofs.Taken.{clause_of}

-- ---- trees of which no slot is bound

module _ (b : Slots) (none : (s : SlotId) → b s ≡ None) where
  mutual
    bound_to_nothing : (t : Tree) → bound_tree b t ≡ t
    bound_to_nothing (Lit l) = refl
    bound_to_nothing (Var v) = refl
    bound_to_nothing (Slot s) = ap (bound_slot s) (none s)
    bound_to_nothing (Unknown n ty) = refl
    bound_to_nothing (If t y n) = λ i. If (bound_to_nothing t i) (bound_to_nothing y i) (bound_to_nothing n i)
    bound_to_nothing (And l r) = λ i. And (bound_to_nothing l i) (bound_to_nothing r i)
    bound_to_nothing (Or l r) = λ i. Or (bound_to_nothing l i) (bound_to_nothing r i)
    bound_to_nothing (Apply op ts) = ap (Apply op) (all_bound_to_nothing ts)

    all_bound_to_nothing : (ts : Trees) → bound_trees b ts ≡ ts
    all_bound_to_nothing no_trees = refl
    all_bound_to_nothing (a_tree t ts) = λ i. a_tree (bound_to_nothing t i) (all_bound_to_nothing ts i)

constraint_stays : (c : Constraint) → bound_constraint None c ≡ c
constraint_stays anything = refl
constraint_stays (equals t) = refl
constraint_stays (within t) = refl
constraint_stays (of_type name) = refl
constraint_stays (of_type_within name t) = refl

body_stays : (o : Option Tree) → bound_body (binding_of unbound) o ≡ o
body_stays None = refl
body_stays (Some c) = ap (λ (t : Tree). Some t) (bound_to_nothing (binding_of unbound) nothing_bound c)

policy_stays : (p : PolicySyntax) → bound (binding_of unbound) p ≡ p
policy_stays p = rw (constraint_stays p.principal, constraint_stays p.resource, body_stays p.body) refl

-- an entry is written as its template is, with its slots bound
pub binds_written : (e : Entry) → written_entry e ≡ bound (binding_of (bindings_in e)) (syntax_in e)
binds_written (static_policy s) = sym (policy_stays s)
binds_written (template s) = sym (policy_stays s)
binds_written (link t s b) = refl

pub names_nothing : (table : Table) (t : Tree) → calls_unknown t ≡ false → NamesNothing table t
names_nothing table t h = by_table table.has_unknown (calls_unknown t) h
  where
    by_table : (a b : Bool) → b ≡ false → (a && b) ≡ false
    by_table true b n = n
    by_table false b n = refl

-- ---- what the first response found

module _ (law : PlainAnswers) (finds : FindsAsWorlds) (by : Setting) (world : World) (facts : Facts) (are : AreFactsOf by world facts) (q : Question) (first : PartialResponse) (response : IsFirstResponse by world q first) where
  pub first_served : HasFunctions response.table facts
  first_served = table_is_served by world facts response.table are response.of.setting.functions

  pub first_made : HoldsMade facts
  first_made = facts_are_made by world facts response.table response.gives first_served response.of.built are

  first_store : HasFacts response.store facts
  first_store = store_has_facts by world facts response.store are response.of.shows response.of.closed response.of.whole

  abbrev es : Entries
  es = response.policies

  abbrev ks : List Kept
  ks = response.responds.kept

  abbrev first_held : Entry → LeafAnswers
  first_held e = request_held (untold response.request) (bindings_in e)

  first_leaves : (e : Entry) → ArePlainLeaves (first_held e)
  first_leaves e = leaves_plain law facts by response.table q response.request response.is_request response.named.well first_served (bindings_in e)

  module _ (k : Kept) (in_ks : IsAmong k ks) (e : Text × Entry) (in_set : IsAmong e (policies_of es)) (of : IsKept (untold response.request) response.store response.table response.depth e k) where
    pub is_named : calls_only is_other (condition_in e.1) ≡ true
    is_named = response.of.names e.0 e.1 (is_bound es response.whole e in_set).0

    first_calls : calls_unknown (condition_in e.1) ≡ false
    first_calls = no_call (condition_in e.1) is_named

    pub first_found : Finds (partial_in facts (first_held e.1) (condition_in e.1)) k.found
    first_found = of.found facts (record { entities = first_store; functions = first_served; names_nothing = names_nothing response.table (condition_in e.1) first_calls })

    at_limit : k.found ≡ Erred LimitMet → ⊥
    at_limit is =
        let among = gathered (λ (k : Kept). error_id k.id k.found) k (k.id, LimitMet) ks in_ks (ap (error_id k.id) is) in
        response.within (k.id, subst (λ es. Contains es (k.id, LimitMet)) (sym (ap (λ (h : Holding). h.errors) response.responds.holds)) (contains (errors_of ks) (k.id, LimitMet) among))

    settled_by : (b : Answer) (f : Found) → k.found ≡ f → Finds b f → is_settled f ≡ true
    settled_by b Satisfied is h = refl
    settled_by b Unsatisfied is h = refl
    settled_by b (Erred (OfKind x)) is h = refl
    settled_by b (Erred LimitMet) is h = absurd (at_limit is)
    settled_by b (Erred MemoryRanOut) is h = absurd h
    settled_by b (Open r) is h = refl

    -- the policy is taken up as what was found of it
    pub taken_up : condition_again (partial_in facts (held_of facts q (binding_of (bindings_in e.1)) finite.empty) (condition_in e.1)) ≡ clause_of k.found
    taken_up =
        ap (λ (h : LeafAnswers). condition_again (partial_in facts h (condition_in e.1))) (sym (held_so response.table q response.request response.is_request.holds facts first_served (bindings_in e.1)))
        ∙ again_is_clause (partial_in facts (first_held e.1) (condition_in e.1)) k.found (settled_by (partial_in facts (first_held e.1) (condition_in e.1)) k.found refl first_found) first_found

    pub clause_calls_nothing : calls_unknown (clause_of k.found) ≡ false
    clause_calls_nothing = clause_calls_none law facts (first_held e.1) (first_leaves e.1) (condition_in e.1) first_calls k.found first_found

  pub first_names : LinkConditions → NamesNoUnknown world
  first_names conditions id s force =
      let (e, at, is, policy) = written_by es response.whole response.of.slots finds world response.of.policies id s force in
      ap (λ (x : PolicySyntax). mentions_only (λ v. true) true (condition x)) is ∙ names_as_written conditions e (response.of.names id e at)
