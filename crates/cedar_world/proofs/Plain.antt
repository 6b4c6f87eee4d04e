-- Where scopes alone decide.
use Rattle.std.proofs.Common.{◌≡◌, Bool, inl, inr, true, false, Option, Some, List, [], map, refl, sym, ap, ◌∙◌, subst, is_some}
use Rattle.cedar_world.specs.Question.{IsKnown}
use Rattle.cedar_world.specs.Orders.{text_cmp}
use Rattle.cedar_world.specs.Fillings.{IsFilling}
use Rattle.std.specs.FinMap as finite
use Rattle.std.proofs.lemmas.List.Elements.{All-map}
use Rattle.cedar_language.specs.Uid.{Text, Uid}
use Rattle.cedar_language.specs.Tree.{Principal, Action, Resource, Context, no_trees}
use Rattle.cedar_language.specs.Value.{RecordOf, no_values, Kind}
use Rattle.cedar_language.specs.Order.{same_uid}
use Rattle.cedar_language.specs.Facts.{Facts}
use Rattle.cedar_language.specs.Operators.{is_within}
use Rattle.cedar_language.specs.Answering.{Erring, Judged}
use Rattle.cedar_language.specs.Authorization.{Known}
use Rattle.cedar_partial_evaluation.specs.Mentions.{is_given, is_known}
use Rattle.cedar_grammar.specs.Syntax.{PolicySyntax}
use Rattle.cedar_world.specs.World.{World, in_force_at}
use Rattle.cedar_world.specs.Asking.{Part, Given, Missing, Entries, WithEntries, Question}
use Rattle.cedar_world.specs.Setting.{Setting}
use Rattle.cedar_world.specs.Standing.{StandsSoFar, IsJudged, Judges, ErrOnce}
use Rattle.cedar_world.specs.WorldFacts.{AreFactsOf, facts_of}
use Rattle.cedar_world.specs.First.{IsData, HasRequest, NamesNoUnknown, FirstAnswersStand}
use Rattle.cedar_world.specs.Scope.{scope_known, standing_met}
use Rattle.cedar_world.specs.InForce.{AreInForce}
use Rattle.cedar_world.specs.Plain.{HasScopesAlone, HasNoEntries, judged_by_scope, AnswersByScope, ScopesAnswer}
use Rattle.cedar_world.proofs.Lists.{contained, contains, mapped, unmapped}
use Rattle.cedar_world.proofs.Ids.{the_value, answers_are_made}
use Rattle.cedar_world.proofs.WorldFacts.{worlds_have_facts}
use Rattle.cedar_world.proofs.Leaves.{all_known}
use Rattle.cedar_world.proofs.Scope.{scopes_settle}

is_data : (c : Entries) → HasNoEntries c → IsData c
is_data c (inl e) = subst IsData (sym e) tt
is_data c (inr e) = subst IsData (sym e) refl

given : (p : Part) → is_given p ≡ true → (u : Uid) × (p ≡ Given u)
given (Given u) h = (u, refl)
given (Missing type) h = cc

fills : (by : Setting) (q : Question) (request : Known) → IsKnown q → q.principal ≡ Given request.principal → q.action ≡ Given request.action → q.resource ≡ Given request.resource →
    q.context ≡ WithEntries [] no_trees → request.context ≡ RecordOf [] no_values → IsFilling by q finite.empty request
fills by q request known p a r c is = record {
  names = λ n. ap is_some (finite.get-empty text_cmp n) ∙ sym (known n);
  fills = record {
    principal = rw p refl;
    action = rw a refl;
    resource = rw r refl;
    context = rw (c, is) (refl, tt, refl);
  };
}

has_request : (by : Setting) (q : Question) → HasNoEntries q.context → HasRequest by q
has_request by q (inl e) known =
    let is : is_known q Context ≡ true = all_known q (is_data q.context (inl e)) known Context in
    absurd (let no : false ≡ true = rw e at is in cc)
has_request by q (inr e) known =
    let all = all_known q (is_data q.context (inr e)) known in
    let (principal, p) = given q.principal (all Principal) in
    let (action, a) = given q.action (all Action) in
    let (resource, r) = given q.resource (all Resource) in
    let request : Known = record { principal = principal; action = action; resource = resource; context = RecordOf [] no_values } in
    (request, fills by q request known p a r e refl)

module _ (by : Setting) (world : World) (facts : Facts) (are : AreFactsOf by world facts) (alone : HasScopesAlone world) (q : Question) where
  stands : (id : Text) (s : PolicySyntax) → in_force_at world.policies id ≡ Some s → StandsSoFar facts q finite.empty s (standing_met (scope_known (is_within facts) s q))
  stands id s h = scopes_settle.stands facts q s (alone.slots id s h) (alone.bodies id s h)

  abbrev by_scope : Text × PolicySyntax → Judged
  by_scope = judged_by_scope (is_within facts) q

  judged : (p : Text × PolicySyntax) → in_force_at world.policies p.0 ≡ Some p.1 → IsJudged world (StandsSoFar facts q finite.empty) (by_scope p)
  judged p h = record { syntax = p.1; in_force = h; effect = refl; standing = stands p.0 p.1 h }

  judges : (ps : List (Text × PolicySyntax)) → AreInForce world ps → Judges world (StandsSoFar facts q finite.empty) (map by_scope ps)
  judges ps listed = record {
    each = All-map (IsJudged world (StandsSoFar facts q finite.empty)) by_scope ps (λ k d lt. judged _ (listed.each k d lt));
    every = λ id h.
        let (s, is) = the_value (in_force_at world.policies id) h in
        (by_scope (id, s), contains _ _ (mapped by_scope ps (id, s) (contained ps (id, s) (listed.every id s is))), refl);
  }

  names_nothing : NamesNoUnknown world
  names_nothing id s h = scopes_settle.names_nothing s (alone.bodies id s h)

with_entities : FirstAnswersStand → (by : Setting) (world : World) (facts : Facts) (q : Question) (ps : List (Text × PolicySyntax)) → AreFactsOf by world facts → HasScopesAlone world → HasNoEntries q.context → AreInForce world ps →
    AnswersByScope by world q ps (is_within facts)
with_entities stand by world facts q ps are alone no_entries listed answer says =
    stand by world facts q (map (judged_by_scope (is_within facts) q) ps) answer are (names_nothing by world facts are alone q) (is_data q.context no_entries)
    (has_request by q no_entries) (judges by world facts are alone q ps listed) says

without_entities : FirstAnswersStand → (by : Setting) (world : World) (q : Question) (ps : List (Text × PolicySyntax)) → world.entities ≡ finite.empty → HasScopesAlone world → HasNoEntries q.context → AreInForce world ps →
    AnswersByScope by world q ps same_uid
without_entities stand by world q ps none alone no_entries listed =
    let are : AreFactsOf by world (facts_of by world) = worlds_have_facts.exist by world in
    let is : is_within (facts_of by world) ≡ same_uid = scopes_settle.is_equality (facts_of by world) (worlds_have_facts.nothing_reached by world (facts_of by world) are none) in
    subst (AnswersByScope by world q ps) is (with_entities stand by world (facts_of by world) q ps are alone no_entries listed)

not_erring : (o : Option Bool) (k : Kind) → standing_met o ≡ Erring k → ⊥
not_erring (Some true) k h = cc
not_erring _ k h = cc

-- no policy errs by its scope
none_errs : (is_in : Uid → Uid → Bool) (q : Question) (ps : List (Text × PolicySyntax)) → ErrOnce (map (judged_by_scope is_in q) ps)
none_errs is_in q ps id k l x y =
    let (p, among, is) = unmapped (judged_by_scope is_in q) ps x.0 (contained (map (judged_by_scope is_in q) ps) x.0 x.1) in
    absurd (not_erring (scope_known is_in p.1 q) k (ap (λ (j : Judged). j.standing) is ∙ x.3))

pub scopes_answer : FirstAnswersStand → ScopesAnswer
scopes_answer stand = record {
  data_alone = is_data;
  request = has_request;
  with_entities = with_entities stand;
  without_entities = without_entities stand;
  made = λ is_in q ps. answers_are_made (map (judged_by_scope is_in q) ps) (none_errs is_in q ps);
}
