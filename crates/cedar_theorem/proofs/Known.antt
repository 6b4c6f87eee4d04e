-- A question that is answered and in which nothing is unknown asks as the theorem has it.
use Rattle.std.proofs.Common.{◌≡◌, true, false, ◌&&◌, Option, Some, None, List, codes, refl, sym, ◌∙◌, ap, subst, true≢false}
use Rattle.std.specs.Option.{unwrap_or}
use Rattle.std.proofs.lemmas.Bool.{or_parts}
use Rattle.std.specs.FinMap as map
use Rattle.cedar_language.specs.Uid.{Text, Name, Uid}
use Rattle.cedar_language.specs.Tree.{Entity, MakeRecord, Tree, Lit, Apply, Trees}
use Rattle.cedar_language.specs.Value.{Value, Gives}
use Rattle.cedar_language.specs.Authorization.{Known}
use Rattle.cedar_language.specs.Meaning.{Request, meaning}
use Rattle.cedar_grammar.specs.Functions.{Functions}
use Rattle.cedar_grammar.specs.UnknownCalls.{all_named}
use Rattle.cedar_partial_evaluation.specs.Filling.{FillsPart, FillsContext}
use Rattle.cedar_world.specs.Asking.{Part, Given, Missing, Entries, NoContext, WithEntries, Question}
use Rattle.cedar_world.specs.Bodies.{entity_of, zipped, found, if_there, part_with, part_fields, action_fields, entries_of, optional, question_fields, question_keys, ask_body}
use Rattle.cedar_world.specs.Fillings.{IsFilling}
use Rattle.cedar_world.specs.Question.{IsKnown, is_missing, has_name}
use Rattle.cedar_world.specs.Setting.{Setting, BodiesAreOne, functions_alone}
use Rattle.cedar_world.proofs.Parts.{not_none, same_some}
use Rattle.cedar_theorem.specs.Bodies.{field, no_entities, no_question, given, value_in}
use Rattle.cedar_theorem.specs.Laws.{KnownQuestionsAsk}
use Rattle.cedar_theorem.proofs.Asking.{same_part, same_tree, question_parts}
use Rattle.cedar_theorem.proofs.Reading.{record_read, entry_found, nothing_told}

not_missing : (type : Option Name) (u : Uid) → Missing type ≡ Given u → ⊥
not_missing type u e = cc

not_stated : (keys : List Text) (entries : Trees) → NoContext ≡ WithEntries keys entries → ⊥
not_stated keys entries e = cc

-- a part that is given is written as an entity
given_read : (o : Option Tree) (x : Option (Option Name)) (u : Uid) → part_with (if_there entity_of o) x ≡ Some (Given u) → o ≡ Some (Lit (Entity u))
given_read None (Some type) u e = absurd (not_missing type u (same_some (Missing type) (Given u) e))
given_read None None u e = absurd (not_none (Given u) e)
given_read (Some (Lit (Entity w))) (Some None) u e = ap (λ y. Some (Lit (Entity y))) (same_part w u (same_some (Given w) (Given u) e))
given_read (Some (Lit (Entity w))) (Some (Some type)) u e = absurd (not_none (Given u) e)
given_read (Some (Lit (Entity w))) None u e = absurd (not_none (Given u) e)
given_read _ x u e = absurd (not_none (Given u) e)

part_read : (o : Option Tree) (x : Option (Option Name)) (p : Part) (u : Uid) → part_with (if_there entity_of o) x ≡ Some p → p ≡ Given u → o ≡ Some (Lit (Entity u))
part_read o x p u e is = given_read o x u (e ∙ ap (λ q. Some q) is)

-- a context that is stated is written as a record
record StatesRecord (o : Option Tree) (keys : List Text) (entries : Trees) : Type 0 where
  ks : List Text
  ts : Trees
  tree_is : o ≡ Some (Apply (MakeRecord ks) ts)
  named_is : Apply (MakeRecord ks) (all_named ts) ≡ Apply (MakeRecord keys) entries

context_read : (o : Option Tree) (c : Option Entries) (keys : List Text) (entries : Trees) → if_there entries_of o ≡ Some c → unwrap_or c NoContext ≡ WithEntries keys entries → StatesRecord o keys entries
context_read None c keys entries e f = absurd (not_stated keys entries (ap (λ x. unwrap_or x NoContext) (same_some None c e) ∙ f))
context_read (Some (Apply (MakeRecord ks) ts)) c keys entries e f = record {
  ks = ks;
  ts = ts;
  tree_is = refl;
  named_is = same_tree ks keys (all_named ts) entries (ap (λ x. unwrap_or x NoContext) (same_some (Some (WithEntries ks (all_named ts))) c e) ∙ f);
}
context_read _ c keys entries e f = absurd (not_none c e)

-- ---- what is known of the question

given_part : (p : Part) (o : Option Value) (u : Uid) → FillsPart p o u → (is_missing p && true) ≡ false → p ≡ Given u
given_part (Given w) o u fills known = ap Given (sym fills)
given_part (Missing type) o u fills known = absurd (true≢false known)

record MeansContext (functions : Functions) (c : Entries) (v : Value) : Type 0 where
  keys : List Text
  entries : Trees
  is : c ≡ WithEntries keys entries
  means : meaning (no_entities functions) no_question (Apply (MakeRecord keys) entries) ≡ Gives v

module _ (by : Setting) (q : Question) (known : IsKnown q) where
  abbrev fills_context : Entries → Value → Type 0
  fills_context c v = FillsContext (functions_alone by.functions) c map.empty v

  context_known : (c : Entries) → c ≡ q.context → (v : Value) → fills_context c v → MeansContext by.functions c v
  context_known NoContext is v fills =
      let behind = (or_parts (is_missing q.principal && false) _ (known (codes "context"))).1 in
      let later = (or_parts (is_missing q.action && false) _ behind).1 in
      let last = (or_parts (is_missing q.resource && false) _ later).1 in
      absurd (true≢false (ap (λ c. has_name c (codes "context")) is ∙ last))
  context_known (WithEntries keys entries) is v (data_alone, each, means) = record {
    keys = keys;
    entries = entries;
    is = refl;
    means = sym (ap (λ (r : Request). meaning (functions_alone by.functions) r (Apply (MakeRecord keys) entries)) nothing_told) ∙ means;
  }

  asks_read : (tree : Tree) → ask_body tree ≡ Some q → (request : Known) → IsFilling by q map.empty request
      → (field (codes "principal") tree ≡ Some (Lit (Entity request.principal))) × (field (codes "action") tree ≡ Some (Lit (Entity request.action)))
      × (field (codes "resource") tree ≡ Some (Lit (Entity request.resource))) × (value_in by.functions (field (codes "context") tree) ≡ Some request.context)
  asks_read tree states request filling =
      let fills = filling.fills in
      let (ks, ts, tree_is, reads) = record_read question_keys question_fields tree q states in
      let fs = zipped ks ts in
      let (entries, one, two, three, four, context_is) =
      question_parts (part_fields (codes "principal") (codes "principal_type") fs) (action_fields fs) (part_fields (codes "resource") (codes "resource_type") fs) (optional entries_of (codes "context") fs) q reads in
      let action = (or_parts (is_missing q.principal && false) _ (known (codes "action"))).1 in
      let resource = (or_parts (is_missing q.action && false) _ (or_parts (is_missing q.principal && false) _ (known (codes "resource"))).1).1 in
      let principal_is = given_part q.principal _ request.principal fills.principal (or_parts (is_missing q.principal && true) _ (known (codes "principal"))).0 in
      let action_is = given_part q.action _ request.action fills.action (or_parts (is_missing q.action && true) _ action).0 in
      let resource_is = given_part q.resource _ request.resource fills.resource (or_parts (is_missing q.resource && true) _ resource).0 in
      let context = context_known q.context refl request.context fills.context in
      let stated = context_read (found (codes "context") fs) entries context.keys context.entries four (sym context_is ∙ context.is) in
      let at = λ (key : Text) (o : Option Tree) (e : found key fs ≡ o). ap (field key) tree_is ∙ entry_found key ks ts ∙ e in (
        at (codes "principal") _ (part_read (found (codes "principal") fs) _ q.principal request.principal one principal_is),
        at (codes "action") _ (part_read (found (codes "action") fs) _ q.action request.action two action_is),
        at (codes "resource") _ (part_read (found (codes "resource") fs) _ q.resource request.resource three resource_is),
        ap (value_in by.functions) (at (codes "context") _ stated.tree_is)
            ∙ ap (λ t. given (meaning (no_entities by.functions) no_question t)) stated.named_is ∙ ap given context.means,
      )

pub known_ask : ((by : Setting) → BodiesAreOne by) → KnownQuestionsAsk
known_ask once by world new text answer tree q (none, (other, r, reads, states, (first, is))) again says known =
    let same : r ≡ q = same_some r q (sym states ∙ ap ask_body (once by text other tree reads again) ∙ says) in
    let (request, fills, whole) = first.known (subst IsKnown (sym same) known) in
    let parts = asks_read by q known tree says request (subst (λ x. IsFilling by x map.empty request) same fills) in
    (request, record { body = tree; reads = again; principal = parts.0; action = parts.1; resource = parts.2; context = parts.3 })
