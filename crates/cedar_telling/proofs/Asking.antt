-- A question is asked by the request that has its parts, and what its context was evaluated to.
use Rattle.std.proofs.Common.{◌≡◌, ◌∙◌, ap, sym, Option, None, ℕ, List, codes}
use Rattle.std.specs.FinMap as map
use Rattle.std.specs.FinMap.{get-empty}
use Rattle.either.specs.declared.Either.{Either}
use Rattle.cedar_language.specs.Facts.{Facts}
use Rattle.cedar_language.specs.Order.{text_cmp}
use Rattle.cedar_language.specs.Tree.{Variable, Principal, Action, Resource, Context, Tree, Unknown}
use Rattle.cedar_language.specs.Value.{Value, Kind}
use Rattle.cedar_partial_evaluation.specs.Partial.{ResidualTree, Failed}
use Rattle.cedar_partial_evaluation.specs.Question.{Part, IsAccepted, name_held, part_held, context_held, variable_held}
use Rattle.cedar_world.specs.Asking.{Entries, NoContext, Question}
use Rattle.cedar_world.specs.First.{IsData}
use Rattle.cedar_extensions.specs.Table.{Table}
use Rattle.cedar_requests.specs.Asked.{context_asked, variable_asked}
use Rattle.cedar_requests.specs.Holding.{RequestParts}
use Rattle.cedar_restricted_evaluation.specs.Evaluations.{HasFunctions}
use Rattle.cedar_telling.specs.Contexts.{HasContext, neither_given, both_given, QuestionsAreAsked}
use Rattle.cedar_telling.proofs.Asked.{context_is, context_accepted}
use Rattle.cedar_telling.proofs.Data.{accepts, all_named_are_data}
use Rattle.cedar_telling.proofs.Filled.{has_request}

part_asked : (a b : Part) (n : List ℕ) → a ≡ b → part_held a None n ≡ part_held b (map.get {X = Value} {R = text_cmp} map.empty n) n
part_asked a b n e = λ i. part_held (e i) (sym (get-empty text_cmp n) i) n

-- no context is the unknown of its name
none_asked : (facts : Facts) → context_asked None ≡ context_held facts map.empty NoContext
none_asked facts = ap (λ o. name_held o (codes "context") None) (sym (get-empty text_cmp (codes "context")))

no_failure : (t : Tree) (k : Kind) → ResidualTree t ≡ Failed k → ⊥
no_failure t k e = cc

module _ (table : Table) where
  context_data : (c : Entries) (o : Option (Either Value Tree)) → HasContext table c o → IsData c
  context_data c o neither_given = tt
  context_data c o (both_given {ks} {ts} e) = all_named_are_data ts e.restricted

  context_held_so : (facts : Facts) → HasFunctions table facts → (c : Entries) (o : Option (Either Value Tree)) → HasContext table c o → context_asked o ≡ context_held facts map.empty c
  context_held_so facts has c o neither_given = none_asked facts
  context_held_so facts has c o (both_given {ks} {ts} {p} e) = sym (context_is table ks ts e.restricted e.uncalled e.written p e.answers facts has)

  context_taken : (facts : Facts) → HasFunctions table facts → (c : Entries) (o : Option (Either Value Tree)) → HasContext table c o → IsAccepted facts map.empty c
  context_taken facts has c o neither_given = accepts facts NoContext tt (λ k e. no_failure (Unknown (codes "context") None) k (none_asked facts ∙ e))
  context_taken facts has c o (both_given {ks} {ts} {p} e) = context_accepted table ks ts e.restricted e.uncalled e.written p e.answers facts has

  variable_is : (q : Question) (r : RequestParts) → r.principal ≡ q.principal → r.action ≡ q.action → r.resource ≡ q.resource → HasContext table q.context r.context
      → (facts : Facts) → HasFunctions table facts → (v : Variable) → variable_asked r v ≡ variable_held facts q map.empty v
  variable_is q r p a e c facts has Principal = part_asked r.principal q.principal (codes "principal") p
  variable_is q r p a e c facts has Action = part_asked r.action q.action (codes "action") a
  variable_is q r p a e c facts has Resource = part_asked r.resource q.resource (codes "resource") e
  variable_is q r p a e c facts has Context = context_held_so facts has q.context r.context c

pub questions_are_asked : QuestionsAreAsked
questions_are_asked by table q r p a e c means = record {
  is_data = context_data table q.context r.context c;
  holds = variable_is table q r p a e c;
  accepted = λ facts has. context_taken table facts has q.context r.context c;
  request = has_request by q (context_data table q.context r.context c) means;
}
