-- What facts have of a store of built values is made again.
use Rattle.std.proofs.Common.{◌≡◌, ◌∙◌, sym, ap, subst, Option, Some, None, option_map}
use Rattle.std.specs.Prelude.{IfSome}
use Rattle.either.specs.declared.Either.{Either}
use Rattle.either.specs.declared.Either.TheVariants.{Left}
use Rattle.cedar_language.specs.Constructing.{the_constructor}
use Rattle.cedar_language.specs.Facts as language
use Rattle.cedar_language.specs.Facts.{Facts}
use Rattle.cedar_language.specs.Tree.{Tree}
use Rattle.cedar_language.specs.Uid.{Text, Name, Uid}
use Rattle.cedar_language.specs.Value.{Value}
use Rattle.cedar_partial_evaluation.specs.MadeAgain.{HoldsMade}
use Rattle.cedar_entities.specs.Attributes.{AttributeMap}
use Rattle.cedar_entities.specs.Held.{Held}
use Rattle.cedar_entities.specs.Store.{held_at}
use Rattle.cedar_entities.specs.declared.store.Entities.{Entities}
use Rattle.cedar_extensions.specs.Table.{Table, HasFunctions, functions_of}
use Rattle.cedar_operators.specs.Store.{AreAttributes, IsShown, HasFacts}
use Rattle.cedar_operators.specs.StoreLaws.{StoresHaveFacts}
use Rattle.cedar_restricted_evaluation.specs.Built.{IsBuilt, IsBuiltPart}
use Rattle.cedar_restricted_evaluation.proofs.Made.{built_is_made}
use Rattle.cedar_evaluator.specs.MadeStores.{AreBuiltParts, HoldsBuilt, MakesValues, StoresAreMade}

-- a value that the facts have at a name
value_built : (m : AttributeMap) (attribute : Text → Option Value) (a : Text) (v : Value) → AreAttributes m attribute → AreBuiltParts m → attribute a ≡ Some v → IsBuilt v
value_built m attribute a v are built is =
    subst (λ (o : Option (Either Value Tree)). IfSome o IsBuiltPart) (are a ∙ ap (λ (o : Option Value). option_map Left o) is) (built a)

-- an entity that the facts have
shown_built : (o : Option Held) (h : language.Held) → IsShown o (Some h) → IfSome o (λ x. AreBuiltParts x.attributes × AreBuiltParts x.tags) →
    ((a : Text) (v : Value) → h.attribute a ≡ Some v → IsBuilt v) × ((a : Text) (v : Value) → h.tag a ≡ Some v → IsBuilt v)
shown_built None h shown built = absurd shown
shown_built (Some x) h shown built =
    ((λ a v is. value_built x.attributes h.attribute a v shown.0 built.0 is), (λ a v is. value_built x.tags h.tag a v shown.1 built.1 is))

module _ (store : Entities) (table : Table) (facts : Facts) (has : HasFacts store facts) (functions : HasFunctions table facts) (built : HoldsBuilt store) (makes : MakesValues table) where
  entity_built : (u : Uid) (h : language.Held) → facts.entity u ≡ Some h → ((a : Text) (v : Value) → h.attribute a ≡ Some v → IsBuilt v) × ((a : Text) (v : Value) → h.tag a ≡ Some v → IsBuilt v)
  entity_built u h is = shown_built (held_at store u) h (subst (λ (o : Option language.Held). IsShown (held_at store u) o) is (has.entities u)) (built u)

  facts_are_made : HoldsMade facts
  facts_are_made =
      let made = built_is_made facts (functions the_constructor ∙ makes.constructs) in
      record {
        attribute = λ u h a v e f. made v ((entity_built u h e).0 a v f);
        tag = λ u h a v e f. made v ((entity_built u h e).1 a v f);
        answer = λ n f vs v e all g. made v (makes.built n f vs v (sym (functions n) ∙ e) g);
      }

pub stores_made : StoresHaveFacts → StoresAreMade
stores_made law = λ store table whole closed values built makes.
    let (facts, has, same) = law store (functions_of table) whole closed values in
    let functions : HasFunctions table facts = λ n. ap (λ (f : Name → Option language.Function). f n) same in
    (facts, has, functions, facts_are_made store table facts has functions built makes)
