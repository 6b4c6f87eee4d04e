-- What is looked up of an entity that is given is what the facts have of it.
use Rattle.std.proofs.Common.{◌≡◌, ◌∙◌, ℕ, IfSome, refl, sym, ap, subst, Bor}
use Rattle.std.specs.Prelude.{Option, Some, None}
use Rattle.std.specs.Option.{option_map, option_copied}
use Rattle.cedar_language.specs.Uid.{Text, Uid}
use Rattle.cedar_language.specs.Tree.{Entity, Variable, Principal, Action, Resource, Context, Tree}
use Rattle.cedar_language.specs.Value.{Value, Plain}
use Rattle.cedar_partial_evaluation.specs.Partial.{Answer, Evaluated, LeafAnswers}
use Rattle.cedar_policy_parts.specs.Bindings.{unbound}
use Rattle.cedar_entities.specs.Data.{EntityData}
use Rattle.cedar_entities.specs.Held.{held_of}
use Rattle.cedar_entities.specs.Store.{held_at}
use Rattle.cedar_entities.specs.declared.store.Entities.{Entities}
use Rattle.cedar_extensions.specs.Answering.{FunctionAnswers}
use Rattle.cedar_extensions.specs.Table.{Table}
use Rattle.cedar_operators.specs.Store.{IsFound}
use Rattle.cedar_operators.proofs.ByStore.{within_is}
use Rattle.either.specs.declared.Either.{Either}
use Rattle.either.specs.declared.Either.TheVariants.{Left, Right}
use Rattle.cedar_restricted.specs.PartialValues.{partial_of}
use Rattle.cedar_restricted.specs.declared.partial_values.PartialValue.{PartialValue}
use Rattle.cedar_restricted_evaluation.specs.Evaluations.{part_answer}
use Rattle.cedar_interpreter.specs.Asking.{entity_in, entity_among, AnswersFor}
use Rattle.cedar_interpreter.specs.Holding.{variable_held, entity_held}
use Rattle.cedar_interpreter.specs.Seen.{IsSeen, IsSeenFor, uid_standing}
use Rattle.cedar_interpreter.specs.declared.evaluator.EntityVariable.{EntityVariable}
use Rattle.cedar_interpreter.specs.declared.evaluator.Evaluator.{Evaluator}
use Rattle.cedar_interpreter.specs.declared.given.GivenEntity.{GivenEntity}

held_as : (store : Entities) (uid : Uid) (o : Option (Bor EntityData)) → IsFound store uid o → held_at store uid ≡ option_map held_of (option_copied o)
held_as store uid None found = found
held_as store uid (Some e) found = found.0

found_seen : (store : Entities) (uid : Uid) (o : Option (Bor EntityData)) → IsFound store uid o → IsSeen store uid (option_copied o)
found_seen store uid o found = (held_as store uid o found, λ facts has b. within_is store facts has uid o found b)

pub seen_of : (store : Entities) (part : PartialValue) (u : Uid) (o : Option (Bor EntityData)) → uid_standing (partial_of part) ≡ Some u → IsFound store u o →
    (uid : Uid) → uid_standing (partial_of part) ≡ Some uid → IsSeen store uid (option_copied o)
seen_of store part u o is found = λ uid h.
    let stands : Some u ≡ Some uid = sym is ∙ h in
    let same : u ≡ uid = cc in
    subst (λ x. IsSeen store x (option_copied o)) same (found_seen store u o found)

if_some : {X : Type 0} {P Q : X → Type 0} (found : Option X) → ((x : X) → P x → Q x) → IfSome found P → IfSome found Q
if_some None f h = tt
if_some (Some x) f h = f x h

-- what is given of what stands for a variable
pub given_held : {F : Type 0} (ev : Evaluator F) (v : Variable) (x : EntityVariable) (given : Option GivenEntity) →
    part_answer (partial_of x.part) ≡ variable_held ev v → IsSeenFor ev.entities.now x →
    ((store : Entities) → IsSeenFor store x → IfSome given (λ g. (part_answer (partial_of x.part) ≡ Evaluated (Plain (Entity g.uid.now))) × IsSeen store g.uid.now (option_copied g.entity))) →
    IfSome given (λ g. (variable_held ev v ≡ Evaluated (Plain (Entity g.uid.now))) × IsSeen ev.entities.now g.uid.now (option_copied g.entity))
given_held ev v x given is seen k = if_some given (λ g h. (sym is ∙ h.0, h.1)) (k ev.entities.now seen)

-- ---- of what is asked

module _ {F : Type 0} (answers : F → FunctionAnswers) (ev : Evaluator F) (variables : Variable → Answer) (told : Text → Option Value) (store : Entities) (table : Table) (depth : ℕ) (is : AnswersFor answers variables told store table depth ev) where
  asked_as : (v : Variable) → variables v ≡ variable_held ev v
  asked_as v = sym (ap (λ (holds : LeafAnswers). holds.variable v) (is.holds unbound))

  -- an entity is one that stands there
  stands_in : (e : Either Value Tree) → uid_standing e ≡ entity_in (part_answer e)
  stands_in (Left v) = refl
  stands_in (Right t) = refl

  part_given : (v : Variable) (e : Either Value Tree) → variables v ≡ part_answer e → uid_standing e ≡ entity_in (variables v)
  part_given v e same = stands_in e ∙ ap entity_in (sym same)

  pub entity_given : (v : Variable) → entity_held ev v ≡ entity_among variables v
  entity_given Principal = part_given Principal (partial_of ev.variables.principal.part) (asked_as Principal)
  entity_given Action = part_given Action (partial_of ev.variables.action.part) (asked_as Action)
  entity_given Resource = part_given Resource (partial_of ev.variables.resource.part) (asked_as Resource)
  entity_given Context = refl

  seen_asked : (v : Variable) (uid : Uid) (seen : Option EntityData) → (variable_held ev v ≡ Evaluated (Plain (Entity uid))) × IsSeen ev.entities.now uid seen → (variables v ≡ Evaluated (Plain (Entity uid))) × IsSeen store uid seen
  seen_asked v uid seen held = (asked_as v ∙ held.0, subst (λ s. IsSeen s uid seen) is.store held.1)

  -- what an evaluator gives for a variable stands for it in what is asked
  pub given_asked : {X : Type 0} (v : Variable) (uid_of : X → Uid) (seen_of : X → Option EntityData) (given : Option X) →
      IfSome given (λ x. (variable_held ev v ≡ Evaluated (Plain (Entity (uid_of x)))) × IsSeen ev.entities.now (uid_of x) (seen_of x)) →
      IfSome given (λ x. (variables v ≡ Evaluated (Plain (Entity (uid_of x)))) × IsSeen store (uid_of x) (seen_of x))
  given_asked v uid_of seen_of given = if_some given (λ x. seen_asked v (uid_of x) (seen_of x))
