-- The premises of the laws can be met: a question with a missing principal, values that fill it, and a policy that settles by type.
use Rattle.std.proofs.Common.{◌≡◌, true, false, cond, not, ◌&&◌, ◌||◌, [], ◌∷◌, Some, None, refl, sym, ◌∙◌, subst}
use Rattle.std.specs.Prelude.{codes, is_some}
use Rattle.std.specs.FinMap as finite
use Rattle.cedar_language.specs.Uid.{Text, Name, Uid}
use Rattle.cedar_language.specs.Tree.{Boolean, Entity, Variable, Principal, Action, Resource, Context, Is, Tree, Var, Apply, no_trees, a_tree}
use Rattle.cedar_language.specs.Value.{Plain, RecordOf, no_values, Gives}
use Rattle.cedar_language.specs.Order.{same_name, same_uid}
use Rattle.cedar_language.specs.Facts.{Facts}
use Rattle.cedar_language.specs.Meaning.{meaning}
use Rattle.cedar_language.specs.Answering.{Permit}
use Rattle.cedar_language.specs.Authorization.{Policy, Known}
use Rattle.cedar_typing.specs.Types.{no_fields}
use Rattle.cedar_typing.specs.Schema.{EntityShape, Schema, Environment, SlotTypes, IsEnvironment}
use Rattle.cedar_typing.specs.Results.{known, bool_type_of}
use Rattle.cedar_typing.specs.Leaves.{variable_type}
use Rattle.cedar_typing.specs.Plain.{where_declared}
use Rattle.cedar_typing.specs.Conforming.{IsOf, Conforms, IsRequestOf}
use Rattle.cedar_typing.specs.Validated.{IsValid}
use Rattle.cedar_partial_evaluation.specs.Settling as settling
use Rattle.cedar_partial_evaluation.specs.Settling.{settled_in}
use Rattle.cedar_partial_evaluation.specs.MadeAgain.{HoldsMade}
use Rattle.cedar_partial_evaluation.specs.Question.{Given, Missing, WithEntries, Question, Told, settled_of, AreMadeTold, IsAccepted}
use Rattle.cedar_partial_evaluation.specs.Filling.{request_filled}
use Rattle.cedar_typed_questions.specs.Filled.{IsConformingFilling}
use Rattle.cedar_typed_questions.specs.Early.{Completes, SettlesByType, ValidPoliciesSettleByType}

abbrev user : Name
user = codes "User" ∷ []

abbrev action_type : Name
action_type = codes "Action" ∷ []

abbrev someone : Uid
someone = record { type_name = user; id = codes "u" }

abbrev view : Uid
view = record { type_name = action_type; id = codes "view" }

abbrev bare : EntityShape
bare = record { attributes = no_fields; tags = None }

-- entity User; action view appliesTo { principal: User, resource: User };
abbrev schema : Schema
schema = record {
  entity = λ n. cond (same_name n user || same_name n action_type) (Some bare) None;
  may_name = λ u. same_name u.type_name user || same_uid u view;
  may_reach = λ n m. false;
  is_action = λ u. same_uid u view;
  action_reaches = λ u w. false;
  applies = λ u n m. same_uid u view && (same_name n user && same_name m user);
  context = λ u. no_fields;
  signature = λ n. None;
}

-- nothing is held
abbrev facts : Facts
facts = record { entity = λ u. None; reaches = λ u w. false; function = λ n. None }

conforms : Conforms schema facts
conforms = record {
  entities = λ u h shape e f. absurd (cc e);
  hierarchy = λ u w e. absurd (cc e);
  actions = λ u w e. refl;
  functions = λ n g e. absurd (cc e);
}

made : HoldsMade facts
made = record {
  attribute = λ u h a v e f. absurd (cc e);
  tag = λ u h a v e f. absurd (cc e);
  answer = λ n f vs v e h i. absurd (cc e);
}

-- without slots
abbrev static : SlotTypes
static s o = not (is_some o)

abbrev environment : Environment
environment = record { schema = schema; principal = user; action = view; resource = user; slot = λ s. None }

is_environment : IsEnvironment schema static environment
is_environment = record { of = refl; is_action = refl; applies = refl; slots = λ s. refl }

-- a user, who isn't known, views another
abbrev question : Question
question = record { principal = Missing (Some user); action = Given view; resource = Given someone; context = WithEntries [] no_trees }

abbrev known_question : Known
known_question = record { principal = someone; action = view; resource = someone; context = RecordOf [] no_values }

-- someone is told as the principal
abbrev TellsSomeone : Told → Type 0
TellsSomeone told = finite.get told (codes "principal") ≡ Some (Plain (Entity someone))

variable_is : (filling : Told) (v : Variable) → IsOf (variable_type environment v) ((request_filled known_question (λ s. None) filling).variable v)
variable_is filling Principal = (someone, refl, refl)
variable_is filling Action = (view, refl, refl)
variable_is filling Resource = (someone, refl, refl)
variable_is filling Context = ([], no_values, refl, tt, λ a e. refl)

asked : (filling : Told) → IsRequestOf environment (request_filled known_question (λ s. None) filling)
asked filling = record { variables = variable_is filling; action = refl; slots = λ s n e. absurd (cc e) }

fills : (filling : Told) → TellsSomeone filling → IsConformingFilling schema static facts question (λ s. None) filling known_question
fills filling h = record {
  fills = record { principal = (h, refl); action = refl; resource = refl; context = (refl, tt, refl) };
  environment = environment;
  is_environment = is_environment;
  is_request = asked filling;
}

-- `permit(principal is User, action, resource);`
abbrev is_user : Tree
is_user = Apply (Is user) (a_tree (Var Principal) no_trees)

abbrev policy : Policy
policy = record { id = codes "policy0"; effect = Permit; condition = is_user; slots = λ s. None }

valid : IsValid schema static policy.condition
valid e is = (
  bool_type_of (same_name e.principal user),
  [],
  subst (λ (s : Schema). where_declared (s.entity user) (known (same_name e.principal user)) ≡ known (same_name e.principal user)) (sym is.of) refl,
)

-- nothing is told as yet
abbrev IsNothing : Told → Type 0
IsNothing told = (n : Text) → finite.get told n ≡ None

made_told : (told : Told) → IsNothing told → AreMadeTold facts told
made_told told h n v e = absurd (cc (sym (h n) ∙ e))

accepted : (told : Told) → IsAccepted facts told question.context
accepted told = record { settled = λ e. cc e; held = λ k e. cc e }

completes : (told filling : Told) → IsNothing told → Completes told filling policy
completes told filling h = record { keeps = λ n v e. absurd (cc (sym (h n) ∙ e)); gives = (tt, tt) }

-- what is settled of the policy before someone is told is what it means then
settles_by_type : ValidPoliciesSettleByType → (told filling : Told) → IsNothing told → TellsSomeone filling →
    SettlesByType (settled_in facts (settled_of facts question (λ s. None) told) is_user) (meaning facts (request_filled known_question (λ s. None) filling) is_user)
settles_by_type law told filling h f =
    law schema facts conforms made static policy valid question told filling known_question (made_told told h) (accepted told) (completes told filling h) (fills filling f)

-- and that it is true
settles_to_true : (told : Told) → IsNothing told → settled_in facts (settled_of facts question (λ s. None) told) is_user ≡ settling.Is (Plain (Boolean true))
settles_to_true told h = rw (h (codes "principal")) refl

means_true : ValidPoliciesSettleByType → (told filling : Told) → IsNothing told → TellsSomeone filling → meaning facts (request_filled known_question (λ s. None) filling) is_user ≡ Gives (Plain (Boolean true))
means_true law told filling h f = (subst (λ s. SettlesByType s (meaning facts (request_filled known_question (λ s. None) filling) is_user)) (settles_to_true told h) (settles_by_type law told filling h f)).2
