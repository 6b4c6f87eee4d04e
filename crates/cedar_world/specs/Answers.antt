-- What an answer may say of a question: of a known one all that Cedar's rules say, and of another what stays so
-- whatever is told. (Cedar language reference, "Authorization".)
use Rattle.std.specs.Prelude.{◌≡◌, ◌≢◌, Some, is_some, IsTrue, IsSome, List, [], ◌∷◌, map}
use Rattle.std.specs.FinMap as finite
use Rattle.cedar_language.specs.Uid.{Text}
use Rattle.cedar_language.specs.Value.{Kind, Outcome}
use Rattle.cedar_language.specs.Facts.{Facts}
use Rattle.cedar_language.specs.Answering.{Effect, Permit, Forbid, Decision, Allow, Deny, Standing, Satisfied, Erring, Judged, known_decision, is_reason, ids_with}
use Rattle.cedar_language.specs.Authorization.{Known, standing_of}
use Rattle.cedar_world.specs.Answer.{Ids, ids_of, has_id, Answer}
use Rattle.cedar_grammar.specs.Syntax.{PolicySyntax, condition}
use Rattle.cedar_world.specs.World.{World, in_force, in_force_at, AreFacts}
use Rattle.cedar_world.specs.Asking.{Question, Told}
use Rattle.cedar_world.specs.Setting.{Setting, Settles, means}
use Rattle.cedar_world.specs.Fillings.{IsFilling, Agrees}

-- ---- a known question

abbrev pub judge : Facts → Known → Text × PolicySyntax → Judged
judge facts request p = record { id = p.0; effect = p.1.effect; standing = standing_of (means facts request (condition p.1)) }

abbrev pub erring_as : Text → Standing → List (Text × Kind) → List (Text × Kind)
erring_as id (Erring k) rest = (id, k) ∷ rest
erring_as id _ rest = rest

abbrev pub errors_of : List Judged → List (Text × Kind)
errors_of [] = []
errors_of (j ∷ js) = erring_as j.id j.standing (errors_of js)

-- all that Cedar's rules say of policies that are judged
abbrev pub answer_of : List Judged → Answer
answer_of js = record {
  decision = Some (known_decision js);
  must = ids_of (ids_with (is_reason js) js);
  may = ids_of (ids_with (is_reason js) js);
  erring = finite.from_entries (errors_of js);
}

-- ---- comparing answers

abbrev pub IsWithin : Ids → Ids → Type 0
IsWithin some all = (id : Text) → IsTrue (has_id some id) → IsTrue (has_id all id)

-- what the answer says is so in the whole one
pub record HoldsOf (a whole : Answer) : Type 0 where
  pub decision : (d : Decision) → a.decision ≡ Some d → whole.decision ≡ Some d
  pub must : IsWithin a.must whole.must
  pub may : IsWithin whole.may a.may
  pub erring : (id : Text) → IsSome (finite.get a.erring id) → IsSome (finite.get whole.erring id)

-- both say the same, kinds of errors aside
pub record IsSameButKinds (a whole : Answer) : Type 0 where
  pub decision : a.decision ≡ whole.decision
  pub must : a.must ≡ whole.must
  pub may : a.may ≡ whole.may
  pub erring : (id : Text) → is_some (finite.get a.erring id) ≡ is_some (finite.get whole.erring id)

-- An answer to the same question after more was told: a decision stays, must and erring grow, and may shrinks. An id keeps
-- the kind of error that it was first shown with; which kind that is, is promised of the first answer alone.
pub record Follows (old new : Answer) : Type 0 where
  pub decision : (d : Decision) → old.decision ≡ Some d → new.decision ≡ Some d
  pub must : IsWithin old.must new.must
  pub may : IsWithin new.may old.may
  pub erring : (id : Text) (k : Kind) → finite.get old.erring id ≡ Some k → finite.get new.erring id ≡ Some k

module _ (by : Setting) (world : World) where
  -- ---- a known question

  abbrev pub known_answer : Facts → Known → Answer
  known_answer facts request = answer_of (map (judge facts request) (in_force world.policies))

  -- what Cedar's rules say of a question in which nothing is unknown
  pub record IsKnownAnswer (request : Known) (answer : Answer) : Type 0 where
    pub facts : Facts
    pub facts_are : AreFacts by.functions world.entities facts
    pub is : answer ≡ known_answer facts request

  -- ---- a question with unknowns

  -- what the answer says holds under each filling that keeps what is told
  abbrev pub IsFair : Question → Told → Answer → Type 0
  IsFair q told answer =
      (filling : Told) (request : Known) (whole : Answer) → Agrees by q told filling request → IsKnownAnswer request whole → HoldsOf answer whole

  -- once nothing is unknown, the answer says all
  abbrev pub IsWhole : Question → Told → Answer → Type 0
  IsWhole q told answer =
      (request : Known) (whole : Answer) → IsFilling by q told request → IsKnownAnswer request whole → IsSameButKinds answer whole

  module _ (facts : Facts) (q : Question) (told : Told) where
    -- a policy in force is decided in this way
    pub record IsDecided (id : Text) (effect : Effect) (standing : Standing) : Type 0 where
      pub syntax : PolicySyntax
      pub in_force : in_force_at world.policies id ≡ Some syntax
      pub effect_is : syntax.effect ≡ effect
      pub result : Outcome
      pub settles : Settles facts q told (condition syntax) result
      pub standing_is : standing_of result ≡ standing

    -- it is decided, and not satisfied
    abbrev pub IsOut : Text → Effect → Type 0
    IsOut id effect = (standing : Standing) × (standing ≢ Satisfied) × IsDecided id effect standing

    -- each policy of this effect is decided and not satisfied
    abbrev pub AllOut : Effect → Type 0
    AllOut effect = (id : Text) (syntax : PolicySyntax) → in_force_at world.policies id ≡ Some syntax → syntax.effect ≡ effect → IsOut id effect

    -- some policy of this effect is satisfied
    abbrev pub SomeHolds : Effect → Type 0
    SomeHolds effect = (id : Text) × IsDecided id effect Satisfied

    -- the answer says what the policies that are decided give, kinds of errors aside
    pub record SaysDecided (a : Answer) : Type 0 where
      pub denies : SomeHolds Forbid → a.decision ≡ Some Deny
      pub denies_too : AllOut Permit → a.decision ≡ Some Deny
      pub allows : AllOut Forbid → SomeHolds Permit → a.decision ≡ Some Allow
      pub must_forbids : (id : Text) → IsDecided id Forbid Satisfied → IsTrue (has_id a.must id)
      pub must_permits : AllOut Forbid → (id : Text) → IsDecided id Permit Satisfied → IsTrue (has_id a.must id)
      pub may_not : (id : Text) (effect : Effect) → IsOut id effect → IsTrue (has_id a.may id) → ⊥
      pub may_forbids : SomeHolds Forbid → (id : Text) (syntax : PolicySyntax) → in_force_at world.policies id ≡ Some syntax → syntax.effect ≡ Permit → IsTrue (has_id a.may id) → ⊥
      pub erring : (id : Text) (effect : Effect) (k : Kind) → IsDecided id effect (Erring k) → IsSome (finite.get a.erring id)

    -- each decided policy that errs is told with a kind to which it settles
    abbrev pub SaysKinds : Answer → Type 0
    SaysKinds a = (id : Text) (effect : Effect) (k : Kind) → IsDecided id effect (Erring k) → (l : Kind) × (finite.get a.erring id ≡ Some l) × IsDecided id effect (Erring l)

  -- What is a reason can be one, and an id errs only where a policy is in force under it: so also where no filling exists, of
  -- which fairness says nothing.
  pub record NamesNoGhosts (a : Answer) : Type 0 where
    pub must : IsWithin a.must a.may
    pub may : (id : Text) → IsTrue (has_id a.may id) → IsSome (in_force_at world.policies id)
    pub erring : (id : Text) → IsSome (finite.get a.erring id) → IsSome (in_force_at world.policies id)

  -- prompt, kinds of errors aside
  abbrev pub IsPromptButKinds : Question → Told → Answer → Type 0
  IsPromptButKinds q told answer = (facts : Facts) → AreFacts by.functions world.entities facts → SaysDecided facts q told answer

  abbrev pub NamesKinds : Question → Told → Answer → Type 0
  NamesKinds q told answer = (facts : Facts) → AreFacts by.functions world.entities facts → SaysKinds facts q told answer
