-- How texts are read and what trees mean, for the world's definitions.
use Rattle.std.specs.Prelude.{◌≡◌, ◌⊎◌, ℕ, ◌≤◌, false, None, List}
use Rattle.cedar_language.specs.Uid.{Text}
use Rattle.cedar_language.specs.Tree.{Tree}
use Rattle.cedar_language.specs.Value.{Outcome, Gives, Fails}
use Rattle.cedar_language.specs.Facts.{Facts}
use Rattle.cedar_language.specs.Meaning.{meaning}
use Rattle.cedar_language.specs.Authorization.{Known, request_at}
use Rattle.cedar_language.specs.Height.{height}
use Rattle.cedar_partial_evaluation.specs.Settling.{Is, settled_in}
use Rattle.cedar_partial_evaluation.specs.Prompt.{ErrsAs}
use Rattle.cedar_partial_evaluation.specs.Question.{settled_of}
use Rattle.cedar_partial_evaluation.specs.Filling.{names_told, ErrsEverywhere}
use Rattle.cedar_grammar.specs.Policies.{Reads, ReadsExpr}
use Rattle.cedar_grammar.specs.Nesting.{loose_nesting}
use Rattle.cedar_grammar.specs.Syntax.{PolicySyntax}
use Rattle.cedar_world.specs.Asking.{Question, Told}
use Rattle.cedar_grammar.specs.Functions.{Functions, policy_names, body_names, evaluated_function}

-- the functions that texts may call, and the limit of depth
pub record Setting : Type 0 where
  pub functions : Functions
  pub depth : ℕ

module _ (by : Setting) where
  -- ---- texts

  -- the text's policies, in its order, with a nesting of at most so much
  abbrev pub ArePoliciesWithin : ℕ → Text → List PolicySyntax → Type 0
  ArePoliciesWithin n text ss = Reads (policy_names by.functions) n text ss

  abbrev pub ArePolicies : Text → List PolicySyntax → Type 0
  ArePolicies text ss = (n : ℕ) × ArePoliciesWithin n text ss

  -- the text's one expression
  abbrev pub IsBodyWithin : ℕ → Text → Tree → Type 0
  IsBodyWithin n text tree = ReadsExpr (body_names by.functions) n text tree

  abbrev pub IsBody : Text → Tree → Type 0
  IsBody text tree = (n : ℕ) × IsBodyWithin n text tree

  -- ---- nesting: inside the grammar it is counted by constructs, and outside by places

  abbrev pub PoliciesNestWithin : ℕ → Text → Type 0
  PoliciesNestWithin n text =
      ((ss : List PolicySyntax) × ArePoliciesWithin n text ss)
      ⊎ (((ss : List PolicySyntax) → ArePolicies text ss → ⊥) × (loose_nesting text ≤ n))

  -- a body counts as deep as its tree is high, where that is more
  abbrev pub BodyNestsWithin : ℕ → Text → Type 0
  BodyNestsWithin n text =
      ((tree : Tree) × IsBodyWithin n text tree × (height tree ≤ n))
      ⊎ (((tree : Tree) → IsBody text tree → ⊥) × (loose_nesting text ≤ n))

  -- ---- no text is read in two ways

  abbrev pub PoliciesAreOne : Type 0
  PoliciesAreOne = (text : Text) (ss rs : List PolicySyntax) → ArePolicies text ss → ArePolicies text rs → ss ≡ rs

  abbrev pub BodiesAreOne : Type 0
  BodiesAreOne = (text : Text) (s t : Tree) → IsBody text s → IsBody text t → s ≡ t

-- what a tree without slots means for a known question
abbrev pub means : Facts → Known → Tree → Outcome
means facts q t = meaning facts (request_at q (λ s. None)) t

-- ---- without a question

-- no entity is held
abbrev pub functions_alone : Functions → Facts
functions_alone functions = record {
  entity = λ uid. None;
  reaches = λ a b. false;
  function = evaluated_function functions;
}

-- what a restricted tree means, where the unknown names have these values
abbrev pub value_of : Functions → Told → Tree → Outcome
value_of functions told t = meaning (functions_alone functions) (names_told told) t

-- ---- a question with unknowns

-- to what a tree without slots settles once these values are told
abbrev pub Settles : Facts → Question → Told → Tree → Outcome → Type 0
Settles facts q told t (Gives v) = settled_in facts (settled_of facts q (λ s. None) told) t ≡ Is v
Settles facts q told t (Fails k) =
    ErrsAs facts (settled_of facts q (λ s. None) told) (ErrsEverywhere facts q (λ s. None) told) t k
