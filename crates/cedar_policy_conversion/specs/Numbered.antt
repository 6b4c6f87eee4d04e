-- The policies of a text, one after the other, each under its number.
use Rattle.std.specs.Prelude.{◌≡◌, ◌+◌, ℕ, [], ◌∷◌, List, drop, Option, Some, None, Result, IfOk}
use Rattle.std.specs.Borrow.{Bor}
use Rattle.std.specs.declared.alloc.AllocError.{AllocError}
use Rattle.cedar_language.specs.Uid.{Text}
use Rattle.cedar_grammar.specs.Syntax.{numbered}
use Rattle.cedar_cst.specs.declared.node.Node.{Node}
use Rattle.cedar_cst.specs.declared.cst.Policies.{Policies}
use Rattle.cedar_cst.specs.declared.cst.Policy.{Policy}
use Rattle.cedar_policy_conversion.specs.declared.numbers.NumberedPolicies.{NumberedPolicies}

-- the number of the next one
abbrev pub number_next : NumberedPolicies → ℕ
number_next it = it.number

abbrev pub policies_left : NumberedPolicies → List (Node (Option Policy))
policies_left it = drop it.number it.policies.now

-- the policies of a node that holds some
abbrev pub HoldsPolicies : Option Policies → List (Node (Option Policy)) → Type 0
HoldsPolicies None ps = ⊥
HoldsPolicies (Some held) ps = ps ≡ held.0.items

-- A call gives the first policy that is left under its number, unless memory ran out for the id, and goes on to the next one; it
-- gives nothing where none is left.
abbrev pub YieldsNumbered : NumberedPolicies → Option (Result (Text × Bor (Node (Option Policy))) AllocError) → NumberedPolicies → Type 0
YieldsNumbered s None t = (policies_left s ≡ []) × (policies_left t ≡ [])
YieldsNumbered s (Some given) t =
    (policy : Node (Option Policy)) × (policies_left s ≡ policy ∷ policies_left t) × (number_next t ≡ number_next s + 1)
    × IfOk given (λ p. (p.0 ≡ numbered (number_next s)) × (p.1.now ≡ policy))
