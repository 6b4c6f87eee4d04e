-- To nest within a limit is to have a nesting that doesn't pass it.
use Rattle.std.specs.Prelude.{◌↔◌, ℕ, ◌≤◌, List}
use Rattle.cedar_language.specs.Uid.{Text}
use Rattle.cedar_language.specs.Tree.{Tree}
use Rattle.cedar_grammar.specs.Token.{Token}
use Rattle.cedar_grammar.specs.Tokens.{IsTokens}
use Rattle.cedar_grammar.specs.Nesting.{IsNestingOfPolicies, IsNestingOfExpr, loose_nesting, body_nesting}
use Rattle.cedar_grammar.specs.Functions.{policy_names, body_names}
use Rattle.cedar_grammar.specs.Syntax.{PolicySyntax}
use Rattle.cedar_world.specs.Setting.{Setting, ArePolicies, PoliciesNestWithin, IsBody, BodyNestsWithin}

-- `limit` is any limit, the session's own among them
pub record NestingIsLeast : Type 0 where
  pub policies : (by : Setting) (limit n : ℕ) (text : Text) (tokens : List Token) (ss : List PolicySyntax)
      → ArePolicies by text ss → IsTokens text tokens → IsNestingOfPolicies (policy_names by.functions) tokens n → PoliciesNestWithin by limit text ↔ (n ≤ limit)
  pub no_policies : (by : Setting) (limit : ℕ) (text : Text)
      → ((ss : List PolicySyntax) → ArePolicies by text ss → ⊥) → PoliciesNestWithin by limit text ↔ (loose_nesting text ≤ limit)
  pub body : (by : Setting) (limit n : ℕ) (text : Text) (tokens : List Token) (tree : Tree)
      → IsBody by text tree → IsTokens text tokens → IsNestingOfExpr (body_names by.functions) tokens n → BodyNestsWithin by limit text ↔ (body_nesting n tree ≤ limit)
  pub no_body : (by : Setting) (limit : ℕ) (text : Text)
      → ((tree : Tree) → IsBody by text tree → ⊥) → BodyNestsWithin by limit text ↔ (loose_nesting text ≤ limit)
