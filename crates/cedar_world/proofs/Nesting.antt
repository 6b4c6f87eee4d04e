-- To nest within a limit is to have a nesting that doesn't pass it.
use Rattle.std.proofs.Common.{◌≡◌, inl, inr, ℕ, ◌≤◌, max, List, subst, chars, arith}
use Rattle.cedar_language.specs.Uid.{Text}
use Rattle.cedar_language.specs.Tree.{Tree}
use Rattle.cedar_language.specs.Height.{height}
use Rattle.cedar_grammar.specs.Token.{Token}
use Rattle.cedar_grammar.specs.Tokens.{IsTokens}
use Rattle.cedar_grammar.specs.Grammar.{IsExpr}
use Rattle.cedar_grammar.specs.Policies as policies
use Rattle.cedar_grammar.specs.Nesting.{IsNestingOfPolicies, IsNestingOfExpr, loose_nesting, body_nesting}
use Rattle.cedar_grammar.specs.Laws.{OneList, OneExpr, OnePolicies, ExprsGrow, PoliciesGrow}
use Rattle.cedar_grammar.specs.Functions.{policy_names, body_names}
use Rattle.cedar_grammar.specs.Syntax.{PolicySyntax}
use Rattle.cedar_world.specs.Setting.{Setting, ArePolicies, PoliciesNestWithin, IsBody, BodyNestsWithin}
use Rattle.cedar_world.specs.NestingLaws.{NestingIsLeast}
use Rattle.cedar_world.proofs.Readings.{reads_once}

max_left : (m n k : ℕ) → max m n ≤ k → m ≤ k
max_left m n k h = omega arith

max_right : (m n k : ℕ) → max m n ≤ k → n ≤ k
max_right m n k h = omega arith

max_both : (m n k : ℕ) → m ≤ k → n ≤ k → max m n ≤ k
max_both m n k p q = omega arith

module _ (one_list : OneList) (one_expr : OneExpr) (one_policies : OnePolicies) (exprs_grow : ExprsGrow) (policies_grow : PoliciesGrow) (by : Setting) (limit n : ℕ) (text : Text) where
  module _ (tokens : List Token) (is : IsTokens text tokens) where
    policies_nest : (ss : List PolicySyntax) → ArePolicies by text ss → IsNestingOfPolicies (policy_names by.functions) tokens n → PoliciesNestWithin by limit text → n ≤ limit
    policies_nest ss reads least (inl h) =
        least.1 limit (h.0, subst (λ ts. policies.ArePolicies (policy_names by.functions) limit ts h.0) (one_list (chars text) h.1.0 tokens h.1.1 is) h.1.2)
    policies_nest ss reads least (inr h) = absurd (h.0 ss reads)

    policies_fit : (ss : List PolicySyntax) → ArePolicies by text ss → IsNestingOfPolicies (policy_names by.functions) tokens n → n ≤ limit → PoliciesNestWithin by limit text
    policies_fit ss reads least le =
        let names = policy_names by.functions in
        let own : policies.ArePolicies names reads.0 tokens ss = subst (λ ts. policies.ArePolicies names reads.0 ts ss) (one_list (chars text) reads.1.0 tokens reads.1.1 is) reads.1.2 in
        let same : least.0.0 ≡ ss = one_policies names n reads.0 tokens least.0.0 ss least.0.1 own in
        let within : policies.ArePolicies names limit tokens ss = policies_grow names n limit tokens ss le (subst (policies.ArePolicies names n tokens) same least.0.1) in
        inl (ss, (tokens, is, within))

    body_nests : (tree : Tree) → IsBody by text tree → IsNestingOfExpr (body_names by.functions) tokens n → BodyNestsWithin by limit text → body_nesting n tree ≤ limit
    body_nests tree reads least (inl h) =
        let same : h.0 ≡ tree = reads_once one_list one_expr by text h.0 tree (limit, h.1) reads in
        let first : n ≤ limit = least.1 limit (h.0, subst (λ ts. IsExpr (body_names by.functions) limit ts h.0) (one_list (chars text) h.1.0 tokens h.1.1 is) h.1.2) in
        max_both n (height tree) limit first (subst (λ t. height t ≤ limit) same h.2)
    body_nests tree reads least (inr h) = absurd (h.0 tree reads)

    body_fits : (tree : Tree) → IsBody by text tree → IsNestingOfExpr (body_names by.functions) tokens n → body_nesting n tree ≤ limit → BodyNestsWithin by limit text
    body_fits tree reads least le =
        let names = body_names by.functions in
        let own : IsExpr names reads.0 tokens tree = subst (λ ts. IsExpr names reads.0 ts tree) (one_list (chars text) reads.1.0 tokens reads.1.1 is) reads.1.2 in
        let same : least.0.0 ≡ tree = one_expr names n reads.0 tokens least.0.0 tree least.0.1 own in
        let within : IsExpr names limit tokens tree = exprs_grow names n limit tokens tree (max_left n (height tree) limit le) (subst (IsExpr names n tokens) same least.0.1) in
        inl (tree, (tokens, is, within), max_right n (height tree) limit le)

  outside_policies : ((ss : List PolicySyntax) → ArePolicies by text ss → ⊥) → PoliciesNestWithin by limit text → loose_nesting text ≤ limit
  outside_policies none (inl h) = absurd (none h.0 (limit, h.1))
  outside_policies none (inr h) = h.1

  outside_body : ((tree : Tree) → IsBody by text tree → ⊥) → BodyNestsWithin by limit text → loose_nesting text ≤ limit
  outside_body none (inl h) = absurd (none h.0 (limit, h.1))
  outside_body none (inr h) = h.1

pub nesting_is_least : OneList → OneExpr → OnePolicies → ExprsGrow → PoliciesGrow → NestingIsLeast
nesting_is_least a b c d e = record {
  policies = λ by limit n text tokens ss reads is least. (λ h. policies_nest a b c d e by limit n text tokens is ss reads least h, λ h. policies_fit a b c d e by limit n text tokens is ss reads least h);
  no_policies = λ by limit text none. (λ h. outside_policies a b c d e by limit 0 text none h, λ h. inr (none, h));
  body = λ by limit n text tokens tree reads is least. (λ h. body_nests a b c d e by limit n text tokens is tree reads least h, λ h. body_fits a b c d e by limit n text tokens is tree reads least h);
  no_body = λ by limit text none. (λ h. outside_body a b c d e by limit 0 text none h, λ h. inr (none, h));
}
