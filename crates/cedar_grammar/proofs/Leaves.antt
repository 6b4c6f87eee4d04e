-- An entity nests as a leaf, and so does a text without policies.
use Rattle.std.proofs.Common.{ℕ, zero, suc, ◌≤◌, List, [], refl, arith}
use Rattle.cedar_language.specs.Uid.{Uid}
use Rattle.cedar_language.specs.Tree.{Tree, Lit, Entity}
use Rattle.cedar_grammar.specs.Token.{Token}
use Rattle.cedar_grammar.specs.Names.{Names}
use Rattle.cedar_grammar.specs.Grammar.{entity_is, no_access, member, plain, stop, chain, alone, or_is, IsExpr, IsEntity}
use Rattle.cedar_grammar.specs.Policy.{Policy}
use Rattle.cedar_grammar.specs.Policies.{no_more, ArePolicies}
use Rattle.cedar_grammar.specs.Laws.{EntitiesNestOnce, NoPoliciesNestOnce}

entity-expr : (names : Names) (ts : List Token) (u : Uid) → IsEntity ts u → IsExpr names 1 ts (Lit (Entity u))
entity-expr names ts u d =
    let t = Lit (Entity u) in (or_is (chain t [] (chain t [] (alone (chain t [] (chain t [] (plain (member t [] (entity_is d) no_access)) stop) stop)) stop) stop), refl)

some-nesting : (names : Names) (ts : List Token) (m : ℕ) (t : Tree) → IsExpr names m ts t → 1 ≤ m
some-nesting names ts zero t d = absurd d.0
some-nesting names ts (suc m) t d = omega arith

pub entities_nest_once : EntitiesNestOnce
entities_nest_once ts u d names = ((Lit (Entity u), entity-expr names ts u d), λ m r. some-nesting names ts m r.0 r.1)

some-level : (names : Names) (ts : List Token) (m : ℕ) (ps : List Policy) → ArePolicies names m ts ps → 1 ≤ m
some-level names ts zero ps d = absurd d
some-level names ts (suc m) ps d = omega arith

pub no_policies_nest_once : NoPoliciesNestOnce
no_policies_nest_once names = (([], no_more), λ m r. some-level names [] m r.0 r.1)
