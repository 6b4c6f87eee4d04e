-- What is proved of the loose grammar.
use Rattle.std.specs.Prelude.{◌≡◌, ◌↔◌, ℕ, ◌<◌, ◌≤◌, List, [], Some, Err}
use Rattle.cedar_language.specs.Uid.{Text, Name, Uid}
use Rattle.cedar_language.specs.Tree.{Tree, Literal, Lit}
use Rattle.cedar_grammar.specs.Token.{Token}
use Rattle.cedar_grammar.specs.Tokens.{IsTokens}
use Rattle.cedar_grammar.specs.Names.{Names}
use Rattle.cedar_grammar.specs.Grammar.{Path, IsExpr, IsEntity, IsLiteral}
use Rattle.cedar_grammar.specs.Policy.{Policy}
use Rattle.cedar_grammar.specs.Policies.{PolicyWithin, ArePolicies}
use Rattle.cedar_grammar.specs.Nesting.{loose_nesting}
use Rattle.cedar_grammar.specs.LooseReading.{depth, read_expr, read_ref, read_name, read_primary, read_policy, read_policies, openers}
use Rattle.cedar_grammar.specs.Converting.{converted, free_tree, ref_entity, name_path, primary_tree, policy_syntax, policies_syntax}

-- ---- reading loosely and converting is the strict grammar

-- tokens are an expression exactly where what is read of them converts to it
abbrev pub ExprsConvert : Type 0
ExprsConvert = (names : Names) (n : ℕ) (ts : List Token) (t : Tree) → IsExpr names n ts t ↔ (converted (free_tree names) (read_expr n ts) ≡ Some t)

-- an entity, a path alone, and a literal
abbrev pub EntitiesConvert : Type 0
EntitiesConvert = (ts : List Token) (u : Uid) → IsEntity ts u ↔ (converted ref_entity (read_ref ts) ≡ Some u)

abbrev pub NamesConvert : Type 0
NamesConvert = (ts : List Token) (p : Name) → Path ts p [] ↔ (converted name_path (read_name ts) ≡ Some p)

abbrev pub LiteralsConvert : Type 0
LiteralsConvert = (names : Names) (n : ℕ) (ts : List Token) (l : Literal) → IsLiteral names n ts l ↔ (converted (primary_tree names) (read_primary n ts) ≡ Some (Lit l))

-- a policy, and policies
abbrev pub PolicyConverts : Type 0
PolicyConverts = (names : Names) (n : ℕ) (ts : List Token) (p : Policy) → PolicyWithin names n ts p [] ↔ (converted (policy_syntax names) (read_policy n ts) ≡ Some p)

abbrev pub PoliciesConvert : Type 0
PoliciesConvert = (names : Names) (n : ℕ) (ts : List Token) (ps : List Policy) → ArePolicies names n ts ps ↔ (converted (policies_syntax names) (read_policies n ts) ≡ Some ps)

-- ---- the limit of nesting

-- where the narrower limit isn't met, a wider one changes nothing
abbrev pub ExprsStay : Type 0
ExprsStay = (m n : ℕ) (ts : List Token) → m ≤ n → (read_expr m ts ≡ Err depth → ⊥) → read_expr n ts ≡ read_expr m ts

abbrev pub PrimariesStay : Type 0
PrimariesStay = (m n : ℕ) (ts : List Token) → m ≤ n → (read_primary m ts ≡ Err depth → ⊥) → read_primary n ts ≡ read_primary m ts

abbrev pub PolicyStays : Type 0
PolicyStays = (m n : ℕ) (ts : List Token) → m ≤ n → (read_policy m ts ≡ Err depth → ⊥) → read_policy n ts ≡ read_policy m ts

abbrev pub PoliciesStay : Type 0
PoliciesStay = (m n : ℕ) (ts : List Token) → m ≤ n → (read_policies m ts ≡ Err depth → ⊥) → read_policies n ts ≡ read_policies m ts

-- what nests within some limit nests within each that isn't met
abbrev pub ExprsStand : Type 0
ExprsStand = (names : Names) (m n : ℕ) (ts : List Token) (t : Tree) → (read_expr m ts ≡ Err depth → ⊥) → IsExpr names n ts t → IsExpr names m ts t

abbrev pub LiteralsStand : Type 0
LiteralsStand = (names : Names) (m n : ℕ) (ts : List Token) (l : Literal) → (read_primary m ts ≡ Err depth → ⊥) → IsLiteral names n ts l → IsLiteral names m ts l

abbrev pub PolicyStands : Type 0
PolicyStands = (names : Names) (m n : ℕ) (ts : List Token) (p : Policy) → (read_policy m ts ≡ Err depth → ⊥) → PolicyWithin names n ts p [] → PolicyWithin names m ts p []

abbrev pub PoliciesStand : Type 0
PoliciesStand = (names : Names) (m n : ℕ) (ts : List Token) (ps : List Policy) → (read_policies m ts ≡ Err depth → ⊥) → ArePolicies names n ts ps → ArePolicies names m ts ps

-- a limit is met only where so many constructs open
abbrev pub ExprsNest : Type 0
ExprsNest = (n : ℕ) (ts : List Token) → read_expr n ts ≡ Err depth → n ≤ openers ts

abbrev pub PrimariesNest : Type 0
PrimariesNest = (n : ℕ) (ts : List Token) → read_primary n ts ≡ Err depth → n ≤ openers ts

abbrev pub PolicyNests : Type 0
PolicyNests = (n : ℕ) (ts : List Token) → read_policy n ts ≡ Err depth → n ≤ openers ts

abbrev pub PoliciesNest : Type 0
PoliciesNest = (n : ℕ) (ts : List Token) → read_policies n ts ≡ Err depth → n ≤ openers ts

-- a text has places where constructs open for all that its tokens open
abbrev pub OpenersHavePlaces : Type 0
OpenersHavePlaces = (bytes : Text) (ts : List Token) → IsTokens bytes ts → openers ts < loose_nesting bytes
