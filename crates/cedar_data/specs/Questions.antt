-- Questions of which all is given, as texts write them.
use Rattle.std.specs.Prelude.{◌≡◌, ℕ, suc, ◌≤◌, true, false, List, [], ◌∷◌, Ok, codes}
use Rattle.std.specs.List.{AllByRecursion}
use Rattle.cedar_language.specs.Height.{height}
use Rattle.cedar_language.specs.Tree.{MakeRecord, Tree, Lit, Entity, Apply, no_trees, a_tree}
use Rattle.cedar_language.specs.Uid.{Text}
use Rattle.cedar_language.specs.Value.{Value}
use Rattle.cedar_grammar.specs.Build.{Keyed, keys, put}
use Rattle.cedar_grammar.specs.Grammar.{Items, Entry, Unary, Within, inner}
use Rattle.cedar_grammar.specs.Names.{Names, is_among}
use Rattle.cedar_grammar.specs.Policies.{ReadsExpr}
use Rattle.cedar_grammar.specs.Token.{RightBrace}
use Rattle.cedar_trees.specs.Records.{entries_made}
use Rattle.cedar_data.specs.Data.{IsData}
use Rattle.cedar_data.specs.Simple.{Attributes, tree_of, is_simple, record_value, written_entries}
use Rattle.cedar_data.specs.Takes.{Reads}
use Rattle.cedar_data.specs.declared.given.GivenQuestion.{GivenQuestion}

-- the body that states it: a record of its entities and its context
abbrev pub question_tree : GivenQuestion → Tree
question_tree q =
    Apply (MakeRecord (codes "action" ∷ codes "context" ∷ codes "principal" ∷ codes "resource" ∷ []))
    (a_tree (Lit (Entity q.action.value)) (a_tree (tree_of (record_value q.context.value.entries))
    (a_tree (Lit (Entity q.principal.value)) (a_tree (Lit (Entity q.resource.value)) no_trees))))

-- the text is the body that states this question, within a nesting of n, and no higher than that
pub record IsQuestionText (names : Names) (n : ℕ) (bytes : Text) (q : GivenQuestion) : Type 0 where
  pub reads : ReadsExpr names n bytes (question_tree q)
  pub low : height (question_tree q) ≤ n

-- ---- on the way there

-- the text begins with this value, which is a literal or a record of such values
pub record ReadsValue (n : ℕ) (bytes : Text) (v : Value) (rest : Text) : Type 0 where
  pub reads : (names : Names) → Reads (Within names n) bytes (tree_of v) rest
  pub is_data : IsData n (tree_of v)
  pub simple : is_simple (tree_of v) ≡ true

-- an entry of a record of such values
pub record IsEntry (n : ℕ) (e : Keyed Tree) : Type 0 where
  pub is_data : IsData n e.1
  pub simple : is_simple e.1 ≡ true

-- an entry of a new key is put among others
pub record PutsNew (e : Keyed Tree) (old new : List (Keyed Tree)) : Type 0 where
  pub unused : is_among e.0 (keys old) ≡ false
  pub is : new ≡ put e old

-- the text begins with an entry of a new key, which is put among others
pub record AddsEntry (n : ℕ) (bytes : Text) (old new : List (Keyed Tree)) (rest : Text) : Type 0 where
  pub added : Keyed Tree
  pub reads : (names : Names) → Reads (Entry (Within names n)) bytes added rest
  pub is_entry : IsEntry n added
  pub puts : PutsNew added old new

-- the text begins with entries up to the closing brace, each of a key of its own; by their keys they are these
pub record ReadsByKey (n : ℕ) (bytes : Text) (entries : List (Keyed Tree)) (rest : Text) : Type 0 where
  pub listed : List (Keyed Tree)
  pub reads : (names : Names) → Reads (Items RightBrace (Entry (Within names n))) bytes listed rest
  pub made : entries_made listed ≡ Ok entries
  pub are_entries : AllByRecursion (IsEntry n) entries

-- the same of attributes
abbrev pub AddsAttribute : ℕ → Text → Attributes → Attributes → Text → Type 0
AddsAttribute n bytes old new rest = AddsEntry n bytes (written_entries old) (written_entries new) rest

abbrev pub ReadsAttributes : ℕ → Text → Attributes → Text → Type 0
ReadsAttributes n bytes es rest = ReadsByKey n bytes (written_entries es) rest

-- the text begins with this record of such values, inside which they nest no deeper than n
pub record ReadsSimple (n : ℕ) (bytes : Text) (t : Tree) (rest : Text) : Type 0 where
  pub reads : (names : Names) → Reads (Unary (inner names n)) bytes t rest
  pub is_data : IsData (suc n) t
  pub simple : is_simple t ≡ true

abbrev pub ReadsRecord : ℕ → Text → Attributes → Text → Type 0
ReadsRecord n bytes es rest = ReadsSimple n bytes (tree_of (record_value es)) rest

-- the text begins with the body that states this question
pub record ReadsQuestion (n : ℕ) (bytes : Text) (q : GivenQuestion) (rest : Text) : Type 0 where
  pub reads : (names : Names) → Reads (Within names n) bytes (question_tree q) rest
  pub is_data : IsData n (question_tree q)
