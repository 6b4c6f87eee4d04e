-- Data that texts write.
use Rattle.std.specs.Prelude.{◌≡◌, ℕ, suc, ◌≤◌, List, ◌∷◌, length, Some, Bool, true, false, cond, map}
use Rattle.std.specs.List.{AllByRecursion}
use Rattle.std.specs.Rc.{rc_str_bytes}
use Rattle.std.specs.declared.alloc.Global.{Global}
use Rattle.std.specs.declared.rc.RcStr.{RcStr}
use Rattle.cedar_language.specs.Uid.{Text, Name}
use Rattle.cedar_language.specs.Height.{height}
use Rattle.cedar_language.specs.Restricted.{is_restricted}
use Rattle.cedar_language.specs.Tree.{Tree}
use Rattle.cedar_grammar.specs.Token as token
use Rattle.cedar_grammar.specs.Token.{Mark, Token, word, text, mark, word_of}
use Rattle.cedar_grammar.specs.Tokens.{IsTokens}
use Rattle.cedar_grammar.specs.Build.{Keyed}
use Rattle.cedar_grammar.specs.Escape.{string_of}
use Rattle.cedar_grammar.specs.Grammar.{Rule, Inner, Ids, Items, Entry, Unary, Within, inner}
use Rattle.cedar_grammar.specs.Names.{Names}
use Rattle.cedar_grammar.specs.Policies.{ReadsExpr}
use Rattle.cedar_restricted.specs.Views.{restricted_tree}
use Rattle.cedar_restricted.specs.declared.restricted.RestrictedExpr.{RestrictedExpr}
use Rattle.cedar_trees.specs.Bare.{bare, bare_entries}
use Rattle.cedar_trees.specs.declared.expr.Expr.{Expr}
use Rattle.cedar_data.specs.declared.leaves.Path.{Path}
use Rattle.cedar_data.specs.declared.leaves.Path.TheVariants.{EntityType, Called}
use Rattle.cedar_data.specs.Takes.{Takes, Reads}

abbrev pub Entries : Type 0
Entries = List (RcStr Global × Expr (Unit {0}))

-- ---- what is read

-- a tree that is data, no higher than so much
pub record IsData (n : ℕ) (t : Tree) : Type 0 where
  pub low : height t ≤ n
  pub restricted : is_restricted t ≡ true

-- the text is this data within a nesting of n, and no higher than that
pub record IsDataText (names : Names) (n : ℕ) (bytes : Text) (body : RestrictedExpr) : Type 0 where
  pub reads : ReadsExpr names n bytes (restricted_tree body)
  pub low : height (restricted_tree body) ≤ n

-- ---- on the way there

-- the text begins with this tree by the rule, and it is data, no higher than so much
pub record ReadsTree (rule : Rule Tree) (n : ℕ) (bytes : Text) (t : Tree) (rest : Text) : Type 0 where
  pub reads : Reads rule bytes t rest
  pub is_data : IsData n t

-- the same of an expression
abbrev pub ReadsData : Rule Tree → ℕ → Text → Expr (Unit {0}) → Text → Type 0
ReadsData rule n bytes e rest = ReadsTree rule n bytes (bare e) rest

-- the text begins with this operand, inside which nothing nests
abbrev pub ReadsLeaf : Text → Tree → Text → Type 0
ReadsLeaf bytes t rest = (n : ℕ) (names : Names) → ReadsTree (Unary (inner names n)) (suc n) bytes t rest

-- an operand, of which the first identifier was taken
abbrev pub Behind : Inner → Text → Rule Tree
Behind i first ts t us = Unary i (word (word_of first) ∷ ts) t us

-- the text behind a first identifier makes this expression with it, and it is data, no higher than so much
abbrev pub ReadsBehind : Inner → ℕ → Text → Text → Expr (Unit {0}) → Text → Type 0
ReadsBehind i n first bytes e rest = ReadsTree (Behind i first) n bytes (bare e) rest

-- a separator where the string of an entity follows a path
abbrev pub ended : Bool → List Token → List Token
ended is_type ts = cond is_type (mark token.ColonColon ∷ ts) ts

-- the text behind a first identifier makes this path with it, up to the string of an entity or what follows
pub record ReadsPath (first : Text) (is_type : Bool) (bytes : Text) (p : Name) (rest : Text) : Type 0 where
  pub tokens : (us : List Token) → IsTokens rest us → (ts : List Token) × IsTokens bytes ts × Ids token.ColonColon (word (word_of first) ∷ ts) p (ended is_type us)
  pub short : length rest ≤ length bytes

abbrev pub ReadsPathTo : Text → Text → Path → Text → Type 0
ReadsPathTo first bytes (EntityType p) rest = ReadsPath first true bytes p rest
ReadsPathTo first bytes (Called p) rest = ReadsPath first false bytes p rest

-- a token that is the key of an entry
pub data IsKey : Token → Text → Type 0 where
  id_key : {w : token.Word} {k : Text} → token.id_of w ≡ Some k → IsKey (word w) k
  text_key : {raw : List ℕ} {k : Text} → string_of raw ≡ Some k → IsKey (text raw) k

-- the text begins with a string that stands for this one
pub record ReadsString (bytes written rest : Text) : Type 0 where
  pub raw : List ℕ
  pub takes : Takes (text raw) bytes rest
  pub is : string_of raw ≡ Some written

-- the text begins with the key of an entry
pub record ReadsKey (bytes key rest : Text) : Type 0 where
  pub written : Token
  pub is_key : IsKey written key
  pub takes : Takes written bytes rest

-- an entry within a nesting of n
pub record ReadsEntry (names : Names) (n : ℕ) (bytes : Text) (e : RcStr Global × Expr (Unit {0})) (rest : Text) : Type 0 where
  pub reads : Reads (Entry (Within names n)) bytes (rc_str_bytes e.0, bare e.1) rest
  pub is_data : IsData n (bare e.1)

-- items up to the closing mark, each within a nesting of n
pub record ReadsItems (names : Names) (n : ℕ) (close : Mark) (bytes : Text) (es : List (Expr (Unit {0}))) (rest : Text) : Type 0 where
  pub reads : Reads (Items close (Within names n)) bytes (map bare es) rest
  pub are_data : AllByRecursion (IsData n) (map bare es)

-- entries up to the closing brace, each within a nesting of n
pub record ReadsEntries (names : Names) (n : ℕ) (bytes : Text) (es : Entries) (rest : Text) : Type 0 where
  pub reads : Reads (Items token.RightBrace (Entry (Within names n))) bytes (bare_entries es) rest
  pub are_data : AllByRecursion (λ (e : Keyed Tree). IsData n e.1) (bare_entries es)
