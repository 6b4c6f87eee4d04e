-- Literals, by the operands that they are.
use Rattle.std.proofs.Common.{◌≡◌, ◌∙◌, ◌↔◌, refl, ap, subst, ℕ, List, Option, Some, None, Result, Ok, Err}
use Rattle.cedar_language.specs.Uid.{Text}
use Rattle.cedar_language.specs.Tree.{Tree, Literal, Lit, Var, Slot, Unknown, If, And, Or, Apply}
use Rattle.cedar_grammar.specs.Grammar.{IsLiteral}
use Rattle.cedar_grammar.specs.Laws.{OneList}
use Rattle.cedar_grammar.specs.Names.{Names}
use Rattle.cedar_grammar.specs.Token.{Token}
use Rattle.cedar_grammar.specs.Steps.{◌>>=◌}
use Rattle.cedar_grammar.specs.Converting.{converted, expr_tree, and_tree, primary_tree, without_slots}
use Rattle.cedar_grammar.specs.Loose as loose
use Rattle.cedar_grammar.specs.LooseLaws.{LiteralsConvert, LiteralsStand}
use Rattle.cedar_grammar.specs.LooseReading.{Fault, read_primary}
use Rattle.cedar_builders.specs.Own.{own_operations}
use Rattle.cedar_conversion.specs.Building.{IsBuilt}
use Rattle.cedar_conversion.specs.Laws.{TreesAreBuilt}
use Rattle.cedar_faults.specs.Converts.{Given}
use Rattle.cedar_literals.specs.Literals.{literal_of}
use Rattle.cedar_literals.specs.declared.literals.Literal as code
use Rattle.cedar_parser.specs.Errors as cause
use Rattle.cedar_parser.specs.Errors.{Cause, cause_of}
use Rattle.cedar_parser.specs.LooseTexts.{Refuses}
use Rattle.cedar_loose.specs.Texts.{IsRead}
use Rattle.cedar_parser.specs.declared.errors.ParseErrors.{ParseErrors}
use Rattle.cedar_trees.specs.Bare.{bare}
use Rattle.cedar_trees.specs.declared.expr.Expr.{Expr}
use Rattle.cedar_parser.specs.Literals.{literal_in, free_operand, ReadsLiteral, TakesLiteral, WritesLiteral}
use Rattle.cedar_parser.specs.Strict.{WritesNot}
use Rattle.cedar_parser.specs.declared.literals.LiteralParseError.{LiteralParseError}
use Rattle.cedar_parser.specs.declared.literals.LiteralParseError.TheVariants.{Parse, InvalidLiteral}
use Rattle.cedar_parser.proofs.Reading.{built_is}
use Rattle.cedar_parser.proofs.NoSlots.{free_is}
use Rattle.cedar_parser.proofs.Texts.{unread, is_meant, unmeant}

bound : {A B : Type 0} (o : Option A) (f : A → Option B) (x : A) → o ≡ Some x → (o >>= f) ≡ f x
bound o f x is = ap (λ p. p >>= f) is

-- ---- an operand alone is an expression

abbrev lone_and : loose.Primary → loose.And
lone_and p = loose.and (loose.common (loose.add (loose.mult (loose.unary None (loose.member p loose.no_accesses)) loose.no_unaries) loose.no_mults) loose.no_adds) loose.no_relations

writes_and : (names : Names) (p : loose.Primary) (t : Tree) → primary_tree names p ≡ Some t → and_tree names (lone_and p) ≡ Some t
unfolding expr_tree
writes_and names p t writes =
    let mult = bound (primary_tree names p) (λ x. Some x) t writes in
    let add = ap (λ o. o >>= λ x. Some x) mult in
    let relation = ap (λ o. o >>= λ x. Some x) add in
    ap (λ o. o >>= λ x. Some x) relation

writes_expr : (names : Names) (p : loose.Primary) (t : Tree) → primary_tree names p ≡ Some t → expr_tree names (loose.or_expr (loose.or (lone_and p) loose.no_ands)) ≡ Some t
unfolding expr_tree
writes_expr names p t writes = ap (λ o. o >>= λ x. Some x) (writes_and names p t writes)

-- so what the own builder makes of it is its tree
pub operand_written : TreesAreBuilt → (names : Names) (p : loose.Primary) (e : Expr (Unit {0})) → Given (IsBuilt own_operations bare) e (primary_tree names p) → primary_tree names p ≡ Some (bare e)
operand_written are_built names p e given =
    let whole = loose.or_expr (loose.or (lone_and p) loose.no_ands) in
    given.is ∙ ap Some (built_is are_built names whole given.value e (writes_expr names p given.value given.is) given.stands)

-- ---- literals among trees

-- the literal that an operand writes
abbrev primary_literal : Names → loose.Primary → Option Literal
primary_literal names p = primary_tree names p >>= literal_in

lit_in : (t : Tree) (l : Literal) → literal_in t ≡ Some l → t ≡ Lit l
lit_in (Lit k) l is = ap Lit (cc is)
lit_in (Var v) l is = absurd (cc is)
lit_in (Slot s) l is = absurd (cc is)
lit_in (Unknown n ty) l is = absurd (cc is)
lit_in (If t y n) l is = absurd (cc is)
lit_in (And a b) l is = absurd (cc is)
lit_in (Or a b) l is = absurd (cc is)
lit_in (Apply op ts) l is = absurd (cc is)

found_lit : (o : Option Tree) (l : Literal) → (o >>= literal_in) ≡ Some l → o ≡ Some (Lit l)
found_lit (Some t) l is = ap Some (lit_in t l is)
found_lit None l is = absurd (cc is)

module _ (names : Names) where
  read_lit : (r : Result loose.Primary Fault) (l : Literal) → converted (primary_literal names) r ≡ Some l → converted (primary_tree names) r ≡ Some (Lit l)
  read_lit (Ok p) l is = found_lit (primary_tree names p) l is
  read_lit (Err e) l is = absurd (cc is)

  lit_read : (r : Result loose.Primary Fault) (l : Literal) → converted (primary_tree names) r ≡ Some (Lit l) → converted (primary_literal names) r ≡ Some l
  lit_read (Ok p) l is = bound (primary_tree names p) literal_in (Lit l) is
  lit_read (Err e) l is = absurd (cc is)

-- tokens are a literal exactly where the operand that is read of them writes it
literals_convert : LiteralsConvert → (names : Names) (m : ℕ) (ts : List Token) (l : Literal) → IsLiteral names m ts l ↔ (converted (primary_literal names) (read_primary m ts) ≡ Some l)
literals_convert convert names m ts l =
    let law = convert names m ts l in
    ((λ is. lit_read names (read_primary m ts) l (law.0 is)), (λ is. law.1 (read_lit names (read_primary m ts) l is)))

-- what is no tree without slots is no literal, since no slot stands in one
no_free_literal : (t : Tree) → without_slots t ≡ None → literal_in t ≡ None
no_free_literal (Lit l) none = absurd (cc none)
no_free_literal t none = refl

operand_is : (o : Option Tree) (t : Tree) → (o >>= without_slots) ≡ Some t → o ≡ Some t
operand_is (Some u) t is = ap Some (free_is u t is)
operand_is None t is = absurd (cc is)

-- nor is what isn't written without slots
no_literal : (o : Option Tree) (c : Cause) → WritesNot c (o >>= without_slots) → WritesNot c (o >>= literal_in)
no_literal o cause.outside_the_grammar writes = absurd writes
no_literal (Some t) cause.means_nothing writes = no_free_literal t writes
no_literal None cause.means_nothing writes = refl
no_literal o cause.nested_too_deep writes = absurd writes
no_literal o cause.out_of_memory writes = tt

-- ---- texts

-- what is taken from the tree that is written
pub taken_is_written : (t : Tree) (want : Option Tree) (r : Result code.Literal LiteralParseError) → want ≡ Some t → TakesLiteral t r → WritesLiteral r want
taken_is_written t want (Ok l) is takes = is ∙ ap Some takes
taken_is_written t want (Err (Parse errors)) is takes = absurd takes
taken_is_written t want (Err (InvalidLiteral e)) is takes = (is ∙ ap Some takes.0, subst (λ u. literal_in u ≡ None) takes.0 takes.1)

module _ (convert : LiteralsConvert) (names : Names) (n : ℕ) (text : Text) where
  pub literal_unread : (errors : ParseErrors) → Refuses read_primary n text errors → ReadsLiteral names n text (Err (Parse errors))
  literal_unread errors none = unread read_primary (primary_literal names) (IsLiteral names) (literals_convert convert names) n text (cause_of errors.0.head) none

  pub literal_read : (x : loose.Primary) → IsRead read_primary n text x → OneList → LiteralsStand → (r : Result code.Literal LiteralParseError) → WritesLiteral r (free_operand names x) → ReadsLiteral names n text r
  literal_read x is_read one_list stand (Ok l) writes =
      is_meant read_primary (primary_literal names) (IsLiteral names) (literals_convert convert names) n text x is_read (literal_of l) (bound (primary_tree names x) literal_in (Lit (literal_of l)) (operand_is (primary_tree names x) (Lit (literal_of l)) writes))
  literal_read x is_read one_list stand (Err (Parse errors)) writes =
      unmeant read_primary (primary_literal names) (IsLiteral names) (literals_convert convert names) n text x is_read one_list (stand names) (cause_of errors.0.head)
      (no_literal (primary_tree names x) (cause_of errors.0.head) writes)
  literal_read x is_read one_list stand (Err (InvalidLiteral e)) writes = (
    (is_read.0, is_read.1, ap (converted (free_operand names)) is_read.2 ∙ writes.0),
    unmeant read_primary (primary_literal names) (IsLiteral names) (literals_convert convert names) n text x is_read one_list (stand names) cause.means_nothing
        (bound (primary_tree names x) literal_in (bare e) (operand_is (primary_tree names x) (bare e) writes.0) ∙ writes.1),
  )
