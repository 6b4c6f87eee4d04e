-- Faults of a tree, told as errors of its text.
use Rattle.std.proofs.Common.{◌≡◌, ◌⊎◌, inl, inr, ℕ, List, [], ◌∷◌, map, Result, Ok, Err, refl, sym, ap, ◌∙◌, subst}
use Rattle.std.specs.Prelude.{IfErr}
use Rattle.std.specs.List.{AllByRecursion}
use Rattle.cedar_language.specs.Uid.{Text}
use Rattle.cedar_grammar.specs.Token.{Token}
use Rattle.cedar_grammar.specs.LooseReading.{Fault}
use Rattle.cedar_cst.specs.declared.errors.PlacedError.{PlacedError}
use Rattle.cedar_faults.specs.Reasons.{listed, faults_of}
use Rattle.cedar_faults.specs.Telling.{AreOf, TellsOnly}
use Rattle.cedar_faults.specs.declared.kinds.ToASTErrorKind.{ToASTErrorKind}
use Rattle.cedar_faults.specs.declared.errors.ConversionError.{ConversionError}
use Rattle.cedar_parser.specs.Errors as cause
use Rattle.cedar_parser.specs.Errors.{Cause, means_nothing, cause_of}
use Rattle.cedar_parser.specs.LooseTexts.{Refuses, RefusesFlat}
use Rattle.cedar_loose.specs.Texts.{IsRead, IsRefused, IsOutside}
use Rattle.cedar_parser.specs.declared.errors.ParseError.{ParseError}
use Rattle.cedar_parser.specs.declared.errors.ParseError.TheVariants as error
use Rattle.cedar_parser.specs.declared.errors.ParseErrors.{ParseErrors}
use Rattle.cedar_language.specs.Tree.{Tree}
use Rattle.cedar_literals.specs.declared.literals.Literal.{Literal}
use Rattle.cedar_restricted.specs.declared.restricted.RestrictedExpr.{RestrictedExpr}
use Rattle.cedar_parser.specs.declared.literals.LiteralParseError.{LiteralParseError}
use Rattle.cedar_parser.specs.declared.literals.LiteralParseError.TheVariants as literal
use Rattle.cedar_parser.specs.declared.restricted.RestrictedExpressionParseError.{RestrictedExpressionParseError}
use Rattle.cedar_parser.specs.declared.restricted.RestrictedExpressionParseError.TheVariants as restricted
use Rattle.cedar_parser.specs.Literals.{TakesLiteral}
use Rattle.cedar_parser.specs.Strict.{Keeps}
use Rattle.cedar_parser.specs.Faults.{HoldFault, StandBehind, TellOnly, LiteralTellsOnly, RestrictedTellsOnly, text_shows}

of_faults : (fs : List (PlacedError ToASTErrorKind)) (k : ToASTErrorKind) → HoldFault (map (λ f. error.ToAST f) fs) k → AreOf fs k
of_faults [] k held = held
of_faults (f ∷ fs) k (inl same) = inl same
of_faults (f ∷ fs) k (inr held) = inr (of_faults fs k held)

abbrev AreFaults : List ParseError → Type 0
AreFaults es = AllByRecursion (λ e. cause_of e ≡ means_nothing) es

are_faults : (fs : List (PlacedError ToASTErrorKind)) → AreFaults (map (λ f. error.ToAST f) fs)
are_faults [] = tt
are_faults (f ∷ fs) = (refl, are_faults fs)

faults_behind : (e : ParseError) (es : List ParseError) (fs : List (PlacedError ToASTErrorKind)) → e ∷ es ≡ map (λ f. error.ToAST f) fs → AreFaults es
faults_behind e es [] is = cc
faults_behind e es (f ∷ fs) is = let same : es ≡ map (λ f. error.ToAST f) fs = cc in subst AreFaults (sym same) (are_faults fs)

none_behind : (c : Cause) (es : List ParseError) → es ≡ [] → StandBehind c es
none_behind cause.outside_the_grammar es none = none
none_behind cause.means_nothing es none = subst AreFaults (sym none) tt
none_behind cause.nested_too_deep es none = none
none_behind cause.out_of_memory es none = none

-- an error alone that is no fault
none_held : (e : ParseError) (k : ToASTErrorKind) → (cause_of e ≡ means_nothing → ⊥) → HoldFault (e ∷ []) k → ⊥
none_held (error.ToCST e) k other held = held
none_held (error.ToAST f) k other held = other refl
none_held error.Depth k other held = held
none_held error.Memory k other held = held

alone_tells : (errors : ParseErrors) (p : ToASTErrorKind → Type 0) → (cause_of errors.0.head ≡ means_nothing → ⊥) → errors.0.tail.items ≡ [] → TellOnly errors p
alone_tells errors p other alone = record {
  each = λ k held. absurd (none_held errors.0.head k other (subst (λ es. HoldFault (errors.0.head ∷ es) k) alone held));
  behind = none_behind (cause_of errors.0.head) errors.0.tail.items alone;
}

held_alone : (e : ParseError) (f : PlacedError ToASTErrorKind) (k : ToASTErrorKind) → e ≡ error.ToAST f → HoldFault (e ∷ []) k → f.kind ≡ k
held_alone e f k is held = by (subst (λ x. HoldFault (x ∷ []) k) is held)
  where
    by : HoldFault (error.ToAST f ∷ []) k → f.kind ≡ k
    by (inl same) = same
    by (inr none) = absurd none

-- a fault alone
pub fault_tells : (errors : ParseErrors) (f : PlacedError ToASTErrorKind) (p : ToASTErrorKind → Type 0) → errors.0.head ≡ error.ToAST f → errors.0.tail.items ≡ [] → p f.kind → TellOnly errors p
fault_tells errors f p is alone shown = record {
  each = λ k held. subst p (held_alone errors.0.head f k is (subst (λ es. HoldFault (errors.0.head ∷ es) k) alone held)) shown;
  behind = none_behind (cause_of errors.0.head) errors.0.tail.items alone;
}

-- the first error that is no fault is the only one
pub one_tells : (errors : ParseErrors) (e : ParseError) (p : ToASTErrorKind → Type 0) → errors.0.head ≡ e → (cause_of e ≡ means_nothing → ⊥) → errors.0.tail.items ≡ [] → TellOnly errors p
one_tells errors e p is other alone = alone_tells errors p (λ h. other (ap cause_of (sym is) ∙ h)) alone

fault_or_none : (e : ParseError) → (cause_of e ≡ means_nothing) ⊎ (cause_of e ≡ means_nothing → ⊥)
fault_or_none (error.ToCST e) = inr (λ h. cc)
fault_or_none (error.ToAST f) = inl refl
fault_or_none error.Depth = inr (λ h. cc)
fault_or_none error.Memory = inr (λ h. cc)

-- the errors by which a conversion is refused
pub refused_tells : {E : Type 0} (errors : ParseErrors) (e : ConversionError E) (p : ToASTErrorKind → Type 0) → (cause_of errors.0.head ≡ means_nothing → listed errors.0 ≡ map (λ f. error.ToAST f) (faults_of e)) → ((cause_of errors.0.head ≡ means_nothing → ⊥) → errors.0.tail.items ≡ [])
    → TellsOnly e p → TellOnly errors p
refused_tells errors e p faults alone only = by (fault_or_none errors.0.head)
  where
    by : (cause_of errors.0.head ≡ means_nothing) ⊎ (cause_of errors.0.head ≡ means_nothing → ⊥) → TellOnly errors p
    by (inl fault) = record {
      each = λ k held. only.each k (of_faults (faults_of e) k (subst (λ es. HoldFault es k) (faults fault) held));
      behind = subst (λ c. StandBehind c errors.0.tail.items) (sym fault) (faults_behind errors.0.head errors.0.tail.items (faults_of e) (faults fault));
    }
    by (inr other) = alone_tells errors p other (alone other)

module _ {A : Type 0} (read : ℕ → List Token → Result A Fault) (n : ℕ) (text : Text) where
  -- a text that isn't read has no fault
  pub unread_tells : (errors : ParseErrors) (p : ToASTErrorKind → Type 0) → Refuses read n text errors → errors.0.tail.items ≡ [] → TellOnly errors p
  unread_tells errors p refuses alone = alone_tells errors p (λ h. subst (IsRefused read n text) h refuses) alone

  -- the same where nothing nests
  pub outside_tells : (errors : ParseErrors) (p : ToASTErrorKind → Type 0) → RefusesFlat read text errors → errors.0.tail.items ≡ [] → TellOnly errors p
  outside_tells errors p refuses alone = alone_tells errors p (λ h. subst (IsOutside read text) h refuses) alone

  -- what its tree shows is shown of the text
  pub text_told : {D : Type 0} (r : Result D ParseErrors) (x : A) (shows : A → ToASTErrorKind → Type 0) → IsRead read n text x → IfErr r (λ errors. TellOnly errors (shows x)) → IfErr r (λ errors. TellOnly errors (text_shows read n text shows))
  text_told (Ok d) x shows is only = tt
  text_told (Err errors) x shows is only = record { each = λ k held. (x, is, only.each k held); behind = only.behind }

  pub literal_told : {D : Type 0} (r : Result D LiteralParseError) (x : A) (shows : A → ToASTErrorKind → Type 0) → IsRead read n text x → IfErr r (λ e. LiteralTellsOnly e (shows x)) → IfErr r (λ e. LiteralTellsOnly e (text_shows read n text shows))
  literal_told (Ok d) x shows is only = tt
  literal_told (Err (literal.Parse errors)) x shows is only = record { each = λ k held. (x, is, only.each k held); behind = only.behind }
  literal_told (Err (literal.InvalidLiteral e)) x shows is only = tt

-- what is taken of a tree, or kept of it, tells no fault
pub taken_tells : (t : Tree) (r : Result Literal LiteralParseError) (p : ToASTErrorKind → Type 0) → TakesLiteral t r → IfErr r (λ e. LiteralTellsOnly e p)
taken_tells t (Ok l) p takes = tt
taken_tells t (Err (literal.Parse errors)) p takes = absurd takes
taken_tells t (Err (literal.InvalidLiteral e)) p takes = tt

pub kept_tells : (t : Tree) (r : Result RestrictedExpr RestrictedExpressionParseError) (p : ToASTErrorKind → Type 0) → Keeps t r → IfErr r (λ e. RestrictedTellsOnly e p)
kept_tells t (Ok e) p keeps = tt
kept_tells t (Err (restricted.Parse errors)) p keeps = absurd keeps
kept_tells t (Err (restricted.InvalidRestrictedExpression e)) p keeps = tt
