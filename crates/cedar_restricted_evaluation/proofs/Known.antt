-- From what is found of an expression to what its evaluation gives.
use Rattle.std.proofs.Common.{◌≡◌, ◌∙◌, ℕ, ◌<◌, refl, ap, sym, List, Bool, true, false}
use Rattle.std.specs.Prelude.{◌&&◌, Result, Ok, Err, IfOk}
use Rattle.either.specs.declared.Either.{Either}
use Rattle.either.specs.declared.Either.TheVariants.{Left, Right}
use Rattle.cedar_language.specs.Uid.{Text, Name}
use Rattle.cedar_language.specs.Tree.{MakeSet, MakeRecord, Call, Tree, Lit, Apply, Trees, no_trees, a_tree}
use Rattle.cedar_language.specs.Value.{Value, Kind, Outcome, Gives, Fails}
use Rattle.cedar_language.specs.Facts.{Facts}
use Rattle.cedar_language.specs.Height.{height}
use Rattle.cedar_language.specs.Meaning.{Request, meaning}
use Rattle.cedar_partial_evaluation.specs.Partial.{Evaluated, ResidualTree, Failed, Answers, AllEvaluated, SomeResiduals, SomeFailed, LeafAnswers, KnownIsMeaning, answer_of, leaf_answers_of, and_next, apply_answer, partial_in, all_partial_in}
use Rattle.cedar_grammar.specs.UnknownCalls.{named, holds_call}
use Rattle.cedar_extensions.specs.Failures.{failure_of}
use Rattle.cedar_extensions.specs.Giving.{fails_on}
use Rattle.cedar_extensions.specs.declared.evaluation_error.EvaluationError.{EvaluationError}
use Rattle.cedar_extensions.specs.Table.{Table}
use Rattle.cedar_restricted.specs.Expressing.{is_ground, are_ground}
use Rattle.cedar_restricted.proofs.ReadBack.{restricted}
use Rattle.cedar_restricted.specs.PartialValues.{partial_of}
use Rattle.cedar_restricted.specs.declared.partial_values.PartialValue.{PartialValue}
use Rattle.cedar_restricted_evaluation.specs.Evaluations as evaluation
use Rattle.cedar_restricted_evaluation.specs.Evaluations.{HasFunctions, IsKnown, IsMeant, MeansKnown, nothing_told, named_by, answer_in, IsLeft}
use Rattle.cedar_restricted_evaluation.specs.Findings.{IsFound, Errs, Evaluates}
use Rattle.cedar_restricted_evaluation.proofs.Gathering.{part_is}
use Rattle.cedar_restricted_evaluation.proofs.WrittenNames.{unnamed, written_names_are_read}
use Rattle.cedar_lemmas.proofs.Booleans.{and_first as and_left, and_second as and_right}

-- ---- nothing is named where `unknown` isn't called

names_nothing : (b : Bool) (t : Tree) → is_ground t ≡ true → (b && holds_call t) ≡ false → named_by b t ≡ t
names_nothing true t g h = unnamed t (restricted t g) h
names_nothing false t g h = refl

names_written : (b : Bool) (t : Tree) → is_ground t ≡ true → (b && holds_call t) ≡ false → (b && holds_call (named t)) ≡ false
names_written true t g h = ap holds_call (unnamed t (restricted t g) h) ∙ h
names_written false t g h = refl

-- ---- the leaves don't matter where none is unknown

module _ (facts : Facts) (one other : LeafAnswers) where
  alike_set : (as_ bs : Answers) → as_ ≡ bs → apply_answer facts one MakeSet as_ ≡ apply_answer facts other MakeSet bs
  alike_set (AllEvaluated vs) bs e = ap (apply_answer facts other MakeSet) e
  alike_set (SomeResiduals rs) bs e = ap (apply_answer facts other MakeSet) e
  alike_set (SomeFailed k) bs e = ap (apply_answer facts other MakeSet) e

  alike_record : (ks : List Text) (as_ bs : Answers) → as_ ≡ bs → apply_answer facts one (MakeRecord ks) as_ ≡ apply_answer facts other (MakeRecord ks) bs
  alike_record ks (AllEvaluated vs) bs e = ap (apply_answer facts other (MakeRecord ks)) e
  alike_record ks (SomeResiduals rs) bs e = ap (apply_answer facts other (MakeRecord ks)) e
  alike_record ks (SomeFailed k) bs e = ap (apply_answer facts other (MakeRecord ks)) e

  alike_call : (f : Name) (as_ bs : Answers) → as_ ≡ bs → apply_answer facts one (Call f) as_ ≡ apply_answer facts other (Call f) bs
  alike_call f (AllEvaluated vs) bs e = ap (apply_answer facts other (Call f)) e
  alike_call f (SomeResiduals rs) bs e = ap (apply_answer facts other (Call f)) e
  alike_call f (SomeFailed k) bs e = ap (apply_answer facts other (Call f)) e

  mutual
    alike : (t : Tree) → is_ground t ≡ true → partial_in facts one t ≡ partial_in facts other t
    alike (Lit l) g = refl
    alike (Apply MakeSet ts) g = alike_set _ _ (all_alike ts g)
    alike (Apply (MakeRecord ks) ts) g = alike_record ks _ _ (all_alike ts g)
    alike (Apply (Call f) ts) g = alike_call f _ _ (all_alike ts g)
    alike t g = cc

    all_alike : (ts : Trees) → are_ground ts ≡ true → all_partial_in facts one ts ≡ all_partial_in facts other ts
    all_alike no_trees g = refl
    all_alike (a_tree t ts) g =
        ap (λ a. and_next facts a (all_partial_in facts one ts)) (alike t (and_left _ _ g))
        ∙ ap (and_next facts (partial_in facts other t)) (all_alike ts (and_right _ _ g))

-- ---- outcomes

gives_so : (o : Outcome) (v : Value) → answer_of o ≡ Evaluated v → o ≡ Gives v
gives_so (Gives w) v e = cc
gives_so (Fails k) v e = cc

leaves_nothing : (o : Outcome) (r : Tree) → answer_of o ≡ ResidualTree r → ⊥
leaves_nothing (Gives w) r e = cc
leaves_nothing (Fails k) r e = cc

fails_so : (o : Outcome) (k : Kind) → answer_of o ≡ Failed k → o ≡ Fails k
fails_so (Gives w) k e = cc
fails_so (Fails l) k e = cc

module _ (table : Table) (t : Tree) where
  known_answer : KnownIsMeaning → IsKnown table t → (facts : Facts) (request : Request) → answer_in table facts t ≡ answer_of (meaning facts request t)
  known_answer law known facts request =
      written_names_are_read table facts t (restricted t known.0) (names_written table.has_unknown t known.0 known.1)
      ∙ ap (partial_in facts nothing_told) (names_nothing table.has_unknown t known.0 known.1)
      ∙ alike facts nothing_told (leaf_answers_of request) t known.0
      ∙ law facts request t

  module _ (law : KnownIsMeaning) (known : IsKnown table t) (facts : Facts) (has : HasFunctions table facts) (request : Request) where
    meant : (p : Either Value Tree) → IsFound table t p → IsMeant (meaning facts request t) p
    meant (Left v) h = gives_so (meaning facts request t) v (sym (known_answer law known facts request) ∙ h facts has)
    meant (Right r) h = leaves_nothing (meaning facts request t) r (sym (known_answer law known facts request) ∙ h.answer facts has)

    meant_error : (k : Kind) → Errs table t k → meaning facts request t ≡ Fails k
    meant_error k e = fails_so (meaning facts request t) k (sym (known_answer law known facts request) ∙ e facts has)

  what_is_left : (p : Either Value Tree) → IsFound table t p → IsLeft p
  what_is_left (Left v) h = tt
  what_is_left (Right r) h = (h.restricted, h.waits)

  pub means : KnownIsMeaning → (depth : ℕ) (r : Result PartialValue EvaluationError) → Evaluates table t (depth < height t) r → MeansKnown table depth t r
  means law depth (Ok p) h = λ known facts has request. meant law known facts has request (partial_of p) h
  means law depth (Err e) h = λ known facts has request. fails_on (failure_of e) (meant_error law known facts has request) (λ d. d) h

  pub answers : (depth : ℕ) (r : Result PartialValue EvaluationError) → Evaluates table t (depth < height t) r → evaluation.Answers table depth t r
  answers depth (Ok p) h = λ facts has. part_is table t (partial_of p) h facts has
  answers depth (Err e) h = λ facts has. fails_on (failure_of e) (λ k f. f facts has) (λ d. d) h

  pub left : (depth : ℕ) (r : Result PartialValue EvaluationError) → Evaluates table t (depth < height t) r → IfOk r (λ p. IsLeft (partial_of p))
  left depth (Ok p) h = what_is_left (partial_of p) h
  left depth (Err e) h = tt
