-- What telling makes of a context that waits, by partial evaluation where the same values are held.
use Rattle.std.specs.Prelude.{◌≡◌, ◌<◌, ℕ, true, false, List, None, Result}
use Rattle.either.specs.declared.Either.{Either}
use Rattle.std.specs.FinMap as finite
use Rattle.std.specs.declared.alloc.Global.{Global}
use Rattle.std.specs.declared.rc.RcStr.{RcStr}
use Rattle.either.specs.declared.Either.TheVariants.{Left, Right}
use Rattle.cedar_language.specs.Facts.{Facts}
use Rattle.cedar_language.specs.Height.{height}
use Rattle.cedar_language.specs.Restricted.{is_restricted}
use Rattle.cedar_language.specs.Tree.{Tree}
use Rattle.cedar_language.specs.Uid.{Text}
use Rattle.cedar_language.specs.Value.{Value}
use Rattle.cedar_partial_evaluation.specs.DataErrors.{HasErringPart}
use Rattle.cedar_partial_evaluation.specs.MadeAgain.{HoldsMade}
use Rattle.cedar_partial_evaluation.specs.Partial.{Failed, partial_in}
use Rattle.cedar_partial_evaluation.specs.Question.{Told, AreMadeTold, held_names}
use Rattle.cedar_partial_evaluation.specs.ReadUnknowns.{calls_unknown}
use Rattle.cedar_partial_evaluation.specs.Unknowns.{EachUnknown}
use Rattle.cedar_extensions.specs.Giving.{GivesBy}
use Rattle.cedar_extensions.specs.Table.{Table}
use Rattle.cedar_extensions.specs.declared.evaluation_error.EvaluationError.{EvaluationError}
use Rattle.cedar_substitution.specs.Told.{told_for}
use Rattle.cedar_restricted_evaluation.specs.Evaluations.{HasFunctions, part_answer}
use Rattle.cedar_requests.specs.Contexts.{context_part}
use Rattle.cedar_requests.specs.Telling.{OfSubstituted, TellsContext}
use Rattle.cedar_requests.specs.declared.contexts.Context.{Context}

-- the entries have each name's value
abbrev pub HoldTold : List (RcStr Global × Value) → Told → Type 0
HoldTold entries told = (n : Text) → finite.get told n ≡ told_for entries n

-- no unknown of the tree states a type
abbrev pub StatesNoType : Tree → Type 0
StatesNoType t = EachUnknown (λ n ty. ty ≡ None) t

-- a context that waits is, once values are told, what partial evaluation of its tree answers where these values are held, kinds of
-- errors included; the limit is met only where the tree with them in their places is higher. Its tree is as code has it: where the
-- table has `unknown`, no call of it is left.
abbrev pub ToldContextsAreEvaluated : Type 0
ToldContextsAreEvaluated =
    (table : Table) (depth : ℕ) (entries : List (RcStr Global × Value)) (told : Told) → HoldTold entries told
    → (t : Tree) → is_restricted t ≡ true → StatesNoType t → (table.has_unknown ≡ true → calls_unknown t ≡ false)
    → (result : Result Context EvaluationError) → TellsContext table depth entries (Right t) result
    → (facts : Facts) → HasFunctions table facts → AreMadeTold facts told
    → GivesBy (λ c. part_answer (context_part c) ≡ partial_in facts (held_names told) t) (λ k. partial_in facts (held_names told) t ≡ Failed k) (OfSubstituted entries t (λ u. depth < height u)) result

-- the limit may be met where the tree of a context that waits, with the told values in their places, is higher
abbrev pub IsToldHigher : ℕ → List (RcStr Global × Value) → Either Value Tree → Type 0
IsToldHigher depth entries (Left v) = ⊥
IsToldHigher depth entries (Right u) = OfSubstituted entries u (λ x. depth < height x)

-- What a context is once values are told, by the record of data as which it was written: what the record is evaluated to where these
-- are held. Memory and depth aside it errs exactly where some part of the record, each of whose names is told, does.
pub record IsToldAsWritten (depth : ℕ) (entries : List (RcStr Global × Value)) (told : Told) (facts : Facts) (written : Tree) (p : Either Value Tree) (result : Result Context EvaluationError) : Type 0 where
  pub answers : GivesBy (λ c. part_answer (context_part c) ≡ partial_in facts (held_names told) written) (λ k. partial_in facts (held_names told) written ≡ Failed k) (IsToldHigher depth entries p) result
  pub errs : GivesBy (λ c. HasErringPart facts told written → ⊥) (λ k. HasErringPart facts told written) (IsToldHigher depth entries p) result

-- a context that the record was evaluated to, nothing told, is told as the record is written
abbrev pub ToldContextsStay : Type 0
ToldContextsStay =
    (table : Table) (depth : ℕ) (entries : List (RcStr Global × Value)) (told : Told) → HoldTold entries told
    → (facts : Facts) → HasFunctions table facts → HoldsMade facts → AreMadeTold facts told
    → (written : Tree) → is_restricted written ≡ true → StatesNoType written
    → (p : Either Value Tree) → part_answer p ≡ partial_in facts (held_names finite.empty) written → ((t : Tree) → p ≡ Right t → table.has_unknown ≡ true → calls_unknown t ≡ false)
    → (result : Result Context EvaluationError) → TellsContext table depth entries p result
    → IsToldAsWritten depth entries told facts written p result
