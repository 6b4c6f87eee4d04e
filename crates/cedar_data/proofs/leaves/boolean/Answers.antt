-- A word that is neither of the two is the spelling of no Boolean.
use Rattle.std.proofs.Common.{◌≡◌, Bool, true, false, cond, codes}
use Rattle.std.specs.Cmp.Lexicographic.{same_text, other_text}
use Rattle.cedar_language.specs.Uid.{Text}
use Rattle.cedar_data.proofs.leaves.boolean.Goals as goal

neither : (w : Text) → (w ≡ codes "true" → ⊥) → (w ≡ codes "false" → ⊥) → (value : Bool) → w ≡ cond value (codes "true") (codes "false") → ⊥
neither w no_truth no_falsehood true e = no_truth e
neither w no_truth no_falsehood false e = no_falsehood e

pub returns-then-is_same-clause-written : goal.returns-then-is_same-clause-written
returns-then-is_same-clause-written c = same_text c.args.word.now (codes "true") c.if-is_same.ensures

pub returns-then-is_same-2-clause-written : goal.returns-then-is_same-2-clause-written
returns-then-is_same-2-clause-written c = same_text c.args.word.now (codes "false") c.if-is_same-2.ensures

pub returns-else-is_same-2-clause-none : goal.returns-else-is_same-2-clause-none
returns-else-is_same-2-clause-none c = neither c.args.word.now (other_text c.args.word.now (codes "true") c.if-is_same.ensures) (other_text c.args.word.now (codes "false") c.if-is_same-2.ensures)
