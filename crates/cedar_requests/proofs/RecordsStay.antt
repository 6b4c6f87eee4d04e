-- What a record is evaluated to is a record, or what is left of one.
use Rattle.std.proofs.Common.{◌≡◌, refl, subst, List}
use Rattle.std.specs.Prelude.{true}
use Rattle.either.specs.declared.Either.{Either}
use Rattle.either.specs.declared.Either.TheVariants.{Left, Right}
use Rattle.cedar_language.specs.Uid.{Text}
use Rattle.cedar_language.specs.Tree.{MakeRecord, Tree, Apply}
use Rattle.cedar_language.specs.Value.{Value}
use Rattle.cedar_language.specs.Facts.{Facts}
use Rattle.cedar_partial_evaluation.specs.Partial.{Answer, Evaluated, ResidualTree, Failed, Answers, AllEvaluated, SomeResiduals, SomeFailed, LeafAnswers, apply_answer}
use Rattle.cedar_extensions.specs.Table.{Table, functions_of}
use Rattle.cedar_restricted_evaluation.specs.Evaluations.{nothing_told, answer_in, answers_in, part_answer}
use Rattle.cedar_requests.specs.Contexts.{is_record}
use Rattle.cedar_requests.specs.Creating.{is_record_part, is_record_value}

abbrev IsRecordAnswer : Answer → Type 0
IsRecordAnswer (Evaluated v) = is_record_value v ≡ true
IsRecordAnswer (ResidualTree t) = is_record t ≡ true
IsRecordAnswer (Failed k) = Unit {0}

applied_record : (facts : Facts) (holds : LeafAnswers) (ks : List Text) (as_ : Answers) → IsRecordAnswer (apply_answer facts holds (MakeRecord ks) as_)
applied_record facts holds ks (AllEvaluated vs) = refl
applied_record facts holds ks (SomeResiduals rs) = refl
applied_record facts holds ks (SomeFailed k) = tt

record_answer : (facts : Facts) (table : Table) (t : Tree) → is_record t ≡ true → IsRecordAnswer (answer_in table facts t)
record_answer facts table (Apply (MakeRecord ks) ts) h = applied_record facts nothing_told ks (answers_in table facts ts)
record_answer facts table t h = cc

part_of_record : (a : Answer) (p : Either Value Tree) → IsRecordAnswer a → a ≡ part_answer p → is_record_part p ≡ true
part_of_record a (Left v) h is = subst IsRecordAnswer is h
part_of_record a (Right r) h is = subst IsRecordAnswer is h

-- the answer of a record, seen in a table's functions alone
pub record_stays : (table : Table) (t : Tree) (p : Either Value Tree) → is_record t ≡ true → answer_in table (functions_of table) t ≡ part_answer p → is_record_part p ≡ true
record_stays table t p h is = part_of_record (answer_in table (functions_of table) t) p (record_answer (functions_of table) table t h) is
