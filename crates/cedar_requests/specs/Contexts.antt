-- What a context holds.
use Rattle.std.specs.Prelude.{Bool, true, false, List}
use Rattle.either.specs.declared.Either.{Either}
use Rattle.either.specs.declared.Either.TheVariants.{Left, Right}
use Rattle.cedar_language.specs.Uid.{Text}
use Rattle.cedar_language.specs.Tree.{MakeRecord, Tree, Apply}
use Rattle.cedar_language.specs.Value.{Value, RecordOf}
use Rattle.cedar_partial_evaluation.specs.Partial.{Answer}
use Rattle.cedar_grammar.specs.Build.{keys}
use Rattle.cedar_trees.specs.Bare.{record_tree}
use Rattle.cedar_values.specs.Kinds.{keys_of, values_of}
use Rattle.cedar_restricted_evaluation.specs.Evaluations.{part_answer}
use Rattle.cedar_requests.specs.Residuals.{residual_entries}
use Rattle.cedar_requests.specs.declared.contexts.Context.{Context}
use Rattle.cedar_requests.specs.declared.contexts.Context.TheVariants as context

-- the record of its values, or the tree of what is left of it
abbrev pub context_part : Context → Either Value Tree
context_part (context.Value m) = Left (RecordOf (keys_of m.value.entries) (values_of m.value.entries))
context_part (context.RestrictedResidual r) = Right (record_tree (residual_entries r))

-- what it answers where it is looked at
abbrev pub context_answer : Context → Answer
context_answer c = part_answer (context_part c)

-- the keys of its entries, in rising order
abbrev pub context_keys : Context → List Text
context_keys (context.Value m) = keys_of m.value.entries
context_keys (context.RestrictedResidual r) = keys (residual_entries r)

-- whether a tree is a record that is written out
abbrev pub is_record : Tree → Bool
is_record (Apply (MakeRecord ks) ts) = true
is_record t = false
