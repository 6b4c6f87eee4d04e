-- Whether one of the words so far is.
use Rattle.std.proofs.Common.{◌≡◌, take}
use Rattle.std.specs.Prelude.{map}
use Rattle.std.specs.Rc.{rc_str_bytes}
use Rattle.std.specs.List.{list_any}
use Rattle.cedar_schema_grammar.specs.Faults.{is_cedar}
use Rattle.cedar_schema_faults.proofs.declarations.has_cedar.Given as goal

abbrev pub invariant-loop-word : goal.invariant-loop-word
invariant-loop-word l = record { far : l.has ≡ list_any is_cedar (map rc_str_bytes (take l.word-index l.words)) }
