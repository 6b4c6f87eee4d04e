-- The names so far and those that the rest of the table has are those of the whole table.
use Rattle.std.proofs.Common.{◌≡◌, ◌++◌, drop, map, string_bytes}
use Rattle.cedar_tokens.specs.Kinds.{named, names_in}
use Rattle.cedar_tokens.proofs.expected_kinds.Kinds.names_in.Given as goal

abbrev pub invariant-kinds : goal.invariant-kinds
invariant-kinds l = map string_bytes l.names.items ++ names_in l.self (named (drop l.kind-index l.table)) ≡ names_in l.self (named l.table)
