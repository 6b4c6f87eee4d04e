-- What is written so far is the identifiers that were passed, each behind `::`.
use Rattle.std.proofs.Common.{◌++◌, take, codes}
use Rattle.std.specs.List.{flat_map}
use Rattle.std.specs.Fmt.{HasWritten, IsPlainFormatter}
use Rattle.cedar_names.proofs.names.JoinedDisplay.fmt.Given as goal

abbrev pub invariant-loop-id : goal.invariant-loop-id
invariant-loop-id g l =
    IsPlainFormatter l.initial.f → HasWritten g.W.Write.write_str_gives l.initial.f (flat_map (λ id. codes "::" ++ id) (take l.id-index l.more)) l.f
