use Rattle.cedar_values.proofs.Records.{IsMadeOf}
use Rattle.cedar_values.proofs.values.ValueKind.record.Given as goal

abbrev pub invariant-loop-key : goal.invariant-loop-key
invariant-loop-key l = IsMadeOf l.yielded l.record.entries
