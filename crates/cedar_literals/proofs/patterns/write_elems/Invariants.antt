-- What is written so far is the elements that were passed.
use Rattle.std.proofs.Common.{take, map}
use Rattle.std.specs.Fmt.{HasWritten, IsPlainFormatter}
use Rattle.cedar_literals.specs.Patterns.{elem_of, pattern_text}
use Rattle.cedar_literals.proofs.patterns.write_elems.Given as goal

abbrev pub invariant-loop-elem : goal.invariant-loop-elem
invariant-loop-elem g l =
    IsPlainFormatter l.initial.f → HasWritten g.W.Write.write_str_gives l.initial.f (pattern_text (map elem_of (take l.elem-index l.elems))) l.f
