use Rattle.std.proofs.Common.{◌≡◌, ◌-◌, ◌++◌, ◌<◌, ◌≤◌, replicate, string_bytes}
use Rattle.cedar_scripts.proofs.sections.push_line.Given as goal

abbrev pub invariant-loop : goal.invariant-loop
invariant-loop l = record {
  body : string_bytes l.step.body ≡ string_bytes l.fn.step.body ++ replicate (l.counter - l.fn.step.last_line) 10;
  others : l.step ≡ record l.fn.step { body = l.step.body };
  begins : l.fn.step.last_line ≤ l.counter;
  ends : l.fn.step.last_line < l.counter → l.counter ≤ l.number;
}
