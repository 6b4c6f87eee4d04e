use Rattle.std.proofs.Common.{◌≡◌, ◌++◌, map, drop, string_bytes}
use Rattle.cedar_world.specs.Lines.{further}
use Rattle.cedar_refusals.specs.Naming.{in_quotes}
use Rattle.cedar_refusals.proofs.naming.push_further.Given as goal

abbrev pub invariant-loop-name : goal.invariant-loop-name
invariant-loop-name l = string_bytes l.told ++ further (map in_quotes (map (λ n. n.now) (drop l.name-index l.names))) ≡ string_bytes l.fn.told ++ further (map in_quotes (map (λ n. n.now) l.names))
