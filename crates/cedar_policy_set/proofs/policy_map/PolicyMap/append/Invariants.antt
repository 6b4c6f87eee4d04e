-- What was put and what is left are the whole, and what stood here stands first.
use Rattle.std.proofs.Common.{◌≡◌, ◌≤◌, ◌++◌, take, length}
use Rattle.cedar_policy_set.proofs.policy_map.PolicyMap.append.Given as goal

abbrev pub invariant-loop-id : goal.invariant-loop-id
invariant-loop-id g l = record {
  whole : l.self ++ l.id-iterator.rest.items ≡ l.fn.self ++ l.fn.more;
  first : take l.len l.self ≡ l.fn.self;
  within : l.len ≤ length l.self;
}
