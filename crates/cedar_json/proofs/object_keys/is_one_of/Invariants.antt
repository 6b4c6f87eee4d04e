use Rattle.std.proofs.Common.{◌≡◌, map, drop}
use Rattle.cedar_grammar.specs.Names.{is_among}
use Rattle.cedar_json.proofs.object_keys.is_one_of.Given as goal

abbrev pub invariant-loop-name : goal.invariant-loop-name
invariant-loop-name l = is_among l.key (map (λ name. name.now) (drop l.name-index l.names)) ≡ is_among l.key (map (λ name. name.now) l.names)
