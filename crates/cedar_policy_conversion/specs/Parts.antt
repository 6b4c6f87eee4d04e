-- The parts of a policy, as the grammar has them.
use Rattle.std.specs.Option.{option_map}
use Rattle.cedar_grammar.specs.Policy.{Policy}
use Rattle.cedar_trees.specs.Bare.{bare}
use Rattle.cedar_policy_parts.specs.Effects.{effect_of}
use Rattle.cedar_policy_parts.specs.Actions.{action_of}
use Rattle.cedar_policy_conversion.specs.declared.templates.Parts.{Parts}

abbrev pub parts_syntax : Parts → Policy
parts_syntax p = record {
  effect = effect_of p.effect;
  annotations = p.annotations;
  principal = p.principal;
  action = action_of p.action;
  resource = p.resource;
  body = option_map bare p.clauses;
}
