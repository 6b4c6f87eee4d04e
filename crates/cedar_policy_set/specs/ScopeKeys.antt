-- By which entity of its scope a policy is found.
use Rattle.std.specs.Prelude.{◌≡◌, ⊤, true, Option, Some}
use Rattle.cedar_language.specs.Uid.{Uid}
use Rattle.cedar_grammar.specs.Policy.{Policy, Constraint}
use Rattle.cedar_grammar.specs.Bindings.{Bindings}
use Rattle.cedar_policy_set.specs.ScopeNaming.{named, is_settled, named_action}
use Rattle.cedar_policy_set.specs.declared.scope_index.keys.Asked.{Asked}
use Rattle.cedar_policy_set.specs.declared.scope_index.keys.Asked.TheVariants.{Equal, Within, Unnamed, Open}
use Rattle.cedar_policy_set.specs.declared.scope_index.keys.Key.{Key}
use Rattle.cedar_policy_set.specs.declared.scope_index.keys.Key.TheVariants.{Principal, Action, Resource, Pair, Nothing}

-- an entity that a constraint names, whose slot is not open
abbrev pub Names : Option Uid → Constraint → Uid → Type 0
Names bound c u = (named bound c ≡ Some u) × (is_settled bound c ≡ true)

abbrev pub IsAskedAs : Option Uid → Constraint → Asked → Type 0
IsAskedAs bound c (Equal u) = Names bound c u.now
IsAskedAs bound c (Within u) = Names bound c u.now
IsAskedAs bound c Unnamed = is_settled bound c ≡ true
IsAskedAs bound c Open = ⊤

-- the scope of a policy names the entity there, or both
abbrev pub IsKey : Bindings → Policy → Key → Type 0
IsKey b s (Principal u) = named b.principal s.principal ≡ Some u.now
IsKey b s (Action u) = (is_settled b.principal s.principal ≡ true) × (named_action s.action ≡ Some u.now)
IsKey b s (Resource u) = (is_settled b.principal s.principal ≡ true) × (named b.resource s.resource ≡ Some u.now)
IsKey b s (Pair u v) = (is_settled b.principal s.principal ≡ true) × (named b.principal s.principal ≡ Some u.now) × (named b.resource s.resource ≡ Some v.now)
IsKey b s Nothing = ⊤
