-- The types of `==` and `in`.
use Rattle.std.specs.Prelude.{Bool, false, ◌||◌, cond, List, [], ◌∷◌, Option, Some, None}
use Rattle.cedar_language.specs.Uid.{Name, Uid}
use Rattle.cedar_language.specs.Tree.{Literal, Entity, Action, MakeSet, Tree, Lit, Var, Apply, Trees, no_trees, a_tree}
use Rattle.cedar_language.specs.Value.{Plain}
use Rattle.cedar_language.specs.Order.{same, same_name, same_uid}
use Rattle.cedar_typing.specs.Types.{CedarType, Entities, Sets, lub}
use Rattle.cedar_typing.specs.Schema.{Schema, Environment}
use Rattle.cedar_typing.specs.Faults.{UnexpectedType, IncompatibleTypes, WrongNumberArguments}
use Rattle.cedar_typing.specs.Results.{Typing, Faulty, known, unsure}

-- the literal that an operand is, whatever the question; the action is one
abbrev pub constant : Environment → Tree → Option Literal
constant e (Lit l) = Some l
constant e (Var Action) = Some (Entity e.action)
constant e t = None

-- entities of two types are never one; other values of two types are not compared
abbrev pub unlike : CedarType → CedarType → Typing
unlike (Entities n) (Entities m) = known false
unlike t u = Faulty IncompatibleTypes

abbrev pub equal_by_types : Option CedarType → CedarType → CedarType → Typing
equal_by_types (Some v) t u = unsure
equal_by_types None t u = unlike t u

abbrev pub equal_by_constants : Option Literal → Option Literal → CedarType → CedarType → Typing
equal_by_constants (Some l) (Some m) t u = known (same (Plain l) (Plain m))
equal_by_constants l m t u = equal_by_types (lub t u) t u

-- `==`: of two constants it is known, whatever their types
abbrev pub equal_type : Environment → Trees → List CedarType → Typing
equal_type e (a_tree x (a_tree y no_trees)) (t ∷ u ∷ []) = equal_by_constants (constant e x) (constant e y) t u
equal_type e xs ts = Faulty WrongNumberArguments

-- `in` by types: never where an entity of the first type has no ancestors of the second
abbrev pub within_type : Schema → Name → Name → Typing
within_type s n m = cond (same_name n m || s.may_reach n m) unsure (known false)

-- `in` by the declared actions
abbrev pub action_is_within : Schema → Uid → Uid → Bool
action_is_within s a b = same_uid a b || s.action_reaches a b

abbrev pub action_is_within_some : Schema → Uid → List Uid → Bool
action_is_within_some s a [] = false
action_is_within_some s a (b ∷ bs) = action_is_within s a b || action_is_within_some s a bs

-- the action that an operand is, whatever the question
abbrev pub where_action : Schema → Option Literal → Option Uid
where_action s (Some (Entity u)) = cond (s.is_action u) (Some u) None
where_action s l = None

abbrev pub and_entity : Option Literal → Option (List Uid) → Option (List Uid)
and_entity (Some (Entity u)) (Some us) = Some (u ∷ us)
and_entity l us = None

abbrev pub entities_in : Environment → Trees → Option (List Uid)
entities_in e no_trees = Some []
entities_in e (a_tree x xs) = and_entity (constant e x) (entities_in e xs)

-- the entities that a right operand lists, whatever the question
abbrev pub listed : Environment → Tree → Option (List Uid)
listed e (Apply MakeSet xs) = entities_in e xs
listed e x = and_entity (constant e x) (Some [])

abbrev pub in_by_action : Schema → Option Uid → Option (List Uid) → Name → Name → Typing
in_by_action s (Some a) (Some bs) n m = known (action_is_within_some s a bs)
in_by_action s a bs n m = within_type s n m

abbrev pub in_entities : Environment → Trees → Name → Name → Typing
in_entities e (a_tree x (a_tree y no_trees)) n m = in_by_action e.schema (where_action e.schema (constant e x)) (listed e y) n m
in_entities e xs n m = Faulty WrongNumberArguments

-- `in`: of an entity, and an entity or a set of one entity type
abbrev pub in_type : Environment → Trees → List CedarType → Typing
in_type e xs (Entities n ∷ Entities m ∷ []) = in_entities e xs n m
in_type e xs (Entities n ∷ Sets (Entities m) ∷ []) = in_entities e xs n m
in_type e xs ts = Faulty UnexpectedType
