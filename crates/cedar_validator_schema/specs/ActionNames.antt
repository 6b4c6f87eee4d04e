-- The actions that references stand for.
use Rattle.std.specs.Prelude.{◌≡◌, List, [], ◌∷◌, Option, option_map, option_and_then}
use Rattle.std.specs.List.{find, cons_option}
use Rattle.std.specs.BTreeMap.{get}
use Rattle.cedar_language.specs.Uid.{Name, Uid}
use Rattle.cedar_language.specs.Order.{same_uid, text_cmp, name_cmp}
use Rattle.cedar_schema_grammar.specs.Syntax.{ActionRef}
use Rattle.cedar_schema_grammar.specs.Declared.{Action, Declared, action_uid, first_of, places, type_of_ref}
use Rattle.cedar_validator_schema.specs.declared.action_names.ActionNames.{ActionNames}

-- the action of a uid, where one is declared
abbrev pub uid_at : ActionNames → Uid → Option Uid
uid_at c u = option_and_then (λ m. get name_cmp m u.type_name) (get text_cmp c.by_id u.id)

-- these actions have their uids, and there are no others
abbrev pub HaveUids : List Action → ActionNames → Type 0
HaveUids as_ c = (u : Uid) → uid_at c u ≡ option_map action_uid (find (λ a. same_uid (action_uid a) u) as_)

abbrev pub AreUidsOf : Declared → ActionNames → Type 0
AreUidsOf d c = HaveUids d.actions c

-- the action that is referred to in a namespace, and those that are
abbrev pub first_referred : ActionNames → Name → ActionRef → Option Uid
first_referred c namespace r = first_of (λ m. uid_at c (record { type_name = m; id = r.name })) (places namespace (type_of_ref r))

abbrev pub all_referred : ActionNames → Name → List ActionRef → List Uid
all_referred c namespace [] = []
all_referred c namespace (r ∷ rs) = cons_option (first_referred c namespace r) (all_referred c namespace rs)
