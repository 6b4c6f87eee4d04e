-- The numbers of actions, by their uids.
use Rattle.std.specs.Prelude.{◌≡◌, ℕ, List, [], ◌∷◌, ◌++◌, Option, option_to_list}
use Rattle.std.specs.List.{cons_option, position_from}
use Rattle.std.specs.BTreeMap.{get}
use Rattle.cedar_language.specs.Uid.{Text, Name, Uid}
use Rattle.cedar_language.specs.Order.{same_uid, uid_cmp}
use Rattle.cedar_schema_grammar.specs.Syntax.{ActionRef}
use Rattle.cedar_schema_grammar.specs.Declared.{Action, Declared, first_of, places, action_uid, type_of_ref}
use Rattle.cedar_schema_faults.specs.declared.actions.ActionNumbers.{ActionNumbers}

abbrev pub number_at : ActionNumbers → Uid → Option ℕ
number_at c u = get uid_cmp c.by_uid u

-- the number of the first action of a uid, where the first of these has the number i
abbrev pub number_from : ℕ → List Action → Uid → Option ℕ
number_from i all u = position_from (λ a. same_uid (action_uid a) u) i all

-- these actions have their numbers from i on, and there are no others
abbrev pub HaveNumbersFrom : ℕ → List Action → ActionNumbers → Type 0
HaveNumbersFrom i all c = (u : Uid) → number_at c u ≡ number_from i all u

abbrev pub HaveNumbers : List Action → ActionNumbers → Type 0
HaveNumbers all c = HaveNumbersFrom 0 all c

-- ---- by references

abbrev pub number_by_path : ActionNumbers → Text → Name → Option ℕ
number_by_path c id n = number_at c (record { type_name = n; id = id })

-- the number of the action that an id stands for with the path of a type
abbrev pub named_number : ActionNumbers → Name → Name → Text → Option ℕ
named_number c namespace n id = first_of (number_by_path c id) (places namespace n)

abbrev pub number_for : ActionNumbers → Name → ActionRef → Option ℕ
number_for c namespace r = named_number c namespace (type_of_ref r) r.name

-- the numbers of the groups that are declared
abbrev pub group_numbers : ActionNumbers → Name → List ActionRef → List ℕ
group_numbers c namespace [] = []
group_numbers c namespace (r ∷ rs) = option_to_list (number_for c namespace r) ++ group_numbers c namespace rs

abbrev pub groups_in : ActionNumbers → Action → List ℕ
groups_in c a = group_numbers c a.namespace a.written.groups
