-- Entities in a scope, and which of them are actions.
use Rattle.std.specs.Prelude.{Bool, not, cond, List, [], ◌∷◌, filter, Option, Some, None}
use Rattle.cedar_language.specs.Uid.{Uid}
use Rattle.cedar_grammar.specs.Policies.{ends_in_action}
use Rattle.cedar_grammar.specs.Steps.{◌>>=◌}
use Rattle.cedar_grammar.specs.Loose as loose
use Rattle.cedar_grammar.specs.Converting.{ref_entity, inside_parens}
use Rattle.cedar_policy_conversion.specs.declared.entities.OneOrMultipleRefs.{OneOrMultipleRefs}
use Rattle.cedar_policy_conversion.specs.declared.entities.OneOrMultipleRefs.TheVariants.{Single, Multiple}

-- the expression in parentheses, or the list, that a primary is
abbrev pub in_parens : loose.Primary → Option loose.Expr
in_parens (loose.expr e) = Some e
in_parens p = None

abbrev pub listed : loose.Primary → Option loose.Exprs
listed (loose.e_list es) = Some es
listed p = None

-- the entity that a primary is, and the one that stands alone in any number of parentheses
abbrev pub primary_entity : loose.Primary → Option Uid
primary_entity (loose.entity r) = ref_entity r
primary_entity p = None

abbrev pub entity : loose.Expr → Option Uid
entity e = inside_parens e >>= primary_entity

-- the entity, where the last identifier of its type is `Action`
abbrev pub as_action : Uid → Option Uid
as_action u = cond (ends_in_action u.type_name) (Some u) None

-- the entities, in their order
abbrev pub refs_of : OneOrMultipleRefs → List Uid
refs_of (Single u) = u ∷ []
refs_of (Multiple us) = us.items

-- those that are no actions
abbrev pub is_other : Uid → Bool
is_other u = not (ends_in_action u.type_name)

abbrev pub others : List Uid → List Uid
others us = filter is_other us
