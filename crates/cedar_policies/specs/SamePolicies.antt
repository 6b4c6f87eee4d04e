-- Whether two policies are the same: the same template, link and entities.
use Rattle.std.specs.Prelude.{Bool, ◌&&◌}
use Rattle.std.specs.Option.{option_eq}
use Rattle.std.specs.Cmp.{IsEquivalence, on_equiv, and_equiv}
use Rattle.std.specs.Cmp.Lexicographic.{options_equiv, nat_list_eq_equiv}
use Rattle.cedar_language.specs.Uid.{Text}
use Rattle.cedar_language.specs.Order.{same_text}
use Rattle.cedar_policy_parts.specs.SameScopes.{same_bindings, same_bindings_equiv}
use Rattle.cedar_policies.specs.Same.{same_policy, same_policy_equiv}
use Rattle.cedar_policies.specs.Templates.{template_id}
use Rattle.cedar_policies.specs.Policies.{policy_template, policy_syntax, link_of, bindings_of}
use Rattle.cedar_policies.specs.declared.policies.Policy.{Policy}

abbrev pub own_template_id : Policy → Text
own_template_id p = template_id (policy_template p)

abbrev pub same_policies : Policy → Policy → Bool
same_policies p q =
    same_policy own_template_id policy_syntax p q
    && (option_eq same_text (link_of p) (link_of q) && same_bindings (bindings_of p) (bindings_of q))

pub same_policies_equiv : IsEquivalence same_policies
same_policies_equiv = and_equiv (same_policy_equiv own_template_id policy_syntax) (and_equiv (on_equiv link_of (options_equiv nat_list_eq_equiv)) (on_equiv bindings_of same_bindings_equiv))
