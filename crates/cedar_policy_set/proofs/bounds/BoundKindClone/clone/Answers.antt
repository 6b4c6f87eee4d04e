-- What shares template, id and entities is of one entry.
use Rattle.std.proofs.Common.{◌≡◌, ap, sym, subst}
use Rattle.std.specs.Prelude.{unwrap_or}
use Rattle.cedar_grammar.specs.Policy.{slots}
use Rattle.cedar_policies.specs.Templates.{template_id, syntax_of, listed_slots}
use Rattle.cedar_policy_set.specs.Entries.{template}
use Rattle.cedar_policy_set.specs.declared.bounds.BoundKind.TheVariants.{Policy, Template}
use Rattle.cedar_policy_set.specs.Bounds.{entry_by, IsCopy}
use Rattle.cedar_policy_set.proofs.bounds.BoundKindClone.clone.Goals as goal

pub returns-in_ok-clone-in-Policy : goal.returns-in_ok-clone-in-Policy
returns-in_ok-clone-in-Policy c =
    let copy = c.in_ok-clone-in-Policy.field-0 in
    let same = c.in_ok-clone-in-Policy.ensures.cases in
    let shares : IsCopy (Policy c.in-Policy.policy) (Policy copy) =
    record {
      id = λ i. unwrap_or (same.link i) (template_id (same.template i));
      entry = λ i. entry_by (same.link i) (template_id (same.template i)) (syntax_of (same.template i)) (same.bindings i);
      listed = λ listed. tt;
    }
    in
    record { cases = subst (λ b. IsCopy b (Policy copy)) (sym c.in-Policy.is) shares }

pub returns-in_ok-clone-in-Template : goal.returns-in_ok-clone-in-Template
returns-in_ok-clone-in-Template c =
    let copy = c.in_ok-clone-in-Template.field-0 in
    let same = c.in_ok-clone-in-Template.ensures.cases in
    let shares : IsCopy (Template c.in-Template.template) (Template copy) =
    record {
      id = ap template_id same;
      entry = ap (λ t. template (syntax_of t)) same;
      listed = λ listed. subst (λ t. listed_slots t ≡ slots (syntax_of t)) (sym same) listed;
    }
    in
    record { cases = subst (λ b. IsCopy b (Template copy)) (sym c.in-Template.is) shares }
