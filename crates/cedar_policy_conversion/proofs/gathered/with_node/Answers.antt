-- The number isn't bound in the set so far, so the node's policy goes behind it; without either there is no set.
use Rattle.std.proofs.Common.{◌≡◌, inl, inr, length, arith, [], ◌∷◌, ◌++◌, Some, Ok, Err, sym, ap, ◌∙◌, subst}
use Rattle.std.specs.Prelude.{IfOk}
use Rattle.std.specs.Option.{option_map}
use Rattle.cedar_grammar.specs.Converting.{policy_syntax}
use Rattle.cedar_cst.specs.View.{shown_policy}
use Rattle.cedar_grammar.specs.Syntax.{numbered}
use Rattle.cedar_faults.specs.Reasons.{reason}
use Rattle.cedar_faults.specs.Converts.{Finds}
use Rattle.cedar_policy_conversion.proofs.Gathering.{a_pair, both_found, flat_ok, lacks_more, no_pair, paired, passed}
use Rattle.cedar_faults.specs.Telling.{Told}
use Rattle.cedar_faults.proofs.Telling.{flat_shows, handed_on}
use Rattle.cedar_policy_conversion.proofs.Showing.{itself_tells}
use Rattle.cedar_policy_conversion.specs.Shows.{policy_shows}
use Rattle.cedar_policy_set.specs.Entries.{bound_at, is_bound}
use Rattle.cedar_policy_set.proofs.Finding.{none_from}
use Rattle.cedar_policy_conversion.proofs.Numbering.{still_free}
use Rattle.cedar_policy_set.specs.Texts.{text_entry}
use Rattle.cedar_policy_conversion.specs.Free.{LeavesFree}
use Rattle.cedar_policy_conversion.specs.Kinds.{entry_made, id_made}
use Rattle.cedar_policy_conversion.proofs.gathered.with_node.Goals as goal

pub returns-in_err-set-clause-set : goal.returns-in_err-set-clause-set
returns-in_err-set-clause-set c before found =
    let w = option_map text_entry (policy_syntax c.args.styles.now (shown_policy c.args.node.now)) in
    let e = c.in_err-set.field-0.0 in
    let none = both_found (λ set. set) entry_made c.args.earlier c.to_sharing_policy_or_template-next.result (Err e) before w c.in_err-set.ensures found c.to_sharing_policy_or_template-next.ensures.syntax in
    passed (λ set. set) c.from_residual-in_err-set.result e _ c.from_residual-in_err-set.ensures
    (lacks_more (reason e) (paired before w) _ (no_pair before w (λ es x. Some (es ++ (numbered (length es), x) ∷ []))) none)

pub with_policy-requires : goal.with_policy-requires
with_policy-requires c =
    let o = c.in_ok-set in
    let flat = flat_ok c.args.earlier c.to_sharing_policy_or_template-next.result (o.set, o.policy) o.ensures in
    let many = subst (λ r. IfOk r (λ es. c.next_number.result ≡ length es)) (flat.0) c.next_number.ensures in
    let free = subst (λ r. IfOk r LeavesFree) (flat.0) c.requires c.next_number.result (omega (arith, many)) (omega arith) in
    let id = subst (λ r. IfOk r (λ x. id_made x ≡ c.in_ok-id.id)) (flat.1) c.to_sharing_policy_or_template-next.ensures.id in
    none_from (bound_at o.set (id_made o.policy)) (ap (is_bound o.set) (id ∙ c.in_ok-id.ensures) ∙ free)

pub returns-clause-set : goal.returns-clause-set
returns-clause-set c before found =
    let o = c.in_ok-set in
    let w = option_map text_entry (policy_syntax c.args.styles.now (shown_policy c.args.node.now)) in
    let flat = flat_ok c.args.earlier c.to_sharing_policy_or_template-next.result (o.set, o.policy) o.ensures in
    let id = subst (λ r. IfOk r (λ x. id_made x ≡ c.in_ok-id.id)) (flat.1) c.to_sharing_policy_or_template-next.ensures.id in
    let many = subst (λ r. IfOk r (λ es. c.next_number.result ≡ length es)) (flat.0) c.next_number.ensures in
    let both = both_found (λ set. set) entry_made c.args.earlier c.to_sharing_policy_or_template-next.result (Ok (o.set, o.policy)) before w o.ensures found c.to_sharing_policy_or_template-next.ensures.syntax in
    subst (Finds (λ set. set) c.with_policy.result)
    (sym (a_pair before w (λ es x. Some (es ++ (numbered (length es), x) ∷ [])) (o.set, entry_made o.policy) both ∙ ap (λ k. Some (o.set ++ (k, entry_made o.policy) ∷ [])) (sym (id ∙ c.in_ok-id.ensures ∙ ap numbered many))))
    c.with_policy.ensures.set

pub returns-clause-free : goal.returns-clause-free
returns-clause-free c =
    let o = c.in_ok-set in
    let flat = flat_ok c.args.earlier c.to_sharing_policy_or_template-next.result (o.set, o.policy) o.ensures in
    let many = subst (λ r. IfOk r (λ es. c.next_number.result ≡ length es)) (flat.0) c.next_number.ensures in
    let id = subst (λ r. IfOk r (λ x. id_made x ≡ c.in_ok-id.id)) (flat.1) c.to_sharing_policy_or_template-next.ensures.id in
    still_free c.with_policy.result o.set (id_made o.policy) (entry_made o.policy) (subst (λ r. IfOk r LeavesFree) (flat.0) c.requires) (id ∙ c.in_ok-id.ensures ∙ ap numbered many) c.with_policy.ensures.set

pub returns-in_err-set-clause-told : goal.returns-in_err-set-clause-told
returns-in_err-set-clause-told c =
    handed_on c.from_residual-in_err-set.result _ _ c.from_residual-in_err-set.ensures
    (flat_shows c.args.earlier c.to_sharing_policy_or_template-next.result _ (λ k. Told c.args.earlier k) (policy_shows c.args.styles.now (shown_policy c.args.node.now)) _ c.in_err-set.ensures (itself_tells c.args.earlier) c.to_sharing_policy_or_template-next.ensures.shown (λ k s. inl s) (λ k s. inr s))
