-- What is told of an id, under which a set has a policy or none.
use Rattle.std.proofs.Common.{◌≡◌, ◌∙◌, refl, ap, sym, subst, MatchOption, Option, Some, None, IfSome, IfNone, OnOk, Result, [], if◌then◌else◌, Bor}
use Rattle.std.proofs.lemmas.List.{append-nil}
use Rattle.std.proofs.lemmas.Result.{on_ok_weaker}
use Rattle.std.specs.FinMap as finite
use Rattle.std.specs.Option.{option_copied, option_map}
use Rattle.cedar_language.specs.Uid.{Text}
use Rattle.cedar_evaluator.specs.declared.partial_response.PartialResponse.{PartialResponse}
use Rattle.cedar_held.specs.PolicyWorlds.{world_bound, policies_in, FindsAsWorlds}
use Rattle.cedar_policies.specs.Templates.{syntax_of, template_id}
use Rattle.cedar_policies.specs.declared.policies.Policy.{Policy}
use Rattle.cedar_policies.specs.declared.templates.Template.{Template}
use Rattle.cedar_policy_set.specs.Bounds.{policy_entry}
use Rattle.cedar_grammar.specs.Bindings.{linked}
use Rattle.cedar_grammar.specs.Syntax.{PolicySyntax}
use Rattle.cedar_policy_set.specs.Entries.{Entry, static_policy, template, link, Entries, IsWhole, bound_at, own_template_at, policy_only}
use Rattle.cedar_policy_set.specs.Texts.{AreToldBySlots}
use Rattle.cedar_world.specs.World.{Policies, in_force_as, in_force_at, template_at, template_of}
use Rattle.cedar_refusals.specs.Checks.{TellsPolicy}
use Rattle.cedar_authoring.specs.Explaining.{TellsOne, TellsTemplate}
use Rattle.cedar_authoring.specs.Standing.{TellsStanding}
use Rattle.cedar_messages.specs.Telling.{Adds}

not_none : {A : Type 0} (x : A) → Some x ≡ None → ⊥
not_none x e = cc

not_some : {A : Type 0} (x : A) → None ≡ Some x → ⊥
not_some x e = cc

module _ (es : Entries) (slots : AreToldBySlots es) (whole : IsWhole es) (finds : FindsAsWorlds) (policies : Policies) (held : policies_in es ≡ policies) (id : Text) where
  found : (i : Text) (o : Option Entry) → bound_at es i ≡ o → finite.get policies i ≡ option_map world_bound o
  found i o at = ap (λ m. finite.get m i) (sym held) ∙ finds es i ∙ ap (option_map world_bound) at

  by_entry : (o : Option Entry) → bound_at es id ≡ o → policy_only o ≡ None → in_force_at policies id ≡ None
  by_entry None at none = ap (in_force_as policies) (found id None at)
  by_entry (Some (static_policy s)) at none = absurd (not_none (static_policy s) none)
  by_entry (Some (template s)) at none = ap (in_force_as policies) (found id (Some (template s)) at) ∙ ap (λ b. if b then None else Some s) (slots.templates id s at)
  by_entry (Some (link t s b)) at none = absurd (not_none (link t s b) none)

  -- where the set has no policy, none is in force
  pub none_in_force : policy_only (bound_at es id) ≡ None → in_force_at policies id ≡ None
  none_in_force none = by_entry (bound_at es id) refl none

  -- where it has one, that is in force: of a link the template is bound
  some_in_force : (o : Option Entry) (e : Entry) → bound_at es id ≡ o → policy_only o ≡ Some e → (s : PolicySyntax) × (in_force_at policies id ≡ Some s)
  some_in_force None e at some = absurd (not_some e some)
  some_in_force (Some (static_policy s)) e at some =
      (s, ap (in_force_as policies) (found id (Some (static_policy s)) at) ∙ ap (λ b. if b then None else Some s) (slots.policies id s at))
  some_in_force (Some (template s)) e at some = absurd (not_some e some)
  some_in_force (Some (link t s b)) e at some =
      let bound : bound_at es t ≡ Some (template s) = whole.templates id (link t s b) at in
      let is : template_at policies t ≡ Some s = ap template_of (found t (Some (template s)) bound) ∙ ap (λ c. if c then Some s else None) (slots.templates t s bound) in
      (linked b s, ap (in_force_as policies) (found id (Some (link t s b)) at) ∙ ap (option_map (linked b)) is)

  -- a template that is bound there, where no policy is
  template_there : (o : Option Entry) → bound_at es id ≡ o → policy_only o ≡ None → template_at policies id ≡ own_template_at o
  template_there None at none = ap template_of (found id None at)
  template_there (Some (static_policy s)) at none = absurd (not_none (static_policy s) none)
  template_there (Some (template s)) at none =
      ap template_of (found id (Some (template s)) at) ∙ ap (λ c. if c then Some s else None) (slots.templates id s at)
  template_there (Some (link t s b)) at none = absurd (not_none (link t s b) none)

  module _ (name : Text) (response : PartialResponse) (old new : Text) where
    -- how a policy stands is told
    pub told_some : (o : Option (Bor Policy)) (policy : Bor Policy) → o ≡ Some policy → option_map policy_entry (option_copied o) ≡ policy_only (bound_at es id)
        → Adds (TellsStanding name response id) old new → Adds (TellsOne name policies response id) old new
    told_some o policy is entry added =
        let stands = some_in_force (bound_at es id) (policy_entry policy.now) refl (sym entry ∙ ap (λ x. option_map policy_entry (option_copied x)) is) in
        let P : Option PolicySyntax → Type 0 = λ s. MatchOption s (TellsTemplate name (template_at policies id) id added.0) (λ _. TellsStanding name response id added.0) in
        (added.0, subst P (sym stands.1) added.1, added.2)

    told_template : {A E : Type 0} (r : Result A E) → in_force_at policies id ≡ None → (t : Option (Bor Template)) → template_at policies id ≡ option_map syntax_of (option_copied t)
        → IfSome t (λ t. template_id t.now ≡ id) → IfNone t (OnOk r (new ≡ old)) → IfSome t (λ t. OnOk r (Adds (TellsPolicy name (template_id t.now)) old new))
        → OnOk r (Adds (TellsOne name policies response id) old new)
    told_template r free None at named none some =
        let nothing : Text = [] in
        let P : Option PolicySyntax → Type 0 = λ o. MatchOption o (TellsTemplate name (template_at policies id) id nothing) (λ _. TellsStanding name response id nothing) in
        let Q : Option PolicySyntax → Type 0 = λ o. TellsTemplate name o id nothing in
        on_ok_weaker r (λ same. (nothing, subst P (sym free) (subst Q (sym at) refl), same ∙ sym (append-nil old))) none
    told_template r free (Some t) at named none some =
        let Tells : Text → Type 0 = TellsPolicy name (template_id t.now) in
        let P : Text → Option PolicySyntax → Type 0 = λ told o. MatchOption o (TellsTemplate name (template_at policies id) id told) (λ _. TellsStanding name response id told) in
        let Q : Text → Option PolicySyntax → Type 0 = λ told o. TellsTemplate name o id told in
        let R : Text → Text → Type 0 = λ told i. TellsPolicy name i told in
        on_ok_weaker r (λ (adds : Adds Tells old new). (adds.0, subst (P adds.0) (sym free) (subst (Q adds.0) (sym at) (subst (R adds.0) named adds.1)), adds.2)) some

    -- where no policy is, a template is told of, if one is there
    pub told_none : {A E : Type 0} (r : Result A E) (o : Option (Bor Policy)) → o ≡ None → option_map policy_entry (option_copied o) ≡ policy_only (bound_at es id)
        → (t : Option (Bor Template)) → option_map syntax_of (option_copied t) ≡ own_template_at (bound_at es id) → IfSome t (λ t. template_id t.now ≡ id)
        → IfNone t (OnOk r (new ≡ old)) → IfSome t (λ t. OnOk r (Adds (TellsPolicy name (template_id t.now)) old new))
        → OnOk r (Adds (TellsOne name policies response id) old new)
    told_none r o is entry t syntax named none some =
        let nothing : policy_only (bound_at es id) ≡ None = sym entry ∙ ap (λ x. option_map policy_entry (option_copied x)) is in
        told_template r (none_in_force nothing) t (template_there (bound_at es id) refl nothing ∙ sym syntax) named none some
