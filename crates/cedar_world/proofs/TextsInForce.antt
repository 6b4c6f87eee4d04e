-- What holds of each policy of a text, and of links to those of which it holds, holds of each that is in force after any list of commands.
use Rattle.std.proofs.Common.{◌≡◌, inl, inr, Bool, true, false, cond, Option, Some, None, option_map, List, [], ◌∷◌, refl, sym, ◌∙◌, ap, subst}
use Rattle.std.specs.FinMap as map
use Rattle.cedar_language.specs.Uid.{Text}
use Rattle.cedar_language.specs.Order.{text_cmp}
use Rattle.cedar_world.specs.Commands.{Verb, Load, Link, Unlink, RemoveStatic, RemoveTemplate, Reply, Done, Named}
use Rattle.cedar_world.specs.LinkLaws.{LinksAreStatic, LinksAreWhole}
use Rattle.cedar_world.specs.PolicyEdits.{joined}
use Rattle.cedar_world.specs.Session.{Command, Edited, EditsPolicies}
use Rattle.cedar_world.specs.Setting.{Setting, ArePolicies}
use Rattle.cedar_grammar.specs.Bindings.{Bindings, linked}
use Rattle.cedar_grammar.specs.Syntax.{PolicySyntax, is_template}
use Rattle.cedar_world.specs.World as world
use Rattle.cedar_world.specs.World.{Bound, Policies, in_force_at}
use Rattle.cedar_world.proofs.Parts.{same_some, not_none}
use Rattle.cedar_world.proofs.Maps.{same_or_not, put_there, put_elsewhere, gone_there, gone_elsewhere}
use Rattle.cedar_world.proofs.Lists.{IsAmong}

module _ (by : Setting) (Holds : PolicySyntax → Type 0) (texts : (text : Text) (ss : List PolicySyntax) → ArePolicies by text ss → (s : PolicySyntax) → IsAmong s ss → Holds s) where
  -- each policy that is held, and each template
  abbrev pub AllHold : Policies → Type 0
  AllHold policies = (id : Text) (s : PolicySyntax) → map.get policies id ≡ Some (world.Policy s) → Holds s

  -- ---- what one command edits

  put_holds : (policies : Policies) (id : Text) (x : Bound) → AllHold policies → ((s : PolicySyntax) → x ≡ world.Policy s → Holds s) → AllHold (map.insert policies id x)
  put_holds policies id x all h q t e = elim (same_or_not q id) [
    | inl at ↦ h t (same_some x (world.Policy t) (sym (put_there policies id x) ∙ sym (ap (map.get (map.insert policies id x)) at) ∙ e))
    | inr other ↦ all q t (sym (put_elsewhere policies id x q other) ∙ e)
  ]

  policy_holds : (s : PolicySyntax) → Holds s → (t : PolicySyntax) → world.Policy s ≡ world.Policy t → Holds t
  policy_holds s h t e = let same : s ≡ t = cc in subst Holds same h

  rest_holds : (policies : Policies) (id : Text) → AllHold policies → AllHold (map.remove policies id)
  rest_holds policies id all q t e = elim (same_or_not q id) [
    | inl at ↦ absurd (not_none (world.Policy t) (sym (gone_there policies id) ∙ sym (ap (map.get (map.remove policies id)) at) ∙ e))
    | inr other ↦ all q t (sym (gone_elsewhere policies id q other) ∙ e)
  ]

  joined_hold : (policies : Policies) (ss : List PolicySyntax) (ids : List Text) → AllHold policies → ((s : PolicySyntax) → IsAmong s ss → Holds s) → AllHold (joined policies ss ids)
  joined_hold policies (s ∷ ss) (id ∷ ids) all h = joined_hold (map.insert policies id (world.Policy s)) ss ids (put_holds policies id (world.Policy s) all (policy_holds s (h s (inl refl)))) (λ t among. h t (inr among))
  joined_hold policies _ _ all h = all

  as_before : (old new : Policies) → new ≡ old → AllHold old → AllHold new
  as_before old new e all = subst AllHold (sym e) all

  edit_holds : (old new : Policies) (verb : Verb) (text : Text) (reply : Reply) → EditsPolicies by old verb text reply new → AllHold old → AllHold new
  edit_holds old new Load text (Named ids) (ss, are, loads) all = subst AllHold (sym loads.policies) (joined_hold old ss ids all (texts text ss are))
  edit_holds old new Link text Done (b, says, is) all = subst AllHold (sym is) (put_holds old b.id (world.Link b.template b.bindings) all (λ t e. cc))
  edit_holds old new Unlink text Done (id, says, is) all = subst AllHold (sym is) (rest_holds old id all)
  edit_holds old new RemoveStatic text Done (id, says, is) all = subst AllHold (sym is) (rest_holds old id all)
  edit_holds old new RemoveTemplate text Done (id, says, is) all = subst AllHold (sym is) (rest_holds old id all)
  edit_holds old new verb text reply e all = as_before old new e all

  edited_hold : (old new : Policies) (commands : List Command) (replies : List Reply) → Edited (EditsPolicies by) old commands replies new → AllHold old → AllHold new
  edited_hold old new [] [] e all = as_before old new e all
  edited_hold old new ((verb, text) ∷ commands) (reply ∷ replies) (mid, edit, rest) all = edited_hold mid new commands replies rest (edit_holds old mid verb text reply edit all)
  edited_hold old new [] (reply ∷ replies) e all = absurd e
  edited_hold old new (command ∷ commands) [] e all = absurd e

  none_holds : AllHold map.empty
  none_holds id s e = let never : None ≡ Some (world.Policy s) = sym (map.get-empty text_cmp id) ∙ e in cc

  -- so it is of all that is held after a list of commands
  pub all_hold : (commands : List Command) (replies : List Reply) (policies : Policies) → Edited (EditsPolicies by) map.empty commands replies policies → AllHold policies
  all_hold commands replies policies edited = edited_hold map.empty policies commands replies edited none_holds

  -- ---- what is in force

  module _ (binds : (b : Bindings) (s : PolicySyntax) → Holds s → Holds (linked b s)) (policies : Policies) (all : AllHold policies) where
    static_holds : (b : Bool) (id : Text) (t s : PolicySyntax) → map.get policies id ≡ Some (world.Policy t) → cond b None (Some t) ≡ Some s → Holds s
    static_holds true id t s at e = cc
    static_holds false id t s at e = let same : t ≡ s = cc in subst Holds same (all id t at)

    -- the template that a link has
    template_holds : (b : Bool) (id : Text) (t s : PolicySyntax) → map.get policies id ≡ Some (world.Policy t) → cond b (Some t) None ≡ Some s → Holds s
    template_holds true id t s at e = let same : t ≡ s = cc in subst Holds same (all id t at)
    template_holds false id t s at e = cc

    found_template : (id : Text) (o : Option Bound) (s : PolicySyntax) → map.get policies id ≡ o → world.template_of o ≡ Some s → Holds s
    found_template id (Some (world.Policy t)) s at e = template_holds (is_template t) id t s at e
    found_template id _ s at e = cc

    linked_holds : (bindings : Bindings) (o : Option PolicySyntax) (s : PolicySyntax) → option_map (linked bindings) o ≡ Some s → ((t : PolicySyntax) → o ≡ Some t → Holds t) → Holds s
    linked_holds bindings None s e h = cc
    linked_holds bindings (Some t) s e h =
        let same : linked bindings t ≡ s = cc in
        subst Holds same (binds bindings t (h t refl))

    bound_holds : (id : Text) (o : Option Bound) (s : PolicySyntax) → map.get policies id ≡ o → world.in_force_as policies o ≡ Some s → Holds s
    bound_holds id None s at e = cc
    bound_holds id (Some (world.Policy t)) s at e = static_holds (is_template t) id t s at e
    bound_holds id (Some (world.Link template bindings)) s at e =
        linked_holds bindings (world.template_at policies template) s e (λ t is. found_template template (map.get policies template) t refl is)

    pub in_force_holds : (id : Text) (s : PolicySyntax) → in_force_at policies id ≡ Some s → Holds s
    in_force_holds id s e = bound_holds id (map.get policies id) s refl e

-- ---- slots

module _ (static : LinksAreStatic) (policies : Policies) (whole : LinksAreWhole policies) where
  abbrev IsStatic : PolicySyntax → Type 0
  IsStatic s = is_template s ≡ false

  policy_static : (b : Bool) (t s : PolicySyntax) → is_template t ≡ b → cond b None (Some t) ≡ Some s → IsStatic s
  policy_static true t s is e = cc
  policy_static false t s is e = let same : t ≡ s = cc in subst IsStatic same is

  link_static : (bindings : Bindings) (t s : PolicySyntax) (o : Option PolicySyntax) → o ≡ Some t → option_map (linked bindings) o ≡ Some s → IsStatic (linked bindings t) → IsStatic s
  link_static bindings t s o is e h = let same : linked bindings t ≡ s = cc in subst IsStatic same h

  bound_static : (id : Text) (o : Option Bound) (s : PolicySyntax) → map.get policies id ≡ o → world.in_force_as policies o ≡ Some s → IsStatic s
  bound_static id None s at e = cc
  bound_static id (Some (world.Policy t)) s at e = policy_static (is_template t) t s refl e
  bound_static id (Some (world.Link template bindings)) s at e =
      let (t, is, exact) = whole id template bindings at in
      link_static bindings t s (world.template_at policies template) is e (static bindings t exact)

  -- no policy in force has a slot that isn't linked
  pub in_force_static : (id : Text) (s : PolicySyntax) → in_force_at policies id ≡ Some s → is_template s ≡ false
  in_force_static id s e = bound_static id (map.get policies id) s refl e
