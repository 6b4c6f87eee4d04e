-- No step leaves a link without its template.
use Rattle.std.proofs.Common.{◌≡◌, ◌⊎◌, inl, inr, ℕ, suc, Bool, true, false, not, if◌then◌else◌, Option, Some, None, is_some, List, ◌∷◌, refl, sym, ◌∙◌, ap, subst, true≢false}
use Rattle.std.specs.FinMap as map
use Rattle.cedar_language.specs.Uid as uid
use Rattle.cedar_language.specs.Tree.{Tree}
use Rattle.cedar_grammar.specs.Bindings.{Bindings, binds_exactly}
use Rattle.cedar_grammar.specs.Syntax.{PolicySyntax, is_template}
use Rattle.cedar_world.specs.World.{World, Policies, Bound, Policy, Link as LinkOf, template_of, template_at}
use Rattle.cedar_world.specs.PolicyEdits.{HasRoom, Names, joined, Loads}
use Rattle.cedar_world.specs.Bodies.{LinkBody, link_body, string_of}
use Rattle.cedar_world.specs.Setting.{Setting, IsBody}
use Rattle.cedar_world.specs.Commands.{Load, Link, Unlink, RemoveStatic, RemoveTemplate, Refusal, Text, Depth, NotRestricted, Shape, NoSuchTemplate, NotTemplate, Arity, IdConflict, NotLink, NoSuchPolicy, HasLinks, NotStatic, Done, Named}
use Rattle.cedar_world.specs.Refusals.{is_link, is_static, LinkCases, Stands}
use Rattle.cedar_world.specs.LinkLaws.{LinksAreWhole, LinksStayWhole}
use Rattle.cedar_world.proofs.Parts.{not_none, same_some}
use Rattle.cedar_world.proofs.Maps.{same_or_not, put_there, put_elsewhere, gone_there, gone_elsewhere}
use Rattle.cedar_world.proofs.Standing.{none_stands}
use Rattle.cedar_world.proofs.Steps.{edits_policies}

linked_policy : Bound → Bool
linked_policy (Policy s) = false
linked_policy (LinkOf template b) = true

policy_or_link : (s : PolicySyntax) (template : uid.Text) (b : Bindings) → Some (Policy s) ≡ Some (LinkOf template b) → ⊥
unfolding linked_policy
policy_or_link s template b e = true≢false (sym (ap linked_policy (same_some (Policy s) (LinkOf template b) e)))

-- a template that is bound stays the same where its id stays bound to it
template_stays : (old new : Policies) (template : uid.Text) (s : PolicySyntax) → template_at old template ≡ Some s
    → ((x : Bound) → map.get old template ≡ Some x → map.get new template ≡ Some x) → template_at new template ≡ Some s
template_stays old new template s e keeps = by_bound (map.get old template) refl
  where
    by_bound : (o : Option Bound) → map.get old template ≡ o → template_at new template ≡ Some s
    by_bound None is = absurd (not_none s (sym (ap template_of is) ∙ e))
    by_bound (Some x) is = ap template_of (keeps x is) ∙ sym (ap template_of is) ∙ e

-- ---- loading

-- what was bound stays, and no link is new
record Grows (old new : Policies) : Type 0 where
  keeps : (id : uid.Text) (x : Bound) → map.get old id ≡ Some x → map.get new id ≡ Some x
  links : (id template : uid.Text) (b : Bindings) → map.get new id ≡ Some (LinkOf template b) → map.get old id ≡ Some (LinkOf template b)

grown_whole : (old new : Policies) → Grows old new → LinksAreWhole old → LinksAreWhole new
grown_whole old new grows whole id template b is =
    let before = whole id template b (grows.links id template b is) in
    (before.0, template_stays old new template before.0 before.1 (grows.keeps template), before.2)

module _ (old m : Policies) (grows : Grows old m) (id : uid.Text) (s : PolicySyntax) (room : HasRoom old id s) where
  grows_more : Grows old (map.insert m id (Policy s))
  grows_more = record { keeps = keeps; links = links }
    where
      same : (x : Bound) → HasRoom old id s → map.get old id ≡ Some x → Policy s ≡ x
      same x (inl none) e = absurd (not_none x (sym none ∙ e))
      same x (inr there) e = same_some _ _ (sym there ∙ e)

      keeps : (q : uid.Text) (x : Bound) → map.get old q ≡ Some x → map.get (map.insert m id (Policy s)) q ≡ Some x
      keeps q x e = here (same_or_not q id)
        where
          here : (q ≡ id) ⊎ (q ≡ id → ⊥) → map.get (map.insert m id (Policy s)) q ≡ Some x
          here (inl at) = ap (map.get (map.insert m id (Policy s))) at ∙ put_there m id (Policy s) ∙ ap (λ y. Some y) (same x room (sym (ap (map.get old) at) ∙ e))
          here (inr other) = put_elsewhere m id (Policy s) q other ∙ grows.keeps q x e

      links : (q template : uid.Text) (b : Bindings) → map.get (map.insert m id (Policy s)) q ≡ Some (LinkOf template b) → map.get old q ≡ Some (LinkOf template b)
      links q template b e = here (same_or_not q id)
        where
          here : (q ≡ id) ⊎ (q ≡ id → ⊥) → map.get old q ≡ Some (LinkOf template b)
          here (inl at) = absurd (policy_or_link s template b (sym (put_there m id (Policy s)) ∙ sym (ap (map.get (map.insert m id (Policy s))) at) ∙ e))
          here (inr other) = grows.links q template b (sym (put_elsewhere m id (Policy s) q other) ∙ e)

loads_grow : (old m : Policies) (count i from : ℕ) (ss : List PolicySyntax) (ids : List uid.Text) → Grows old m → Names old count i from ss ids → Grows old (joined m ss ids)
loads_grow old m count i from (s ∷ ss) (id ∷ ids) grows (inl names) =
    loads_grow old (map.insert m id (Policy s)) count (suc i) from ss ids (grows_more old m grows id s (subst (λ x. HasRoom old x s) (sym names.1) names.0)) names.2
loads_grow old m count i from (s ∷ ss) (id ∷ ids) grows (inr names) =
    loads_grow old (map.insert m id (Policy s)) count (suc i) (suc names.0) ss ids (grows_more old m grows id s (subst (λ x. HasRoom old x s) (sym names.3) (inl names.2.free.0))) names.4
loads_grow old m count i from _ _ grows names = grows

loaded_whole : (old new : Policies) (ss : List PolicySyntax) (ids : List uid.Text) → Loads old ss ids new → LinksAreWhole old → LinksAreWhole new
loaded_whole old new ss ids loads whole =
    let itself : Grows old old = record { keeps = λ id x e. e; links = λ id template b e. e } in
    grown_whole old new (subst (Grows old) (sym loads.policies) (loads_grow old old _ 0 0 ss ids itself loads.names)) whole

-- ---- a link more

the_template : (policies : Policies) (template : uid.Text) → (map.get policies template ≡ None → ⊥) → (((is_some (map.get policies template)) ≡ true) × (template_at policies template ≡ None) → ⊥)
    → (s : PolicySyntax) × (template_at policies template ≡ Some s)
the_template policies template bound template_is = by_bound (map.get policies template) refl (template_at policies template) refl
  where
    by_bound : (o : Option Bound) → map.get policies template ≡ o → (t : Option PolicySyntax) → template_at policies template ≡ t → (s : PolicySyntax) × (template_at policies template ≡ Some s)
    by_bound None is t e = absurd (bound is)
    by_bound (Some x) is None e = absurd (template_is (ap is_some is, e))
    by_bound (Some x) is (Some s) e = (s, e)

exact_or_not : (b : Bindings) (s : PolicySyntax) → (binds_exactly b s ≡ false → ⊥) → (x : Bool) → binds_exactly b s ≡ x → x ≡ true
exact_or_not b s not true e = refl
exact_or_not b s not false e = absurd (not e)

free_or_not : (policies : Policies) (id : uid.Text) → (is_some (map.get policies id) ≡ true → ⊥) → (o : Option Bound) → map.get policies id ≡ o → o ≡ None
free_or_not policies id free None e = refl
free_or_not policies id free (Some x) e = absurd (free (ap is_some e))

module _ (old : Policies) (b : LinkBody) (none : (r : Refusal) → LinkCases old b r → ⊥) (whole : LinksAreWhole old) where
  free : map.get old b.id ≡ None
  free = free_or_not old b.id (none IdConflict) (map.get old b.id) refl

  -- what was bound has another id
  stays : (q : uid.Text) (x : Bound) → map.get old q ≡ Some x → map.get (map.insert old b.id (LinkOf b.template b.bindings)) q ≡ Some x
  stays q x e = put_elsewhere old b.id (LinkOf b.template b.bindings) q (λ at. not_none x (sym free ∙ sym (ap (map.get old) at) ∙ e)) ∙ e

  new_link : (s : PolicySyntax) × (template_at (map.insert old b.id (LinkOf b.template b.bindings)) b.template ≡ Some s) × (binds_exactly b.bindings s ≡ true)
  new_link =
      let found = the_template old b.template (none NoSuchTemplate) (none NotTemplate) in
      let exact = exact_or_not b.bindings found.0 (λ e. none Arity (found.0, found.1, e)) (binds_exactly b.bindings found.0) refl in
      (found.0, template_stays old (map.insert old b.id (LinkOf b.template b.bindings)) b.template found.0 found.1 (stays b.template), exact)

  linked_whole : LinksAreWhole (map.insert old b.id (LinkOf b.template b.bindings))
  linked_whole id template bindings is = here (same_or_not id b.id)
    where
      here : (id ≡ b.id) ⊎ (id ≡ b.id → ⊥) → (s : PolicySyntax) × (template_at (map.insert old b.id (LinkOf b.template b.bindings)) template ≡ Some s) × (binds_exactly bindings s ≡ true)
      here (inl at) =
          let same : LinkOf b.template b.bindings ≡ LinkOf template bindings =
          same_some _ _ (sym (put_there old b.id (LinkOf b.template b.bindings)) ∙ sym (ap (map.get (map.insert old b.id (LinkOf b.template b.bindings))) at) ∙ is) in
          as_new (LinkOf template bindings) same template bindings refl
        where
          as_new : (x : Bound) → LinkOf b.template b.bindings ≡ x → (t : uid.Text) (bs : Bindings) → x ≡ LinkOf t bs → (s : PolicySyntax) × (template_at (map.insert old b.id (LinkOf b.template b.bindings)) t ≡ Some s) × (binds_exactly bs s ≡ true)
          as_new x e t bs f =
              let both : LinkOf b.template b.bindings ≡ LinkOf t bs = e ∙ f in
              (new_link.0, subst (λ y. template_at (map.insert old b.id (LinkOf b.template b.bindings)) y ≡ Some new_link.0) (cc both) new_link.1, subst (λ y. binds_exactly y new_link.0 ≡ true) (cc both) new_link.2)
      here (inr other) =
          let before = whole id template bindings (sym (put_elsewhere old b.id (LinkOf b.template b.bindings) id other) ∙ is) in
          (before.0, template_stays old (map.insert old b.id (LinkOf b.template b.bindings)) template before.0 before.1 (stays template), before.2)

-- ---- a policy less

-- what goes is no template of a link
removed_whole : (old : Policies) (gone : uid.Text) → ((id : uid.Text) (b : Bindings) → map.get old id ≡ Some (LinkOf gone b) → (id ≡ gone → ⊥) → ⊥) → LinksAreWhole old → LinksAreWhole (map.remove old gone)
removed_whole old gone unused whole id template b is = here (same_or_not id gone)
  where
    here : (id ≡ gone) ⊎ (id ≡ gone → ⊥) → (s : PolicySyntax) × (template_at (map.remove old gone) template ≡ Some s) × (binds_exactly b s ≡ true)
    here (inl at) = absurd (not_none _ (sym (gone_there old gone) ∙ sym (ap (map.get (map.remove old gone)) at) ∙ is))
    here (inr other) =
        let was : map.get old id ≡ Some (LinkOf template b) = sym (gone_elsewhere old gone id other) ∙ is in
        let before = whole id template b was in
        let kept : template ≡ gone → ⊥ = λ at. unused id b (was ∙ ap (λ t. Some (LinkOf t b)) at) other in
        (before.0, template_stays old (map.remove old gone) template before.0 before.1 (λ x e. gone_elsewhere old gone template kept ∙ e), before.2)

-- the template of a link is a policy, and has slots
template_is_policy : (policies : Policies) (id : uid.Text) (s : PolicySyntax) → template_at policies id ≡ Some s → (x : Bound) → map.get policies id ≡ Some x → (is_link x ≡ false) × (is_static x ≡ false)
template_is_policy policies id s e (Policy t) is = (refl, by_slots (is_template t) refl)
  where
    by_slots : (b : Bool) → is_template t ≡ b → not b ≡ false
    by_slots true has = refl
    by_slots false has = absurd (not_none s (sym (ap template_of is ∙ ap (λ b. if b then Some t else None) has) ∙ e))
template_is_policy policies id s e (LinkOf template b) is = absurd (not_none s (sym (ap template_of is) ∙ e))

used_is_template : (policies : Policies) (gone id : uid.Text) (b : Bindings) → LinksAreWhole policies → map.get policies id ≡ Some (LinkOf gone b) → (x : Bound) → map.get policies gone ≡ Some x → (is_link x ≡ false) × (is_static x ≡ false)
used_is_template policies gone id b whole is x e = let there = whole id gone b is in template_is_policy policies gone there.0 there.1 x e

-- ---- commands

bound_or_not : (policies : Policies) (id : uid.Text) → (map.get policies id ≡ None → ⊥) → (o : Option Bound) → map.get policies id ≡ o → (x : Bound) × (map.get policies id ≡ Some x)
bound_or_not policies id bound None e = absurd (bound e)
bound_or_not policies id bound (Some x) e = (x, e)

module _ (by : Setting) (old : World) (text : uid.Text) (tree : Tree) (reads : IsBody by text tree) where
  link_cases_none : (b : LinkBody) → link_body tree ≡ Some b → ((r : Refusal) → Stands by old text Link r → ⊥) → (r : Refusal) → LinkCases old.policies b r → ⊥
  link_cases_none b is none Text h = h
  link_cases_none b is none Depth h = h
  link_cases_none b is none NotRestricted h = h
  link_cases_none b is none Shape h = h
  link_cases_none b is none r h = none r (tree, b, reads, is, h)

  -- what one may take away is no template of a link
  unlink_unused : (id : uid.Text) → string_of tree ≡ Some id → ((r : Refusal) → Stands by old text Unlink r → ⊥) → LinksAreWhole old.policies
      → (other : uid.Text) (b : Bindings) → map.get old.policies other ≡ Some (LinkOf id b) → ⊥
  unlink_unused id is none whole other b e =
      let x = bound_or_not old.policies id (λ free. none NoSuchPolicy (tree, id, reads, is, free)) (map.get old.policies id) refl in
      none NotLink (tree, id, reads, is, (x.0, x.1, (used_is_template old.policies id other b whole e x.0 x.1).0))

  static_unused : (id : uid.Text) → string_of tree ≡ Some id → ((r : Refusal) → Stands by old text RemoveStatic r → ⊥) → LinksAreWhole old.policies
      → (other : uid.Text) (b : Bindings) → map.get old.policies other ≡ Some (LinkOf id b) → ⊥
  static_unused id is none whole other b e =
      let x = bound_or_not old.policies id (λ free. none NoSuchPolicy (tree, id, reads, is, free)) (map.get old.policies id) refl in
      none NotStatic (tree, id, reads, is, (x.0, x.1, (used_is_template old.policies id other b whole e x.0 x.1).1))

same_whole : (old new : Policies) → new ≡ old → LinksAreWhole old → LinksAreWhole new
same_whole old new e whole = subst LinksAreWhole (sym e) whole

pub links_stay_whole : LinksStayWhole
links_stay_whole by old new Load text (Named ids) step whole = loaded_whole old.policies new.policies step.1.0 ids step.1.2.0 whole
links_stay_whole by old new Link text Done step whole =
    let none = link_cases_none by old text step.1.0 step.1.2 step.1.1 step.1.3 (none_stands by old text Link (λ r h. step.0 r h)) in
    same_whole _ _ step.1.4.0 (linked_whole old.policies step.1.1 none whole)
links_stay_whole by old new Unlink text Done step whole =
    let unused = unlink_unused by old text step.1.0 step.1.2 step.1.1 step.1.3 (none_stands by old text Unlink (λ r h. step.0 r h)) whole in
    same_whole _ _ step.1.4.0 (removed_whole old.policies step.1.1 (λ id b e other. unused id b e) whole)
links_stay_whole by old new RemoveStatic text Done step whole =
    let unused = static_unused by old text step.1.0 step.1.2 step.1.1 step.1.3 (none_stands by old text RemoveStatic (λ r h. step.0 r h)) whole in
    same_whole _ _ step.1.4.0 (removed_whole old.policies step.1.1 (λ id b e other. unused id b e) whole)
links_stay_whole by old new RemoveTemplate text Done step whole =
    let none = none_stands by old text RemoveTemplate (λ r h. step.0 r h) in
    same_whole _ _ step.1.4.0 (removed_whole old.policies step.1.1 (λ id b e other. none HasLinks (step.1.0, step.1.1, step.1.2, step.1.3, (id, b, e))) whole)
links_stay_whole by old new verb text reply step whole = same_whole _ _ (edits_policies by old new verb text reply step) whole
