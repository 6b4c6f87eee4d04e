-- Edges that are added lead on, and the types of actions lead to those of their groups.
use Rattle.std.proofs.Common.{◌≡◌, Bool, true, false, cond, ◌&&◌, ◌||◌, List, [], ◌∷◌, ◌++◌, refl, sym, ap, ◌∙◌}
use Rattle.std.specs.List.{list_any}
use Rattle.std.specs.BTreeMap.{is_at}
use Rattle.std.proofs.lemmas.List.Folds.{list_any-append}
use Rattle.cedar_language.specs.Uid.{Name, Uid}
use Rattle.cedar_language.specs.Order.{same_name, name_cmp}
use Rattle.cedar_language.proofs.Booleans.{or_false}
use Rattle.cedar_names.specs.Laws.{same_name_equiv}
use Rattle.cedar_typing.proofs.Sameness.{name_is}
use Rattle.cedar_schema_grammar.specs.Declared.{Action, action_uid}
use Rattle.cedar_validator_schema.specs.Hierarchies.{targets_at, leads}
use Rattle.cedar_validator_schema.specs.Actions.{types_lead}
use Rattle.cedar_validator_schema.specs.declared.hierarchies.Hierarchy.{Hierarchy}
use Rattle.cedar_validator_schema.proofs.Naming.{at_is_name}

apart : (a b c : Bool) → ((a || b) || c) ≡ (a || (b || c))
apart true b c = refl
apart false b c = refl

both_or : (a b c : Bool) → ((a && b) || (a && c)) ≡ (a && (b || c))
both_or true b c = refl
both_or false b c = refl

-- ---- one edge more

pub one_edge : (from to : Name) (old new : Hierarchy Name)
    → ((x : Name) → targets_at name_cmp new x ≡ cond (is_at (name_cmp from) x) (targets_at name_cmp old from ++ to ∷ [])
    (targets_at name_cmp old x)) → (n m : Name)
    → leads same_name name_cmp new n m ≡ (leads same_name name_cmp old n m || (same_name from n && same_name to m))
one_edge from to old new put n m = ap (list_any (same_name m)) (put n
    ∙ ap (λ b. cond b (targets_at name_cmp old from ++ to ∷ []) (targets_at name_cmp old n)) (at_is_name from n))
    ∙ by (same_name from n) refl
  where
    by : (b : Bool) → same_name from n ≡ b → list_any (same_name m) (cond b (targets_at name_cmp old from ++ to ∷ []) (targets_at name_cmp old n))
        ≡ (list_any (same_name m) (targets_at name_cmp old n) || (b && same_name to m))
    by true e = list_any-append (same_name m) (targets_at name_cmp old from) (to ∷ [])
        ∙ ap (λ x. list_any (same_name m) (targets_at name_cmp old x) || (same_name m to || false)) (name_is from n e)
        ∙ ap (λ x. list_any (same_name m) (targets_at name_cmp old n) || x) (or_false (same_name m to) ∙ same_name_equiv.symm m to)
    by false e = sym (or_false (list_any (same_name m) (targets_at name_cmp old n)))

-- ---- to one group more

pub next_group : (from : Name) (n m : Name) (a b c : Bool) (groups : List Uid) (w : Uid)
    → b ≡ (a || (same_name from n && list_any (λ x. same_name x.type_name m) groups))
    → c ≡ (b || (same_name from n && same_name w.type_name m)) → c ≡ (a || (same_name from n && list_any (λ x. same_name x.type_name m) (groups ++ w ∷ [])))
next_group from n m a b c groups w e f =
    let any = list_any (λ (x : Uid). same_name x.type_name m) in
    f ∙ ap (λ x. x || (same_name from n && same_name w.type_name m)) e ∙ apart a (same_name from n && any groups) (same_name from n && same_name w.type_name m)
    ∙ ap (λ x. a || x) (both_or (same_name from n) (any groups) (same_name w.type_name m)
    ∙ ap (λ x. same_name from n && x) (ap (λ x. any groups || x) (sym (or_false (same_name w.type_name m)))
    ∙ sym (list_any-append (λ (x : Uid). same_name x.type_name m) groups (w ∷ []))))

-- ---- from the type of one action more

pub next_action : (groups : Uid → List Uid) (n m : Name) (a b c : Bool) (as_ : List Action) (x : Action) → b ≡ (a || types_lead groups as_ n m)
    → c ≡ (b || (same_name (action_uid x).type_name n && list_any (λ w. same_name w.type_name m) (groups (action_uid x))))
    → c ≡ (a || types_lead groups (as_ ++ x ∷ []) n m)
next_action groups n m a b c as_ x e f =
    let test = λ (y : Action). same_name (action_uid y).type_name n && list_any (λ w. same_name w.type_name m) (groups (action_uid y)) in
    f ∙ ap (λ y. y || test x) e ∙ apart a (types_lead groups as_ n m) (test x)
    ∙ ap (λ y. a || y) (ap (λ y. types_lead groups as_ n m || y) (sym (or_false (test x))) ∙ sym (list_any-append test as_ (x ∷ [])))
