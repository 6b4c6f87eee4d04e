-- Uids of actions are found by where references are looked up.
use Rattle.std.proofs.Common.{◌≡◌, Bool, true, false, cond, ◌&&◌, ◌||◌, List, [], ◌∷◌, ◌++◌, Option, Some, None, refl, sym, ap, ◌∙◌}
use Rattle.std.specs.Prelude.{option_map, option_and_then, option_to_list}
use Rattle.std.specs.List.{find, list_any, cons_option}
use Rattle.std.specs.BTreeMap.{BTreeMap, get, is_at}
use Rattle.std.specs.Cmp.Lexicographic.{texts_ties, nat_list_eq_equiv}
use Rattle.std.proofs.lemmas.List.Folds.{list_any-append}
use Rattle.cedar_language.specs.Uid.{Text, Name, Uid}
use Rattle.cedar_language.specs.Order.{same_text, same_name, same_uid, text_cmp, name_cmp}
use Rattle.cedar_names.specs.Laws.{name_cmp_ties}
use Rattle.cedar_typing.proofs.Sameness.{text_is, uid_is}
use Rattle.cedar_schema_grammar.specs.Syntax.{ActionRef}
use Rattle.cedar_schema_grammar.specs.Declared.{Action, Declared, or_else, first_of, places, action_uid, action_at, action_named, type_of_ref}
use Rattle.cedar_schema_grammar.specs.Faults.{found_groups}
use Rattle.cedar_validator_schema.specs.ActionNames.{uid_at, HaveUids, AreUidsOf, first_referred, all_referred}
use Rattle.cedar_validator_schema.specs.Actions.{is_type_among}
use Rattle.cedar_validator_schema.specs.declared.action_names.ActionNames.{ActionNames}

pub at_is_name : (m n : Name) → is_at (name_cmp m) n ≡ same_name m n
at_is_name m n = sym (name_cmp_ties m n)

pub at_is_text : (s t : Text) → is_at (text_cmp s) t ≡ same_text s t
at_is_text s t = sym (texts_ties s t)

-- ---- one is put

and_false : (b : Bool) → (b && false) ≡ false
and_false true = refl
and_false false = refl

and_true : (b : Bool) → (b && true) ≡ b
and_true true = refl
and_true false = refl

-- a uid is put among those of its id
pub put_uid : (uid : Uid) (id : Text) (name : Name) (row types : BTreeMap Name Uid) (old mid new : ActionNames) → id ≡ uid.id → name ≡ uid.type_name
    → ((n : Name) → get name_cmp row n ≡ option_and_then (λ m. get name_cmp m n) (get text_cmp old.by_id id))
    → ((n : Name) → get name_cmp types n ≡ cond (is_at (name_cmp name) n) (Some uid) (get name_cmp row n))
    → ((s : Text) → get text_cmp mid.by_id s ≡ cond (is_at (text_cmp id) s) None (get text_cmp old.by_id s))
    → ((s : Text) → get text_cmp new.by_id s ≡ cond (is_at (text_cmp id) s) (Some types) (get text_cmp mid.by_id s))
    → (u : Uid) → uid_at new u ≡ cond (same_uid uid u) (Some uid) (uid_at old u)
put_uid uid id name row types old mid new e f was put taken back u = by (same_text id u.id) refl
  where
    same : same_uid uid u ≡ (same_name name u.type_name && same_text id u.id)
    same = ap (λ n. same_name n u.type_name && same_text uid.id u.id) (sym f) ∙ ap (λ s. same_name name u.type_name && same_text s u.id) (sym e)

    by : (b : Bool) → same_text id u.id ≡ b → uid_at new u ≡ cond (same_uid uid u) (Some uid) (uid_at old u)
    by true g =
        ap (option_and_then (λ m. get name_cmp m u.type_name))
        (back u.id ∙ ap (λ b. cond b (Some types) (get text_cmp mid.by_id u.id)) (at_is_text id u.id ∙ g))
        ∙ put u.type_name ∙ ap (λ b. cond b (Some uid) (get name_cmp row u.type_name)) (at_is_name name u.type_name)
        ∙ ap (cond (same_name name u.type_name) (Some uid))
        (was u.type_name ∙ ap (λ s. option_and_then (λ m. get name_cmp m u.type_name) (get text_cmp old.by_id s)) (text_is id u.id g))
        ∙ ap (λ b. cond b (Some uid) (uid_at old u)) (sym (same ∙ ap (λ b. same_name name u.type_name && b) g ∙ and_true (same_name name u.type_name)))
    by false g =
        ap (option_and_then (λ m. get name_cmp m u.type_name))
        (back u.id ∙ ap (λ b. cond b (Some types) (get text_cmp mid.by_id u.id)) (at_is_text id u.id ∙ g) ∙ taken u.id
        ∙ ap (λ b. cond b None (get text_cmp old.by_id u.id)) (at_is_text id u.id ∙ g))
        ∙ ap (λ b. cond b (Some uid) (uid_at old u)) (sym (same ∙ ap (λ b. same_name name u.type_name && b) g ∙ and_false (same_name name u.type_name)))

-- ---- one more

last_found : (as_ : List Action) (a : Action) (u : Uid) → option_map action_uid (find (λ x. same_uid (action_uid x) u) (as_ ++ a ∷ []))
    ≡ cond (same_uid (action_uid a) u) (Some (action_uid a)) (option_map action_uid (find (λ x. same_uid (action_uid x) u) as_))
last_found [] a u = by (same_uid (action_uid a) u)
  where
    by : (b : Bool) → option_map action_uid (cond b (Some a) None) ≡ cond b (Some (action_uid a)) None
    by true = refl
    by false = refl
last_found (x ∷ as_) a u = by (same_uid (action_uid x) u) refl (same_uid (action_uid a) u) refl (last_found as_ a u)
  where
    by : (b : Bool) → same_uid (action_uid x) u ≡ b → (c : Bool) → same_uid (action_uid a) u ≡ c
        → option_map action_uid (find (λ y. same_uid (action_uid y) u) (as_ ++ a ∷ [])) ≡ cond c (Some (action_uid a))
        (option_map action_uid (find (λ y. same_uid (action_uid y) u) as_))
        → option_map action_uid (cond b (Some x) (find (λ y. same_uid (action_uid y) u) (as_ ++ a ∷ [])))
        ≡ cond c (Some (action_uid a)) (option_map action_uid (cond b (Some x) (find (λ y. same_uid (action_uid y) u) as_)))
    by true f true g ih = ap Some (uid_is (action_uid x) u f ∙ sym (uid_is (action_uid a) u g))
    by true f false g ih = refl
    by false f c g ih = ih

pub one_uid : (as_ : List Action) (a : Action) (uid : Uid) (old new : ActionNames) → uid ≡ action_uid a → HaveUids as_ old
    → ((u : Uid) → uid_at new u ≡ cond (same_uid uid u) (Some uid) (uid_at old u)) → HaveUids (as_ ++ a ∷ []) new
one_uid as_ a uid old new is before put = λ u. put u ∙ ap (λ w. cond (same_uid w u) (Some w) (uid_at old u)) is
    ∙ ap (cond (same_uid (action_uid a) u) (Some (action_uid a))) (before u) ∙ sym (last_found as_ a u)

-- ---- where references are looked up

last_referred : (c : ActionNames) (namespace : Name) (rs : List ActionRef) (r : ActionRef)
    → all_referred c namespace (rs ++ r ∷ []) ≡ all_referred c namespace rs ++ option_to_list (first_referred c namespace r)
last_referred c namespace [] r = by (first_referred c namespace r)
  where
    by : (o : Option Uid) → cons_option o [] ≡ option_to_list o
    by (Some x) = refl
    by None = refl
last_referred c namespace (q ∷ rs) r = ap (cons_option (first_referred c namespace q)) (last_referred c namespace rs r) ∙ by (first_referred c namespace q)
  where
    by : (o : Option Uid) → cons_option o (all_referred c namespace rs ++ option_to_list (first_referred c namespace r)) ≡ cons_option o
        (all_referred c namespace rs) ++ option_to_list (first_referred c namespace r)
    by (Some x) = refl
    by None = refl

pub one_referred : (c : ActionNames) (namespace : Name) (rs : List ActionRef) (r : ActionRef) (old new : List Uid) → old ≡ all_referred c namespace rs
    → new ≡ old ++ option_to_list (first_referred c namespace r) → new ≡ all_referred c namespace (rs ++ r ∷ [])
one_referred c namespace rs r old new e f = f ∙ ap (λ xs. xs ++ option_to_list (first_referred c namespace r)) e ∙ sym (last_referred c namespace rs r)

pub first_alike : {A : Type 0} (f g : Name → Option A) → ((n : Name) → f n ≡ g n) → (ns : List Name) → first_of f ns ≡ first_of g ns
first_alike f g e [] = refl
first_alike f g e (n ∷ ns) = ap (λ o. or_else o (first_of f ns)) (e n) ∙ ap (or_else (g n)) (first_alike f g e ns)

pub groups_are : (d : Declared) (c : ActionNames) → AreUidsOf d c → (namespace : Name) (rs : List ActionRef)
    → all_referred c namespace rs ≡ found_groups d namespace rs
groups_are d c are namespace [] = refl
groups_are d c are namespace (r ∷ rs) =
    ap (λ o. cons_option o (all_referred c namespace rs))
    (first_alike (λ m. uid_at c (record { type_name = m; id = r.name })) (λ m. option_map action_uid (action_at d (record { type_name = m; id = r.name })))
    (λ m. are (record { type_name = m; id = r.name })) (places namespace (type_of_ref r)))
    ∙ ap (cons_option (action_named d namespace r)) (groups_are d c are namespace rs)

-- ---- texts and names of a set

either : (b a : Bool) → cond b true a ≡ (a || (b || false))
either true true = refl
either true false = refl
either false true = refl
either false false = refl

pub next_text : (s k : Text) (xs : List Text) (b : Bool) → b ≡ list_any (same_text s) xs
    → cond (is_at (text_cmp k) s) true b ≡ list_any (same_text s) (xs ++ k ∷ [])
next_text s k xs b e = ap (λ x. cond x true b) (at_is_text k s ∙ nat_list_eq_equiv.symm k s) ∙ ap (cond (same_text s k) true) e
    ∙ either (same_text s k) (list_any (same_text s) xs) ∙ sym (list_any-append (same_text s) xs (k ∷ []))

pub next_type : (n k : Name) (as_ : List Action) (a : Action) (b : Bool) → k ≡ (action_uid a).type_name → b ≡ is_type_among as_ n
    → cond (is_at (name_cmp k) n) true b ≡ is_type_among (as_ ++ a ∷ []) n
next_type n k as_ a b is e = ap (λ x. cond x true b) (at_is_name k n ∙ ap (λ m. same_name m n) is) ∙ ap (cond (same_name (action_uid a).type_name n) true) e
    ∙ either (same_name (action_uid a).type_name n) (is_type_among as_ n) ∙ sym (list_any-append (λ x. same_name (action_uid x).type_name n) as_ (a ∷ []))
