-- Numbers that are put by names are those of what is declared.
use Rattle.std.proofs.Common.{◌≡◌, ◌⊎◌, inl, inr, ℕ, suc, ◌+◌, ◌-◌, ◌<◌, ◌≤◌, Bool, true, false, cond, List, [], ◌∷◌, length, drop, get_or, Option, Some, None, refl, sym, ap, ◌∙◌, subst, arith}
use Rattle.std.proofs.Math.Nat.{add-zero}
use Rattle.std.specs.Prelude.{map, option_map}
use Rattle.std.specs.List.{find, slice_get}
use Rattle.std.specs.BTreeMap.{is_at}
use Rattle.std.proofs.lemmas.List.{drop_more, drop_all}
use Rattle.cedar_language.specs.Uid.{Name}
use Rattle.cedar_language.specs.Order.{same_name, name_cmp}
use Rattle.cedar_names.specs.Laws.{name_cmp_ties}
use Rattle.cedar_typing.proofs.Sameness.{name_is}
use Rattle.cedar_typing.specs.Types.{Entities}
use Rattle.cedar_schema_grammar.specs.Declared.{EntityType, CommonType, Declared, to_common, to_type, or_else, entity_name, type_name, entity_at, type_at}
use Rattle.cedar_schema_resolution.specs.Declarations.{entity_view, type_view}
use Rattle.cedar_schema_resolution.specs.Numbers.{number_at, number_from, number_of, number_for, AreNumbersOf, HasNone, AreNumbered}
use Rattle.cedar_schema_resolution.specs.declared.declarations.DeclaredEntity.{DeclaredEntity}
use Rattle.cedar_schema_resolution.specs.declared.declarations.DeclaredType.{DeclaredType}
use Rattle.cedar_schema_resolution.specs.declared.numbers.CommonNumbers.{CommonNumbers}

pub at_is_same : (m n : Name) → is_at (name_cmp m) n ≡ same_name m n
at_is_same m n = sym (name_cmp_ties m n)

-- ---- one is put

none_or : (b : Bool) (e : EntityType) (r : Option (Option ℕ)) → cond b (Some None) r ≡ or_else (option_map (λ x. None) (cond b (Some e) None)) r
none_or true e r = refl
none_or false e r = refl

pub none_put : (e : EntityType) (name : Name) (old new : CommonNumbers) → name ≡ entity_name e
    → ((n : Name) → number_at new n ≡ cond (is_at (name_cmp name) n) (Some None) (number_at old n)) → HasNone (e ∷ []) old new
none_put e name old new is put n =
    put n ∙ ap (λ b. cond b (Some None) (number_at old n)) (at_is_same name n ∙ ap (λ m. same_name m n) is)
    ∙ none_or (same_name (entity_name e) n) e (number_at old n)

number_or : (b : Bool) (i : ℕ) (r : Option (Option ℕ)) → cond b (Some (Some i)) r ≡ or_else (option_map Some (cond b (Some i) None)) r
number_or true i r = refl
number_or false i r = refl

pub number_put : (t : CommonType) (i : ℕ) (name : Name) (old new : CommonNumbers) → name ≡ type_name t
    → ((n : Name) → number_at new n ≡ cond (is_at (name_cmp name) n) (Some (Some i)) (number_at old n)) → AreNumbered i (t ∷ []) old new
number_put t i name old new is put n =
    put n ∙ ap (λ b. cond b (Some (Some i)) (number_at old n)) (at_is_same name n ∙ ap (λ m. same_name m n) is)
    ∙ number_or (same_name (type_name t) n) i (number_at old n)

-- ---- one before others

none_first : (b : Bool) (e : EntityType) (o : Option EntityType) (r : Option (Option ℕ))
    → or_else (option_map (λ x. None) (cond b (Some e) None)) (or_else (option_map (λ x. None) o) r) ≡ or_else (option_map (λ x. None) (cond b (Some e) o)) r
none_first true e o r = refl
none_first false e o r = refl

none_before : (e : EntityType) (es : List EntityType) (old mid new : CommonNumbers) → HasNone es old mid → HasNone (e ∷ []) mid new → HasNone (e ∷ es) old new
none_before e es old mid new f g n =
    g n ∙ ap (or_else (option_map (λ x. None) (find (λ x. same_name (entity_name x) n) (e ∷ [])))) (f n)
    ∙ none_first (same_name (entity_name e) n) e (find (λ x. same_name (entity_name x) n) es) (number_at old n)

pub none_lower : (es : List DeclaredEntity) (k : ℕ) (e : DeclaredEntity) (old mid new : CommonNumbers) → 0 < k → k ≤ length es → e ≡ get_or es (k - 1) e
    → HasNone (map entity_view (drop k es)) old mid → HasNone (entity_view e ∷ []) mid new → HasNone (map entity_view (drop (k - 1) es)) old new
none_lower es k e old mid new low high here f g =
    let up : k - 1 + 1 ≡ k = omega arith in
    let cut : drop (k - 1) es ≡ e ∷ drop k es = drop_more es (k - 1) e (omega arith) ∙ ap (λ x. x ∷ drop (k - 1 + 1) es) (sym here)
    ∙ ap (λ j. e ∷ drop j es) up in
    subst (λ xs. HasNone (map entity_view xs) old new) (sym cut) (none_before (entity_view e) (map entity_view (drop k es)) old mid new f g)

number_first : (b : Bool) (i : ℕ) (o : Option ℕ) (r : Option (Option ℕ))
    → or_else (option_map Some (cond b (Some i) None)) (or_else (option_map Some o) r) ≡ or_else (option_map Some (cond b (Some i) o)) r
number_first true i o r = refl
number_first false i o r = refl

number_before : (t : CommonType) (ts : List CommonType) (i : ℕ) (old mid new : CommonNumbers) → AreNumbered (i + 1) ts old mid
    → AreNumbered i (t ∷ []) mid new → AreNumbered i (t ∷ ts) old new
number_before t ts i old mid new f g n =
    g n ∙ ap (or_else (option_map Some (number_from i (t ∷ []) n))) (f n)
    ∙ number_first (same_name (type_name t) n) i (number_from (i + 1) ts n) (number_at old n)

pub number_lower : (ts : List DeclaredType) (k : ℕ) (t : DeclaredType) (old mid new : CommonNumbers) → 0 < k → k ≤ length ts → t ≡ get_or ts (k - 1) t
    → AreNumbered k (map type_view (drop k ts)) old mid → AreNumbered (k - 1) (type_view t ∷ []) mid new
    → AreNumbered (k - 1) (map type_view (drop (k - 1) ts)) old new
number_lower ts k t old mid new low high here f g =
    let up : k - 1 + 1 ≡ k = omega arith in
    let cut : drop (k - 1) ts ≡ t ∷ drop k ts = drop_more ts (k - 1) t (omega arith) ∙ ap (λ x. x ∷ drop (k - 1 + 1) ts) (sym here)
    ∙ ap (λ j. t ∷ drop j ts) up in
    subst (λ xs. AreNumbered (k - 1) (map type_view xs) old new) (sym cut)
    (number_before (type_view t) (map type_view (drop k ts)) (k - 1) old mid new (subst (λ j. AreNumbered j (map type_view (drop k ts)) old mid) (sym up) f) g)

pub none_at_first : (es : List DeclaredEntity) (i : ℕ) (c : CommonNumbers) → length es ≤ i → HasNone (map entity_view (drop i es)) c c
none_at_first es i c h = subst (λ xs. HasNone (map entity_view xs) c c) (sym (drop_all i es h)) (λ n. refl)

pub number_at_first : (ts : List DeclaredType) (i : ℕ) (c : CommonNumbers) → length ts ≤ i → AreNumbered i (map type_view (drop i ts)) c c
number_at_first ts i c h = subst (λ xs. AreNumbered i (map type_view xs) c c) (sym (drop_all i ts h)) (λ n. refl)

-- ---- a common type that is found by its name, and its number

pub record IsNumbered (i : ℕ) (ts : List CommonType) (n : Name) (t : CommonType) (j : ℕ) : Type 0 where
  pub found : find (λ u. same_name (type_name u) n) ts ≡ Some t
  pub number : number_from i ts n ≡ Some (i + j)
  pub at : slice_get ts j ≡ Some t
  pub is : type_name t ≡ n

abbrev pub MayBeNumbered : ℕ → List CommonType → Name → Type 0
MayBeNumbered i ts n = ((find (λ u. same_name (type_name u) n) ts ≡ None) × (number_from i ts n ≡ None)) ⊎ ((t : CommonType) × (j : ℕ) × IsNumbered i ts n t j)

pub numbered : (i : ℕ) (ts : List CommonType) (n : Name) → MayBeNumbered i ts n
numbered i [] n = inl (refl, refl)
numbered i (t ∷ ts) n = by (same_name (type_name t) n) refl (numbered (i + 1) ts n)
  where
    by : (b : Bool) → same_name (type_name t) n ≡ b → MayBeNumbered (i + 1) ts n → MayBeNumbered i (t ∷ ts) n
    by true e r = inr (
      t,
      0,
      record {
        found = ap (λ b. cond b (Some t) (find (λ u. same_name (type_name u) n) ts)) e;
        number = ap (λ b. cond b (Some i) (number_from (i + 1) ts n)) e ∙ ap Some (sym (add-zero i));
        at = refl;
        is = name_is (type_name t) n e;
      },
    )
    by false e (inl r) = inl (
      ap (λ b. cond b (Some t) (find (λ u. same_name (type_name u) n) ts)) e ∙ r.0,
      ap (λ b. cond b (Some i) (number_from (i + 1) ts n)) e ∙ r.1,
    )
    by false e (inr r) =
        let more : i + 1 + r.1 ≡ i + suc r.1 = omega arith in
        inr (
          r.0,
          suc r.1,
          record {
            found = ap (λ b. cond b (Some t) (find (λ u. same_name (type_name u) n) ts)) e ∙ r.2.found;
            number = ap (λ b. cond b (Some i) (number_from (i + 1) ts n)) e ∙ r.2.number ∙ ap Some more;
            at = r.2.at;
            is = r.2.is;
          },
        )

-- ---- what stands at a name

numbers_are : (d : Declared) (n : Name) (o : Option EntityType) → MayBeNumbered 0 d.types n
    → or_else (option_map Some (number_of d n)) (or_else (option_map (λ e. None) o) None)
    ≡ option_map (number_for d) (or_else (option_map to_common (type_at d n)) (option_map (λ e. to_type (Entities (entity_name e))) o))
numbers_are d n o (inl r) =
    ap (λ x. or_else (option_map Some x) (or_else (option_map (λ e. None) o) None)) r.1 ∙ alone o
    ∙ sym (ap (λ x. option_map (number_for d) (or_else (option_map to_common x) (option_map (λ e. to_type (Entities (entity_name e))) o))) r.0)
  where
    alone : (p : Option EntityType) → or_else (option_map (λ e. None) p) None ≡ option_map (number_for d)
        (option_map (λ e. to_type (Entities (entity_name e))) p)
    alone (Some e) = refl
    alone None = refl
numbers_are d n o (inr r) =
    ap (λ x. or_else (option_map Some x) (or_else (option_map (λ e. None) o) None)) r.2.number
    ∙ ap Some (sym (r.2.number) ∙ ap (number_of d) (sym r.2.is))
    ∙ sym (ap (λ x. option_map (number_for d) (or_else (option_map to_common x) (option_map (λ e. to_type (Entities (entity_name e))) o))) r.2.found)

pub numbers_are_of : (d : Declared) (empty mid new : CommonNumbers) → ((n : Name) → number_at empty n ≡ None) → HasNone d.entities empty mid
    → AreNumbered 0 d.types mid new → AreNumbersOf d new
numbers_are_of d empty mid new nothing none more n =
    more n ∙ ap (or_else (option_map Some (number_of d n))) (none n ∙ ap (or_else (option_map (λ e. None) (entity_at d n))) (nothing n))
    ∙ numbers_are d n (entity_at d n) (numbered 0 d.types n)
