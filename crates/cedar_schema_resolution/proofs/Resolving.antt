-- One common type more is resolved.
use Rattle.std.proofs.Common.{◌≡◌, ℕ, Bool, true, false, cond, List, [], ◌∷◌, ◌++◌, length, take, get_or, slice_index, ◌+◌, ◌<◌, Option, Some, None, nat_eq, refl, sym, ap, ◌∙◌, subst, zero-add, inl, inr}
use Rattle.std.specs.Prelude.{map, option_map}
use Rattle.std.specs.List.{slice_get}
use Rattle.std.specs.BTreeMap.{is_at}
use Rattle.std.proofs.lemmas.Bool.{eqb-true, eq-eqb}
use Rattle.std.proofs.lemmas.List.{take_more}
use Rattle.std.proofs.lemmas.Option.{slice_get_read, slice_get-map}
use Rattle.cedar_language.specs.Uid.{Name}
use Rattle.cedar_language.specs.Order.{same_name, name_cmp}
use Rattle.cedar_typing.specs.Types.{CedarType, Entities}
use Rattle.cedar_typing.proofs.Sameness.{name_is, name_same}
use Rattle.cedar_schema_grammar.specs.Declared.{Library, EntityType, CommonType, Declared, to_common, to_type, or_else, entity_name, type_name, entity_at, type_at, declared_as}
use Rattle.cedar_schema_grammar.specs.Written.{written}
use Rattle.cedar_schema.specs.Tables.{entry_at, built_in_at, type_for, IsTableOf}
use Rattle.cedar_schema.specs.declared.tables.TypeTable.{TypeTable}
use Rattle.cedar_schema_resolution.specs.Declarations.{type_view}
use Rattle.cedar_schema_resolution.specs.Numbers.{number_at, number_of, number_for, AreNumbersOf}
use Rattle.cedar_schema_resolution.specs.Resolved.{is_number, with_type, with_types, AreResolved}
use Rattle.cedar_schema_resolution.specs.declared.declarations.DeclaredType.{DeclaredType}
use Rattle.cedar_schema_resolution.specs.declared.numbers.CommonNumbers.{CommonNumbers}
use Rattle.cedar_schema_resolution.proofs.Numbering.{IsNumbered, MayBeNumbered, numbered, at_is_same}

-- ---- numbers

pub not_number : (o : Option ℕ) (i : ℕ) → (o ≡ Some i → ⊥) → is_number o i ≡ false
not_number None i f = refl
not_number (Some j) i f = by (nat_eq j i) refl
  where
    by : (b : Bool) → nat_eq j i ≡ b → b ≡ false
    by true e = absurd (f (ap Some (eqb-true j i e)))
    by false e = refl

pub its_number : (o : Option ℕ) (i : ℕ) → o ≡ Some i → is_number o i ≡ true
its_number o i e = ap (λ p. is_number p i) e ∙ eq-eqb i i refl

module _ (d : Declared) where
  -- a common type that is found by its name, with its number
  pub record IsCommon (n : Name) (t : CommonType) (j : ℕ) : Type 0 where
    pub found : type_at d n ≡ Some t
    pub number : number_of d n ≡ Some j
    pub at : slice_get d.types j ≡ Some t
    pub is : type_name t ≡ n

  pub of_numbered : (n : Name) (t : CommonType) (j : ℕ) → IsNumbered 0 d.types n t j → IsCommon n t j
  of_numbered n t j r = record { found = r.found; number = r.number ∙ ap Some (zero-add j); at = r.at; is = r.is }

  pub common_at : (n : Name) (t : CommonType) → type_at d n ≡ Some t → (j : ℕ) × IsCommon n t j
  common_at n t e = by (numbered 0 d.types n)
    where
      by : MayBeNumbered 0 d.types n → (j : ℕ) × IsCommon n t j
      by (inl r) = absurd (cc (sym e ∙ r.0))
      by (inr r) = let same : r.0 ≡ t = cc (sym r.2.found ∙ e) in (r.1, subst (λ u. IsCommon n u r.1) same (of_numbered n r.0 r.1 r.2))

  pub common_of : (n : Name) (j : ℕ) → number_of d n ≡ Some j → (t : CommonType) × IsCommon n t j
  common_of n j e = by (numbered 0 d.types n)
    where
      by : MayBeNumbered 0 d.types n → (t : CommonType) × IsCommon n t j
      by (inl r) = absurd (cc (sym e ∙ r.1))
      by (inr r) =
          let q = of_numbered n r.0 r.1 r.2 in
          let same : r.1 ≡ j = cc (sym q.number ∙ e) in (r.0, subst (λ k. IsCommon n r.0 k) same q)

  -- ---- what the table says hangs on the common types that are found alone

  other : (c e : CommonType → Option CedarType) (o : Option EntityType)
      → option_map (type_for c) (option_map (λ x. to_type (Entities (entity_name x))) o) ≡ option_map (type_for e)
      (option_map (λ x. to_type (Entities (entity_name x))) o)
  other c e (Some x) = refl
  other c e None = refl

  alike : (c e : CommonType → Option CedarType) (n : Name) → ((t : CommonType) → type_at d n ≡ Some t → c t ≡ e t)
      → option_map (type_for c) (declared_as d n) ≡ option_map (type_for e) (declared_as d n)
  alike c e n f = by (type_at d n) refl
    where
      by : (o : Option CommonType) → type_at d n ≡ o
          → option_map (type_for c) (or_else (option_map to_common o) (option_map (λ x. to_type (Entities (entity_name x))) (entity_at d n)))
          ≡ option_map (type_for e) (or_else (option_map to_common o) (option_map (λ x. to_type (Entities (entity_name x))) (entity_at d n)))
      by (Some t) h = ap Some (f t h)
      by None h = other c e (entity_at d n)

  pub same_table : (c e : CommonType → Option CedarType) (l : Library) (t : TypeTable) → ((n : Name) (u : CommonType) → type_at d n ≡ Some u → c u ≡ e u)
      → IsTableOf c d l t → IsTableOf e d l t
  same_table c e l t f is = record { declared = λ n. is.declared n ∙ alike c e n (f n); built_in = is.built_in }

  module _ (c : CommonNumbers) (are : AreNumbersOf d c) (i : ℕ) (u : CommonType) (here : slice_get d.types i ≡ Some u) where
    number_is : (n : Name) (t : CommonType) → type_at d n ≡ Some t → number_at c n ≡ Some (number_of d (type_name t))
    number_is n t e =
        are n ∙ ap (λ o. option_map (number_for d) (or_else (option_map to_common o) (option_map (λ x. to_type (Entities (entity_name x))) (entity_at d n)))) e

    -- the type of a common type changes only where it is the first of its name
    only : (l : Library) (common : CommonType → Option CedarType) (n : Name) (t : CommonType) → type_at d n ≡ Some t
        → (number_at c (type_name u) ≡ Some (Some i) → n ≡ type_name u → ⊥) → common t ≡ with_type d l common i t
    only l common n t e apart =
        let r = common_at n t e in
        sym (ap (λ b. cond b (written common d l t.namespace t.type) (common t)) (not_number (number_of d (type_name t)) i (by r)))
      where
        by : (j : ℕ) × IsCommon n t j → number_of d (type_name t) ≡ Some i → ⊥
        by r f =
            let first : number_of d n ≡ Some i = ap (number_of d) (sym r.1.is) ∙ f in
            let same : r.0 ≡ i = cc (sym r.1.number ∙ first) in
            let one : t ≡ u = cc (sym (subst (λ k. slice_get d.types k ≡ Some t) same r.1.at) ∙ here) in
            let name : n ≡ type_name u = sym r.1.is ∙ ap type_name one in
            apart (ap (number_at c) (sym name) ∙ number_is n t e ∙ ap Some f) name

    pub passed_over : (number_at c (type_name u) ≡ Some (Some i) → ⊥) → (l : Library) (common : CommonType → Option CedarType) (t : TypeTable)
        → IsTableOf common d l t → IsTableOf (with_types d l common (i ∷ [])) d l t
    passed_over apart l common t is = same_table common (with_type d l common i) l t (λ n v e. only l common n v e (λ f g. apart f)) is

    -- what has a number is a common type
    its_type : (o : Option CommonType) (e : Option EntityType)
        → option_map (number_for d) (or_else (option_map to_common o) (option_map (λ x. to_type (Entities (entity_name x))) e)) ≡ Some (Some i)
        → (t : CommonType) × (o ≡ Some t)
    its_type (Some t) e f = (t, refl)
    its_type None (Some e) f = absurd (cc f)
    its_type None None f = absurd (cc f)

    first_is : number_at c (type_name u) ≡ Some (Some i) → IsCommon (type_name u) u i
    first_is f =
        let t = its_type (type_at d (type_name u)) (entity_at d (type_name u)) (sym (are (type_name u)) ∙ f) in
        let r = common_at (type_name u) t.0 t.1 in
        let number : Some (number_of d (type_name t.0)) ≡ Some (Some i) = sym (number_is (type_name u) t.0 t.1) ∙ f in
        let inner : number_of d (type_name t.0) ≡ Some i = cc number in
        let same : r.0 ≡ i = cc (sym r.1.number ∙ ap (number_of d) (sym r.1.is) ∙ inner) in
        let one : t.0 ≡ u = cc (sym (subst (λ k. slice_get d.types k ≡ Some t.0) same r.1.at) ∙ here) in
        subst (λ v. IsCommon (type_name u) v i) one (subst (λ k. IsCommon (type_name u) t.0 k) same r.1)

    pub resolved : number_at c (type_name u) ≡ Some (Some i)
        → (l : Library) (common : CommonType → Option CedarType) (old new : TypeTable) (name : Name) (o : Option CedarType)
        → name ≡ type_name u → IsTableOf common d l old → o ≡ written common d l u.namespace u.type
        → ((n : Name) → entry_at new n ≡ cond (is_at (name_cmp name) n) (Some o) (entry_at old n)) → ((n : Name) → built_in_at new n ≡ built_in_at old n)
        → IsTableOf (with_types d l common (i ∷ [])) d l new
    resolved first l common old new name o is table w put same = record {
      declared = λ n. put n ∙ ap (λ b. cond b (Some o) (entry_at old n)) (at_is_same name n ∙ ap (λ m. same_name m n) is)
          ∙ by n (same_name (type_name u) n) refl;
      built_in = λ n. same n ∙ table.built_in n;
    }
      where
        -- it is what is written for it
        there : with_type d l common i u ≡ o
        there = ap (λ b. cond b (written common d l u.namespace u.type) (common u)) (its_number (number_of d (type_name u)) i (first_is first).number) ∙ sym w

        by : (n : Name) (b : Bool) → same_name (type_name u) n ≡ b
            → cond b (Some o) (entry_at old n) ≡ option_map (type_for (with_type d l common i)) (declared_as d n)
        by n true e =
            let found : type_at d n ≡ Some u = subst (λ m. type_at d m ≡ Some u) (name_is (type_name u) n e) (first_is first).found in
            sym (ap (λ p. option_map (type_for (with_type d l common i))
            (or_else (option_map to_common p) (option_map (λ x. to_type (Entities (entity_name x))) (entity_at d n)))) found
            ∙ ap Some there)
        by n false e =
            table.declared n ∙ alike common (with_type d l common i) n
            (λ t f. only l common n t f (λ g h. absurd (cc (sym e ∙ ap (same_name (type_name u)) h ∙ name_same (type_name u)))))

-- ---- one after another

pub types_last : (d : Declared) (l : Library) (common : CommonType → Option CedarType) (xs : List ℕ) (i : ℕ)
    → with_types d l common (xs ++ i ∷ []) ≡ with_type d l (with_types d l common xs) i
types_last d l common [] i = refl
types_last d l common (x ∷ xs) i = types_last d l (with_type d l common x) xs i

pub one_more_resolved : (d : Declared) (c : CommonNumbers) (order : List ℕ) (k i : ℕ) (old mid new : TypeTable) → k < length order → i ≡ slice_index order k
    → AreResolved d c (take k order) old mid → AreResolved d c (i ∷ []) mid new → AreResolved d c (take (k + 1) order) old new
one_more_resolved d c order k i old mid new low here before now = λ l common are is.
    let more : with_types d l common (take (k + 1) order) ≡ with_type d l (with_types d l common (take k order)) i
    = ap (with_types d l common) (take_more order k 0 low ∙ ap (λ j. take k order ++ j ∷ []) (sym here)) ∙ types_last d l common (take k order) i in
    subst (λ f. IsTableOf f d l new) (sym more) (now l (with_types d l common (take k order)) are (before l common are is))

-- ---- a declared type, as it is read

pub read_at : (ts : List DeclaredType) (i : ℕ) (t : DeclaredType) → i < length ts → t ≡ get_or ts i t → slice_get (map type_view ts) i ≡ Some (type_view t)
read_at ts i t low e = slice_get-map type_view ts i ∙ ap (option_map type_view) (slice_get_read ts (length ts) i t refl low e)
