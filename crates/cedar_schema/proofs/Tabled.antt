-- What a table says of names is what they stand for.
use Rattle.std.proofs.Common.{◌≡◌, List, [], ◌∷◌, ◌++◌, length, Option, Some, None, arith, refl, sym, ap, ◌∙◌}
use Rattle.std.proofs.lemmas.List.{append_assoc}
use Rattle.std.specs.Prelude.{option_map}
use Rattle.std.specs.BTreeMap.{get}
use Rattle.cedar_language.specs.Uid.{Text, Name}
use Rattle.cedar_language.specs.Order.{name_cmp}
use Rattle.cedar_typing.specs.Types.{Presence, CedarType, Field, Fields, Records}
use Rattle.cedar_schema_grammar.specs.Syntax.{AttributesSyntax, no_attributes, an_attribute}
use Rattle.cedar_schema_grammar.specs.Declared.{Library, CommonType, Declared, Referent, to_type, or_else, first_of, places, built_in_path, declared_as, referent}
use Rattle.cedar_schema_grammar.specs.Written.{with_field, stands_for, written, written_fields}
use Rattle.cedar_schema.specs.Types.{type_view}
use Rattle.cedar_schema.specs.Tables.{entry_at, or_built_in, named_type, type_for, IsTableOf, typed_more, typed_all, all_in_order}
use Rattle.cedar_schema.specs.declared.tables.TypeTable.{TypeTable}
use Rattle.cedar_schema.specs.declared.types.SchemaType.{SchemaType}

or_else_mapped : {B C : Type 0} (g : B → C) (o p : Option B) → or_else (option_map g o) (option_map g p) ≡ option_map g (or_else o p)
or_else_mapped g (Some x) p = refl
or_else_mapped g None p = refl

pub mapped_first : {A B C : Type 0} (f : A → Option B) (g : B → C) (h : A → Option C) → ((x : A) → h x ≡ option_map g (f x)) → (xs : List A)
    → first_of h xs ≡ option_map g (first_of f xs)
mapped_first f g h e [] = refl
mapped_first f g h e (x ∷ xs) =
    ap (λ o. or_else o (first_of h xs)) (e x) ∙ ap (or_else (option_map g (f x))) (mapped_first f g h e xs) ∙ or_else_mapped g (f x) (first_of f xs)

module _ (common : CommonType → Option CedarType) where
  stands : (o : Option Referent) (b : Option CedarType) → or_built_in (option_map (type_for common) o) b ≡ stands_for common (or_else o (option_map to_type b))
  stands (Some r) b = refl
  stands None (Some t) = refl
  stands None None = refl

  module _ (d : Declared) (l : Library) where
    pub tabled : (t : TypeTable) → IsTableOf common d l t → (namespace n : Name) → named_type t namespace n ≡ stands_for common (referent d l namespace n)
    tabled t is namespace n =
        ap (λ o. or_built_in o (option_map type_view (get name_cmp t.built_in n))) (mapped_first (declared_as d) (type_for common) (entry_at t) is.declared (places namespace n))
        ∙ ap (or_built_in (option_map (type_for common) (first_of (declared_as d) (places namespace n)))) (is.built_in n)
        ∙ stands (first_of (declared_as d) (places namespace n)) (built_in_path l n)

    -- ---- attributes

    one_more : (k : Text) (p : Presence) (o : Option CedarType) (q : Option (List (Text × Field))) → with_field k p o (all_in_order q) ≡ all_in_order (typed_more k p o q)
    one_more k p (Some t) (Some fs) = refl
    one_more k p (Some t) None = refl
    one_more k p None (Some fs) = refl
    one_more k p None None = refl

    pub fields_are : (namespace : Name) (xs : AttributesSyntax) → written_fields common d l namespace xs ≡ all_in_order (typed_all common d l namespace xs)
    fields_are namespace no_attributes = refl
    fields_are namespace (an_attribute k p t xs) =
        ap (with_field k p (written common d l namespace t)) (fields_are namespace xs) ∙ one_more k p (written common d l namespace t) (typed_all common d l namespace xs)

-- ---- the attributes whose types are known, and those behind them

abbrev pub behind : List (Text × Field) → Option (List (Text × Field)) → Option (List (Text × Field))
behind xs (Some ys) = Some (xs ++ ys)
behind xs None = None

pub behind_none : (o : Option (List (Text × Field))) → o ≡ behind [] o
behind_none (Some xs) = refl
behind_none None = refl

pub one_behind : (xs : List (Text × Field)) (k : Text) (p : Presence) (t : CedarType) (q : Option (List (Text × Field)))
    → behind xs (typed_more k p (Some t) q) ≡ behind (xs ++ (k, record { presence = p; type = t }) ∷ []) q
one_behind xs k p t (Some ys) = ap Some (sym (append_assoc xs ((k, record { presence = p; type = t }) ∷ []) ys))
one_behind xs k p t None = refl

pub no_more : (xs : List (Text × Field)) (k : Text) (p : Presence) (q : Option (List (Text × Field))) → behind xs (typed_more k p None q) ≡ None
no_more xs k p (Some ys) = refl
no_more xs k p None = refl

-- ---- where a name is looked up

pub places_alone : (namespace p : Name) → length p ≡ 1 → places namespace p ≡ (namespace ++ p) ∷ p ∷ []
places_alone namespace [] e = absurd (omega (arith, e))
places_alone namespace (s ∷ []) e = refl
places_alone namespace (s ∷ t ∷ p) e = absurd (omega (arith, e))

pub places_path : (namespace p : Name) → (length p ≡ 1 → ⊥) → places namespace p ≡ p ∷ []
places_path namespace [] e = refl
places_path namespace (s ∷ []) e = absurd (e refl)
places_path namespace (s ∷ t ∷ p) e = refl

-- ---- what is found there

pub alone_ends : {B : Type 0} (o : Option B) → or_else o None ≡ o
alone_ends (Some x) = refl
alone_ends None = refl

module _ (t : TypeTable) (namespace p : Name) where
  abbrev pub Finds : Option (Option SchemaType) → Type 0
  Finds o = option_map (option_map type_view) o ≡ first_of (entry_at t) (places namespace p)

  pub found_first : (o : Option (Option SchemaType)) (ps : List Name) → o ≡ first_of (get name_cmp t.declared) ps → ps ≡ places namespace p → Finds o
  found_first o ps e f =
      ap (option_map (option_map type_view)) e ∙ sym (mapped_first (get name_cmp t.declared) (option_map type_view) (entry_at t) (λ n. refl) ps)
      ∙ ap (first_of (entry_at t)) f

  -- and then its type
  pub type_found : (o : Option SchemaType) → Finds (Some o) → option_map type_view o ≡ named_type t namespace p
  type_found o e = ap (λ x. or_built_in x (option_map type_view (get name_cmp t.built_in p))) e

  pub type_built_in : Finds None → option_map type_view (get name_cmp t.built_in p) ≡ named_type t namespace p
  type_built_in e = ap (λ x. or_built_in x (option_map type_view (get name_cmp t.built_in p))) e
