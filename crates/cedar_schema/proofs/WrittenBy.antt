-- The types that are written are those that are made of their parts.
use Rattle.std.proofs.Common.{◌≡◌, ◌<◌, ◌≤◌, ◌+◌, ℕ, List, [], ◌∷◌, ◌++◌, length, drop, Option, Some, None, Box, Vec, Global, refl, sym, ap, ◌∙◌, subst, arith}
use Rattle.std.specs.Prelude.{option_map}
use Rattle.std.specs.List.{slice_index_or}
use Rattle.std.proofs.lemmas.List.{drop_more, drop_all, append-nil}
use Rattle.cedar_language.specs.Uid.{Text, Name}
use Rattle.cedar_typing.specs.Types.{CedarType, Sets, Records, Field, Fields}
use Rattle.cedar_schema_grammar.specs.Syntax as grammar
use Rattle.cedar_schema_grammar.specs.Declared.{Library, CommonType, Declared}
use Rattle.cedar_schema_grammar.specs.Written.{written}
use Rattle.cedar_schema_syntax.specs.View as syntax
use Rattle.cedar_schema_syntax.specs.declared.names.Path.{Path}
use Rattle.cedar_schema_syntax.specs.declared.types.TypeSyntax.{TypeSyntax}
use Rattle.cedar_schema_syntax.specs.declared.types.TypeSyntax.TheVariants as types
use Rattle.cedar_schema_syntax.specs.declared.types.Attribute.{Attribute, out-Attribute}
use Rattle.cedar_schema_syntax.proofs.Views.{named_view, set_view, record_view, parts_view}
use Rattle.cedar_schema.specs.Tables.{named_type, IsTableOf, typed_more, typed_all, all_in_order, IsWritten, AreTyped}
use Rattle.cedar_schema.specs.declared.tables.TypeTable.{TypeTable}
use Rattle.cedar_schema.proofs.Tabled.{tabled, fields_are, behind, behind_none, one_behind, no_more}

module _ (t : TypeTable) (namespace : Name) (s : TypeSyntax) (o : Option CedarType) where
  pub written_named : (p : Path) → s ≡ types.Named p → o ≡ named_type t namespace (syntax.path_view p) → IsWritten t namespace (syntax.type_view s) o
  written_named p e f = λ common d l is.
      subst (λ x. o ≡ written common d l namespace x) (sym (ap syntax.type_view e ∙ named_view p)) (f ∙ tabled common d l t is namespace (syntax.path_view p))

  pub written_set : (b : Box TypeSyntax Global) (q : Option CedarType) → s ≡ types.Set b → IsWritten t namespace (syntax.type_view b.value) q → o ≡ option_map Sets q
      → IsWritten t namespace (syntax.type_view s) o
  written_set b q e f g = λ common d l is.
      subst (λ x. o ≡ written common d l namespace x) (sym (ap syntax.type_view e ∙ set_view b)) (g ∙ ap (option_map Sets) (f common d l is))

  pub written_record : (v : Vec Attribute Global) (q : Option (List (Text × Field))) → s ≡ types.Record v → AreTyped t namespace (syntax.attributes_view v.items) q
      → o ≡ option_map Records (all_in_order q) → IsWritten t namespace (syntax.type_view s) o
  written_record v q e f g = λ common d l is.
      subst (λ x. o ≡ written common d l namespace x) (sym (ap syntax.type_view e ∙ record_view v))
      (g ∙ ap (λ r. option_map Records (all_in_order r)) (f common d l is) ∙ ap (option_map Records) (sym (fields_are common d l namespace (syntax.attributes_view v.items))))

-- the attributes of a record, by a map
pub attributes_written : (t : TypeTable) (namespace : Name) (xs : grammar.AttributesSyntax) (q : Option (List (Text × Field))) (o : Option Fields)
    → AreTyped t namespace xs q → o ≡ all_in_order q
    → IsWritten t namespace (grammar.a_record xs) (option_map Records o)
attributes_written t namespace xs q o f e = λ common d l is.
    ap (option_map Records) (e ∙ ap all_in_order (f common d l is) ∙ sym (fields_are common d l namespace xs))

pub mapped_twice : {A : Type 0} (f : A → Fields) (o : Option A) → option_map (λ x. Records (f x)) o ≡ option_map Records (option_map f o)
mapped_twice f (Some x) = refl
mapped_twice f None = refl

-- ---- attributes, one after another

module _ (t : TypeTable) (namespace : Name) (xs : List Attribute) where
  -- what is typed so far stands before what is typed of the rest
  abbrev pub SoFar : List (Text × Field) → List Attribute → Type 0
  SoFar ts rest = (common : CommonType → Option CedarType) (d : Declared) (l : Library) → IsTableOf common d l t
      → typed_all common d l namespace (syntax.attributes_view xs) ≡ behind ts (typed_all common d l namespace (syntax.attributes_view rest))

  pub at_first : SoFar [] xs
  at_first = λ common d l is. behind_none (typed_all common d l namespace (syntax.attributes_view xs))

  module _ (ts : List (Text × Field)) (i : ℕ) (a : Attribute) (low : i < length xs) (here : a ≡ slice_index_or xs i a) (far : SoFar ts (drop i xs)) where
    next_is : drop i xs ≡ a ∷ drop (i + 1) xs
    next_is = drop_more xs i a low ∙ ap (λ x. x ∷ drop (i + 1) xs) (sym here)

    abbrev parts : syntax.Written
    parts = record { name = syntax.name_view (out-Attribute a).name; presence = syntax.presence_view (out-Attribute a).presence; type = syntax.type_view (out-Attribute a).written }

    rest_is : (common : CommonType → Option CedarType) (d : Declared) (l : Library) → typed_all common d l namespace (syntax.attributes_view (drop i xs))
        ≡ typed_more parts.name parts.presence (written common d l namespace parts.type) (typed_all common d l namespace (syntax.attributes_view (drop (i + 1) xs)))
    rest_is common d l =
        ap (λ ys. typed_all common d l namespace (syntax.attributes_view ys)) next_is
        ∙ ap (λ (w : syntax.Written). typed_more w.name w.presence (written common d l namespace w.type) (typed_all common d l namespace (syntax.attributes_view (drop (i + 1) xs)))) (parts_view a)

    pub one_typed : (u : CedarType) → IsWritten t namespace (syntax.type_view (out-Attribute a).written) (Some u)
        → SoFar (ts ++ (syntax.name_view (out-Attribute a).name, record { presence = syntax.presence_view (out-Attribute a).presence; type = u }) ∷ []) (drop (i + 1) xs)
    one_typed u f = λ common d l is.
        far common d l is ∙ ap (behind ts) (rest_is common d l)
        ∙ ap (λ o. behind ts (typed_more parts.name parts.presence o (typed_all common d l namespace (syntax.attributes_view (drop (i + 1) xs))))) (sym (f common d l is))
        ∙ one_behind ts parts.name parts.presence u (typed_all common d l namespace (syntax.attributes_view (drop (i + 1) xs)))

    pub one_untyped : IsWritten t namespace (syntax.type_view (out-Attribute a).written) None → AreTyped t namespace (syntax.attributes_view xs) None
    one_untyped f = λ common d l is.
        sym (far common d l is ∙ ap (behind ts) (rest_is common d l)
        ∙ ap (λ o. behind ts (typed_more parts.name parts.presence o (typed_all common d l namespace (syntax.attributes_view (drop (i + 1) xs))))) (sym (f common d l is))
        ∙ no_more ts parts.name parts.presence (typed_all common d l namespace (syntax.attributes_view (drop (i + 1) xs))))

  pub all_typed : (ts : List (Text × Field)) (i : ℕ) → length xs ≤ i → SoFar ts (drop i xs) → AreTyped t namespace (syntax.attributes_view xs) (Some ts)
  all_typed ts i h far = λ common d l is.
      sym (far common d l is ∙ ap (λ ys. behind ts (typed_all common d l namespace (syntax.attributes_view ys))) (drop_all i xs h) ∙ ap Some (append-nil ts))
