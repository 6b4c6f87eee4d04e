-- The numbers of what types mention.
use Rattle.std.proofs.Common.{◌≡◌, inl, inr, ℕ, ◌+◌, ◌<◌, List, [], ◌∷◌, ◌++◌, length, take, get_or, Option, Some, None, Box, Vec, Global, append_assoc, refl, sym, ap, ◌∙◌, subst}
use Rattle.std.specs.Prelude.{map, option_map, option_to_list}
use Rattle.std.proofs.lemmas.List.{append-nil, map-append, take_more}
use Rattle.cedar_language.specs.Uid.{Name}
use Rattle.cedar_typing.specs.Types.{CedarType}
use Rattle.cedar_schema_grammar.specs.Syntax as grammar
use Rattle.cedar_schema_grammar.specs.Declared.{Library, CommonType, Declared, Referent, to_common, to_type, or_else, first_of, places, type_name, type_at, built_in_path, declared_as}
use Rattle.cedar_schema_grammar.specs.Written.{common_name, mentions, mentions_in}
use Rattle.cedar_schema_grammar.proofs.Unfolding.{referent_is}
use Rattle.cedar_schema_syntax.specs.View as syntax
use Rattle.cedar_schema_syntax.specs.declared.names.Path.{Path}
use Rattle.cedar_schema_syntax.specs.declared.types.TypeSyntax.{TypeSyntax}
use Rattle.cedar_schema_syntax.specs.declared.types.TypeSyntax.TheVariants as types
use Rattle.cedar_schema_syntax.specs.declared.types.Attribute.{Attribute, out-Attribute}
use Rattle.cedar_schema_syntax.proofs.Views.{named_view, set_view, record_view, parts_view}
use Rattle.cedar_schema.proofs.Tabled.{mapped_first}
use Rattle.cedar_schema_resolution.specs.Declarations.{type_view}
use Rattle.cedar_schema_resolution.specs.Numbers.{number_at, number_in, named_number, number_of, number_for, AreNumbersOf}
use Rattle.cedar_schema_resolution.specs.Mentions.{with_number, AreBehind, IsMentioned, IsMentionedIn, mentioned_numbers, AreMentioned}
use Rattle.cedar_schema_resolution.specs.declared.declarations.DeclaredType.{DeclaredType}
use Rattle.cedar_schema_resolution.specs.declared.numbers.CommonNumbers.{CommonNumbers}
use Rattle.cedar_schema_resolution.proofs.Numbering.{MayBeNumbered, numbered}

-- ---- a name

-- a common type that is found has a number
one_number : (d : Declared) (t : CommonType) → type_at d (type_name t) ≡ Some t
    → map Some (option_to_list (number_of d (type_name t))) ≡ number_of d (type_name t) ∷ []
one_number d t e = by (numbered 0 d.types (type_name t))
  where
    by : MayBeNumbered 0 d.types (type_name t) → map Some (option_to_list (number_of d (type_name t))) ≡ number_of d (type_name t) ∷ []
    by (inl r) = absurd (cc (sym e ∙ r.0))
    by (inr r) = subst (λ o. map Some (option_to_list o) ≡ o ∷ []) (sym r.2.number) refl

number_is : (d : Declared) (o : Option Referent) (b : Option CedarType)
    → ((t : CommonType) → or_else o (option_map to_type b) ≡ Some (to_common t) → type_at d (type_name t) ≡ Some t)
    → map Some (option_to_list (number_in (option_map (number_for d) o))) ≡ map (number_of d) (common_name (or_else o (option_map to_type b)))
number_is d (Some (to_common t)) b found = one_number d t (found t refl)
number_is d (Some (to_type t)) b found = refl
number_is d None (Some t) found = refl
number_is d None None found = refl

named_is : (d : Declared) (l : Library) (c : CommonNumbers) → AreNumbersOf d c → (namespace p : Name)
    → map Some (option_to_list (named_number c namespace p)) ≡ map (number_of d) (mentions d l namespace (grammar.named p))
named_is d l c are namespace p =
    ap (λ o. map Some (option_to_list (number_in o))) (mapped_first (declared_as d) (number_for d) (number_at c) are (places namespace p))
    ∙ number_is d (first_of (declared_as d) (places namespace p)) (built_in_path l p) (λ t e. referent_is d l namespace p t e)

-- ---- a type

module _ (c : CommonNumbers) (namespace : Name) (s : TypeSyntax) (old new : List ℕ) where
  pub mentioned_named : (p : Path) → s ≡ types.Named p → new ≡ with_number old (named_number c namespace (syntax.path_view p))
      → IsMentioned c namespace (syntax.type_view s) old new
  mentioned_named p e f = λ d l are.
      subst (λ x. AreBehind d (mentions d l namespace x) old new) (sym (ap syntax.type_view e ∙ named_view p))
      (ap (map Some) f ∙ map-append Some old (option_to_list (named_number c namespace (syntax.path_view p)))
      ∙ ap (λ xs. map Some old ++ xs) (named_is d l c are namespace (syntax.path_view p)))

  pub mentioned_set : (b : Box TypeSyntax Global) → s ≡ types.Set b → IsMentioned c namespace (syntax.type_view b.value) old new
      → IsMentioned c namespace (syntax.type_view s) old new
  mentioned_set b e f = λ d l are. subst (λ x. AreBehind d (mentions d l namespace x) old new) (sym (ap syntax.type_view e ∙ set_view b)) (f d l are)

  pub mentioned_record : (v : Vec Attribute Global) → s ≡ types.Record v → IsMentionedIn c namespace (syntax.attributes_view v.items) old new
      → IsMentioned c namespace (syntax.type_view s) old new
  mentioned_record v e f = λ d l are. subst (λ x. AreBehind d (mentions d l namespace x) old new) (sym (ap syntax.type_view e ∙ record_view v)) (f d l are)

-- ---- attributes, one after another

last_mentions : (d : Declared) (l : Library) (namespace : Name) (ws : List syntax.Written) (w : syntax.Written)
    → mentions_in d l namespace (syntax.attributes_of (ws ++ w ∷ [])) ≡ mentions_in d l namespace (syntax.attributes_of ws) ++ mentions d l namespace w.type
last_mentions d l namespace [] w = append-nil (mentions d l namespace w.type)
last_mentions d l namespace (v ∷ ws) w =
    ap (λ xs. mentions d l namespace v.type ++ xs) (last_mentions d l namespace ws w)
    ∙ sym (append_assoc (mentions d l namespace v.type) (mentions_in d l namespace (syntax.attributes_of ws)) (mentions d l namespace w.type))

behind_behind : (d : Declared) (ns ms : List Name) (old mid new : List ℕ) → AreBehind d ns old mid → AreBehind d ms mid new → AreBehind d (ns ++ ms) old new
behind_behind d ns ms old mid new e f =
    f ∙ ap (λ xs. xs ++ map (number_of d) ms) e ∙ append_assoc (map Some old) (map (number_of d) ns) (map (number_of d) ms)
    ∙ ap (λ xs. map Some old ++ xs) (sym (map-append (number_of d) ns ms))

module _ (c : CommonNumbers) (namespace : Name) (xs : List Attribute) where
  abbrev pub SoFar : ℕ → List ℕ → List ℕ → Type 0
  SoFar i old now = IsMentionedIn c namespace (syntax.attributes_view (take i xs)) old now

  pub none_mentioned : (old : List ℕ) → SoFar 0 old old
  none_mentioned old = λ d l are. sym (append-nil (map Some old))

  pub one_mentioned : (i : ℕ) (a : Attribute) (old mid new : List ℕ) → i < length xs → a ≡ get_or xs i a → SoFar i old mid
      → IsMentioned c namespace (syntax.type_view (out-Attribute a).written) mid new → SoFar (i + 1) old new
  one_mentioned i a old mid new low here f g = λ d l are.
      let ws = map syntax.attribute_view (take i xs) in
      let w = syntax.attribute_view a in
      let cut : map syntax.attribute_view (take (i + 1) xs) ≡ ws ++ w ∷ []
      = ap (map syntax.attribute_view) (take_more xs i a low ∙ ap (λ x. take i xs ++ x ∷ []) (sym here))
      ∙ map-append syntax.attribute_view (take i xs) (a ∷ []) in
      let all : mentions_in d l namespace (syntax.attributes_view (take (i + 1) xs)) ≡ mentions_in d l namespace (syntax.attributes_of ws) ++ mentions
      d l namespace (syntax.type_view (out-Attribute a).written)
      = ap (λ vs. mentions_in d l namespace (syntax.attributes_of vs)) cut ∙ last_mentions d l namespace ws w
      ∙ ap (λ (v : syntax.Written). mentions_in d l namespace (syntax.attributes_of ws) ++ mentions d l namespace v.type) (parts_view a) in
      subst (λ ns. AreBehind d ns old new) (sym all)
      (behind_behind d (mentions_in d l namespace (syntax.attributes_of ws)) (mentions d l namespace (syntax.type_view (out-Attribute a).written)) old
      mid new (f d l are) (g d l are))

-- ---- common types, one after another

pub one_row : (c : CommonNumbers) (ts : List DeclaredType) (i : ℕ) (t : DeclaredType) (old new : List (Vec ℕ Global)) (row : Vec ℕ Global)
    → i < length ts → t ≡ get_or ts i t
    → AreMentioned c (map type_view (take i ts)) old → IsMentioned c (type_view t).namespace (type_view t).type [] row.items → new ≡ old ++ row ∷ []
    → AreMentioned c (map type_view (take (i + 1) ts)) new
one_row c ts i t old new row low here f g e = λ d l are.
    let cut : map type_view (take (i + 1) ts) ≡ map type_view (take i ts) ++ type_view t ∷ []
    = ap (map type_view) (take_more ts i t low ∙ ap (λ x. take i ts ++ x ∷ []) (sym here)) ∙ map-append type_view (take i ts) (t ∷ []) in
    ap (map (λ (r : Vec ℕ Global). map Some r.items)) e ∙ map-append (λ (r : Vec ℕ Global). map Some r.items) old (row ∷ [])
    ∙ ap (λ rs. rs ++ map Some row.items ∷ []) (f d l are) ∙ ap (λ r. map (mentioned_numbers d l) (map type_view (take i ts)) ++ r ∷ []) (g d l are)
    ∙ sym (ap (map (mentioned_numbers d l)) cut ∙ map-append (mentioned_numbers d l) (map type_view (take i ts)) (type_view t ∷ []))
