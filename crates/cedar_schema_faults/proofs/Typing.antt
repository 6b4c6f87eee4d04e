-- The faults of types are those of their parts.
use Rattle.std.proofs.Common.{◌≡◌, Bool, true, false, ◌||◌, List, [], ◌∷◌, ◌++◌, append_assoc, Box, Vec, Global, refl, sym, ap, ◌∙◌, subst}
use Rattle.std.specs.Prelude.{is_some, is_none, map, option_map}
use Rattle.std.specs.Global as global
use Rattle.std.proofs.lemmas.List.{append-nil}
use Rattle.cedar_language.specs.Uid.{Name}
use Rattle.cedar_schema_grammar.specs.Syntax as grammar
use Rattle.cedar_schema_grammar.specs.Declared.{Library, Declared, first_of, places, referent, entity_named}
use Rattle.cedar_schema_grammar.specs.Faults.{TypeNotDefined, type_faults, attribute_faults, duplicate_attributes, entity_name_faults}
use Rattle.cedar_schema_syntax.specs.View as syntax
use Rattle.cedar_schema_syntax.specs.declared.names.Path.{Path}
use Rattle.cedar_schema_syntax.specs.declared.types.TypeSyntax.{TypeSyntax}
use Rattle.cedar_schema_syntax.specs.declared.types.TypeSyntax.TheVariants as types
use Rattle.cedar_schema_syntax.specs.declared.types.Attribute.{Attribute, out-Attribute}
use Rattle.cedar_schema_syntax.proofs.Views.{named_view, set_view, record_view, parts_view}
use Rattle.cedar_schema.specs.Tables.{entry_at, built_in_at}
use Rattle.cedar_schema_resolution.specs.Parents.{first_named}
use Rattle.cedar_schema_faults.specs.Views.{faults_view}
use Rattle.cedar_schema_faults.specs.Telling.{Tells}
use Rattle.cedar_schema_faults.specs.declared.kinds.SchemaError.{SchemaError}
use Rattle.cedar_schema_faults.specs.declared.names.SchemaNames.{SchemaNames}
use Rattle.cedar_schema_faults.proofs.Naming.{none_isnt, none_is, named_type, named_entity}
use Rattle.cedar_schema_faults.proofs.Telling.{tells_exactly, tells_same, tells_both, tells_where, tells_not}

module _ (names : SchemaNames) (namespace : Name) where
  -- ---- a name

  module _ (p : Name) (b : Bool) where
    pub defined : (old : global.Vec SchemaError)
        → b ≡ (is_some (first_of (entry_at names.table) (places namespace p)) || is_some (built_in_at names.table p)) → b ≡ true
        → Tells names old old (λ d l. type_faults d l namespace (grammar.named p))
    defined old e f = tells_not names old (λ d l. is_none (referent d l namespace p)) (TypeNotDefined p)
        (λ d l has. none_isnt (referent d l namespace p) (sym (named_type d l names has namespace p) ∙ sym e ∙ f))

    pub undefined : (old new : global.Vec SchemaError) (name : Name)
        → b ≡ (is_some (first_of (entry_at names.table) (places namespace p)) || is_some (built_in_at names.table p))
        → b ≡ false → name ≡ p → faults_view new ≡ faults_view old ++ TypeNotDefined name ∷ []
        → Tells names old new (λ d l. type_faults d l namespace (grammar.named p))
    undefined old new name e f is put = tells_where names old new (λ d l. is_none (referent d l namespace p)) (TypeNotDefined p)
        (λ d l has. none_is (referent d l namespace p) (sym (named_type d l names has namespace p) ∙ sym e ∙ f))
        (put ∙ ap (λ n. faults_view old ++ TypeNotDefined n ∷ []) is)

    pub entity_defined : (old : global.Vec SchemaError) → b ≡ is_some (first_named names.entities namespace p) → b ≡ true
        → Tells names old old (λ d l. entity_name_faults d namespace p)
    entity_defined old e f = tells_not names old (λ d l. is_none (entity_named d namespace p)) (TypeNotDefined p)
        (λ d l has. none_isnt (entity_named d namespace p) (sym (named_entity d l names has namespace p) ∙ sym e ∙ f))

    pub entity_undefined : (old new : global.Vec SchemaError) (name : Name) → b ≡ is_some (first_named names.entities namespace p)
        → b ≡ false → name ≡ p → faults_view new ≡ faults_view old ++ TypeNotDefined name ∷ [] → Tells names old new (λ d l. entity_name_faults d namespace p)
    entity_undefined old new name e f is put = tells_where names old new (λ d l. is_none (entity_named d namespace p)) (TypeNotDefined p)
        (λ d l has. none_is (entity_named d namespace p) (sym (named_entity d l names has namespace p) ∙ sym e ∙ f))
        (put ∙ ap (λ n. faults_view old ++ TypeNotDefined n ∷ []) is)

  -- ---- a type

  pub record_told : (old mid new : global.Vec SchemaError) (xs ys zs : List Attribute) → ys ≡ xs → zs ≡ xs
      → faults_view mid ≡ faults_view old ++ duplicate_attributes (syntax.attributes_view ys)
      → Tells names mid new (λ d l. attribute_faults d l namespace (syntax.attributes_view zs))
      → Tells names old new (λ d l. type_faults d l namespace (grammar.a_record (syntax.attributes_view xs)))
  record_told old mid new xs ys zs e f put more =
      tells_both names old mid new (λ d l. duplicate_attributes (syntax.attributes_view xs)) (λ d l. attribute_faults d l namespace (syntax.attributes_view xs))
      (tells_exactly names old mid (λ d l. duplicate_attributes (syntax.attributes_view xs))
      (λ d l has. put ∙ ap (λ as_. faults_view old ++ duplicate_attributes (syntax.attributes_view as_)) e))
      (subst (λ as_. Tells names mid new (λ d l. attribute_faults d l namespace (syntax.attributes_view as_))) f more)

  module _ (s : TypeSyntax) (old new : global.Vec SchemaError) where
    abbrev pub TellsType : grammar.TypeSyntax → Type 0
    TellsType t = Tells names old new (λ d l. type_faults d l namespace t)

    pub told_named : (p : Path) → s ≡ types.Named p → TellsType (grammar.named (syntax.path_view p)) → TellsType (syntax.type_view s)
    told_named p e f = subst TellsType (sym (ap syntax.type_view e ∙ named_view p)) f

    pub told_set : (b : Box TypeSyntax Global) → s ≡ types.Set b → TellsType (syntax.type_view b.value) → TellsType (syntax.type_view s)
    told_set b e f = subst TellsType (sym (ap syntax.type_view e ∙ set_view b)) f

    pub told_record : (v : Vec Attribute Global) → s ≡ types.Record v → TellsType (grammar.a_record (syntax.attributes_view v.items))
        → TellsType (syntax.type_view s)
    told_record v e f = subst TellsType (sym (ap syntax.type_view e ∙ record_view v)) f

  -- ---- attributes

  pub attribute_parts : (d : Declared) (l : Library) (ws : List syntax.Written) (w : syntax.Written)
      → attribute_faults d l namespace (syntax.attributes_of (ws ++ w ∷ []))
      ≡ attribute_faults d l namespace (syntax.attributes_of ws) ++ attribute_faults d l namespace (syntax.attributes_of (w ∷ []))
  attribute_parts d l [] w = refl
  attribute_parts d l (v ∷ ws) w = ap (λ fs. type_faults d l namespace v.type ++ fs) (attribute_parts d l ws w)
      ∙ sym (append_assoc (type_faults d l namespace v.type) (attribute_faults d l namespace (syntax.attributes_of ws))
      (attribute_faults d l namespace (syntax.attributes_of (w ∷ []))))

  pub told_attribute : (a : Attribute) (old new : global.Vec SchemaError)
      → Tells names old new (λ d l. type_faults d l namespace (syntax.type_view (out-Attribute a).written))
      → Tells names old new (λ d l. attribute_faults d l namespace (syntax.attributes_of (syntax.attribute_view a ∷ [])))
  told_attribute a old new t = tells_same names old new (λ d l. type_faults d l namespace (syntax.type_view (out-Attribute a).written))
      (λ d l. attribute_faults d l namespace (syntax.attributes_of (syntax.attribute_view a ∷ [])))
      (λ d l. ap (λ (v : syntax.Written). type_faults d l namespace v.type) (sym (parts_view a))
      ∙ sym (append-nil (type_faults d l namespace (syntax.attribute_view a).type)))
      t
