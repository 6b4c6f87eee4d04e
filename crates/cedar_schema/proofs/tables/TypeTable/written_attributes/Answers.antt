-- A record is what is made of its attributes.
use Rattle.std.proofs.Common.{◌≡◌, Option, Some, None, Vec, Global, refl, sym, subst}
use Rattle.std.specs.Prelude.{option_map}
use Rattle.std.specs.BTreeMap.{BTreeMap}
use Rattle.std.proofs.lemmas.Result.{IfOk-weaker}
use Rattle.cedar_language.specs.Uid.{Text}
use Rattle.cedar_typing.specs.Types.{Records}
use Rattle.cedar_schema_grammar.specs.Syntax.{a_record}
use Rattle.cedar_schema_syntax.specs.View as syntax
use Rattle.cedar_schema.specs.Types.{fields_of, typed_views}
use Rattle.cedar_schema.specs.Tables.{in_order, IsWritten, AreTyped}
use Rattle.cedar_schema.specs.declared.types.AttributeType.{AttributeType}
use Rattle.cedar_schema.proofs.WrittenBy.{attributes_written, mapped_twice}
use Rattle.cedar_schema.proofs.tables.TypeTable.written_attributes.Goals as goal

pub returns-in-Some : goal.returns-in-Some
returns-in-Some c =
    let t = c.args.self.now in
    let namespace = c.args.namespace.now in
    let xs = syntax.attributes_view c.args.attributes.now in
    IfOk-weaker c.attributes_by_name.result
    (λ (o : Option (BTreeMap Text AttributeType)). option_map fields_of o ≡ in_order (typed_views c.in-Some.typed))
    (λ (o : Option (BTreeMap Text AttributeType)). IsWritten t namespace (a_record xs) (option_map (λ m. Records (fields_of m)) o))
    (λ o e. subst (IsWritten t namespace (a_record xs)) (sym (mapped_twice fields_of o))
    (attributes_written t namespace xs (Some (typed_views c.in-Some.typed)) (option_map fields_of o)
    (subst (λ (q : Option (Vec (Text × AttributeType) Global)). AreTyped t namespace xs (option_map typed_views q)) c.in-Some.is
    c.in_ok-typed.ensures) e))
    c.attributes_by_name.ensures

pub returns-in-None : goal.returns-in-None
returns-in-None c =
    let t = c.args.self.now in
    let namespace = c.args.namespace.now in
    let xs = syntax.attributes_view c.args.attributes.now in
    attributes_written t namespace xs None None
    (subst (λ (q : Option (Vec (Text × AttributeType) Global)). AreTyped t namespace xs (option_map typed_views q)) c.in-None.is
    c.in_ok-typed.ensures) refl
