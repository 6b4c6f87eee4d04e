-- A type is what is made of the types of its parts.
use Rattle.std.proofs.Common.{◌≡◌, Option, subst}
use Rattle.std.specs.Prelude.{option_map}
use Rattle.std.proofs.lemmas.Result.{IfOk-weaker}
use Rattle.cedar_typing.specs.Types.{Records}
use Rattle.cedar_schema_syntax.specs.View as syntax
use Rattle.cedar_schema.specs.Types.{type_view, typed_views}
use Rattle.cedar_schema.specs.Tables.{named_type, all_in_order, IsWritten, AreTyped}
use Rattle.cedar_schema.specs.declared.types.SchemaType.{SchemaType}
use Rattle.cedar_schema.proofs.WrittenBy.{written_named, written_record}
use Rattle.cedar_schema.proofs.tables.TypeTable.+written_type.Goals as goal

pub written_type-returns-in-Named : goal.written_type-returns-in-Named
written_type-returns-in-Named t c =
    let table = c.args.self.now in
    let namespace = c.args.namespace.now in
    IfOk-weaker c.named_type.result
    (λ (o : Option SchemaType). option_map type_view o ≡ named_type table namespace (syntax.path_view c.in-Named.path))
    (λ (o : Option SchemaType). IsWritten table namespace (syntax.type_view c.args.written.now) (option_map type_view o))
    (λ o e. written_named table namespace c.args.written.now (option_map type_view o) c.in-Named.path c.in-Named.is e)
    c.named_type.ensures

pub written_type-returns-in_ok-typed-in-Record : goal.written_type-returns-in_ok-typed-in-Record
written_type-returns-in_ok-typed-in-Record t c =
    let table = c.args.self.now in
    let namespace = c.args.namespace.now in
    let typed = option_map typed_views c.in_ok-typed-in-Record.typed in
    let are = subst (λ xs. AreTyped table namespace (syntax.attributes_view xs) typed) c.deref-in-Record.ensures.value c.in_ok-typed-in-Record.ensures in
    IfOk-weaker c.record_of.result
    (λ (o : Option SchemaType). option_map type_view o ≡ option_map Records (all_in_order typed))
    (λ (o : Option SchemaType). IsWritten table namespace (syntax.type_view c.args.written.now) (option_map type_view o))
    (λ o e. written_record table namespace c.args.written.now (option_map type_view o) c.in-Record.attributes typed c.in-Record.is are e)
    c.record_of.ensures
