-- What is put over the built-in types is what is declared.
use Rattle.std.proofs.Common.{Some, None, subst}
use Rattle.std.specs.Prelude.{map}
use Rattle.cedar_typing.specs.Types.{Entities}
use Rattle.cedar_schema_grammar.specs.Declared.{entity_name, type_name}
use Rattle.cedar_schema_resolution.specs.Declarations.{entity_view, type_view, declared_view}
use Rattle.cedar_schema_resolution.specs.Puts.{ArePut}
use Rattle.cedar_schema_resolution.proofs.Putting.{table_is, named_twice}
use Rattle.cedar_schema_resolution.proofs.table.declared_table.Goals as goal

pub returns : goal.returns
returns c = λ l has.
    let d = c.args.declared.now in
    table_is (declared_view d) l c.in_ok-table.table c.put_entities.new.table c.put_types.new.table c.in_ok-table.ensures.declared
    (c.in_ok-table.ensures.built_in l has)
    (subst (λ ns. ArePut ns (λ n. Some (Entities n)) c.in_ok-table.table c.put_entities.new.table) (named_twice entity_name entity_view d.entities.items)
    (subst (λ es. ArePut (map (λ e. entity_name (entity_view e)) es) (λ n. Some (Entities n)) c.in_ok-table.table c.put_entities.new.table)
    c.deref.ensures.value c.in_ok-put_entities.ensures.put))
    c.in_ok-put_entities.ensures.built_in
    (subst (λ ns. ArePut ns (λ n. None) c.put_entities.new.table c.put_types.new.table) (named_twice type_name type_view d.types.items)
    (subst (λ ts. ArePut (map (λ t. type_name (type_view t)) ts) (λ n. None) c.put_entities.new.table c.put_types.new.table) c.deref-2.ensures.value
    c.in_ok-put_types.ensures.put))
    c.in_ok-put_types.ensures.built_in
