-- The empty store is closed, and holds no value.
use Rattle.cedar_extensions.specs.Table.{as_table}
use Rattle.cedar_law_examples.proofs.proving.no_entities.Goals as goal

pub returns : goal.returns
returns g c =
    let held = c.new.ensures in
    c.stores_are_made.ensures c.new.result (as_table g.F.ExtensionFunctionObject.answers c.args.extensions.now) held.partial held.closed (λ uid. rw (held.found uid) tt) (λ uid. rw (held.found uid) tt) c.tables_make_values.ensures
