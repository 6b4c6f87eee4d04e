-- The language's own types stand over extension types.
use Rattle.std.proofs.Common.{codes, subst}
use Rattle.cedar_schema_resolution.specs.BuiltIn.{IsBuiltIn}
use Rattle.cedar_schema_resolution.proofs.BuildingIn.{boolean_view, long_view, string_view, whole}
use Rattle.cedar_schema_resolution.proofs.built_in.built_in_table.Goals as goal

pub returns-clause-built_in : goal.returns-clause-built_in
returns-clause-built_in c =
    whole c.args.extensions.now c.new-table.result c.put_extensions.new.table c.put_own.new.table c.put_own-2.new.table c.put_own-3.new.table
    c.new-table.ensures.built_in
    c.in_ok-put_extensions.ensures.built_in
    (subst (λ t. IsBuiltIn (codes "String") t c.put_extensions.new.table c.put_own.new.table) string_view c.in_ok-put_own.ensures.built_in)
    (subst (λ t. IsBuiltIn (codes "Long") t c.put_own.new.table c.put_own-2.new.table) long_view c.in_ok-put_own-2.ensures.built_in)
    (subst (λ t. IsBuiltIn (codes "Bool") t c.put_own-2.new.table c.put_own-3.new.table) boolean_view c.in_ok-put_own-3.ensures.built_in)
