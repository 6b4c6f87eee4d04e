-- The faults of a type, where one is written.
use Rattle.std.proofs.Common.{refl, sym, ap, subst, Option}
use Rattle.std.specs.Prelude.{option_map}
use Rattle.std.proofs.lemmas.Result.{on_ok_weaker}
use Rattle.cedar_schema_grammar.specs.Faults.{maybe_type_faults}
use Rattle.cedar_schema_syntax.specs.View.{type_view}
use Rattle.cedar_schema_faults.specs.Telling.{Tells}
use Rattle.cedar_schema_syntax.specs.declared.types.TypeSyntax.{TypeSyntax}
use Rattle.cedar_schema_faults.proofs.Telling.{tells_nothing}
use Rattle.cedar_schema_faults.proofs.names.SchemaNames.tell_maybe_type.Goals as goal

pub returns-in-Some : goal.returns-in-Some
returns-in-Some c = on_ok_weaker c.tell_type.result
    (λ e. subst (λ (o : Option TypeSyntax). Tells c.args.self.now c.args.told.now c.tell_type.new.told (λ d l. maybe_type_faults d l c.args.namespace.now
    (option_map type_view o)))
    (sym c.in-Some.is) e)
    c.tell_type.ensures

pub returns-in-None : goal.returns-in-None
returns-in-None c = tells_nothing c.args.self.now c.args.told.now _ (λ d l has. ap (λ (o : Option TypeSyntax). maybe_type_faults d l c.args.namespace.now
    (option_map type_view o)) c.in-None.is)
