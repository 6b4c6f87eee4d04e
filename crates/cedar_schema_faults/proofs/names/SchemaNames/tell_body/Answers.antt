-- The faults of the parts that are written.
use Rattle.std.proofs.Common.{sym, ap, ◌∙◌}
use Rattle.std.specs.Prelude.{map}
use Rattle.std.specs.Rc.{rc_str_bytes}
use Rattle.std.proofs.lemmas.Result.{on_ok_weaker}
use Rattle.cedar_schema_grammar.specs.Faults.{body_faults}
use Rattle.cedar_schema_syntax.specs.View as syntax
use Rattle.cedar_schema_resolution.specs.Declarations.{body_view, entity_view}
use Rattle.cedar_schema_resolution.specs.declared.declarations.EntityBody.TheVariants as bodies
use Rattle.cedar_schema_faults.proofs.Telling.{tells_exactly, tells_same}
use Rattle.cedar_schema_faults.proofs.Declaring.{told_shape}
use Rattle.cedar_schema_faults.proofs.names.SchemaNames.tell_body.Goals as goal

pub returns-in_ok-tell_record-in-Shaped : goal.returns-in_ok-tell_record-in-Shaped
returns-in_ok-tell_record-in-Shaped c = on_ok_weaker c.tell_maybe_type.result
    (λ e. told_shape c.args.self.now c.args.told.now c.tell_undefined_entities.new.told c.tell_record.new.told c.tell_maybe_type.new.told (entity_view
    c.args.entity.now)
    (syntax.entity_view c.in-Shaped.written.now) c.words-namespace.result.now (syntax.paths_view c.deref.result.now) (syntax.attributes_view
    c.deref-in-Shaped.result.now)
    (ap body_view c.in-Shaped.is) c.words-namespace.ensures (ap syntax.paths_view c.deref.ensures.value) (ap syntax.attributes_view
    c.deref-in-Shaped.ensures.value)
    c.in_ok-tell_undefined_entities-in-Shaped.ensures c.in_ok-tell_record-in-Shaped.ensures e)
    c.tell_maybe_type.ensures

pub returns-in-Listed : goal.returns-in-Listed
returns-in-Listed c = on_ok_weaker c.tell_empty_enum.result
    (λ e. tells_same c.args.self.now c.args.told.now c.tell_empty_enum.new.told
    (λ d l. body_faults d l (entity_view c.args.entity.now) (body_view (bodies.Listed c.in-Listed.listed)))
    (λ d l. body_faults d l (entity_view c.args.entity.now) (body_view c.args.entity.now.body))
    (λ d l. ap (λ b. body_faults d l (entity_view c.args.entity.now) (body_view b)) (sym c.in-Listed.is))
    (tells_exactly c.args.self.now c.args.told.now c.tell_empty_enum.new.told
    (λ d l. body_faults d l (entity_view c.args.entity.now) (body_view (bodies.Listed c.in-Listed.listed))) (λ d l has. e)))
    c.tell_empty_enum.ensures
