-- The faults of its name, and of what is written of it.
use Rattle.std.proofs.Common.{◌++◌, sym, ap, ◌∙◌}
use Rattle.std.specs.Prelude.{codes}
use Rattle.std.proofs.lemmas.Result.{on_ok_weaker}
use Rattle.cedar_language.specs.Order.{same_text}
use Rattle.cedar_schema_grammar.specs.Declared.{entity_name}
use Rattle.cedar_schema_grammar.specs.Faults.{where_true, is_cedar, ActionEntityTypeDeclared, ReservedName, shadowing, body_faults}
use Rattle.cedar_schema_resolution.specs.Declarations.{entity_view}
use Rattle.cedar_schema_faults.proofs.Telling.{tells_exactly, tells_both}
use Rattle.cedar_schema_faults.proofs.names.SchemaNames.tell_entity.Goals as goal

pub returns : goal.returns
returns c = on_ok_weaker c.tell_body.result
    (λ e. let names = c.args.self.now in let x = entity_view c.args.entity.now in
    tells_both names c.args.told.now c.tell_action_type.new.told c.tell_body.new.told
    (λ d l. where_true (same_text x.own (codes "Action")) (ActionEntityTypeDeclared (entity_name x)))
    (λ d l. where_true (is_cedar x.own) (ReservedName (entity_name x)) ++ (shadowing d x.namespace x.own ++ body_faults d l x x.body))
    (tells_exactly names c.args.told.now c.tell_action_type.new.told
    (λ d l. where_true (same_text x.own (codes "Action")) (ActionEntityTypeDeclared (entity_name x))) (λ d l has. c.in_ok-tell_action_type.ensures))
    (tells_both names c.tell_action_type.new.told c.tell_reserved_entity.new.told c.tell_body.new.told
    (λ d l. where_true (is_cedar x.own) (ReservedName (entity_name x))) (λ d l. shadowing d x.namespace x.own ++ body_faults d l x x.body)
    (tells_exactly names c.tell_action_type.new.told c.tell_reserved_entity.new.told
    (λ d l. where_true (is_cedar x.own) (ReservedName (entity_name x))) (λ d l has. c.in_ok-tell_reserved_entity.ensures))
    (tells_both names c.tell_reserved_entity.new.told c.tell_shadowing.new.told c.tell_body.new.told
    (λ d l. shadowing d x.namespace x.own) (λ d l. body_faults d l x x.body) c.in_ok-tell_shadowing.ensures e)))
    c.tell_body.ensures
