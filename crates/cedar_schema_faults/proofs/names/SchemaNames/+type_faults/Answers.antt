-- The faults of a type are those of its parts.
use Rattle.std.proofs.Common.{◌≡◌, ◌<◌, ◌≤◌, length, get_or, arith, refl}
use Rattle.std.proofs.lemmas.Result.{on_ok_weaker}
use Rattle.cedar_schema_grammar.specs.Faults.{attribute_faults}
use Rattle.cedar_schema_syntax.specs.View.{attribute_view, attributes_of}
use Rattle.cedar_schema_faults.proofs.Telling.{tells_nothing, tells_one_more, tells_all}
use Rattle.cedar_schema_faults.proofs.Typing.{told_named, told_set, told_record, record_told, attribute_parts, told_attribute}
use Rattle.cedar_schema_faults.proofs.names.SchemaNames.+type_faults.Goals as goal

pub tell_type-returns-in-Named : goal.tell_type-returns-in-Named
tell_type-returns-in-Named t c = on_ok_weaker c.tell_undefined.result
    (λ e. told_named c.args.self.now c.args.namespace.now c.args.written.now c.args.told.now c.tell_undefined.new.told c.in-Named.path c.in-Named.is e)
    c.tell_undefined.ensures

pub tell_type-returns-in_ok-tell_duplicate_attributes-in-Record : goal.tell_type-returns-in_ok-tell_duplicate_attributes-in-Record
tell_type-returns-in_ok-tell_duplicate_attributes-in-Record t c = on_ok_weaker c.tell_attributes.result
    (λ e. told_record c.args.self.now c.args.namespace.now c.args.written.now c.args.told.now c.tell_attributes.new.told c.in-Record.attributes c.in-Record.is
    (record_told c.args.self.now c.args.namespace.now c.args.told.now c.tell_duplicate_attributes.new.told c.tell_attributes.new.told
    c.in-Record.attributes.items c.deref-in-Record.result.now c.deref-in-Record-2.result.now c.deref-in-Record.ensures.value c.deref-in-Record-2.ensures.value
    c.in_ok-tell_duplicate_attributes-in-Record.ensures e))
    c.tell_attributes.ensures

pub tell_attributes-loop-attribute-init : goal.tell_attributes-loop-attribute-init
tell_attributes-loop-attribute-init t c = record {
  far = tells_nothing c.args.self.now c.args.told.now _ (λ d l has. refl);
}

pub tell_attributes-loop-attribute-preserved : goal.tell_attributes-loop-attribute-preserved
tell_attributes-loop-attribute-preserved t c =
    let low : c.loop-attribute.attribute-index < length c.args.attributes.now = omega arith in
    let here : c.attribute-item.result ≡ get_or c.args.attributes.now c.loop-attribute.attribute-index c.attribute-item.result = cc in
    record {
      far = tells_one_more c.args.self.now attribute_view (λ d l ws. attribute_faults d l c.args.namespace.now (attributes_of ws))
          (attribute_parts c.args.self.now c.args.namespace.now) c.args.attributes.now c.loop-attribute.attribute-index c.attribute-item.result
          c.args.told.now c.loop-attribute.told c.tell_type.new.told low here c.loop-attribute.invariant.far
          (told_attribute c.args.self.now c.args.namespace.now c.attribute-item.result c.loop-attribute.told c.tell_type.new.told c.in_ok-tell_type.ensures);
    }

pub tell_attributes-returns : goal.tell_attributes-returns
tell_attributes-returns t c =
    let past : length c.args.attributes.now ≤ c.loop-attribute.attribute-index = omega arith in
    tells_all c.args.self.now attribute_view (λ d l ws. attribute_faults d l c.args.namespace.now (attributes_of ws))
    (attribute_parts c.args.self.now c.args.namespace.now) c.args.attributes.now c.loop-attribute.attribute-index c.args.told.now c.loop-attribute.told past
    c.loop-attribute.invariant.far
