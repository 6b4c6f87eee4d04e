-- One more has its key.
use Rattle.std.proofs.Common.{◌≡◌, ◌<◌, ◌≤◌, length, get_or, arith, sym, ap, subst}
use Rattle.std.specs.Prelude.{map}
use Rattle.std.proofs.lemmas.List.{take_all}
use Rattle.cedar_schema_grammar.specs.Faults as grammar
use Rattle.cedar_schema_syntax.specs.View.{attribute_view, Written}
use Rattle.cedar_schema_syntax.proofs.Views.{parts_view}
use Rattle.cedar_schema_faults.specs.Repeats.{AddsKey}
use Rattle.cedar_schema_faults.specs.Repeats.{HaveKeys}
use Rattle.cedar_schema_faults.proofs.Keying.{one_more_keyed}
use Rattle.cedar_schema_faults.proofs.duplicates.keyed_attributes.Goals as goal

pub loop-attribute-preserved : goal.loop-attribute-preserved
loop-attribute-preserved c =
    let low : c.loop-attribute.attribute-index < length c.args.attributes.now = omega arith in
    let here : c.attribute-item.result ≡ get_or c.args.attributes.now c.loop-attribute.attribute-index c.attribute-item.result = cc in
    record {
      keys = one_more_keyed grammar.DuplicateAttribute attribute_view (λ (w : Written). w.name) c.args.attributes.now c.loop-attribute.attribute-index
          c.attribute-item.result c.loop-attribute.keyed.items
          c.key_attribute.new.keyed.items low here c.loop-attribute.invariant.keys (subst (λ k. AddsKey grammar.DuplicateAttribute k
          c.loop-attribute.keyed.items c.key_attribute.new.keyed.items) (sym (ap (λ (w : Written). w.name) (parts_view c.attribute-item.result)))
          c.in_ok-key_attribute.ensures);
    }

pub returns : goal.returns
returns c =
    let past : length c.args.attributes.now ≤ c.loop-attribute.attribute-index = omega arith in
    subst (λ xs. HaveKeys grammar.DuplicateAttribute (map (λ (w : Written). w.name) (map attribute_view xs)) c.loop-attribute.keyed.items) (take_all
    c.loop-attribute.attribute-index c.args.attributes.now past)
    c.loop-attribute.invariant.keys
