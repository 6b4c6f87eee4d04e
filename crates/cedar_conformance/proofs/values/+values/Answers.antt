-- By the walk along attributes and fields (Walking).
use Rattle.std.proofs.Common.{◌≡◌, sym, ◌∙◌, subst, arith, Bor, Global, Some, None}
use Rattle.std.specs.declared.rc.RcStr.{RcStr}
use Rattle.std.specs.Option.{option_map}
use Rattle.cedar_schema.specs.Types.{named_views, attribute_view}
use Rattle.cedar_typing.specs.Deciding.{is_value_of}
use Rattle.cedar_values.specs.declared.values.Value.{Value}
use Rattle.cedar_restricted.proofs.Rising.{texts_rise}
use Rattle.cedar_conformance.specs.Walks.{left_of, value_there}
use Rattle.cedar_restricted.proofs.Writing.{member_weighs_less}
use Rattle.cedar_conformance.proofs.Walking.{Attributes, Walks, begins, names_rise, takes, refuses, passes, misses, lighter, of_record}
use Rattle.cedar_conformance.proofs.values.+values.Goals as goal

pub has_type-returns-in-Record-value_kind : goal.has_type-returns-in-Record-value_kind
has_type-returns-in-Record-value_kind t c =
    c.have_attributes.ensures
    ∙ of_record c.args.schema_type.now c.args.value.now c.in-Record.attributes c.value_kind.result.now c.in-Record-value_kind.fields c.deref-in-Record-value_kind-2.result.now c.deref-in-Record-value_kind.result.now
    c.in-Record.is c.in-Record-value_kind.is c.value_kind.ensures c.deref-in-Record-value_kind-2.ensures c.deref-in-Record-value_kind.ensures

pub have_type-has_type-requires : goal.have_type-has_type-requires
have_type-has_type-requires t c =
    let lighter = member_weighs_less c.args.values.now c.loop-value.value-index c.value-item.result c.loop-value-test.true c.value-item.is in
    (omega (arith, lighter, c.decreases), tt)

pub have_attributes-loop-name-init : goal.have_attributes-loop-name-init
have_attributes-loop-name-init t c =
    let all = c.into_iter-name-iterator.ensures.into_iter_gives in
    let left = left_of (option_map (λ (e : Bor (RcStr Global) × Bor Value). (e.0.now, e.1.now)) c.next_field-ahead.result) c.next_field-ahead.new.fields in
    (tt, tt, subst (λ (x : Attributes). Walks (named_views c.args.attributes.now.entries) c.args.fields.now.entries (named_views x) left) (sym all.0) (begins (named_views c.args.attributes.now.entries) c.args.fields.now.entries left (sym c.iter-behind.ensures.rest ∙ c.next_field-ahead.ensures) (names_rise c.args.attributes.now.entries all.5) (texts_rise c.args.fields.now.entries c.iter-behind.ensures.ordered)))

pub have_attributes-is_declared_so-requires : goal.have_attributes-is_declared_so-requires
have_attributes-is_declared_so-requires t c =
    let as_ = named_views c.args.attributes.now.entries in
    let es = c.args.fields.now.entries in
    let n = c.in-Some.name.now in
    let f = attribute_view c.in-Some.attribute.now in
    let rest = named_views c.next.new.self in
    let o = option_map (λ (e : Bor (RcStr Global) × Bor Value). (e.0.now, e.1.now)) c.loop-name.ahead in
    let behind = c.loop-name.behind in
    let w = subst (λ (x : Attributes). Walks as_ es (named_views x) (left_of o behind)) c.in-Some.ensures.steps c.loop-name.invariant.2 in
    let there : Some c.in-Some-value_at.value.now ≡ value_there n o = c.in-Some-value_at.ensures in
    let less = lighter as_ es n f rest o behind c.in-Some-value_at.value.now w there in
    (omega (arith, less, c.decreases), tt)

pub have_attributes-returns-then-not-is_declared_so : goal.have_attributes-returns-then-not-is_declared_so
have_attributes-returns-then-not-is_declared_so t c =
    let as_ = named_views c.args.attributes.now.entries in
    let es = c.args.fields.now.entries in
    let n = c.in-Some.name.now in
    let f = attribute_view c.in-Some.attribute.now in
    let rest = named_views c.next.new.self in
    let o = option_map (λ (e : Bor (RcStr Global) × Bor Value). (e.0.now, e.1.now)) c.loop-name.ahead in
    let behind = c.loop-name.behind in
    let w = subst (λ (x : Attributes). Walks as_ es (named_views x) (left_of o behind)) c.in-Some.ensures.steps c.loop-name.invariant.2 in
    let there : Some c.in-Some-value_at.value.now ≡ value_there n o = c.in-Some-value_at.ensures in
    refuses as_ es n f rest o behind c.in-Some-value_at.value.now w there (sym c.is_declared_so.ensures ∙ c.if-not-is_declared_so.true)

pub have_attributes-loop-name-preserved-in-Some-value_at : goal.have_attributes-loop-name-preserved-in-Some-value_at
have_attributes-loop-name-preserved-in-Some-value_at t c =
    let as_ = named_views c.args.attributes.now.entries in
    let es = c.args.fields.now.entries in
    let n = c.in-Some.name.now in
    let f = attribute_view c.in-Some.attribute.now in
    let rest = named_views c.next.new.self in
    let o = option_map (λ (e : Bor (RcStr Global) × Bor Value). (e.0.now, e.1.now)) c.loop-name.ahead in
    let behind = c.loop-name.behind in
    let w = subst (λ (x : Attributes). Walks as_ es (named_views x) (left_of o behind)) c.in-Some.ensures.steps c.loop-name.invariant.2 in
    let there : Some c.in-Some-value_at.value.now ≡ value_there n o = c.in-Some-value_at.ensures in
    (tt, tt, takes as_ es n f rest o behind c.in-Some-value_at.value.now _ w there (sym c.is_declared_so.ensures ∙ c.if-not-is_declared_so.false) c.next_field-ahead-in-Some-value_at.ensures)

pub have_attributes-returns-then-not-may_be_missing : goal.have_attributes-returns-then-not-may_be_missing
have_attributes-returns-then-not-may_be_missing t c =
    let as_ = named_views c.args.attributes.now.entries in
    let es = c.args.fields.now.entries in
    let n = c.in-Some.name.now in
    let f = attribute_view c.in-Some.attribute.now in
    let rest = named_views c.next.new.self in
    let o = option_map (λ (e : Bor (RcStr Global) × Bor Value). (e.0.now, e.1.now)) c.loop-name.ahead in
    let behind = c.loop-name.behind in
    let w = subst (λ (x : Attributes). Walks as_ es (named_views x) (left_of o behind)) c.in-Some.ensures.steps c.loop-name.invariant.2 in
    let there : None ≡ value_there n o = c.in-None-value_at.ensures in
    misses as_ es n f rest o behind w there (sym (c.may_be_missing.ensures (is_value_of f.type)) ∙ c.if-not-may_be_missing.true)

pub have_attributes-loop-name-preserved : goal.have_attributes-loop-name-preserved
have_attributes-loop-name-preserved t c =
    let as_ = named_views c.args.attributes.now.entries in
    let es = c.args.fields.now.entries in
    let n = c.in-Some.name.now in
    let f = attribute_view c.in-Some.attribute.now in
    let rest = named_views c.next.new.self in
    let o = option_map (λ (e : Bor (RcStr Global) × Bor Value). (e.0.now, e.1.now)) c.loop-name.ahead in
    let behind = c.loop-name.behind in
    let w = subst (λ (x : Attributes). Walks as_ es (named_views x) (left_of o behind)) c.in-Some.ensures.steps c.loop-name.invariant.2 in
    let there : None ≡ value_there n o = c.in-None-value_at.ensures in
    (tt, tt, passes as_ es n f rest o behind w there (sym (c.may_be_missing.ensures (is_value_of f.type)) ∙ c.if-not-may_be_missing.false))
