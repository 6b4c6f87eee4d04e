-- A type by what it begins with; the attributes so far and those up to the closing brace are all, a comma between each two.
use Rattle.std.proofs.Common.{map, length, Some, sym, ap, ◌∙◌, arith}
use Rattle.std.proofs.lemmas.Result.{err_from_is_err_and}
use Rattle.std.proofs.lemmas.List.{map_push}
use Rattle.cedar_grammar.specs.Steps.{◌>>=◌}
use Rattle.cedar_schema_grammar.specs.Syntax.{named, a_set, a_record}
use Rattle.cedar_schema_grammar.specs.Tokens.{RightAngle, mark, eat}
use Rattle.cedar_schema_grammar.specs.Reading.{mapped, ended, path_at, type_at, attributes_at}
use Rattle.cedar_schema_syntax.specs.View.{attribute_view, type_view}
use Rattle.cedar_schema_syntax.proofs.Views.{named_view, set_view, record_view}
use Rattle.cedar_schema_text.specs.Gives.{left, bound}
use Rattle.cedar_schema_text.proofs.Positions.{left_most, fewer_after}
use Rattle.cedar_schema_text.proofs.Loops.{fails_by}
use Rattle.cedar_schema_text.proofs.AttributeLoop.{type_record, type_set_of, type_named_of, attributes_start, attributes_closed, attributes_fail, attributes_end_fails, attributes_last, attributes_more}
use Rattle.cedar_schema_text.proofs.reader.Reader.+type_syntax.Goals as goal

pub type_syntax-returns-in_err-attributes-clause-gives : goal.type_syntax-returns-in_err-attributes-clause-gives
type_syntax-returns-in_err-attributes-clause-gives t c =
    let p = err_from_is_err_and c.from_residual.result c.from_residual.ensures.1 in
    rw (p.1, p.2)
    (fails_by c.in_err-attributes.field-0.0 (attributes_at (bound c.args.self.now) (left c.args.self.now c.eat.new.at)) (type_at (bound c.args.self.now) (left c.args.self.now c.args.at.now))
    (λ i. type_record (length c.args.self.now.tokens.items) (left c.args.self.now c.args.at.now) (left_most c.args.self.now c.args.at.now) (left c.args.self.now c.eat.new.at) c.if-eat.ensures.eats ∙ ap (mapped a_record) i) c.in_err-attributes.ensures.gives)

pub type_syntax-returns-then-eat-clause-gives : goal.type_syntax-returns-then-eat-clause-gives
type_syntax-returns-then-eat-clause-gives t c =
    type_record (length c.args.self.now.tokens.items) (left c.args.self.now c.args.at.now) (left_most c.args.self.now c.args.at.now) (left c.args.self.now c.eat.new.at) c.if-eat.ensures.eats ∙ ap (mapped a_record) c.in_ok-attributes.ensures.gives
    ∙ ap (λ x. Some (x, (left c.args.self.now c.attributes.new.at))) (sym (record_view c.in_ok-attributes.attributes))

pub type_syntax-returns-in_err-element-clause-gives : goal.type_syntax-returns-in_err-element-clause-gives
type_syntax-returns-in_err-element-clause-gives t c =
    let p = err_from_is_err_and c.from_residual-in_err-element.result c.from_residual-in_err-element.ensures.1 in
    rw (p.1, p.2)
    (fails_by c.in_err-element.field-0.0 (type_at (bound c.args.self.now) (left c.args.self.now c.eat_set.new.at)) (type_at (bound c.args.self.now) (left c.args.self.now c.args.at.now))
    (λ i. type_set_of (length c.args.self.now.tokens.items) (left c.args.self.now c.args.at.now) (left_most c.args.self.now c.args.at.now) (left c.args.self.now c.eat.new.at) c.if-eat.ensures.eats (left c.args.self.now c.eat_set.new.at) c.if-eat_set.ensures.eats ∙ ap (λ r. r >>= λ x. ended (mark RightAngle) (a_set x.0) x.1) i) c.in_err-element.ensures.gives)

pub type_syntax-returns-in_err-expect-clause-gives : goal.type_syntax-returns-in_err-expect-clause-gives
type_syntax-returns-in_err-expect-clause-gives t c =
    let p = err_from_is_err_and c.from_residual-in_err-expect.result c.from_residual-in_err-expect.ensures.1 in
    rw (p.1, p.2)
    (fails_by c.in_err-expect.field-0.0 (eat (mark RightAngle) (left c.args.self.now c.type_syntax.new.at)) (type_at (bound c.args.self.now) (left c.args.self.now c.args.at.now))
    (λ i. type_set_of (length c.args.self.now.tokens.items) (left c.args.self.now c.args.at.now) (left_most c.args.self.now c.args.at.now) (left c.args.self.now c.eat.new.at) c.if-eat.ensures.eats (left c.args.self.now c.eat_set.new.at) c.if-eat_set.ensures.eats ∙ ap (λ r. r >>= λ x. ended (mark RightAngle) (a_set x.0) x.1) c.in_ok-element.ensures.gives ∙ ap (λ o. o >>= λ us. Some (a_set (type_view c.in_ok-element.element), us)) i) c.in_err-expect.ensures.leaves)

pub type_syntax-returns-then-eat_set-clause-gives : goal.type_syntax-returns-then-eat_set-clause-gives
type_syntax-returns-then-eat_set-clause-gives t c =
    type_set_of (length c.args.self.now.tokens.items) (left c.args.self.now c.args.at.now) (left_most c.args.self.now c.args.at.now) (left c.args.self.now c.eat.new.at) c.if-eat.ensures.eats (left c.args.self.now c.eat_set.new.at) c.if-eat_set.ensures.eats ∙ ap (λ r. r >>= λ x. ended (mark RightAngle) (a_set x.0) x.1) c.in_ok-element.ensures.gives
    ∙ ap (λ o. o >>= λ us. Some (a_set (type_view c.in_ok-element.element), us)) c.in_ok-expect.ensures.leaves
    ∙ ap (λ x. Some (a_set (type_view x), (left c.args.self.now c.expect.new.at))) (sym c.in_ok-boxed.ensures.ok)
    ∙ ap (λ x. Some (x, (left c.args.self.now c.expect.new.at))) (sym (set_view c.in_ok-boxed.boxed))

pub type_syntax-returns-in_err-path-clause-gives : goal.type_syntax-returns-in_err-path-clause-gives
type_syntax-returns-in_err-path-clause-gives t c =
    let p = err_from_is_err_and c.from_residual-in_err-path.result c.from_residual-in_err-path.ensures.1 in
    rw (p.1, p.2)
    (fails_by c.in_err-path.field-0.0 (path_at (bound c.args.self.now) (left c.args.self.now c.eat_set.new.at)) (type_at (bound c.args.self.now) (left c.args.self.now c.args.at.now))
    (λ i. type_named_of (length c.args.self.now.tokens.items) (left c.args.self.now c.args.at.now) (left_most c.args.self.now c.args.at.now) (left c.args.self.now c.eat.new.at) c.if-eat.ensures.eats (left c.args.self.now c.eat_set.new.at) c.if-eat_set.ensures.eats ∙ ap (mapped named) i) c.in_err-path.ensures.gives)

pub type_syntax-returns-clause-gives : goal.type_syntax-returns-clause-gives
type_syntax-returns-clause-gives t c =
    type_named_of (length c.args.self.now.tokens.items) (left c.args.self.now c.args.at.now) (left_most c.args.self.now c.args.at.now) (left c.args.self.now c.eat.new.at) c.if-eat.ensures.eats (left c.args.self.now c.eat_set.new.at) c.if-eat_set.ensures.eats ∙ ap (mapped named) c.in_ok-path.ensures.gives
    ∙ ap (λ x. Some (x, (left c.args.self.now c.path.new.at))) (sym (named_view c.in_ok-path.path))

pub attributes-attributes-init : goal.attributes-attributes-init
attributes-attributes-init t c = record {
  attributes = rw c.new-attributes.ensures.items (attributes_start (length c.args.self.now.tokens.items) (left c.args.self.now c.args.at.now) (left_most c.args.self.now c.args.at.now));
  onward = omega arith;
}

pub attributes-returns-in_err-attribute-clause-gives : goal.attributes-returns-in_err-attribute-clause-gives
attributes-returns-in_err-attribute-clause-gives t c =
    let p = err_from_is_err_and c.from_residual.result c.from_residual.ensures.1 in
    rw (p.1, p.2)
    (attributes_fail (length c.args.self.now.tokens.items) (map attribute_view c.attributes.attributes.items) (left c.args.self.now c.attributes.at) (attributes_at (bound c.args.self.now) (left c.args.self.now c.args.at.now)) c.attributes.invariant.attributes
    (left c.args.self.now c.eat.new.at) c.attributes-test.ensures.eats c.in_err-attribute.field-0.0 c.in_err-attribute.ensures.gives)

pub attributes-returns-in_err-expect-clause-gives : goal.attributes-returns-in_err-expect-clause-gives
attributes-returns-in_err-expect-clause-gives t c =
    let p = err_from_is_err_and c.from_residual-in_err-expect.result c.from_residual-in_err-expect.ensures.1 in
    rw (p.1, p.2)
    (attributes_end_fails (length c.args.self.now.tokens.items) (map attribute_view c.attributes.attributes.items) (left c.args.self.now c.attributes.at) (attributes_at (bound c.args.self.now) (left c.args.self.now c.args.at.now)) c.attributes.invariant.attributes
    (left c.args.self.now c.eat.new.at) c.attributes-test.ensures.eats (attribute_view c.in_ok-attribute.attribute) (left c.args.self.now c.attribute.new.at) c.in_ok-attribute.ensures.gives
    (left c.args.self.now c.eat-in-attributes.new.at) c.if-not-eat.ensures.eats c.in_err-expect.field-0.0 c.in_err-expect.ensures.leaves)

pub attributes-returns-then-not-eat-clause-gives : goal.attributes-returns-then-not-eat-clause-gives
attributes-returns-then-not-eat-clause-gives t c =
    rw (c.in_ok-push.ensures.items, map_push)
    (attributes_last (length c.args.self.now.tokens.items) (map attribute_view c.attributes.attributes.items) (left c.args.self.now c.attributes.at) (attributes_at (bound c.args.self.now) (left c.args.self.now c.args.at.now)) c.attributes.invariant.attributes
    (left c.args.self.now c.eat.new.at) c.attributes-test.ensures.eats (attribute_view c.in_ok-attribute.attribute) (left c.args.self.now c.attribute.new.at) c.in_ok-attribute.ensures.gives
    (left c.args.self.now c.eat-in-attributes.new.at) c.if-not-eat.ensures.eats (left c.args.self.now c.expect.new.at) c.in_ok-expect.ensures.leaves)

pub attributes-attributes-preserved : goal.attributes-attributes-preserved
attributes-attributes-preserved t c = record {
  attributes =
      rw (c.in_ok-push.ensures.items, map_push)
      (attributes_more (length c.args.self.now.tokens.items) (map attribute_view c.attributes.attributes.items) (left c.args.self.now c.attributes.at) (attributes_at (bound c.args.self.now) (left c.args.self.now c.args.at.now)) c.attributes.invariant.attributes
      (left c.args.self.now c.eat.new.at) c.attributes-test.ensures.eats (attribute_view c.in_ok-attribute.attribute) (left c.args.self.now c.attribute.new.at) c.in_ok-attribute.ensures.gives
      (left c.args.self.now c.eat-in-attributes.new.at) c.if-not-eat.ensures.eats (left_most c.args.self.now c.eat-in-attributes.new.at));
  onward = omega (arith, c.attributes.invariant.onward, c.attributes-test.ensures.onward, c.in_ok-attribute.ensures.onward, c.if-not-eat.ensures.onward);
}

pub attributes-attributes-smaller : goal.attributes-attributes-smaller
attributes-attributes-smaller t c = fewer_after c.args.self.now c.attributes.at c.attribute.new.at c.eat-in-attributes.new.at (omega (arith, c.attributes-test.ensures.onward, c.in_ok-attribute.ensures.onward)) c.if-not-eat.ensures.advances

pub attributes-returns-clause-gives : goal.attributes-returns-clause-gives
attributes-returns-clause-gives t c = attributes_closed (length c.args.self.now.tokens.items) (map attribute_view c.attributes.attributes.items) (left c.args.self.now c.attributes.at) (attributes_at (bound c.args.self.now) (left c.args.self.now c.args.at.now)) c.attributes.invariant.attributes (left c.args.self.now c.eat.new.at) c.attributes-test.ensures.eats
