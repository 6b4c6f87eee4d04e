use Rattle.std.proofs.Common.{◌≡◌, ◌+◌, ◌-◌, ◌<◌, ◌≤◌, ◌∷◌, ◌++◌, drop, length, refl, ap, sym, ◌∙◌, subst, arith}
use Rattle.std.specs.Prelude.{string_bytes, encode_utf8}
use Rattle.std.proofs.lemmas.List.{drop_more}
use Rattle.std.proofs.lemmas.Result.{IfOk-weaker}
use Rattle.std.proofs.lemmas.Str.{IsUtf8-string_bytes}
use Rattle.json.specs.Value.{value_view, items_view}
use Rattle.cedar_json.specs.Bodies.{IsNext}
use Rattle.cedar_json.proofs.Splitting.{opened, opened_more, closes, is_long}
use Rattle.cedar_json.proofs.bodies.next_body.Goals as goal

pub items-init : goal.items-init
items-init c =
    opened c.args.limit c.args.from (items_view (drop c.args.from c.args.items.now.items)) (string_bytes c.push.new.self)
    (c.in_ok-push.ensures.bytes ∙ ap (λ s. s ++ encode_utf8 91) c.new-text.ensures.bytes)

pub returns-then-at-from-clause-long : goal.returns-then-at-from-clause-long
returns-then-at-from-clause-long c =
    let xs = c.args.items.now.items in
    let at = c.items.at in
    let x = c.index-item.result.now in
    let here : drop at xs ≡ x ∷ drop (at + 1) xs = drop_more xs at x (omega arith) ∙ ap (λ y. y ∷ drop (at + 1) xs) (sym c.index-item.ensures) in
    let long : c.args.limit - length (string_bytes c.items.text) ≤ length (string_bytes c.in_ok-one.one) =
    omega (
      arith,
      c.items.text.bytes.ok.0,
      c.in_ok-one.one.bytes.ok.0,
      c.len-in-items.ensures,
      c.len-in-items-2.ensures,
      c.saturating_sub.ensures,
      c.if-len-saturating_sub.true,
    )
    in (
      refl,
      is_long c.args.limit c.args.from at (items_view (drop c.args.from xs)) (items_view (drop at xs)) (items_view (drop (at + 1) xs)) (value_view x)
          (string_bytes c.items.text) (string_bytes c.in_ok-one.one) c.items.invariant (ap items_view here) c.if-at-from.true c.in_ok-one.ensures long,
    )

pub returns-then-len-saturating_sub-clause-body : goal.returns-then-len-saturating_sub-clause-body
returns-then-len-saturating_sub-clause-body c =
    let xs = c.args.items.now.items in
    let o = c.items.invariant in
    let onward = o.onward in
    let further : c.args.from < c.items.at = omega (arith, onward, c.if-at-from.false) in
    IfOk-weaker c.close.result _ _
    (λ x e. subst (λ at. IsNext c.args.limit (items_view (drop c.args.from xs)) (items_view (drop at xs)) (string_bytes x.0)) (sym e.1)
    (closes c.args.limit c.args.from c.items.at (items_view (drop c.args.from xs)) (items_view (drop c.items.at xs)) (string_bytes c.items.text)
    (string_bytes x.0) o further (IsUtf8-string_bytes x.0) e.0)) c.close.ensures.closed

pub items-preserved : goal.items-preserved
items-preserved c =
    let xs = c.args.items.now.items in
    let at = c.items.at in
    let x = c.index-item.result.now in
    let here : drop at xs ≡ x ∷ drop (at + 1) xs = drop_more xs at x (omega arith) ∙ ap (λ y. y ∷ drop (at + 1) xs) (sym c.index-item.ensures) in
    let short : length (string_bytes c.in_ok-one.one) < c.args.limit - length (string_bytes c.items.text) =
    omega (
      arith,
      c.items.text.bytes.ok.0,
      c.in_ok-one.one.bytes.ok.0,
      c.len-in-items.ensures,
      c.len-in-items-2.ensures,
      c.saturating_sub.ensures,
      c.if-len-saturating_sub.false,
    )
    in
    opened_more c.args.limit c.args.from at (items_view (drop c.args.from xs)) (items_view (drop at xs)) (items_view (drop (at + 1) xs)) (value_view x)
    (string_bytes c.items.text) (string_bytes c.in_ok-one.one) (string_bytes c.push_str.new.self) c.items.invariant (ap items_view here)
    c.in_ok-one.ensures (c.in_ok-push_str.ensures.bytes ∙ ap (λ s. string_bytes c.items.text ++ s) c.as_str.ensures.value) short

pub returns-clause-body : goal.returns-clause-body
returns-clause-body c =
    let xs = c.args.items.now.items in
    let further : c.args.from < c.items.at = omega arith in
    IfOk-weaker c.close-2.result _ _
    (λ x e. subst (λ at. IsNext c.args.limit (items_view (drop c.args.from xs)) (items_view (drop at xs)) (string_bytes x.0)) (sym e.1)
    (closes c.args.limit c.args.from c.items.at (items_view (drop c.args.from xs)) (items_view (drop c.items.at xs)) (string_bytes c.items.text)
    (string_bytes x.0) c.items.invariant further (IsUtf8-string_bytes x.0) e.0)) c.close-2.ensures.closed
