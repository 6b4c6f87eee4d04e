-- Each part is written behind those before it.
use Rattle.std.proofs.Common.{◌≡◌, ◌+◌, true, false, cond, [], ◌∷◌, ◌++◌, length, drop, ap, sym, ◌∙◌, append-nil, arith}
use Rattle.std.specs.Prelude.{codes, string_bytes, encode_utf8_all}
use Rattle.std.proofs.lemmas.List.{drop_more}
use Rattle.json.specs.Json.{array, object}
use Rattle.json.specs.Value.{value_view, items_view, members_view}
use Rattle.json.proofs.Trees.{view-Array, view-Object}
use Rattle.cedar_grammar.specs.Names.{is_text}
use Rattle.cedar_json.specs.Parts.{arguments_in}
use Rattle.cedar_json.specs.Written.{written, items_written, members_written, name_written, list_written, call_written, uid_written}
use Rattle.cedar_json.proofs.Appending.{pushed, grown, on_grown, on_pushed, on_same, on_closed, item_step, entry_step, none_left}
use Rattle.cedar_json.proofs.Taken.{one_is, two_are, not_two_call, many_written, one_written, call_is, entity_written_is, call_written_is}
use Rattle.cedar_json.proofs.writing.+write.Goals as goal
use Rattle.cedar_json.proofs.writing.+write.Goals.{write_object-then-len-eq1+else-eq+else-eq-2, write_object-else-len-eq1}

pub write_arguments-returns-then-eq : goal.write_arguments-returns-then-eq
write_arguments-returns-then-eq t c =
    let a = string_bytes c.args.out.now in
    let b = string_bytes c.push.new.self in
    let d = string_bytes c.write_value.new.out in
    let e = string_bytes c.push-then-eq.new.self in
    let j = value_view c.args.value.now in
    let same : is_text c.args.key.now (codes "arg") ≡ true = grind arith in
    let both = grown a b d (40 ∷ []) (written j) (pushed a b 40 c.in_ok-push.ensures.bytes) c.in_ok-write_value.ensures in
    on_same c.push-then-eq.result a e (40 ∷ (written j ++ 41 ∷ [])) (arguments_in c.args.key.now j)
    (ap (λ x. 40 ∷ cond x (written j ++ 41 ∷ []) (list_written j)) (sym same))
    (on_grown c.push-then-eq.result a d e (40 ∷ written j) (41 ∷ []) both (on_pushed c.push-then-eq.result d e 41 c.push-then-eq.ensures.bytes))

pub write_arguments-returns-in-Array : goal.write_arguments-returns-in-Array
write_arguments-returns-in-Array t c =
    let a = string_bytes c.args.out.now in
    let b = string_bytes c.push.new.self in
    let e = string_bytes c.write_items.new.out in
    let j = value_view c.args.value.now in
    let js = items_view c.in-Array.items.items in
    let seen : j ≡ array js = ap value_view c.in-Array.is ∙ view-Array c.in-Array.items in
    let other : is_text c.args.key.now (codes "arg") ≡ false = grind arith in
    on_same c.write_items.result a e (40 ∷ items_written 41 js) (arguments_in c.args.key.now j)
    (ap (λ i. 40 ∷ list_written i) (sym seen) ∙ ap (λ x. 40 ∷ cond x (written j ++ 41 ∷ []) (list_written j)) (sym other))
    (on_grown c.write_items.result a b e (40 ∷ []) (items_written 41 js) (pushed a b 40 c.in_ok-push.ensures.bytes) c.write_items.ensures)

pub write_call-returns-then-len-ne2 : goal.write_call-returns-then-len-ne2
write_call-returns-then-len-ne2 t c =
    let a = string_bytes c.args.out.now in
    let ms = c.in-Object.members.items in
    let seen : value_view c.args.value.now ≡ object (members_view ms) = ap value_view c.in-Object.is ∙ view-Object c.in-Object.members in
    let other : length ms ≡ 2 → ⊥ = λ two. absurd (omega arith) in
    sym (append-nil a) ∙ ap (λ cs. a ++ encode_utf8_all cs) (sym (ap call_written seen ∙ not_two_call ms other))

pub write_call-returns-in_ok-write_name : goal.write_call-returns-in_ok-write_name
write_call-returns-in_ok-write_name t c =
    let a = string_bytes c.args.out.now in
    let b = string_bytes c.write_name.new.out in
    let e = string_bytes c.write_arguments.new.out in
    let ms = c.in-Object.members.items in
    let m = c.index.result.now in
    let n = c.index-2.result.now in
    let seen : value_view c.args.value.now ≡ object (members_view ms) = ap value_view c.in-Object.is ∙ view-Object c.in-Object.members in
    let two : length ms ≡ 2 = omega arith in
    let are : ms ≡ m ∷ n ∷ [] = two_are ms m n two c.index.ensures c.index-2.ensures in
    let same : is_text m.0.now (codes "fn") ≡ true = grind arith in
    let name = name_written (value_view m.1) in
    let rest = arguments_in n.0.now (value_view n.1) in
    on_same c.write_arguments.result a e (name ++ rest) (call_written (value_view c.args.value.now)) (sym (ap call_written seen ∙ call_is ms m n true are same))
    (on_grown c.write_arguments.result a b e name rest c.in_ok-write_name.ensures c.write_arguments.ensures)

pub write_call-returns-in_ok-write_name-2 : goal.write_call-returns-in_ok-write_name-2
write_call-returns-in_ok-write_name-2 t c =
    let a = string_bytes c.args.out.now in
    let b = string_bytes c.write_name-else-eq.new.out in
    let e = string_bytes c.write_arguments-else-eq.new.out in
    let ms = c.in-Object.members.items in
    let m = c.index.result.now in
    let n = c.index-2.result.now in
    let seen : value_view c.args.value.now ≡ object (members_view ms) = ap value_view c.in-Object.is ∙ view-Object c.in-Object.members in
    let two : length ms ≡ 2 = omega arith in
    let are : ms ≡ m ∷ n ∷ [] = two_are ms m n two c.index.ensures c.index-2.ensures in
    let other : is_text m.0.now (codes "fn") ≡ false = grind arith in
    let name = name_written (value_view n.1) in
    let rest = arguments_in m.0.now (value_view m.1) in
    on_same c.write_arguments-else-eq.result a e (name ++ rest) (call_written (value_view c.args.value.now))
    (sym (ap call_written seen ∙ call_is ms m n false are other))
    (on_grown c.write_arguments-else-eq.result a b e name rest c.in_ok-write_name-2.ensures c.write_arguments-else-eq.ensures)

pub write_object-returns-then-eq : goal.write_object-returns-then-eq
write_object-returns-then-eq t c =
    let ms = c.args.members.now.items in
    let m = c.index-member.result.now in
    let one : length ms ≡ 1 = omega arith in
    let is : ms ≡ m ∷ [] = one_is ms m one c.index-member.ensures in
    let same : is_text m.0.now (codes "__entity") ≡ true = grind arith in
    on_same c.write_uid.result (string_bytes c.args.out.now) (string_bytes c.write_uid.new.out) (uid_written (value_view m.1))
    (written (object (members_view ms)))
    (sym (entity_written_is ms m is same)) c.write_uid.ensures

pub write_object-returns-then-eq-2 : goal.write_object-returns-then-eq-2
write_object-returns-then-eq-2 t c =
    let ms = c.args.members.now.items in
    let m = c.index-member.result.now in
    let one : length ms ≡ 1 = omega arith in
    let is : ms ≡ m ∷ [] = one_is ms m one c.index-member.ensures in
    let other : is_text m.0.now (codes "__entity") ≡ false = grind arith in
    let same : is_text m.0.now (codes "__extn") ≡ true = grind arith in
    on_same c.write_call.result (string_bytes c.args.out.now) (string_bytes c.write_call.new.out) (call_written (value_view m.1))
    (written (object (members_view ms)))
    (sym (call_written_is ms m is other same)) c.write_call.ensures

pub write_object-returns : goal.write_object-returns
write_object-returns t c =
    let ms = c.args.members.now.items in
    let a = string_bytes c.args.out.now in
    let b = string_bytes c.push.new.self in
    let e = string_bytes c.write_members.new.out in
    let plain : written (object (members_view ms)) ≡ 123 ∷ members_written (members_view ms) =
    elim c.if-len-eq1.branch [
      | write_object-then-len-eq1+else-eq+else-eq-2 w ↦
          let m = w.index-member.result.now in
          let one : length ms ≡ 1 = omega arith in
          let is : ms ≡ m ∷ [] = one_is ms m one w.index-member.ensures in
          let other : is_text m.0.now (codes "__entity") ≡ false = grind arith in
          let third : is_text m.0.now (codes "__extn") ≡ false = grind arith in
          one_written ms m is other third
      | write_object-else-len-eq1 w ↦ let other : length ms ≡ 1 → ⊥ = λ one. absurd (omega arith) in many_written ms other
    ] in
    on_same c.write_members.result a e (123 ∷ members_written (members_view ms)) (written (object (members_view ms))) (sym plain)
    (on_grown c.write_members.result a b e (123 ∷ []) (members_written (members_view ms)) (pushed a b 123 c.in_ok-push.ensures.bytes) c.write_members.ensures)

pub write_value-returns-in_ok-push-in-Array : goal.write_value-returns-in_ok-push-in-Array
write_value-returns-in_ok-push-in-Array t c =
    let a = string_bytes c.args.out.now in
    let b = string_bytes c.push.new.self in
    let e = string_bytes c.write_items.new.out in
    let js = items_view c.in-Array.items.items in
    let seen : value_view c.args.value.now ≡ array js = ap value_view c.in-Array.is ∙ view-Array c.in-Array.items in
    on_same c.write_items.result a e (91 ∷ items_written 93 js) (written (value_view c.args.value.now)) (ap written (sym seen))
    (on_grown c.write_items.result a b e (91 ∷ []) (items_written 93 js) (pushed a b 91 c.in_ok-push-in-Array.ensures.bytes) c.write_items.ensures)

pub write_items-returns : goal.write_items-returns
write_items-returns t c =
    let xs = c.deref-item-items.result.now in
    let i = c.loop-item.item-index in
    let close = c.args.close in
    let a = string_bytes c.args.out.now in
    let none : drop i xs ≡ [] = none_left xs i (omega arith) in
    let whole = a ++ encode_utf8_all (items_written close (items_view c.args.items.now.items)) in
    on_closed c.push-2.result (string_bytes c.loop-item.out) (string_bytes c.push-2.new.self) whole close (items_written close (items_view (drop i xs)))
    (ap (λ ys. items_written close (items_view ys)) none)
    (c.loop-item.invariant ∙ ap (λ ys. a ++ encode_utf8_all (items_written close (items_view ys))) c.deref-item-items.ensures.value)
    c.push-2.ensures.bytes

pub write_items-loop-item-preserved : goal.write_items-loop-item-preserved
write_items-loop-item-preserved t c =
    let l = c.loop-item in
    let xs = c.deref-item-items.result.now in
    let x = c.item-item.result in
    let close = c.args.close in
    let here : drop l.item-index xs ≡ x ∷ drop (l.item-index + 1) xs = drop_more xs l.item-index x (omega arith)
    ∙ ap (λ y. y ∷ drop (l.item-index + 1) xs) (sym c.item-item.is) in
    item_step (string_bytes l.out) (string_bytes c.write_value.new.out) (string_bytes c.push.new.self) (written (value_view x))
    (items_written close (items_view (drop (l.item-index + 1) xs))) _ 44
    c.in_ok-write_value.ensures c.in_ok-push.ensures.bytes
    (ap (λ ys. string_bytes l.out ++ encode_utf8_all (items_written close (items_view ys))) (sym here) ∙ l.invariant)

pub write_members-returns : goal.write_members-returns
write_members-returns t c =
    let xs = c.deref-member-items.result.now in
    let i = c.loop-member.member-index in
    let a = string_bytes c.args.out.now in
    let none : drop i xs ≡ [] = none_left xs i (omega arith) in
    let whole = a ++ encode_utf8_all (members_written (members_view c.args.members.now.items)) in
    on_closed c.push-2.result (string_bytes c.loop-member.out) (string_bytes c.push-2.new.self) whole 125 (members_written (members_view (drop i xs)))
    (ap (λ ys. members_written (members_view ys)) none)
    (c.loop-member.invariant ∙ ap (λ ys. a ++ encode_utf8_all (members_written (members_view ys))) c.deref-member-items.ensures.value)
    c.push-2.ensures.bytes

pub write_members-loop-member-preserved : goal.write_members-loop-member-preserved
write_members-loop-member-preserved t c =
    let l = c.loop-member in
    let xs = c.deref-member-items.result.now in
    let x = c.member-item.result in
    let here : drop l.member-index xs ≡ x ∷ drop (l.member-index + 1) xs = drop_more xs l.member-index x (omega arith)
    ∙ ap (λ y. y ∷ drop (l.member-index + 1) xs) (sym c.member-item.is) in
    entry_step (string_bytes l.out) (string_bytes c.write_key.new.out) (string_bytes c.write_value.new.out) (string_bytes c.push.new.self) x.0.now
    (written (value_view x.1))
    (members_written (members_view (drop (l.member-index + 1) xs))) _
    c.in_ok-write_key.ensures c.in_ok-write_value.ensures c.in_ok-push.ensures.bytes
    (ap (λ ys. string_bytes l.out ++ encode_utf8_all (members_written (members_view ys))) (sym here) ∙ l.invariant)
