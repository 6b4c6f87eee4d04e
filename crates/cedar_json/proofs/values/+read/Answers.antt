-- Each part is a value where it is said to be one.
use Rattle.std.proofs.Common.{◌≡◌, ◌+◌, true, false, not, ◌&&◌, is_some, refl, [], ◌∷◌, length, drop, ap, sym, ◌∙◌, subst, arith}
use Rattle.std.specs.Prelude.{codes}
use Rattle.std.proofs.lemmas.List.{drop_more}
use Rattle.json.specs.Json.{array, object}
use Rattle.json.specs.Strict.{HasUniqueKeys, ItemsHaveUniqueKeys, MembersHaveUniqueKeys}
use Rattle.json.specs.Value.{value_view, items_view, members_view}
use Rattle.json.proofs.Trees.{view-Array, view-Object}
use Rattle.cedar_grammar.specs.Names.{is_text, is_among}
use Rattle.cedar_world.specs.Bodies.{and_then}
use Rattle.cedar_json.specs.Values.{record_with, entries, escapes, name_in, arguments, call_in, items_in, datum, data_of}
use Rattle.cedar_json.proofs.Appending.{none_left}
use Rattle.cedar_json.proofs.Taken.{one_is, two_are}
use Rattle.cedar_json.proofs.Sound.{sound, some_map, some_read, record_said, many_said, one_said, entity_said, call_said, unique_one, unique_first, unique_second, not_two_said, first_called, second_called, none_called, one_argument, some_arguments, no_arguments}
use Rattle.cedar_json.proofs.values.+read.Goals as goal
use Rattle.cedar_json.proofs.values.+read.Goals.{is_object-then-len-eq1+else-eq+else-eq-2, is_object-else-len-eq1}

pub is_value-returns-in-Array : goal.is_value-returns-in-Array
is_value-returns-in-Array t c =
    let js = items_view c.in-Array.items.items in
    let seen : value_view c.args.value.now ≡ array js = ap value_view c.in-Array.is ∙ view-Array c.in-Array.items in
    λ u. c.are_values.ensures (subst HasUniqueKeys seen u) ∙ sym (some_map _ (data_of js)) ∙ ap (λ j. is_some (datum j)) (sym seen)

pub is_value-returns-in-Object : goal.is_value-returns-in-Object
is_value-returns-in-Object t c =
    let ms = members_view c.in-Object.members.items in
    let seen : value_view c.args.value.now ≡ object ms = ap value_view c.in-Object.is ∙ view-Object c.in-Object.members in
    λ u. c.is_object.ensures (subst HasUniqueKeys seen u) ∙ ap (λ j. is_some (datum j)) (sym seen)

pub are_values-loop-item-init : goal.are_values-loop-item-init
are_values-loop-item-init t c = λ u. (u, refl)

pub are_values-returns-then-not-is_value : goal.are_values-returns-then-not-is_value
are_values-returns-then-not-is_value t c =
    let l = c.loop-item in
    let xs = c.deref-item-items.result.now in
    let x = c.item-item.result in
    let later = items_view (drop (l.item-index + 1) xs) in
    let here : drop l.item-index xs ≡ x ∷ drop (l.item-index + 1) xs = drop_more xs l.item-index x (omega arith)
    ∙ ap (λ y. y ∷ drop (l.item-index + 1) xs) (sym c.item-item.is) in
    let no : c.is_value.result ≡ false = grind arith in
    λ u.
    let had = l.invariant (subst (λ ys. ItemsHaveUniqueKeys (items_view ys)) (sym c.deref-item-items.ensures.value) u) in
    let mine = (subst (λ ys. ItemsHaveUniqueKeys (items_view ys)) here had.0).0 in
    sym (sym (ap (λ ys. is_some (data_of (items_view ys))) c.deref-item-items.ensures.value) ∙ sym had.1 ∙ ap (λ ys. is_some (data_of (items_view ys))) here
    ∙ some_read (datum (value_view x)) (data_of later) ∙ ap (λ b. b && is_some (data_of later)) (sym (c.is_value.ensures mine) ∙ no))

pub are_values-loop-item-preserved : goal.are_values-loop-item-preserved
are_values-loop-item-preserved t c =
    let l = c.loop-item in
    let xs = c.deref-item-items.result.now in
    let x = c.item-item.result in
    let later = items_view (drop (l.item-index + 1) xs) in
    let here : drop l.item-index xs ≡ x ∷ drop (l.item-index + 1) xs = drop_more xs l.item-index x (omega arith)
    ∙ ap (λ y. y ∷ drop (l.item-index + 1) xs) (sym c.item-item.is) in
    let yes : c.is_value.result ≡ true = grind arith in
    λ u.
    let had = l.invariant u in
    let both = subst (λ ys. ItemsHaveUniqueKeys (items_view ys)) here had.0 in (
      both.1,
      sym (ap (λ ys. is_some (data_of (items_view ys))) here ∙ some_read (datum (value_view x)) (data_of later)
          ∙ ap (λ b. b && is_some (data_of later)) (sym (c.is_value.ensures both.0) ∙ yes)) ∙ had.1,
    )

pub are_values-returns : goal.are_values-returns
are_values-returns t c =
    let l = c.loop-item in
    let xs = c.deref-item-items.result.now in
    let none : drop l.item-index xs ≡ [] = none_left xs l.item-index (omega arith) in
    λ u.
    let had = l.invariant (subst (λ ys. ItemsHaveUniqueKeys (items_view ys)) (sym c.deref-item-items.ensures.value) u) in
    sym (ap (λ ys. is_some (data_of (items_view ys))) none) ∙ had.1 ∙ ap (λ ys. is_some (data_of (items_view ys))) c.deref-item-items.ensures.value

pub is_object-returns-then-eq : goal.is_object-returns-then-eq
is_object-returns-then-eq t c =
    let ms = c.args.members.now.items in
    let m = c.index-member.result.now in
    let one : length ms ≡ 1 = omega arith in
    let is : ms ≡ m ∷ [] = one_is ms m one c.index-member.ensures in
    let same : is_text m.0.now (codes "__entity") ≡ true = grind arith in
    λ u. c.is_uid.ensures ∙ sym (entity_said ms m is same)

pub is_object-returns-then-eq-2 : goal.is_object-returns-then-eq-2
is_object-returns-then-eq-2 t c =
    let ms = c.args.members.now.items in
    let m = c.index-member.result.now in
    let one : length ms ≡ 1 = omega arith in
    let is : ms ≡ m ∷ [] = one_is ms m one c.index-member.ensures in
    let other : is_text m.0.now (codes "__entity") ≡ false = grind arith in
    let same : is_text m.0.now (codes "__extn") ≡ true = grind arith in
    λ u. c.is_call.ensures (unique_one ms m is u) ∙ ap is_some (sym (call_said ms m is other same))

pub is_object-returns : goal.is_object-returns
is_object-returns t c =
    let ms = c.args.members.now.items in
    let plain : datum (object (members_view ms)) ≡ and_then (entries (members_view ms)) record_with =
    elim c.if-len-eq1.branch [
      | is_object-then-len-eq1+else-eq+else-eq-2 w ↦
          let m = w.index-member.result.now in
          let one : length ms ≡ 1 = omega arith in
          let is : ms ≡ m ∷ [] = one_is ms m one w.index-member.ensures in
          let other : is_text m.0.now (codes "__entity") ≡ false = grind arith in
          let third : is_text m.0.now (codes "__extn") ≡ false = grind arith in
          one_said ms m is other third
      | is_object-else-len-eq1 w ↦ let other : length ms ≡ 1 → ⊥ = λ one. absurd (omega arith) in many_said ms other
    ] in
    λ u. c.are_entries.ensures u ∙ ap is_some (sym plain)

pub are_entries-loop-member-init : goal.are_entries-loop-member-init
are_entries-loop-member-init t c = λ u. (u, refl)

pub are_entries-returns-then-is_escape : goal.are_entries-returns-then-is_escape
are_entries-returns-then-is_escape t c =
    let l = c.loop-member in
    let xs = c.deref-member-items.result.now in
    let x = c.member-item.result in
    let later = members_view (drop (l.member-index + 1) xs) in
    let here : drop l.member-index xs ≡ x ∷ drop (l.member-index + 1) xs = drop_more xs l.member-index x (omega arith)
    ∙ ap (λ y. y ∷ drop (l.member-index + 1) xs) (sym c.member-item.is) in
    let yes : is_among x.0.now escapes ≡ true = sym c.is_escape.ensures ∙ grind arith in
    λ u.
    let had = l.invariant (subst (λ ys. MembersHaveUniqueKeys (members_view ys)) (sym c.deref-member-items.ensures.value) u.1) in
    sym (record_said _ u.0 ∙ sym (ap (λ ys. sound (members_view ys)) c.deref-member-items.ensures.value) ∙ sym had.1 ∙ ap (λ ys. sound (members_view ys)) here
    ∙ ap (λ b. (not b && is_some (datum (value_view x.1))) && sound later) yes)

pub are_entries-returns-then-not-is_value : goal.are_entries-returns-then-not-is_value
are_entries-returns-then-not-is_value t c =
    let l = c.loop-member in
    let xs = c.deref-member-items.result.now in
    let x = c.member-item.result in
    let later = members_view (drop (l.member-index + 1) xs) in
    let here : drop l.member-index xs ≡ x ∷ drop (l.member-index + 1) xs = drop_more xs l.member-index x (omega arith)
    ∙ ap (λ y. y ∷ drop (l.member-index + 1) xs) (sym c.member-item.is) in
    let other : is_among x.0.now escapes ≡ false = sym c.is_escape.ensures ∙ grind arith in
    let no : c.is_value.result ≡ false = grind arith in
    λ u.
    let had = l.invariant (subst (λ ys. MembersHaveUniqueKeys (members_view ys)) (sym c.deref-member-items.ensures.value) u.1) in
    let mine = (subst (λ ys. MembersHaveUniqueKeys (members_view ys)) here had.0).0 in
    sym (record_said _ u.0 ∙ sym (ap (λ ys. sound (members_view ys)) c.deref-member-items.ensures.value) ∙ sym had.1 ∙ ap (λ ys. sound (members_view ys)) here
    ∙ ap (λ b. (not b && is_some (datum (value_view x.1))) && sound later) other ∙ ap (λ b. b && sound later) (sym (c.is_value.ensures mine) ∙ no))

pub are_entries-loop-member-preserved : goal.are_entries-loop-member-preserved
are_entries-loop-member-preserved t c =
    let l = c.loop-member in
    let xs = c.deref-member-items.result.now in
    let x = c.member-item.result in
    let later = members_view (drop (l.member-index + 1) xs) in
    let here : drop l.member-index xs ≡ x ∷ drop (l.member-index + 1) xs = drop_more xs l.member-index x (omega arith)
    ∙ ap (λ y. y ∷ drop (l.member-index + 1) xs) (sym c.member-item.is) in
    let other : is_among x.0.now escapes ≡ false = sym c.is_escape.ensures ∙ grind arith in
    let yes : c.is_value.result ≡ true = grind arith in
    λ u.
    let had = l.invariant u in
    let both = subst (λ ys. MembersHaveUniqueKeys (members_view ys)) here had.0 in (
      both.1,
      sym (ap (λ ys. sound (members_view ys)) here ∙ ap (λ b. (not b && is_some (datum (value_view x.1))) && sound later) other
          ∙ ap (λ b. b && sound later) (sym (c.is_value.ensures both.0) ∙ yes)) ∙ had.1,
    )

pub are_entries-returns : goal.are_entries-returns
are_entries-returns t c =
    let l = c.loop-member in
    let xs = c.deref-member-items.result.now in
    let none : drop l.member-index xs ≡ [] = none_left xs l.member-index (omega arith) in
    λ u.
    let had = l.invariant (subst (λ ys. MembersHaveUniqueKeys (members_view ys)) (sym c.deref-member-items.ensures.value) u.1) in
    sym (record_said _ u.0 ∙ sym (ap (λ ys. sound (members_view ys)) c.deref-member-items.ensures.value) ∙ sym had.1 ∙ ap (λ ys. sound (members_view ys)) none)

pub is_call-returns-then-len-ne2 : goal.is_call-returns-then-len-ne2
is_call-returns-then-len-ne2 t c =
    let ms = c.in-Object.members.items in
    let seen : value_view c.args.value.now ≡ object (members_view ms) = ap value_view c.in-Object.is ∙ view-Object c.in-Object.members in
    let other : length ms ≡ 2 → ⊥ = λ two. absurd (omega arith) in
    λ u. sym (ap (λ j. is_some (call_in j)) seen ∙ not_two_said ms other)

pub is_call-returns-then-not-is_named : goal.is_call-returns-then-not-is_named
is_call-returns-then-not-is_named t c =
    let ms = c.in-Object.members.items in
    let m = c.index.result.now in
    let n = c.index-2.result.now in
    let seen : value_view c.args.value.now ≡ object (members_view ms) = ap value_view c.in-Object.is ∙ view-Object c.in-Object.members in
    let two : length ms ≡ 2 = omega arith in
    let are : ms ≡ m ∷ n ∷ [] = two_are ms m n two c.index.ensures c.index-2.ensures in
    let same : is_text m.0.now (codes "fn") ≡ true = grind arith in
    let no : is_some (name_in (value_view m.1)) ≡ false = sym c.is_named.ensures ∙ grind arith in
    λ u. sym (ap (λ j. is_some (call_in j)) seen ∙ first_called ms m n are same
    ∙ ap (λ b. b && is_some (arguments n.0.now (datum (value_view n.1)) (items_in (value_view n.1)))) no)

pub is_call-returns-then-eq : goal.is_call-returns-then-eq
is_call-returns-then-eq t c =
    let ms = c.in-Object.members.items in
    let m = c.index.result.now in
    let n = c.index-2.result.now in
    let seen : value_view c.args.value.now ≡ object (members_view ms) = ap value_view c.in-Object.is ∙ view-Object c.in-Object.members in
    let two : length ms ≡ 2 = omega arith in
    let are : ms ≡ m ∷ n ∷ [] = two_are ms m n two c.index.ensures c.index-2.ensures in
    let same : is_text m.0.now (codes "fn") ≡ true = grind arith in
    let yes : is_some (name_in (value_view m.1)) ≡ true = sym c.is_named.ensures ∙ grind arith in
    let rest = is_some (arguments n.0.now (datum (value_view n.1)) (items_in (value_view n.1))) in
    λ u.
    let mine = unique_second ms m n are (subst HasUniqueKeys seen u) in
    c.are_arguments.ensures mine ∙ sym (ap (λ j. is_some (call_in j)) seen ∙ first_called ms m n are same ∙ ap (λ b. b && rest) yes)

pub is_call-returns-then-ne : goal.is_call-returns-then-ne
is_call-returns-then-ne t c =
    let ms = c.in-Object.members.items in
    let m = c.index.result.now in
    let n = c.index-2.result.now in
    let seen : value_view c.args.value.now ≡ object (members_view ms) = ap value_view c.in-Object.is ∙ view-Object c.in-Object.members in
    let two : length ms ≡ 2 = omega arith in
    let are : ms ≡ m ∷ n ∷ [] = two_are ms m n two c.index.ensures c.index-2.ensures in
    let other : is_text m.0.now (codes "fn") ≡ false = grind arith in
    let third : is_text n.0.now (codes "fn") ≡ false = grind arith in
    λ u. sym (ap (λ j. is_some (call_in j)) seen ∙ none_called ms m n are other third)

pub is_call-returns-then-not-is_named-2 : goal.is_call-returns-then-not-is_named-2
is_call-returns-then-not-is_named-2 t c =
    let ms = c.in-Object.members.items in
    let m = c.index.result.now in
    let n = c.index-2.result.now in
    let seen : value_view c.args.value.now ≡ object (members_view ms) = ap value_view c.in-Object.is ∙ view-Object c.in-Object.members in
    let two : length ms ≡ 2 = omega arith in
    let are : ms ≡ m ∷ n ∷ [] = two_are ms m n two c.index.ensures c.index-2.ensures in
    let other : is_text m.0.now (codes "fn") ≡ false = grind arith in
    let same : is_text n.0.now (codes "fn") ≡ true = grind arith in
    let no : is_some (name_in (value_view n.1)) ≡ false = sym c.is_named-2.ensures ∙ grind arith in
    λ u. sym (ap (λ j. is_some (call_in j)) seen ∙ second_called ms m n are other same
    ∙ ap (λ b. b && is_some (arguments m.0.now (datum (value_view m.1)) (items_in (value_view m.1)))) no)

pub is_call-returns : goal.is_call-returns
is_call-returns t c =
    let ms = c.in-Object.members.items in
    let m = c.index.result.now in
    let n = c.index-2.result.now in
    let seen : value_view c.args.value.now ≡ object (members_view ms) = ap value_view c.in-Object.is ∙ view-Object c.in-Object.members in
    let two : length ms ≡ 2 = omega arith in
    let are : ms ≡ m ∷ n ∷ [] = two_are ms m n two c.index.ensures c.index-2.ensures in
    let other : is_text m.0.now (codes "fn") ≡ false = grind arith in
    let same : is_text n.0.now (codes "fn") ≡ true = grind arith in
    let yes : is_some (name_in (value_view n.1)) ≡ true = sym c.is_named-2.ensures ∙ grind arith in
    let rest = is_some (arguments m.0.now (datum (value_view m.1)) (items_in (value_view m.1))) in
    λ u.
    let mine = unique_first ms m n are (subst HasUniqueKeys seen u) in
    c.are_arguments-2.ensures mine ∙ sym (ap (λ j. is_some (call_in j)) seen ∙ second_called ms m n are other same ∙ ap (λ b. b && rest) yes)

pub are_arguments-returns-then-eq : goal.are_arguments-returns-then-eq
are_arguments-returns-then-eq t c =
    let j = value_view c.args.value.now in
    let same : is_text c.args.key.now (codes "arg") ≡ true = grind arith in
    λ u. c.is_value.ensures u ∙ sym (one_argument c.args.key.now (datum j) (items_in j) same)

pub are_arguments-returns-then-ne : goal.are_arguments-returns-then-ne
are_arguments-returns-then-ne t c =
    let j = value_view c.args.value.now in
    let other : is_text c.args.key.now (codes "arg") ≡ false = grind arith in
    let third : is_text c.args.key.now (codes "args") ≡ false = grind arith in
    λ u. sym (no_arguments c.args.key.now (datum j) (items_in j) other third)

pub are_arguments-returns-in-Array : goal.are_arguments-returns-in-Array
are_arguments-returns-in-Array t c =
    let j = value_view c.args.value.now in
    let js = items_view c.in-Array.items.items in
    let seen : j ≡ array js = ap value_view c.in-Array.is ∙ view-Array c.in-Array.items in
    let other : is_text c.args.key.now (codes "arg") ≡ false = grind arith in
    let same : is_text c.args.key.now (codes "args") ≡ true = grind arith in
    λ u. c.are_values.ensures (subst HasUniqueKeys seen u) ∙ ap (λ i. is_some (items_in i)) (sym seen)
    ∙ sym (some_arguments c.args.key.now (datum j) (items_in j) other same)
