-- The key tells which part the entry is of, and no such part was there.
use Rattle.std.proofs.Common.{◌∙◌, sym}
use Rattle.std.specs.Prelude.{option_map, codes}
use Rattle.cedar_language.specs.Tree.{Lit, Entity}
use Rattle.cedar_data.specs.Simple.{tree_of, record_value}
use Rattle.cedar_data.specs.Parts.{entries_with}
use Rattle.cedar_data.proofs.Asked.{action_put, context_put, principal_put, resource_put, placed, entity_entry, record_entry}
use Rattle.cedar_data.proofs.reader.Reader.part.Goals as goal

pub returns-in_ok-put_new : goal.returns-in_ok-put_new
returns-in_ok-put_new c =
    let old = c.args.parts.now in
    let act = option_map (λ u. Lit (Entity u.value)) old.action in
    let con = option_map (λ m. tree_of (record_value m.value.entries)) old.context in
    let res = option_map (λ u. Lit (Entity u.value)) old.resource in
    let uid = c.in_ok-uid.uid in
    let puts =
    placed old.principal c.put_new.new.place uid (λ u. Lit (Entity u.value)) (codes "principal") (λ x. entries_with act con x res)
    c.in_ok-put_new.ensures.new c.in_ok-put_new.ensures.put (principal_put act con res (Lit (Entity uid.value)))
    in
    entity_entry c.args.levels (codes "principal") c.in_ok-key.key.now
    c.args.self.now c.plain_key.new.self c.expect_colon.new.self c.uid.new.self c.in_ok-key.ensures
    (sym c.is_same.ensures ∙ c.if-is_same.true) c.in_ok-expect_colon.ensures uid.value _ _ c.in_ok-uid.ensures puts

pub returns-in_ok-put_new-2 : goal.returns-in_ok-put_new-2
returns-in_ok-put_new-2 c =
    let old = c.args.parts.now in
    let con = option_map (λ m. tree_of (record_value m.value.entries)) old.context in
    let pri = option_map (λ u. Lit (Entity u.value)) old.principal in
    let res = option_map (λ u. Lit (Entity u.value)) old.resource in
    let uid = c.in_ok-uid-2.uid in
    let puts =
    placed old.action c.put_new-then-is_same-2.new.place uid (λ u. Lit (Entity u.value)) (codes "action") (λ x. entries_with x con pri res)
    c.in_ok-put_new-2.ensures.new c.in_ok-put_new-2.ensures.put (action_put con pri res (Lit (Entity uid.value)))
    in
    entity_entry c.args.levels (codes "action") c.in_ok-key.key.now
    c.args.self.now c.plain_key.new.self c.expect_colon.new.self c.uid-then-is_same-2.new.self c.in_ok-key.ensures
    (sym c.is_same-else-is_same.ensures ∙ c.if-is_same-2.true) c.in_ok-expect_colon.ensures uid.value _ _ c.in_ok-uid-2.ensures puts

pub returns-in_ok-put_new-3 : goal.returns-in_ok-put_new-3
returns-in_ok-put_new-3 c =
    let old = c.args.parts.now in
    let act = option_map (λ u. Lit (Entity u.value)) old.action in
    let con = option_map (λ m. tree_of (record_value m.value.entries)) old.context in
    let pri = option_map (λ u. Lit (Entity u.value)) old.principal in
    let uid = c.in_ok-uid-3.uid in
    let puts =
    placed old.resource c.put_new-then-is_same-3.new.place uid (λ u. Lit (Entity u.value)) (codes "resource") (λ x. entries_with act con pri x)
    c.in_ok-put_new-3.ensures.new c.in_ok-put_new-3.ensures.put (resource_put act con pri (Lit (Entity uid.value)))
    in
    entity_entry c.args.levels (codes "resource") c.in_ok-key.key.now
    c.args.self.now c.plain_key.new.self c.expect_colon.new.self c.uid-then-is_same-3.new.self c.in_ok-key.ensures
    (sym c.is_same-else-is_same-2.ensures ∙ c.if-is_same-3.true) c.in_ok-expect_colon.ensures uid.value _ _ c.in_ok-uid-3.ensures puts

pub returns-in_ok-put_new-4 : goal.returns-in_ok-put_new-4
returns-in_ok-put_new-4 c =
    let old = c.args.parts.now in
    let act = option_map (λ u. Lit (Entity u.value)) old.action in
    let pri = option_map (λ u. Lit (Entity u.value)) old.principal in
    let res = option_map (λ u. Lit (Entity u.value)) old.resource in
    let made = c.in_ok-record.record in
    let written = tree_of (record_value made.value.entries) in
    let puts =
    placed old.context c.put_new-then-is_same-4.new.place made (λ m. tree_of (record_value m.value.entries)) (codes "context") (λ x. entries_with act x pri res)
    c.in_ok-put_new-4.ensures.new c.in_ok-put_new-4.ensures.put (context_put act pri res written)
    in
    record_entry c.args.levels (codes "context") c.in_ok-key.key.now
    c.args.self.now c.plain_key.new.self c.expect_colon.new.self c.simple_record.new.self c.in_ok-key.ensures
    (sym c.is_same-else-is_same-3.ensures ∙ c.if-is_same-4.true) c.in_ok-expect_colon.ensures made.value.entries _ _ c.in_ok-record.ensures puts
