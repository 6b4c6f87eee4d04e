use Rattle.std.proofs.Common.{◌≡◌, true, false, map, sym, ◌∙◌, subst, arith}
use Rattle.std.specs.Prelude.{string_bytes}
use Rattle.std.proofs.lemmas.Result.{IfOk-weaker, IfErr-weaker}
use Rattle.json.specs.Value.{value_view}
use Rattle.cedar_json.specs.Bodies.{items_of}
use Rattle.cedar_json.specs.Said.{IsUnparsed}
use Rattle.cedar_json.proofs.Saying.{entities_unsaid, entities_unparsed}
use Rattle.cedar_json.proofs.Splitting.{bodies_said, bodies_within, bodies_unsplit}
use Rattle.cedar_json.specs.declared.reading.Unread.TheVariants as unread
use Rattle.cedar_json.proofs.reading.entity_texts.Goals as goal

pub returns-in-Err-Unsaid-clause-unsplit : goal.returns-in-Err-Unsaid-clause-unsplit
returns-in-Err-Unsaid-clause-unsplit c =
    entities_unparsed c.args.json.now unread.Unsaid (subst (IsUnparsed c.args.json.now) c.in-Err-Unsaid.field-0-is c.in-Err-Unsaid.ensures.unread)

pub returns-then-not-is_entities-clause-unsplit : goal.returns-then-not-is_entities-clause-unsplit
returns-then-not-is_entities-clause-unsplit c =
    let no : c.is_entities.result ≡ false = grind arith in
    entities_unsaid c.args.json.now (value_view c.in-Ok.value) c.in-Ok.ensures.read.0 (sym (c.is_entities.ensures c.in-Ok.ensures.read.1) ∙ no)

pub returns-clause-said : goal.returns-clause-said
returns-clause-said c =
    let yes : c.is_entities.result ≡ true = grind arith in
    let j = value_view c.in-Ok.value in
    IfOk-weaker c.split.result _ _
    (λ texts is. bodies_said c.args.json.now c.args.limit j (map string_bytes texts.items) c.in-Ok.ensures.read.0
    (sym (c.is_entities.ensures c.in-Ok.ensures.read.1) ∙ yes) c.holds_texts.ensures is) c.split.ensures.bodies

pub returns-clause-within : goal.returns-clause-within
returns-clause-within c =
    IfOk-weaker c.split.result _ _ (λ texts is. bodies_within c.args.limit (items_of (value_view c.in-Ok.value)) (map string_bytes texts.items) is)
    c.split.ensures.bodies

pub returns-clause-unsplit : goal.returns-clause-unsplit
returns-clause-unsplit c =
    let yes : c.is_entities.result ≡ true = grind arith in
    IfErr-weaker c.split.result _ _
    (λ e h. bodies_unsplit c.args.json.now c.args.limit (value_view c.in-Ok.value) e c.in-Ok.ensures.read.0
    (sym (c.is_entities.ensures c.in-Ok.ensures.read.1) ∙ yes) h) c.split.ensures.long
