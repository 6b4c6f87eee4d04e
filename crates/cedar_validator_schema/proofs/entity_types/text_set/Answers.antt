-- One more text is in the set.
use Rattle.std.proofs.Common.{◌≡◌, ◌<◌, length, take, get_or, true, cond, sym, ap, ◌∙◌, arith}
use Rattle.std.specs.Prelude.{map}
use Rattle.std.specs.List.{list_any}
use Rattle.std.specs.Rc.{rc_str_bytes}
use Rattle.std.specs.BTreeMap.{is_at}
use Rattle.std.specs.BTreeSet.{contains}
use Rattle.cedar_language.specs.Order.{same_text, text_cmp}
use Rattle.cedar_validator_schema.proofs.Cases.{higher}
use Rattle.cedar_validator_schema.proofs.Naming.{next_text}
use Rattle.cedar_validator_schema.proofs.entity_types.text_set.Goals as goal

pub loop-text-preserved : goal.loop-text-preserved
loop-text-preserved c =
    let low : c.loop-text.text-index < length c.args.texts.now = omega arith in
    let here : c.text-item.result ≡ get_or c.args.texts.now c.loop-text.text-index c.text-item.result = cc in
    let before = map rc_str_bytes (take c.loop-text.text-index c.args.texts.now) in
    record {
      all = λ s. c.in_ok-insert.ensures.updates.0 s ∙ ap (λ k. cond (is_at (text_cmp k) s) true (contains text_cmp c.loop-text.all s)) c.in_ok-copy.ensures
          ∙ next_text s (rc_str_bytes c.text-item.result) before (contains text_cmp c.loop-text.all s) (c.loop-text.invariant.all s)
          ∙ ap (list_any (same_text s)) (sym (higher rc_str_bytes c.args.texts.now c.loop-text.text-index c.text-item.result low here));
    }
