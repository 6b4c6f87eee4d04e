-- Expressions and trees stand beside the same keys, so both are put in the same order, or a key stands twice.
use Rattle.std.proofs.Common.{◌≡◌, Some, ap, ◌∙◌, subst, inl, inr, sym}
use Rattle.cedar_grammar.specs.Steps.{◌>>=◌}
use Rattle.cedar_grammar.specs.Build.{keys, record_of}
use Rattle.cedar_grammar.specs.Converting as converting
use Rattle.cedar_grammar.specs.Converting.{record_tree}
use Rattle.cedar_faults.specs.Reasons.{reason}
use Rattle.cedar_faults.specs.Converts.{Converts}
use Rattle.cedar_conversion.specs.Entries.{keyed, meant, ordered, AreEntries, AreEntriesRefused, entries_show}
use Rattle.cedar_conversion.specs.Heads.{IsHead, IsHeadRefused}
use Rattle.cedar_conversion.proofs.Converting.{same_as, passed, failed, lacks_more, then_some, early}
use Rattle.cedar_conversion.proofs.Made.{took}
use Rattle.cedar_conversion.proofs.Ordering.{each_keys, keyed_keys, no_record, a_record, meant_in_order, built_record}
use Rattle.cedar_conversion.proofs.Refusing.{tree_head, refused_record}
use Rattle.cedar_faults.proofs.Telling.{handed_on, tells_more}
use Rattle.cedar_conversion.proofs.Told.{by_part, by_memory, lacks_none, quiet_part}
use Rattle.cedar_conversion.proofs.records.record_to_head.Goals as goal

pub returns-in_err-entries-clause-head : goal.returns-in_err-entries-clause-head
returns-in_err-entries-clause-head g c v hv =
    let o = g.B.ExprBuilder.operations in
    let m = g.B.ExprBuilder.meaning in
    let refusal = g.B.ExprBuilder.refusal in
    let e = c.in_err-entries.field-0.0 in
    passed refusal (IsHead o m) (IsHeadRefused o) c.from_residual.result e _ c.from_residual.ensures
    (failed refusal (AreEntriesRefused o) (IsHeadRefused o) (reason e) v (λ es. record_tree es >>= λ t. Some (converting.a_tree t))
    (λ es z is h. tree_head o (record_tree es) z is (λ y same. refused_record o es y same h))
    (subst (λ r. Converts (AreEntries o m) (AreEntriesRefused o) refusal r v) c.in_err-entries.was hv))

pub returns-in_err-map-clause-head : goal.returns-in_err-map-clause-head
returns-in_err-map-clause-head g c v hv =
    let o = g.B.ExprBuilder.operations in
    let m = g.B.ExprBuilder.meaning in
    let refusal = g.B.ExprBuilder.refusal in
    let h = subst (λ r. Converts (AreEntries o m) (AreEntriesRefused o) refusal r v) c.in_ok-entries.was hv in
    let ps = c.in_ok-entries.entries.items in
    let same : keys (keyed ps) ≡ keys h.value = keyed_keys m ps ∙ each_keys o (meant m ps) h.value h.stands in
    let e = c.in_err-map.field-0.0 in
    passed refusal (IsHead o m) (IsHeadRefused o) c.from_residual-in_err-map.result e _ c.from_residual-in_err-map.ensures
    (lacks_more refusal (IsHeadRefused o) (reason e) (ordered (keyed ps)) _
    (λ none. then_some v h.value (λ es. record_tree es >>= λ t. Some (converting.a_tree t)) h.is ∙ early (record_tree h.value) (λ t. Some (converting.a_tree t)) (no_record (keyed ps) h.value same none)) c.in_err-map.ensures.map)

pub returns-clause-head : goal.returns-clause-head
returns-clause-head g c v hv =
    let o = g.B.ExprBuilder.operations in
    let m = g.B.ExprBuilder.meaning in
    let refusal = g.B.ExprBuilder.refusal in
    let h = subst (λ r. Converts (AreEntries o m) (AreEntriesRefused o) refusal r v) c.in_ok-entries.was hv in
    let ps = c.in_ok-entries.entries.items in
    let same : keys (keyed ps) ≡ keys h.value = keyed_keys m ps ∙ each_keys o (meant m ps) h.value h.stands in
    let r = a_record (keyed ps) (keyed c.in_ok-map.map.entries) h.value same c.in_ok-map.ensures.map in
    let out : c.in_ok-map.map.entries ≡ c.in_ok-pairs.pairs.items = cc c.in_ok-pairs.ensures in
    let t = record_of h.value in
    same_as refusal (IsHead o m) (IsHeadRefused o) c.expr_to_head.result _ _ (then_some v h.value (λ es. record_tree es >>= λ t. Some (converting.a_tree t)) h.is ∙ then_some (record_tree h.value) t (λ t. Some (converting.a_tree t)) r.0)
    (c.expr_to_head.ensures.head (Some t) (took o m refusal c.taken.result _ t (built_record o (meant m ps) h.value h.stands ∙ ap o.record_of (meant_in_order m ps c.in_ok-map.map.entries r.1 ∙ ap (meant m) out)) (c.taken.ensures.taken _ c.record.ensures)))

pub returns-in_err-entries-clause-shown : goal.returns-in_err-entries-clause-shown
returns-in_err-entries-clause-shown g c =
    by_part c.from_residual.result c.args.entries c.in_err-entries.field-0.0 _ c.from_residual.ensures c.in_err-entries.was (λ k t. inl t)

pub returns-in_err-map-clause-shown : goal.returns-in_err-map-clause-shown
returns-in_err-map-clause-shown g c =
    handed_on c.from_residual-in_err-map.result c.in_err-map.field-0.0 _ c.from_residual-in_err-map.ensures (tells_more _ _ _ (λ k s. inr (subst (λ es. entries_show es k) (sym c.in_ok-entries.was) s)) c.in_err-map.ensures.shown)

pub returns-in_err-pairs-clause-shown : goal.returns-in_err-pairs-clause-shown
returns-in_err-pairs-clause-shown g c =
    handed_on c.from_residual-in_err-pairs.result c.in_err-pairs.field-0.0 _ c.from_residual-in_err-pairs.ensures (lacks_none _ _ _ c.in_err-pairs.ensures)

pub returns-in_err-builder-clause-shown : goal.returns-in_err-builder-clause-shown
returns-in_err-builder-clause-shown g c =
    by_memory c.from_residual-in_err-builder.result c.in_err-builder.field-0.0 _ c.from_residual-in_err-builder.ensures c.in_err-builder.ensures

pub returns-clause-shown : goal.returns-clause-shown
returns-clause-shown g c =
    quiet_part c.expr_to_head.result c.taken.result _ c.expr_to_head.ensures.shown c.taken.ensures.shown
