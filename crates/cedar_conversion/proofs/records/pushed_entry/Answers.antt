-- Entries with one more at the end are built where all of them are; what refuses one refuses them together.
use Rattle.std.proofs.Common.{◌≡◌, Some, [], ◌∷◌, ◌++◌, sym, ap, ◌∙◌, subst, rules, inl, inr}
use Rattle.std.proofs.lemmas.List.{map-append}
use Rattle.std.specs.Rc.{rc_str_bytes}
use Rattle.cedar_grammar.specs.Build.{Keyed}
use Rattle.cedar_conversion.specs.Entries.{meant, AreEntries, IsEntry, EachIsBuilt, IsEntryRefused, AreEntriesRefused}
use Rattle.cedar_conversion.proofs.Converting.{passed, both_some, flat_err, flat_ok}
use Rattle.cedar_conversion.proofs.Ordering.{each_last}
use Rattle.cedar_conversion.proofs.Refusing.{entries_early, entries_last}
use Rattle.cedar_faults.specs.declared.errors.ConversionError.TheVariants as error
use Rattle.cedar_faults.proofs.Telling.{handed_on}
use Rattle.cedar_conversion.proofs.Told.{by_both}
use Rattle.cedar_conversion.proofs.records.pushed_entry.Goals as goal

pub returns-in_err-made-clause-entries : goal.returns-in_err-made-clause-entries
returns-in_err-made-clause-entries g c v w hv hw =
    let o = g.B.ExprBuilder.operations in
    let m = g.B.ExprBuilder.meaning in
    let refusal = g.B.ExprBuilder.refusal in
    let e = c.in_err-made.field-0.0 in
    passed refusal (AreEntries o m) (AreEntriesRefused o) c.from_residual.result e _ c.from_residual.ensures
    (flat_err refusal (AreEntries o m) (AreEntriesRefused o) (IsEntry o m) (IsEntryRefused o) (AreEntriesRefused o) (λ xs x. Some (xs ++ x ∷ []))
    ((λ xs x zs is h. let same : xs ++ x ∷ [] ≡ zs = cc is in subst (AreEntriesRefused o) same (entries_early o xs x h)), (λ xs x zs is h. let same : xs ++ x ∷ [] ≡ zs = cc is in subst (AreEntriesRefused o) same (entries_last o xs x h)))
    c.args.made c.args.next e v w c.in_err-made.ensures hv hw)

pub returns-clause-entries : goal.returns-clause-entries
returns-clause-entries g c v w hv hw =
    let o = g.B.ExprBuilder.operations in
    let m = g.B.ExprBuilder.meaning in
    let refusal = g.B.ExprBuilder.refusal in
    let h = flat_ok refusal (AreEntries o m) (AreEntriesRefused o) (IsEntry o m) (IsEntryRefused o) c.args.made c.args.next (c.in_ok-made.made, c.in_ok-made.next) v w c.in_ok-made.ensures hv hw in
    let p : Keyed g.B.ExprBuilder.Meaning = (rc_str_bytes c.in_ok-made.next.0, m c.in_ok-made.next.1) in
    let more : c.push.new.self.items ≡ c.in_ok-made.made.items ++ c.in_ok-made.next ∷ [] = search rules in
    let both : meant m c.push.new.self.items ≡ meant m c.in_ok-made.made.items ++ p ∷ [] = ap (meant m) more ∙ map-append (λ q. (rc_str_bytes q.0, m q.1)) c.in_ok-made.made.items (c.in_ok-made.next ∷ []) in
    record {
      value = h.0.value ++ h.1.value ∷ [];
      is = both_some v w h.0.value h.1.value (λ xs x. Some (xs ++ x ∷ [])) h.0.is h.1.is;
      stands = subst (λ ps. EachIsBuilt o ps (h.0.value ++ h.1.value ∷ [])) (sym both) (each_last o (meant m c.in_ok-made.made.items) h.0.value p h.1.value h.0.stands h.1.stands.0 h.1.stands.1);
    }

pub returns-in_err-made-clause-shown : goal.returns-in_err-made-clause-shown
returns-in_err-made-clause-shown g c =
    by_both c.from_residual.result c.args.made c.args.next c.in_err-made.field-0.0 _ c.from_residual.ensures c.in_err-made.ensures (λ k t. inl t) (λ k t. inr t)

pub returns-in_err-push-clause-shown : goal.returns-in_err-push-clause-shown
returns-in_err-push-clause-shown g c =
    handed_on c.from_residual-in_err-push.result error.Memory _ c.from_residual-in_err-push.ensures record { each = λ k told. absurd told }
