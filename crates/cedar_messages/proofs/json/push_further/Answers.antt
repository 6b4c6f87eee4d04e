-- One fault more is appended.
use Rattle.std.proofs.Common.{◌≡◌, ◌∷◌, ◌++◌, ◌+◌, suc, codes, drop, sym, ap, ◌∙◌, append_assoc, arith}
use Rattle.std.proofs.Math.Seq.{drop-cons}
use Rattle.cedar_messages.specs.Json.{further_json, object}
use Rattle.cedar_messages.proofs.json.push_further.Goals as goal

pub loop-fault-preserved : goal.loop-fault-preserved
loop-fault-preserved c =
    let faults = c.args.faults.now in
    let i = c.loop-fault.fault-index in
    let fault = c.fault-item.result in
    let rest = drop (i + 1) faults in
    let old = c.loop-fault.json.items in
    let more : suc i ≡ i + 1 = omega arith in
    let split : drop i faults ≡ fault ∷ rest =
    drop-cons faults i fault c.loop-fault-test.true ∙ (ap (λ f. f ∷ drop (suc i) faults) (sym c.fault-item.is) ∙ ap (λ n. fault ∷ drop n faults) more) in
    ap (λ t. t ++ further_json rest) c.in_ok-push_behind_comma.ensures
    ∙ (append_assoc old (codes "," ++ object fault) (further_json rest) ∙ (sym (ap (λ fs. old ++ further_json fs) split) ∙ c.loop-fault.invariant))
