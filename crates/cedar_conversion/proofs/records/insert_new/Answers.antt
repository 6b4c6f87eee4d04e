-- The map's look-up says whether the key is new, and its insertion puts the entry in the place of its key.
use Rattle.std.proofs.Common.{◌≡◌, false, sym, ap, ◌∙◌, Some}
use Rattle.std.specs.Rc.{rc_str_bytes}
use Rattle.cedar_grammar.specs.Build.{keys}
use Rattle.cedar_grammar.specs.Names.{is_among}
use Rattle.cedar_conversion.specs.Entries.{keyed}
use Rattle.cedar_conversion.proofs.Ordering.{insert_is_put, found_is_among, puts_not}
use Rattle.cedar_faults.proofs.Telling.{tells_one}
use Rattle.cedar_conversion.proofs.records.insert_new.Goals as goal

pub returns-then-contains_key-clause-put : goal.returns-then-contains_key-clause-put
returns-then-contains_key-clause-put g c =
    puts_not c.fault.result _ c.fault.ensures.fault (sym (found_is_among (rc_str_bytes c.args.key) c.args.map.now.entries) ∙ sym c.contains_key.ensures ∙ c.if-contains_key.true)

pub returns-clause-put : goal.returns-clause-put
returns-clause-put g c =
    let new : is_among (rc_str_bytes c.args.key) (keys (keyed c.args.map.now.entries)) ≡ false
    = sym (found_is_among (rc_str_bytes c.args.key) c.args.map.now.entries) ∙ sym c.contains_key.ensures ∙ c.if-contains_key.false in
    (new, ap keyed c.in_ok-insert.ensures.entries ∙ insert_is_put c.args.key c.args.expr c.args.map.now.entries new)

pub returns-then-contains_key-clause-shown : goal.returns-then-contains_key-clause-shown
returns-then-contains_key-clause-shown g c =
    tells_one _ _ c.fault.result _ c.fault.ensures.kind (sym (found_is_among (rc_str_bytes c.args.key) c.args.map.now.entries) ∙ sym c.contains_key.ensures ∙ c.if-contains_key.true, ap (λ k. Some (rc_str_bytes k)) c.new-error.ensures.key)
