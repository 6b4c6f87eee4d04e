-- Whether the key is new is what the map's look-up says, and a new key is put where the map puts it.
use Rattle.std.proofs.Common.{refl, ap, Some, sym, ◌∙◌}
use Rattle.cedar_faults.proofs.Telling.{tells_one}
use Rattle.cedar_policy_conversion.proofs.Gathering.{faulty}
use Rattle.cedar_policy_conversion.proofs.Ordering.{put_found, put_unfound, among_found, among_inserted}
use Rattle.cedar_policy_conversion.proofs.annotations.insert_new.Goals as goal

pub returns-then-contains_key-clause-put : goal.returns-then-contains_key-clause-put
returns-then-contains_key-clause-put g c =
    faulty c.fault.result _ c.fault.ensures.fault (put_found c.args.key c.args.value c.args.notes.now.entries c.contains_key.result c.contains_key.ensures c.if-contains_key.true)

pub returns-clause-put : goal.returns-clause-put
returns-clause-put g c =
    put_unfound c.args.key c.args.value c.args.notes.now.entries c.contains_key.result c.contains_key.ensures c.if-contains_key.false
    ∙ ap Some (sym c.in_ok-insert.ensures.entries)

pub returns-then-contains_key-clause-kind : goal.returns-then-contains_key-clause-kind
returns-then-contains_key-clause-kind g c =
    tells_one _ _ _ _ c.fault.ensures.kind (refl, among_found c.args.key c.args.notes.now.entries c.contains_key.result c.contains_key.ensures c.if-contains_key.true)

pub returns-clause-keys : goal.returns-clause-keys
returns-clause-keys g c k h =
    among_inserted k c.args.key c.args.value c.args.notes.now.entries c.insert.new.self.entries c.contains_key.result c.contains_key.ensures c.if-contains_key.false c.in_ok-insert.ensures.entries h
