-- Of the pairs that were taken the entries hold, at each key, the last one's value.
use Rattle.std.proofs.Common.{◌≡◌, ◌∙◌, ◌++◌, ◌∷◌, [], sym}
use Rattle.std.proofs.lemmas.Iterator.Adapters.{YieldsList-from_vec}
use Rattle.std.proofs.lemmas.Iterator.Consumers.{YieldsList-end}
use Rattle.std.proofs.lemmas.List.{map-id}
use Rattle.cedar_language.specs.Value.{RecordOf}
use Rattle.cedar_values.specs.Kinds.{keys_of, values_of}
use Rattle.cedar_values.specs.Records.{IsRecordOf}
use Rattle.cedar_values.proofs.Records.{IsMadeOf, made_more, is_record}
use Rattle.cedar_values.proofs.values.ValueKind.record.Goals as goal
use Rattle.cedar_values.proofs.values.ValueKind.record.Goals.{In_ok-insert}

pub returns : goal.returns
returns c =
    let gives = c.into_iter-key-iterator.ensures.into_iter_gives in
    let end = YieldsList-end (YieldsList-from_vec c.args.fields.items gives.0 (gives.1 ∙ c.args.fields.ok.0)) c.loop-key.yielded c.loop-key.key-iterator c.loop-key.yielded_by c.next.result c.next.new.self c.in-None.is c.next.ensures.steps in
    let all : c.loop-key.yielded ≡ c.args.fields.items = sym (map-id c.loop-key.yielded) ∙ end.0 in
    let made : IsRecordOf c.args.fields.items (RecordOf (keys_of c.loop-key.record.entries) (values_of c.loop-key.record.entries)) = rw all at (is_record c.loop-key.yielded c.loop-key.record.entries c.loop-key.invariant) in
    rw c.in_ok-new.ensures.ok made

more : (c : In_ok-insert) → IsMadeOf (c.loop-key.yielded ++ (c.in-Some.key, c.in-Some.value) ∷ []) c.insert.new.self.entries
more c = made_more _ _ _ _ _ c.loop-key.invariant c.in_ok-insert.ensures.entries c.insert.ensures.ordered

pub loop-key-preserved : goal.loop-key-preserved
loop-key-preserved c = more (goal.at.loop-key-preserved c).In_ok-insert

pub loop-key-preserved-in_ok-insert : goal.loop-key-preserved-in_ok-insert
loop-key-preserved-in_ok-insert c = more (goal.at.loop-key-preserved-in_ok-insert c).In_ok-insert
