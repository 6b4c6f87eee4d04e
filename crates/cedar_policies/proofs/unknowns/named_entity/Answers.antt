-- A text spells one uid at the most, so the one that was read is the only one that it stands for.
use Rattle.std.proofs.Common.{◌≡◌, true, sym, ◌∙◌, subst, Ok, Err}
use Rattle.cedar_language.specs.Uid.{Text}
use Rattle.cedar_trees.specs.Unknowns.{unknown_name, unknown_type}
use Rattle.cedar_literals.specs.Reading.{ReadsUid}
use Rattle.cedar_policies.specs.Unknowns.{is_of_entities}
use Rattle.cedar_policies.proofs.Standing.{found_named, refused_any, read_written, none_written}
use Rattle.cedar_policies.proofs.unknowns.named_entity.Goals as goal

pub returns-in-Ok-clause-stands : goal.returns-in-Ok-clause-stands
returns-in-Ok-clause-stands c = λ u ok.
    let x = c.args.unknown.now in
    let h : is_of_entities (unknown_type x) ≡ true = sym c.is_of_entities.ensures ∙ c.if-not-is_of_entities.false in
    let r : ReadsUid (unknown_name x) (Ok c.in-Ok.uid) = subst (λ (t : Text). ReadsUid t (Ok c.in-Ok.uid)) c.as_str.ensures.value c.in-Ok.ensures in
    found_named (unknown_name x) (unknown_type x) c.in-Ok.uid u h r.0 r.1 ok

pub returns-in-Err-clause-stands : goal.returns-in-Err-clause-stands
returns-in-Err-clause-stands c =
    let x = c.args.unknown.now in
    let h : is_of_entities (unknown_type x) ≡ true = sym c.is_of_entities.ensures ∙ c.if-not-is_of_entities.false in
    let r : ReadsUid (unknown_name x) (Err c.in-Err.error) = subst (λ (t : Text). ReadsUid t (Err c.in-Err.error)) c.as_str.ensures.value c.in-Err.ensures in
    refused_any (unknown_name x) (unknown_type x) c.in-Err.error h r c.without_memory.result c.without_memory.ensures.none c.without_memory.ensures.read

pub returns-in-Ok-clause-written : goal.returns-in-Ok-clause-written
returns-in-Ok-clause-written c =
    let x = c.args.unknown.now in
    let r : ReadsUid (unknown_name x) (Ok c.in-Ok.uid) = subst (λ (t : Text). ReadsUid t (Ok c.in-Ok.uid)) c.as_str.ensures.value c.in-Ok.ensures in
    read_written (unknown_name x) c.in-Ok.uid r

pub returns-in-Err-clause-written : goal.returns-in-Err-clause-written
returns-in-Err-clause-written c = none_written c.without_memory.result c.without_memory.ensures.none
