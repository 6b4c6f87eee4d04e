-- The uid stands among those of its id.
use Rattle.std.proofs.Common.{◌≡◌, rules}
use Rattle.cedar_validator_schema.proofs.Naming.{put_uid}
use Rattle.cedar_validator_schema.proofs.action_names.ActionNames.put.Goals as goal

pub returns : goal.returns
returns c =
    let id : c.in_ok-id.id ≡ c.args.uid.id = search rules in
    let name : c.in_ok-type_name.type_name ≡ c.args.uid.type_name = search rules in
    put_uid c.args.uid c.in_ok-id.id c.in_ok-type_name.type_name c.take_types-types.result c.insert.new.self c.args.self.now c.take_types-types.new.self
    (record { by_id = c.insert-2.new.self }) id name c.take_types-types.ensures.types c.in_ok-insert.ensures.updates.0 c.take_types-types.ensures.taken
    c.in_ok-insert-2.ensures.updates.0
