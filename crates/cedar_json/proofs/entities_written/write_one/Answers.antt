use Rattle.std.proofs.Common.{ap, sym, ◌∙◌}
use Rattle.std.specs.Prelude.{string_bytes}
use Rattle.json.specs.Value.{value_view, members_view}
use Rattle.json.proofs.Trees.{view-Object}
use Rattle.cedar_json.specs.EntitiesWritten.{body_written, one_written}
use Rattle.cedar_json.proofs.Appending.{on_same}
use Rattle.cedar_json.proofs.entities_written.write_one.Goals as goal

pub returns-in-Object : goal.returns-in-Object
returns-in-Object c =
    on_same c.write_body.result (string_bytes c.args.out.now) (string_bytes c.write_body.new.out) (body_written (members_view c.in-Object.members.items))
    (one_written (value_view c.args.value.now))
    (sym (ap one_written (ap value_view c.in-Object.is ∙ view-Object c.in-Object.members))) c.write_body.ensures
