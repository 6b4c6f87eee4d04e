-- Three texts, one behind the other: the id, the colon and the name of the kind.
use Rattle.std.proofs.Common.{codes}
use Rattle.cedar_frames.specs.Quoting.{quoted}
use Rattle.cedar_replies.specs.Kinds.{error_name}
use Rattle.cedar_replies.proofs.Lists.{three_put}
use Rattle.cedar_replies.proofs.lines.put_erring_id.Goals as goal

pub returns : goal.returns
returns g c =
    let name = rw (c.as_bytes.ensures.value, c.name.ensures) at c.put-2.ensures in
    let id = rw c.as_str.ensures at c.put_quoted.ensures in
    three_put _ _ _ _ _ _ _ _ (quoted c.args.entry.now.0) (codes ":") (error_name c.args.entry.now.1) id c.put.ensures name
