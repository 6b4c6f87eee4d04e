-- A quote, the text escaped, and a quote, one behind the other.
use Rattle.std.proofs.Common.{◌++◌, codes}
use Rattle.cedar_frames.specs.Quoting.{escaped_all}
use Rattle.cedar_frames.proofs.Bytes.{puts_more}
use Rattle.cedar_frames.proofs.quoting.put_quoted.Goals as goal

pub returns : goal.returns
returns g c =
    let text = escaped_all c.args.text.now in
    puts_more _ _ _ _ _ _ (codes "\"" ++ text) (codes "\"") (puts_more _ _ _ _ _ _ (codes "\"") text c.put.ensures c.put_escaped.ensures) c.put-2.ensures
