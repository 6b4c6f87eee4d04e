-- The step that is too long is told.
use Rattle.std.proofs.Common.{◌++◌, ◌∙◌, codes, append_assoc, sym}
use Rattle.std.specs.Fmt.{decimal}
use Rattle.cedar_authoring.proofs.running.refuse_long.Goals as goal

pub returns-clause-told : goal.returns-clause-told
returns-clause-told c =
    let step = c.in-Some.step.now in
    let name = c.args.name.now in
    let words = codes ": the text is longer than 1,048,576 bytes\n" in
    let apart = append_assoc (name ++ codes ":") (decimal step.line) words ∙ append_assoc name (codes ":") (decimal step.line ++ words) in
    (step, c.in-Some.ensures.among, c.in-Some.ensures.long, c.in_ok-text.ensures.ok ∙ sym apart)
