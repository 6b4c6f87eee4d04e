-- Its line is all that is told.
use Rattle.std.proofs.Common.{[], ◌++◌, codes, None, ap, ◌∙◌}
use Rattle.std.proofs.lemmas.List.{append-nil}
use Rattle.cedar_messages.specs.Telling.{line_of}
use Rattle.cedar_refusals.proofs.listing.tell_none.Goals as goal

pub returns : goal.returns
returns c =
    let line = line_of c.args.name.now None (codes "no policies") in
    c.in_ok-tell_line.ensures ∙ (ap (λ start. start ++ (line ++ [])) c.new-told.ensures.bytes ∙ append-nil line)
