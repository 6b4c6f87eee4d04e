-- The line, and then the mark (Below).
use Rattle.std.proofs.Common.{string_bytes}
use Rattle.std.proofs.lemmas.Result.{on_ok_weaker}
use Rattle.cedar_messages.specs.Telling.{AreBelow}
use Rattle.cedar_messages.proofs.Below.{below_more, both_added}
use Rattle.cedar_messages.proofs.telling.push_marked.Goals as goal

pub returns : goal.returns
returns c =
    let start = string_bytes c.args.told.now in
    let line = string_bytes c.push_indented.new.told in
    let new = string_bytes c.push_indented-2.new.told in
    on_ok_weaker c.push_indented-2.result (λ mark. both_added AreBelow below_more start line new c.in_ok-push_indented.ensures mark) c.push_indented-2.ensures
