-- What is rotated stands before the others, and only it moves.
use Rattle.std.proofs.Common.{◌+◌, ◌++◌, subst, take, drop}
use Rattle.std.specs.List.Sorted.{IsPermutation}
use Rattle.std.proofs.lemmas.List.{take-append-drop}
use Rattle.std.proofs.lemmas.List.Sorted.{IsPermutation-append_left}
use Rattle.cedar_replies.proofs.runs.settle_first.Goals as goal

pub returns-clause-same : goal.returns-clause-same
returns-clause-same c =
    let n = c.partition_point-place.result + 1 in
    subst (λ ids. IsPermutation ids (c.rotate_left.new.self ++ drop n c.args.ids.now)) (take-append-drop n c.args.ids.now)
    (IsPermutation-append_left (drop n c.args.ids.now) (take n c.args.ids.now) c.rotate_left.new.self c.rotate_left.ensures.permutation)
