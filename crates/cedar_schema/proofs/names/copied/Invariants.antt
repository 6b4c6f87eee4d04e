-- The copies so far are those of the words that were passed.
use Rattle.std.proofs.Common.{◌≡◌, take}
use Rattle.cedar_schema.proofs.names.copied.Given as goal

abbrev pub invariant-loop-word : goal.invariant-loop-word
invariant-loop-word l = l.copies.items ≡ take l.word-index l.words
