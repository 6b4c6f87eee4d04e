-- The identifiers so far are those of the words that were passed.
use Rattle.std.proofs.Common.{◌≡◌, map, take}
use Rattle.cedar_data.proofs.names.ids_of.Given as goal

abbrev pub invariant-loop-word : goal.invariant-loop-word
invariant-loop-word l = l.ids.items ≡ map (λ word. word.now) (take l.word-index l.words)
