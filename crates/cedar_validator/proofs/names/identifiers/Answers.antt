-- The word that is passed is an identifier.
use Rattle.std.proofs.Common.{rules, ◌≡◌, ap, sym, ◌∙◌, cond, Some, None, ◌∷◌, ◌++◌, []}
use Rattle.cedar_validator.specs.Names.{is_word}
use Rattle.cedar_validator.proofs.Naming.{word_found, one_more}
use Rattle.cedar_validator.proofs.names.identifiers.Goals as goal

pub loop-word-preserved : goal.loop-word-preserved
loop-word-preserved c =
    let w = c.word-item.result in
    let found = word_found w c.in-Some.id (sym c.in-Some.is ∙ c.in_ok-id.ensures) in
    let pushed : c.push.new.self.items ≡ c.loop-word.ids.items ++ c.in-Some.id ∷ [] = search rules in
    let more = pushed ∙ ap (λ x. c.loop-word.ids.items ++ x ∷ []) found.1 in
    sym (one_more c.loop-word.ids.items c.push.new.self.items c.args.words.now c.loop-word.word-index w c.loop-word-test.true c.word-item.is found.0 more)
    ∙ c.loop-word.invariant
