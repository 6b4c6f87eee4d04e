-- A first identifier, and what follows it.
use Rattle.std.proofs.Common.{suc}
use Rattle.cedar_grammar.specs.Grammar.{inner}
use Rattle.cedar_data.proofs.Rules.{behind_word}
use Rattle.cedar_data.proofs.reader.Reader.uid.Goals as goal

pub returns : goal.returns
returns c = λ n names.
    behind_word (inner names n) (suc n) c.in_ok-word.word.now c.args.self.now c.word.new.self c.uid_behind.new.self _ c.in_ok-word.ensures (c.in_ok-uid.ensures n names)
