-- A Boolean, or an entity by its first identifier and what follows that.
use Rattle.std.proofs.Common.{refl, suc}
use Rattle.cedar_grammar.specs.Grammar.{inner}
use Rattle.cedar_data.proofs.Rules.{boolean_read, behind_word}
use Rattle.cedar_data.proofs.reader.Reader.named_scalar.Goals as goal

pub returns-in-Some : goal.returns-in-Some
returns-in-Some c = boolean_read _ c.args.self.now c.word.new.self c.in_ok-word.word.now c.in-Some.value c.in_ok-word.ensures c.in-Some.ensures.written refl

pub returns-in_ok-uid-in-None : goal.returns-in_ok-uid-in-None
returns-in_ok-uid-in-None c = λ n names.
    behind_word (inner names n) (suc n) c.in_ok-word.word.now c.args.self.now c.word.new.self c.uid_behind.new.self _ c.in_ok-word.ensures (c.in_ok-uid-in-None.ensures n names)
