-- A text that spells none of the named words is another word.
use Rattle.std.proofs.Common.{sym}
use Rattle.cedar_grammar.specs.Token.{named_words}
use Rattle.cedar_tokens.proofs.OtherWords.{other_word, unless_written}
use Rattle.cedar_tokens.proofs.words.read_word.Goals as goal

pub returns-else-is_written-18-clause-word : goal.returns-else-is_written-18-clause-word
returns-else-is_written-18-clause-word c = sym (other_word named_words c.args.text.now (unless_written _ _ _ c.is_written.ensures c.if-is_written.false, (unless_written _ _ _ c.is_written-2.ensures c.if-is_written-2.false, (unless_written _ _ _ c.is_written-3.ensures c.if-is_written-3.false, (unless_written _ _ _ c.is_written-4.ensures c.if-is_written-4.false, (unless_written _ _ _ c.is_written-5.ensures c.if-is_written-5.false, (unless_written _ _ _ c.is_written-6.ensures c.if-is_written-6.false, (unless_written _ _ _ c.is_written-7.ensures c.if-is_written-7.false, (unless_written _ _ _ c.is_written-8.ensures c.if-is_written-8.false, (unless_written _ _ _ c.is_written-9.ensures c.if-is_written-9.false, (unless_written _ _ _ c.is_written-10.ensures c.if-is_written-10.false, (unless_written _ _ _ c.is_written-11.ensures c.if-is_written-11.false, (unless_written _ _ _ c.is_written-12.ensures c.if-is_written-12.false, (unless_written _ _ _ c.is_written-13.ensures c.if-is_written-13.false, (unless_written _ _ _ c.is_written-14.ensures c.if-is_written-14.false, (unless_written _ _ _ c.is_written-15.ensures c.if-is_written-15.false, (unless_written _ _ _ c.is_written-16.ensures c.if-is_written-16.false, (unless_written _ _ _ c.is_written-17.ensures c.if-is_written-17.false, (unless_written _ _ _ c.is_written-18.ensures c.if-is_written-18.false, tt)))))))))))))))))))

pub returns-else-is_written-18-clause-spelled : goal.returns-else-is_written-18-clause-spelled
returns-else-is_written-18-clause-spelled c = λ h. (h, other_word named_words c.args.text.now (unless_written _ _ _ c.is_written.ensures c.if-is_written.false, (unless_written _ _ _ c.is_written-2.ensures c.if-is_written-2.false, (unless_written _ _ _ c.is_written-3.ensures c.if-is_written-3.false, (unless_written _ _ _ c.is_written-4.ensures c.if-is_written-4.false, (unless_written _ _ _ c.is_written-5.ensures c.if-is_written-5.false, (unless_written _ _ _ c.is_written-6.ensures c.if-is_written-6.false, (unless_written _ _ _ c.is_written-7.ensures c.if-is_written-7.false, (unless_written _ _ _ c.is_written-8.ensures c.if-is_written-8.false, (unless_written _ _ _ c.is_written-9.ensures c.if-is_written-9.false, (unless_written _ _ _ c.is_written-10.ensures c.if-is_written-10.false, (unless_written _ _ _ c.is_written-11.ensures c.if-is_written-11.false, (unless_written _ _ _ c.is_written-12.ensures c.if-is_written-12.false, (unless_written _ _ _ c.is_written-13.ensures c.if-is_written-13.false, (unless_written _ _ _ c.is_written-14.ensures c.if-is_written-14.false, (unless_written _ _ _ c.is_written-15.ensures c.if-is_written-15.false, (unless_written _ _ _ c.is_written-16.ensures c.if-is_written-16.false, (unless_written _ _ _ c.is_written-17.ensures c.if-is_written-17.false, (unless_written _ _ _ c.is_written-18.ensures c.if-is_written-18.false, tt)))))))))))))))))))
