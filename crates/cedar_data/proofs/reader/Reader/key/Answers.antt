-- An identifier is a key, and so is a string.
use Rattle.std.proofs.Common.{sym, subst}
use Rattle.cedar_grammar.specs.Token.{word, text, word_of}
use Rattle.cedar_data.specs.Data.{IsKey, id_key, text_key}
use Rattle.cedar_faults.proofs.Words.{word_is}
use Rattle.cedar_data.proofs.reader.Reader.key.Goals as goal

pub returns-in_ok-text : goal.returns-in_ok-text
returns-in_ok-text c = record { written = text c.in_ok-text.ensures.raw; is_key = text_key c.in_ok-text.ensures.is; takes = c.in_ok-text.ensures.takes }

pub returns-in_ok-from_str : goal.returns-in_ok-from_str
returns-in_ok-from_str c = record {
  written = word (word_of c.in_ok-id.id.now);
  is_key = subst (IsKey (word (word_of c.in_ok-id.id.now))) (sym c.in_ok-from_str.ensures.ok) (id_key (word_is c.in_ok-id.id.now c.in_ok-id.ensures.unreserved));
  takes = c.in_ok-id.ensures.taken;
}
