-- An identifier is a key, and so is a string without escapes.
use Rattle.std.specs.Str.{chars}
use Rattle.cedar_grammar.specs.Token.{word, text, word_of}
use Rattle.cedar_data.specs.Data.{id_key, text_key}
use Rattle.cedar_faults.proofs.Words.{word_is}
use Rattle.cedar_data.proofs.reader.Reader.plain_key.Goals as goal

pub returns-in_ok-raw : goal.returns-in_ok-raw
returns-in_ok-raw c = record { written = text (chars c.in_ok-raw.raw.now); is_key = text_key c.in_ok-raw.ensures.plain; takes = c.in_ok-raw.ensures.taken }

pub returns-in_ok-id : goal.returns-in_ok-id
returns-in_ok-id c = record {
  written = word (word_of c.in_ok-id.id.now);
  is_key = id_key (word_is c.in_ok-id.id.now c.in_ok-id.ensures.unreserved);
  takes = c.in_ok-id.ensures.taken;
}
