use Rattle.std.specs.Prelude.{string_bytes}
use Rattle.cedar_json.proofs.Paths.{word_more, last_written}
use Rattle.cedar_json.proofs.told.write_path.Goals as goal

pub returns-in-Some-last_string-clause-written : goal.returns-in-Some-last_string-clause-written
returns-in-Some-last_string-clause-written c =
    last_written c.write_string.result c.in-Some.word.now c.in-Some-last_string.raw.now c.args.tokens.left c.words.tokens.left c.take_word.new.tokens.left
    (string_bytes c.args.out.now) (string_bytes c.words.out) (string_bytes c.push_str.new.self) (string_bytes c.push_str-in-words.new.self)
    (string_bytes c.write_string.new.out) c.words.invariant c.in-Some.ensures c.in-Some-last_string.ensures c.in_ok-push_str.ensures.bytes
    c.in_ok-push_str-2.ensures.bytes c.write_string.ensures.written

pub words-preserved : goal.words-preserved
words-preserved c =
    word_more c.in-Some.word.now c.args.tokens.left c.words.tokens.left c.take_word.new.tokens.left (string_bytes c.args.out.now) (string_bytes c.words.out)
    (string_bytes c.push_str.new.self) (string_bytes c.push_str-in-words.new.self) c.words.invariant c.in-Some.ensures c.in_default-last_string.ensures
    c.in_ok-push_str.ensures.bytes c.in_ok-push_str-2.ensures.bytes
