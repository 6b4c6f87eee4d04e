-- The identifiers so far and those behind the next separators are all.
use Rattle.std.proofs.Common.{map, length, arith}
use Rattle.std.proofs.lemmas.Result.{err_from_is_err_and}
use Rattle.std.proofs.lemmas.List.{map_push}
use Rattle.std.specs.Rc.{rc_str_bytes}
use Rattle.cedar_schema_grammar.specs.Reading.{id_read, path_at}
use Rattle.cedar_schema_text.specs.Parts.{eat_separator}
use Rattle.cedar_schema_text.specs.Gives.{left, bound}
use Rattle.cedar_schema_text.proofs.Positions.{left_most, left_before, fewer_before}
use Rattle.cedar_schema_text.proofs.Loops.{chain_done, chain_fails, chain_more, path_first, path_first_fails}
use Rattle.cedar_schema_text.proofs.reader.Reader.path.Goals as goal

pub returns-in_err-first-clause-gives : goal.returns-in_err-first-clause-gives
returns-in_err-first-clause-gives c =
    let p = err_from_is_err_and c.from_residual.result c.from_residual.ensures.1 in
    rw (p.1, p.2)
    (path_first_fails (length c.args.self.now.tokens.items) (left c.args.self.now c.args.at.now) c.in_err-first.field-0.0 c.in_err-first.ensures.gives)

pub words-init : goal.words-init
words-init c = record {
  words =
      rw (c.in_ok-push.ensures.items, c.new-words.ensures.items)
      (path_first (length c.args.self.now.tokens.items) (left c.args.self.now c.args.at.now) (rc_str_bytes c.in_ok-first.first) (left c.args.self.now c.id.new.at) c.in_ok-first.ensures.gives (left_most c.args.self.now c.id.new.at));
  onward = c.in_ok-first.ensures.onward;
}

pub returns-in_err-word-clause-gives : goal.returns-in_err-word-clause-gives
returns-in_err-word-clause-gives c =
    let p = err_from_is_err_and c.from_residual-in_err-word.result c.from_residual-in_err-word.ensures.1 in
    rw (p.1, p.2)
    (chain_fails eat_separator id_read (map rc_str_bytes c.words.words.items) (left c.args.self.now c.words.at) (path_at (bound c.args.self.now) (left c.args.self.now c.args.at.now))
    (left c.args.self.now c.eat_separator.new.at) c.words-test.ensures.eats c.in_err-word.field-0.0 c.words.invariant.words c.in_err-word.ensures.gives)

pub words-preserved : goal.words-preserved
words-preserved c = record {
  words =
      rw (c.in_ok-push-2.ensures.items, map_push)
      (chain_more eat_separator id_read (map rc_str_bytes c.words.words.items) (left c.args.self.now c.words.at) (path_at (bound c.args.self.now) (left c.args.self.now c.args.at.now))
      (left c.args.self.now c.eat_separator.new.at) c.words-test.ensures.eats (rc_str_bytes c.in_ok-word.word) (left c.args.self.now c.id-in-words.new.at) c.in_ok-word.ensures.gives
      (left_before c.args.self.now c.words.at c.eat_separator.new.at c.id-in-words.new.at c.words-test.ensures.advances c.in_ok-word.ensures.onward)
      c.words.invariant.words);
  onward = omega (arith, c.words.invariant.onward, c.words-test.ensures.onward, c.in_ok-word.ensures.onward);
}

pub words-smaller : goal.words-smaller
words-smaller c = fewer_before c.args.self.now c.words.at c.eat_separator.new.at c.id-in-words.new.at c.words-test.ensures.advances c.in_ok-word.ensures.onward

pub returns-clause-gives : goal.returns-clause-gives
returns-clause-gives c =
    chain_done eat_separator id_read (map rc_str_bytes c.words.words.items) (left c.args.self.now c.words.at) (path_at (bound c.args.self.now) (left c.args.self.now c.args.at.now))
    c.words.invariant.words (left c.args.self.now c.eat_separator.new.at) c.words-test.ensures.eats
