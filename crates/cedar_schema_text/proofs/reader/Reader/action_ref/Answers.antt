-- Where neither a word nor a string stands, no action does.
use Rattle.std.proofs.Common.{length}
use Rattle.std.proofs.lemmas.Result.{err_from_is_err_and}
use Rattle.cedar_schema_grammar.specs.Reading.{string_read, ref_at}
use Rattle.cedar_schema_text.specs.Gives.{left, bound}
use Rattle.cedar_schema_text.proofs.Loops.{fails_by}
use Rattle.cedar_schema_text.proofs.Refs.{ref_none}
use Rattle.cedar_schema_text.proofs.reader.Reader.action_ref.Goals as goal

pub returns-in_err-name-clause-gives : goal.returns-in_err-name-clause-gives
returns-in_err-name-clause-gives c =
    let p = err_from_is_err_and c.from_residual-in_err-name.result c.from_residual-in_err-name.ensures.1 in
    rw (p.1, p.2)
    (fails_by c.in_err-name.field-0.0 (string_read (left c.args.self.now c.args.at.now)) (ref_at (bound c.args.self.now) (left c.args.self.now c.args.at.now))
    (λ i. ref_none (length c.args.self.now.tokens.items) (left c.args.self.now c.args.at.now) c.if-begins_word.ensures i) c.in_err-name.ensures.gives)
