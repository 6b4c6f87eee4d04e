-- Nothing follows the body, so the text is it alone.
use Rattle.cedar_data.proofs.Asked.{question_text}
use Rattle.cedar_data.proofs.question.read_question.Goals as goal

pub returns-then-is_at_end : goal.returns-then-is_at_end
returns-then-is_at_end c = λ names.
    question_text names c.args.depth c.args.text.now c.new-reader.result c.question.new.self c.in-Ok.question c.new-reader.ensures c.in-Ok.ensures (c.is_at_end.ensures.0 c.if-is_at_end.true)
