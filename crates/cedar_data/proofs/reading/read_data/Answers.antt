-- Nothing follows the data, so the text is them alone.
use Rattle.cedar_data.proofs.Whole.{data_text}
use Rattle.cedar_data.proofs.reading.read_data.Goals as goal

pub new_unchecked-requires : goal.new_unchecked-requires
new_unchecked-requires c = c.in-Ok.ensures.is_data.restricted

pub returns-then-is_at_end : goal.returns-then-is_at_end
returns-then-is_at_end c =
    data_text c.args.styles.now c.args.depth c.args.text.now c.new-reader.result c.data.new.self c.in-Ok.expr c.new_unchecked.result c.new-reader.ensures c.in-Ok.ensures (c.is_at_end.ensures.0 c.if-is_at_end.true) c.new_unchecked.ensures
