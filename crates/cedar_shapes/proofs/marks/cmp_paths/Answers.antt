-- Attributes are compared as their texts are, so lists of them as lists of texts.
use Rattle.std.proofs.Common.{rules}
use Rattle.cedar_shapes.proofs.MarkOrder.{texts_cmp}
use Rattle.cedar_shapes.proofs.marks.cmp_paths.Goals as goal

pub returns : goal.returns
returns c = search (rules, texts_cmp)
