-- A number shares bits with a union of bits just where it shares some with one of the two.
use Rattle.cedar_tokens.proofs.Bits.{meets_either}
use Rattle.cedar_tokens.proofs.expected_kinds.Kinds.with.Goals as goal

pub returns : goal.returns
returns c = λ kind. meets_either c.args.self.0 c.args.others.0 kind.0
