-- The grammar asks so of an expression that is no policy's.
use Rattle.cedar_grammar.proofs.slots_stand_in_policies.Goals as goal

pub returns : goal.returns
returns c = λ names n ts t d. d.1
