-- Rule by rule a linked scope is read with its entities and all else is kept, and tokens are one list of policies.
use Rattle.cedar_grammar.proofs.WrittenLinks.{links_are_read, links_are_one}
use Rattle.cedar_grammar.proofs.written_links_are_one.Goals as goal

pub returns : goal.returns
returns c = record { are_read = links_are_read; are_one = links_are_one }
