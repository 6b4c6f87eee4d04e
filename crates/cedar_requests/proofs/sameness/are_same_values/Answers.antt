-- Entries decide the records that are made of them (EqualEntries).
use Rattle.std.proofs.Common.{◌∙◌}
use Rattle.cedar_requests.proofs.EqualEntries.{fields_same}
use Rattle.cedar_requests.proofs.sameness.are_same_values.Goals as goal

pub returns : goal.returns
returns c = c.eq.ensures ∙ fields_same c.args.a.now.entries c.args.b.now.entries
