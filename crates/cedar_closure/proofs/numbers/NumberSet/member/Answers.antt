-- A member has a mark.
use Rattle.std.proofs.Common.{refl}
use Rattle.std.proofs.lemmas.Cmp.{nat_eq_equiv}
use Rattle.std.proofs.lemmas.Option.{slice_get_read}
use Rattle.std.proofs.Common.{length}
use Rattle.cedar_closure.proofs.Members.{member_at}
use Rattle.cedar_closure.proofs.NumberSets.{member_below}
use Rattle.cedar_closure.proofs.numbers.NumberSet.member.Goals as goal

pub returns-clause-below : goal.returns-clause-below
returns-clause-below c =
    let xs = c.args.self.now.members.items in
    let x = c.index.result.now in
    member_below c.args.self.now c.requires.set x (member_at nat_eq_equiv xs c.args.index x (slice_get_read xs (length xs) c.args.index x refl c.requires.index c.index.ensures))
