-- The values so far are the literals that were taken, and in the end these are all.
use Rattle.std.proofs.Common.{◌≡◌, ◌∙◌, map, ap, sym}
use Rattle.std.proofs.lemmas.Iterator.Adapters.{YieldsList-from_vec}
use Rattle.std.proofs.lemmas.Iterator.Consumers.{YieldsList-end}
use Rattle.std.proofs.lemmas.List.{map-id}
use Rattle.cedar_values.specs.Kinds.{plain_of}
use Rattle.cedar_values.proofs.values.Set.from_lits.Goals as goal

pub returns-clause-members : goal.returns-clause-members
returns-clause-members c =
    let gives = c.into_iter-literal-iterator.ensures.into_iter_gives in
    let end = YieldsList-end (YieldsList-from_vec c.args.literals.items gives.0 (gives.1 ∙ c.args.literals.ok.0)) c.loop-literal.yielded c.loop-literal.literal-iterator c.loop-literal.yielded_by c.next.result c.next.new.self c.in-None.is c.next.ensures.steps in
    let all : c.loop-literal.yielded ≡ c.args.literals.items = sym (map-id c.loop-literal.yielded) ∙ end.0 in
    let made : c.loop-literal.values.items ≡ map plain_of c.args.literals.items = c.loop-literal.invariant ∙ ap (map plain_of) all in
    rw made at c.new-2.ensures.members
