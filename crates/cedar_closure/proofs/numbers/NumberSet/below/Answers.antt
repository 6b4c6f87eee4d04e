-- No number is marked.
use Rattle.std.proofs.Common.{slice_index_or, ap, ◌∙◌, false}
use Rattle.cedar_closure.proofs.NumberSets.{empty_set, none_marked}
use Rattle.cedar_closure.proofs.numbers.NumberSet.below.Goals as goal

pub returns-clause-set : goal.returns-clause-set
returns-clause-set c = empty_set _ c.new.ensures.items (λ q. ap (λ bs. slice_index_or bs q false) (c.in_ok-is_member.ensures.items_if_clones_equal (λ y h. h)) ∙ none_marked c.args.bound q)
