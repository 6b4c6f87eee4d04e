-- Sorting moves members alone.
use Rattle.std.proofs.Common.{sym, ap, ◌∙◌, nat_eq}
use Rattle.std.specs.Set.{is_member}
use Rattle.std.proofs.lemmas.List.Sorted.{list_any-IsPermutation}
use Rattle.cedar_closure.proofs.numbers.NumberSet.sorted.Goals as goal

pub returns-clause-listed : goal.returns-clause-listed
returns-clause-listed c = λ q.
    sym (list_any-IsPermutation (nat_eq q) c.in_ok-all.all.items c.sort.new.self.items c.in_ok-sort.ensures.permutation)
    ∙ ap (λ ns. is_member nat_eq ns q) (c.in_ok-all.ensures.items ∙ c.deref.ensures.value)
