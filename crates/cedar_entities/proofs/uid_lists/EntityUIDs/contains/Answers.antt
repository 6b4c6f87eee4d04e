-- A look at each, or a binary search, finds what a list that rises has (Listed).
use Rattle.std.proofs.Common.{◌≡◌, List, ap, sym, ◌∙◌}
use Rattle.std.specs.FinSet as set
use Rattle.std.specs.List.{list_any}
use Rattle.cedar_language.specs.Uid.{Uid}
use Rattle.cedar_language.specs.Order.{same_uid}
use Rattle.cedar_entities.specs.Lists.{UidSet}
use Rattle.cedar_entities.proofs.Listed.{searched}
use Rattle.cedar_entities.proofs.UidSets.{contains-listed}
use Rattle.cedar_entities.proofs.uid_lists.EntityUIDs.contains.Goals as goal

in_set : (s : UidSet) (xs : List Uid) (u : Uid) → set.from_list xs ≡ s → list_any (same_uid u) xs ≡ set.contains s u
in_set s xs u listed = sym (contains-listed xs u) ∙ ap (λ t. set.contains t u) listed

pub returns-then-listed-le-FEW : goal.returns-then-listed-le-FEW
returns-then-listed-le-FEW c =
    c.is_listed.ensures ∙ in_set c.args.self.now c.as_slice-listed.result.now c.args.uid.now c.as_slice-listed.ensures.listed

pub returns : goal.returns
returns c =
    let xs = c.as_slice-listed.result.now in
    c.is_ok.ensures.value ∙ searched xs c.args.uid.now c.as_slice-listed.ensures.rising c.binary_search.result c.binary_search.ensures.bound c.binary_search.ensures.position
    ∙ in_set c.args.self.now xs c.args.uid.now c.as_slice-listed.ensures.listed
