-- The entries of a copy are those of the map.
use Rattle.std.proofs.Common.{◌∙◌}
use Rattle.std.proofs.lemmas.Map.Entries.{entries_from_clone}
use Rattle.cedar_policy_parts.proofs.annotations.Annotations.clone.Goals as goal

pub returns : goal.returns
returns c =
    let m = c.self.inside.entries in
    let n = c.in_ok-clone.field-0 in
    entries_from_clone _ _ (λ x y e. cc) (λ v w e. e) m.entries n.entries c.in_ok-clone.ensures.cases ∙ c.self.view_is
