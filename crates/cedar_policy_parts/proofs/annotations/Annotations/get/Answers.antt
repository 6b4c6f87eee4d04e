-- The map finds a key by its order, which ties exactly where the texts are the same.
use Rattle.std.proofs.Common.{◌∙◌, sym}
use Rattle.std.specs.Map.{lookup}
use Rattle.std.specs.Cmp.Lexicographic.{texts_ties}
use Rattle.cedar_policy_parts.proofs.annotations.Annotations.get.Goals as goal

pub returns : goal.returns
returns c = rw (← c.self.view_is) (c.get.ensures.value ∙ (λ i. lookup (λ k. sym (texts_ties c.args.key.now k) i) c.self.inside.entries.entries))
