-- In a list that rises strictly a search by halves finds what ties with the literal, and that is the literal.
use Rattle.std.proofs.Common.{◌≡◌, rules}
use Rattle.std.proofs.lemmas.Fn.{always_returns_same}
use Rattle.cedar_language.specs.Order.{value_cmp}
use Rattle.cedar_values.specs.Kinds.{plain_of}
use Rattle.cedar_values.proofs.Sets.{found}
use Rattle.cedar_values.proofs.values.lookups.has_literal.Goals as goal

pub returns : goal.returns
returns c =
    let v = plain_of c.args.literal.now in
    let at = c.binary_search_by.ensures.position (λ m. value_cmp m v) (always_returns_same _ (λ a r. r ≡ value_cmp a.0.now v) _ (λ a r f called. search rules)) in
    rw c.is_ok.ensures.value (found c.args.members.now v c.binary_search_by.result c.requires c.binary_search_by.ensures.bound at)
