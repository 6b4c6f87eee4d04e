-- What stands at the position of the id.
use Rattle.std.proofs.Common.{ap, sym, ◌∙◌, Some}
use Rattle.std.specs.Prelude.{position}
use Rattle.std.specs.Map.{lookup, keys_of}
use Rattle.std.specs.Option.{option_copied}
use Rattle.cedar_language.specs.Order.{same_text}
use Rattle.cedar_policy_set.proofs.Placed.{nothing_there, found_there}
use Rattle.cedar_policy_set.proofs.policy_map.PolicyMap.get.Goals as goal

pub returns-in_err-position : goal.returns-in_err-position
returns-in_err-position g c = ap option_copied c.from_residual.ensures ∙ sym (nothing_there (same_text c.args.id.now) c.args.self.now c.in_err-position.ensures)

pub returns : goal.returns
returns g c =
    let test = same_text c.args.id.now in
    let at = c.in_ok-position.ensures ∙ ap (λ es. position test (keys_of es)) (sym c.self.view_is) in
    ap (λ e. Some e.1) c.index.ensures ∙ sym (found_there test c.self.inside.entries.items _ at c.index.result.now) ∙ ap (lookup test) c.self.view_is
