-- The places tell of the id too, which isn't among those before it.
use Rattle.std.proofs.Common.{◌≡◌, ◌++◌, [], ◌∷◌, None, ap, subst, ◌∙◌}
use Rattle.std.specs.Map.{lookup, keys_of}
use Rattle.std.proofs.lemmas.Result.{on_ok_weaker}
use Rattle.cedar_language.specs.Order.{same_text}
use Rattle.cedar_policy_set.specs.Places.{Tells}
use Rattle.cedar_policy_set.proofs.Placed.{free_apart}
use Rattle.cedar_policy_set.proofs.policy_map.place_last.Goals as goal

pub returns-clause-placed : goal.returns-clause-placed
returns-clause-placed g c =
    let es = c.args.entries.now in
    let id = c.in_ok-copy_of.field-0 in
    let free : lookup (same_text id) es ≡ None = ap (λ i. lookup (same_text i) es) c.in_ok-copy_of.ensures ∙ c.requires.free in
    on_ok_weaker c.push.result (λ told. subst (λ i. Tells c.push.new.self (keys_of es ++ i ∷ [])) c.in_ok-copy_of.ensures (told (keys_of es) c.requires.told (free_apart es id free))) c.push.ensures.told
