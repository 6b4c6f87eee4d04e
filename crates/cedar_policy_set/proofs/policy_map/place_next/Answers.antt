-- Few entries have no places, also with one more.
use Rattle.std.specs.Map.{keys_of}
use Rattle.std.specs.Cmp.Lexicographic.{nat_list_eq_equiv}
use Rattle.std.proofs.lemmas.Map.Keys.{IsDistinct-push}
use Rattle.cedar_policy_set.proofs.Few.{kept_few}
use Rattle.cedar_policy_set.proofs.Placed.{free_apart}
use Rattle.cedar_policy_set.proofs.policy_map.place_next.Goals as goal

pub returns-in-None-clause-placed : goal.returns-in-None-clause-placed
returns-in-None-clause-placed g c =
    let es = c.args.entries.now in
    let id = c.args.id.now in
    kept_few _ _ c.in-None.is (IsDistinct-push nat_list_eq_equiv (keys_of es) id c.requires.kept.distinct (free_apart es id c.requires.free))
