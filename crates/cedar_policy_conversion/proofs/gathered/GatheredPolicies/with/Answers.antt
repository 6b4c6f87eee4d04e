-- The entries of one policy more stand behind those before it, and the last one shows what it tells.
use Rattle.std.proofs.Common.{[], ◌∷◌, ◌++◌, sym, subst}
use Rattle.cedar_cst.specs.View.{shown_policy}
use Rattle.cedar_faults.specs.Converts.{Finds}
use Rattle.cedar_faults.proofs.Telling.{told_more}
use Rattle.cedar_policy_conversion.specs.Shows.{policy_shows, each_policy_shows}
use Rattle.cedar_policy_conversion.proofs.Numbering.{entries_of, entries_more, show_before, show_last}
use Rattle.cedar_policy_conversion.proofs.Showing.{told_or}
use Rattle.cedar_policy_conversion.proofs.gathered.GatheredPolicies.with.Goals as goal

pub returns : goal.returns
returns c before gathered =
    let names = c.args.styles.now in
    let p = shown_policy c.args.node.now in
    record {
      set = subst (Finds (λ set. set) c.with_node-set.result) (sym (entries_more names before p)) (c.with_node-set.ensures.set (entries_of names before) gathered.set);
      shown = told_or c.args.self.set c.with_node-set.result (each_policy_shows names (before ++ p ∷ [])) (policy_shows names p) (told_more c.args.self.set (each_policy_shows names before) (each_policy_shows names (before ++ p ∷ [])) (show_before names before p) gathered.shown) c.with_node-set.ensures.told (show_last names before p);
    }
