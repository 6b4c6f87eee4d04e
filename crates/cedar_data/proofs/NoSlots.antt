-- No slot of templates stands in data.
use Rattle.std.proofs.Common.{◌≡◌, true, [], refl, sym}
use Rattle.std.proofs.lemmas.Bool.{true≢false, and_parts}
use Rattle.cedar_language.specs.Restricted.{is_restricted, are_restricted}
use Rattle.cedar_language.specs.Slots.{tree_slots, trees_slots}
use Rattle.cedar_language.specs.Tree.{MakeSet, MakeRecord, Call, Tree, Lit, Unknown, Apply, Trees, no_trees, a_tree}

mutual
  pub no_slots : (t : Tree) → is_restricted t ≡ true → tree_slots t ≡ []
  no_slots (Lit l) h = refl
  no_slots (Unknown n ty) h = refl
  no_slots (Apply MakeSet ts) h = no_slots_among ts h
  no_slots (Apply (MakeRecord ks) ts) h = no_slots_among ts h
  no_slots (Apply (Call f) ts) h = no_slots_among ts h
  no_slots t h = absurd (true≢false (sym h))

  no_slots_among : (ts : Trees) → are_restricted ts ≡ true → trees_slots ts ≡ []
  no_slots_among no_trees h = refl
  no_slots_among (a_tree t ts) h =
      let both = and_parts (is_restricted t) (are_restricted ts) h in
      rw (no_slots t both.0, no_slots_among ts both.1)
