-- What an evaluation reads of a world: there is such a thing, and it is one.
use Rattle.std.specs.Prelude.{◌≡◌, Bool, false, ◌&&◌, ◌||◌, List, [], ◌∷◌}
use Rattle.std.specs.FinMap as map
use Rattle.std.specs.FinSet as set
use Rattle.cedar_language.specs.Uid.{Uid}
use Rattle.cedar_language.specs.Facts.{Facts}
use Rattle.cedar_world.specs.Orders.{UidSet}
use Rattle.cedar_world.specs.World.{World, parents_at, seen, AreFacts}
use Rattle.cedar_world.specs.Setting.{Setting, functions_alone}

abbrev pub AreFactsOf : Setting → World → Facts → Type 0
AreFactsOf by world facts = AreFacts by.functions world.entities facts

-- whether parent edges lead from a to b through some of these entities alone
abbrev pub leads_through : (Uid → UidSet) → List Uid → Uid → Uid → Bool
leads_through parents [] a b = set.contains (parents a) b
leads_through parents (c ∷ cs) a b = leads_through parents cs a b || (leads_through parents cs a c && leads_through parents cs c b)

-- the facts of a world: a path leads through entities that are held
abbrev pub facts_of : Setting → World → Facts
facts_of by world = record {
  entity = λ uid. seen (map.get world.entities uid);
  reaches = leads_through (parents_at world.entities) (map.keys world.entities);
  function = (functions_alone by.functions).function;
}

pub record WorldsHaveFacts : Type 0 where
  pub exist : (by : Setting) (world : World) → AreFactsOf by world (facts_of by world)
  pub one : (by : Setting) (world : World) (a b : Facts) → AreFactsOf by world a → AreFactsOf by world b → a ≡ b
  -- where no entity is held, none is an ancestor
  pub nothing_reached : (by : Setting) (world : World) (facts : Facts) → AreFactsOf by world facts → world.entities ≡ map.empty → (a b : Uid) → facts.reaches a b ≡ false
