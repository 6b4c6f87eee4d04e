-- A policy set as the part of a world that holds the policies.
use Rattle.std.specs.Prelude.{◌≡◌, [], ◌∷◌, ◌++◌, map, None}
use Rattle.std.specs.FinMap as finmap
use Rattle.std.specs.List.{IsDistinct}
use Rattle.std.specs.Map.{keys_of}
use Rattle.std.specs.Option.{option_map}
use Rattle.cedar_language.specs.Uid.{Text}
use Rattle.cedar_language.specs.Order.{same_text}
use Rattle.cedar_world.specs.World as world
use Rattle.cedar_world.specs.World.{Policies}
use Rattle.cedar_world.specs.PolicyEdits.{TakesAway}
use Rattle.cedar_policy_set.specs.Entries.{Entry, static_policy, template, link, Entries, bound_at, without}

-- a world tells templates from static policies by their slots, and has each link's template at its id
abbrev pub world_bound : Entry → world.Bound
world_bound (static_policy s) = world.Policy s
world_bound (template s) = world.Policy s
world_bound (link t s b) = world.Link t b

abbrev pub policies_in : Entries → Policies
policies_in es = finmap.from_entries (map (λ e. (e.0, world_bound e.1)) es)

-- an id is bound there to what it is bound to here
abbrev pub FindsAsWorlds : Type 0
FindsAsWorlds = (es : Entries) (id : Text) → finmap.get (policies_in es) id ≡ option_map world_bound (bound_at es id)

-- a new id that is bound here is bound there
abbrev pub BindsAsWorlds : Type 0
BindsAsWorlds = (es : Entries) (id : Text) (e : Entry) → bound_at es id ≡ None → policies_in (es ++ (id, e) ∷ []) ≡ finmap.insert (policies_in es) id (world_bound e)

-- what is taken away here is taken away there
abbrev pub RemovesAsWorlds : Type 0
RemovesAsWorlds = (es : Entries) (id : Text) → IsDistinct same_text (keys_of es) → TakesAway (policies_in es) id (policies_in (without id es))
