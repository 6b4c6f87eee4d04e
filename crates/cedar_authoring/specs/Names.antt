-- The names to tell, for which what is left of policies waits.
use Rattle.std.specs.Prelude.{◌≡◌, Bool, true, ◌&&◌, List, ◌++◌, map, codes, Option, None}
use Rattle.std.specs.FinMap as finite
use Rattle.std.specs.List.{filter_map, flat_map}
use Rattle.cedar_language.specs.Tree.{Tree}
use Rattle.cedar_language.specs.Uid.{Text}
use Rattle.cedar_telling.specs.AskedNames.{has_name}
use Rattle.cedar_asking.specs.Waiting.{LeftIsUntold}
use Rattle.cedar_evaluator.specs.Holding.{holding_in}
use Rattle.cedar_evaluator.specs.declared.partial_response.PartialResponse.{PartialResponse}
use Rattle.cedar_session.specs.Lending.{is_untold}
use Rattle.cedar_shapes.specs.Positions.{positions}
use Rattle.cedar_trees.specs.Bare.{bare}
use Rattle.cedar_world.specs.Asking.{Told}
use Rattle.cedar_world.specs.Lines.{listed}
use Rattle.cedar_world.specs.World.{Asked}
use Rattle.cedar_refusals.specs.Naming.{in_quotes}
use Rattle.cedar_authoring.specs.Awaiting.{awaits, name_standing}

-- the names of the unknowns in these expressions, and of the variables that stand there as they were written
abbrev pub names_of : List Tree → List Text
names_of rests = flat_map (λ t. filter_map name_standing (positions t)) rests

-- those in what is left of policies, first of the permits
abbrev pub names_left : PartialResponse → List Text
names_left response =
    names_of (map (λ e. bare e.1.0.value) response.residual_permits)
    ++ names_of (map (λ e. bare e.1.0.value) response.residual_forbids)

-- a name for which what is left of some policy waits, and that isn't told
abbrev pub is_to_tell : Option Asked → PartialResponse → Text → Bool
is_to_tell asked response n = awaits (names_left response) n && is_untold asked n

-- The names are listed that are to be told, and no others.
pub record TellsNames (asked : Option Asked) (response : PartialResponse) (told : Text) : Type 0 where
  pub names : List Text
  pub are : (n : Text) → has_name names n ≡ is_to_tell asked response n
  pub lists : told ≡ (codes "tell " ++ listed (map in_quotes names)) ++ codes "\n"

-- Until a name is told for which what is left waits, none is told that stands in what is left of a policy.
abbrev pub AwaitedNamesSuffice : Type 0
AwaitedNamesSuffice =
    (response : PartialResponse) (told : Told) → ((n : Text) → awaits (names_left response) n ≡ true → finite.get told n ≡ None) →
    LeftIsUntold (holding_in response) told
