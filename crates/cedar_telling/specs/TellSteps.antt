-- What is asked of what a body tells, one part at a time.
use Rattle.std.specs.Prelude.{◌≡◌, ⊤, Bool, true, false, not, ◌||◌, Option, Some, None, List, [], ◌∷◌, map}
use Rattle.std.specs.FinMap as finite
use Rattle.std.specs.Borrow.{Bor}
use Rattle.either.specs.declared.Either.TheVariants.{Left, Right}
use Rattle.cedar_language.specs.Restricted.{is_restricted}
use Rattle.cedar_language.specs.Uid.{Text}
use Rattle.cedar_grammar.specs.Build.{trees, keys}
use Rattle.cedar_trees.specs.Bare.{bare}
use Rattle.cedar_trees.specs.declared.expr.Expr.{Expr}
use Rattle.cedar_entities.specs.Attributes.{Attribute}
use Rattle.cedar_world.specs.Asking.{Entries, NoContext, WithEntries, Question, Told}
use Rattle.cedar_grammar.specs.UnknownCalls.{all_named}
use Rattle.cedar_world.specs.Bodies.{Fields}
use Rattle.cedar_world.specs.Question.{fits}

-- ---- the context of a question

-- where one is given, it is data
abbrev pub IsGivenRestricted : Option (Bor (Expr (Unit {0}))) → Type 0
IsGivenRestricted None = ⊤
IsGivenRestricted (Some e) = is_restricted (bare e.now) ≡ true

-- the context that has these entries; a call that names an unknown is that unknown
abbrev pub entries_as : Option Fields → Entries
entries_as None = NoContext
entries_as (Some fs) = WithEntries (keys fs) (all_named (trees (map (λ f. f.1) fs)))

-- ---- what is found of values

abbrev pub fits_attribute : Question → Text → Attribute → Bool
fits_attribute q n (Left v) = fits q n v
fits_attribute q n (Right r) = true

-- some value is of another kind than its unknown's
abbrev pub some_misfit : Question → List (Text × Attribute) → Bool
some_misfit q [] = false
some_misfit q (e ∷ es) = not (fits_attribute q e.0 e.1) || some_misfit q es

abbrev pub with_attribute : Told → Text → Attribute → Told
with_attribute told n (Left v) = finite.insert told n v
with_attribute told n (Right r) = told

-- what is told, and these values besides
abbrev pub with_attributes : Told → List (Text × Attribute) → Told
with_attributes told [] = told
with_attributes told (e ∷ es) = with_attribute (with_attributes told es) e.0 e.1
