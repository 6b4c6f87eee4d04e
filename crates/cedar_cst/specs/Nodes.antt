-- What calls on nodes give.
use Rattle.std.specs.Prelude.{◌≡◌, Option, Result, Ok, Err, ⊤}
use Rattle.std.specs.Option.{option_copied}
use Rattle.std.specs.Borrow.{Bor}
use Rattle.std.specs.Fn.{Once, FnOnceReturns}
use Rattle.cedar_names.specs.declared.places.Place.{Place}
use Rattle.cedar_cst.specs.declared.errors.EmptyNodeError.{EmptyNodeError}
use Rattle.cedar_cst.specs.declared.errors.EmptyNodeError.TheVariants.{Empty, Memory}

-- a call at a reference to the value, and at one to the place where there is one, may give the result
pub record GivesAtNode {F T R : Type 0} (g : Once F (Bor T × (Option (Bor Place) × Unit {0})) R) (f : F) (x : T) (loc : Option Place) (r : R) : Type 0 where
  pub value : Bor T
  pub place : Option (Bor Place)
  pub value_is : value.now ≡ x
  pub place_is : option_copied place ≡ loc
  pub given : FnOnceReturns g f (value, (place, tt)) r

-- an empty node at this place is refused, or memory ran out
abbrev pub IsRefused : {A : Type 0} → Option Place → Result A EmptyNodeError → Type 0
IsRefused loc (Ok x) = ⊥
IsRefused loc (Err (Empty at)) = at ≡ loc
IsRefused loc (Err (Memory e)) = ⊤
