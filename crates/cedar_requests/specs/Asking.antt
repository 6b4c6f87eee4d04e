-- What a schema answers of a request. Where none is given every request is accepted.
use Rattle.std.specs.Prelude.{◌≡◌, ⊤, Option, Some, None, Result, Ok, Err}
use Rattle.cedar_extensions.specs.Table.{Table}
use Rattle.cedar_requests.specs.Holding.{RequestParts}
use Rattle.cedar_requests.specs.declared.requests.Request.{Request}
use Rattle.cedar_requests.specs.declared.errors.RequestError.{RequestError}
use Rattle.cedar_requests.specs.declared.errors.RequestError.TheVariants.{Schema, Memory}

module _ {S E : Type 0} (Validates : S → RequestParts → Table → Result (Unit {0}) E → Type 0) where
  abbrev pub IsAnswerOf : Option S → RequestParts → Table → Result (Unit {0}) E → Type 0
  IsAnswerOf None asked table answer = answer ≡ Ok tt
  IsAnswerOf (Some s) asked table answer = Validates s asked table answer

  -- the request is accepted, or refused with the schema's error; want of memory says nothing
  abbrev pub IsAcceptedBy : Option S → RequestParts → Table → Result Request (RequestError E) → Type 0
  IsAcceptedBy s asked table (Ok r) = IsAnswerOf s asked table (Ok tt)
  IsAcceptedBy s asked table (Err (Schema e)) = IsAnswerOf s asked table (Err e)
  IsAcceptedBy s asked table (Err (Memory e)) = ⊤

-- whether something was accepted, or why not
abbrev pub verdict : {X E : Type 0} → Result X E → Result (Unit {0}) E
verdict (Ok x) = Ok tt
verdict (Err e) = Err e
