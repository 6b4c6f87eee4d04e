-- What is answered of a request.
use Rattle.std.specs.Prelude.{◌≡◌, Option, Some, None, Result, Ok, Err}
use Rattle.cedar_conformance.specs.Requests.{RequestFault}
use Rattle.cedar_conformance.specs.Requests as fault
use Rattle.cedar_conformance.specs.declared.errors.RequestValidationError.{RequestValidationError}
use Rattle.cedar_conformance.specs.declared.errors.RequestValidationError.TheVariants as error

-- the fault that an error tells; want of memory tells none
abbrev pub fault_told : RequestValidationError → Option RequestFault
fault_told (error.UndeclaredPrincipalType n) = Some (fault.UndeclaredPrincipalType n)
fault_told (error.UndeclaredResourceType n) = Some (fault.UndeclaredResourceType n)
fault_told (error.UndeclaredAction u) = Some (fault.UndeclaredAction u)
fault_told (error.InvalidPrincipalType n u) = Some (fault.InvalidPrincipalType n u)
fault_told (error.InvalidResourceType n u) = Some (fault.InvalidResourceType n u)
fault_told (error.InvalidContext u) = Some (fault.InvalidContext u)
fault_told (error.InvalidEnumEntity u) = Some (fault.InvalidEnumEntity u)
fault_told (error.Memory e) = None

-- this fault is told, if one is
abbrev pub Tells : Option RequestFault → Option RequestFault → Type 0
Tells told None = Unit {0}
Tells told (Some f) = told ≡ Some f

-- it is accepted exactly where there is no fault, and else the fault is told, but for want of memory
abbrev pub IsVerdict : Option RequestFault → Result (Unit {0}) RequestValidationError → Type 0
IsVerdict fault (Ok _) = fault ≡ None
IsVerdict fault (Err e) = Tells fault (fault_told e)
