-- The request of a response with what is told of it, or why the values aren't taken.
use Rattle.std.specs.Prelude.{◌≡◌, ⊤, ℕ, Bool, true, false, cond, Option, Some, None, List, [], ◌∷◌, option_map, Result, Ok, Err, codes}
use Rattle.std.specs.Rc.{rc_str_bytes}
use Rattle.std.specs.declared.alloc.Global.{Global}
use Rattle.std.specs.declared.rc.RcStr.{RcStr}
use Rattle.either.specs.declared.Either.{Either}
use Rattle.either.specs.declared.Either.TheVariants.{Left}
use Rattle.cedar_language.specs.Tree.{Entity, Variable, Principal, Action, Resource, Context, Tree}
use Rattle.cedar_language.specs.Uid.{Text, Name, Uid}
use Rattle.cedar_language.specs.Value.{Value, Plain}
use Rattle.cedar_partial_evaluation.specs.Question.{Part, Given, Missing, entity_type}
use Rattle.cedar_partial_evaluation.specs.Unknowns.{fits}
use Rattle.cedar_literals.specs.Variables.{variable_text}
use Rattle.cedar_restricted.specs.PartialValues.{partial_of}
use Rattle.cedar_substitution.specs.Told.{told_for}
use Rattle.cedar_extensions.specs.Table.{Table}
use Rattle.cedar_value_operators.specs.Operands.{uid_in}
use Rattle.cedar_requests.specs.Contexts.{context_part}
use Rattle.cedar_requests.specs.Creating.{is_record_value}
use Rattle.cedar_requests.specs.Holding.{RequestParts, request_parts}
use Rattle.cedar_requests.specs.Parts.{part_of}
use Rattle.cedar_requests.specs.Telling.{TellsContext}
use Rattle.cedar_requests.specs.declared.contexts.Context as contexts
use Rattle.cedar_requests.specs.declared.entries.EntityUIDEntry.{EntityUIDEntry}
use Rattle.cedar_requests.specs.declared.requests.Request.{Request}
use Rattle.cedar_evaluator.specs.declared.errors.ConcretizationError.{ConcretizationError}
use Rattle.cedar_evaluator.specs.declared.errors.ConcretizationError.TheVariants.{ValueError, VarConfictError, EntityTypeConfictError, ValueEval, Memory}

-- ---- why a value isn't taken for a variable

-- it is of another kind than the variable's; the request gives the variable already; or it states another type of the entity
pub data Conflict : Type 0 where
  NotOfKind : Conflict
  AlreadyGiven : Conflict
  OfOtherType : Conflict

-- of a value and the entity that it is, if it is one
abbrev pub entity_conflict : Part → Value → Option Uid → Option Conflict
entity_conflict p v None = Some NotOfKind
entity_conflict (Given u) v (Some w) = Some AlreadyGiven
entity_conflict (Missing ty) v (Some w) = cond (fits (entity_type ty) v) None (Some OfOtherType)

-- of a principal, an action or a resource
abbrev pub part_conflict : Part → Option Value → Option Conflict
part_conflict p None = None
part_conflict p (Some v) = entity_conflict p v (uid_in v)

-- of a context, and whether the value is a record
abbrev pub record_conflict : Option (Either Value Tree) → Bool → Option Conflict
record_conflict c false = Some NotOfKind
record_conflict None true = None
record_conflict (Some p) true = Some AlreadyGiven

abbrev pub context_conflict : Option (Either Value Tree) → Option Value → Option Conflict
context_conflict c None = None
context_conflict c (Some v) = record_conflict c (is_record_value v)

-- what is told of variables stands under their names
abbrev pub conflict_of : (Text → Option Value) → RequestParts → Variable → Option Conflict
conflict_of told r Principal = part_conflict r.principal (told (codes "principal"))
conflict_of told r Action = part_conflict r.action (told (codes "action"))
conflict_of told r Resource = part_conflict r.resource (told (codes "resource"))
conflict_of told r Context = context_conflict r.context (told (codes "context"))

abbrev pub or_first : Variable → Option Conflict → Option (Variable × Conflict) → Option (Variable × Conflict)
or_first v (Some c) rest = Some (v, c)
or_first v None rest = rest

abbrev pub first_among : (Variable → Option Conflict) → List Variable → Option (Variable × Conflict)
first_among conflict [] = None
first_among conflict (v ∷ vs) = or_first v (conflict v) (first_among conflict vs)

-- the first variable for which the value that is told of it isn't taken
abbrev pub first_conflict : (Text → Option Value) → RequestParts → Option (Variable × Conflict)
first_conflict told r = first_among (conflict_of told r) (Principal ∷ Action ∷ Resource ∷ Context ∷ [])

-- ---- the request with what is told of it

abbrev pub part_with : Part → Option Uid → Part
part_with (Given u) w = Given u
part_with (Missing ty) (Some w) = Given w
part_with (Missing ty) None = Missing ty

-- an entity that is told stands where none is given
abbrev pub part_told : Part → Option Value → Part
part_told p None = p
part_told p (Some v) = part_with p (uid_in v)

-- a record that is told stands where no context is given; one that is given has the values told for its unknowns
abbrev pub ContextTold : Table → ℕ → List (RcStr Global × Value) → Option (Either Value Tree) → Option (Either Value Tree) → Type 0
ContextTold table depth entries None None = told_for entries (codes "context") ≡ None
ContextTold table depth entries None (Some p) = (v : Value) × (told_for entries (codes "context") ≡ Some v) × (p ≡ Left v)
ContextTold table depth entries (Some p) (Some q) = (c : contexts.Context) × (context_part c ≡ q) × TellsContext table depth entries p (Ok c)
ContextTold table depth entries (Some p) None = ⊥

-- the request more is r with all that is told of it
pub record IsConcreteRequest (table : Table) (depth : ℕ) (entries : List (RcStr Global × Value)) (r more : RequestParts) : Type 0 where
  pub no_conflict : first_conflict (told_for entries) r ≡ None
  pub principal : more.principal ≡ part_told r.principal (told_for entries (codes "principal"))
  pub action : more.action ≡ part_told r.action (told_for entries (codes "action"))
  pub resource : more.resource ≡ part_told r.resource (told_for entries (codes "resource"))
  pub context : ContextTold table depth entries r.context more.context

-- ---- what an error says

-- which kind of value a variable has
abbrev pub kind_of : Variable → Text
kind_of Principal = codes "entity"
kind_of Action = codes "entity"
kind_of Resource = codes "entity"
kind_of Context = codes "record"

abbrev pub part_held : Part → Option (Either Value Tree)
part_held (Given u) = Some (Left (Plain (Entity u)))
part_held (Missing ty) = None

-- what the request gives of a variable
abbrev pub held_of : RequestParts → Variable → Option (Either Value Tree)
held_of r Principal = part_held r.principal
held_of r Action = part_held r.action
held_of r Resource = part_held r.resource
held_of r Context = r.context

abbrev pub part_type : Part → Option Name
part_type (Given u) = None
part_type (Missing ty) = ty

-- which type it states of one that it doesn't give
abbrev pub type_of : RequestParts → Variable → Option Name
type_of r Principal = part_type r.principal
type_of r Action = part_type r.action
type_of r Resource = part_type r.resource
type_of r Context = None

-- the variable of this name is the first in conflict, and this is told of it
pub record IsFirst (told : Text → Option Value) (r : RequestParts) (name : Text) (given : Value) (v : Variable) (conflict : Conflict) : Type 0 where
  pub named : name ≡ variable_text v
  pub given_is : told name ≡ Some given
  pub first : first_conflict told r ≡ Some (v, conflict)

-- why the values aren't taken: the first conflict, with what is told and what stands there; or else why the context errs
abbrev pub IsRefused : Table → ℕ → List (RcStr Global × Value) → RequestParts → ConcretizationError → Type 0
IsRefused table depth entries r (ValueError name kind given) = (v : Variable) × IsFirst (told_for entries) r (rc_str_bytes name) given v NotOfKind × (kind.now ≡ kind_of v)
IsRefused table depth entries r (VarConfictError name existing given) = (v : Variable) × IsFirst (told_for entries) r (rc_str_bytes name) given v AlreadyGiven × (held_of r v ≡ Some (partial_of existing))
IsRefused table depth entries r (EntityTypeConfictError name existing given) = (v : Variable) × IsFirst (told_for entries) r (rc_str_bytes name) given v OfOtherType × (type_of r v ≡ Some existing)
IsRefused table depth entries r (ValueEval e) = (first_conflict (told_for entries) r ≡ None) × ((p : Either Value Tree) × (r.context ≡ Some p) × TellsContext table depth entries p (Err e))
IsRefused table depth entries r (Memory e) = ⊤

-- ---- of one variable

-- of this name and kind, of which this is told, held, stated and in conflict: what the error says; want of memory says nothing
abbrev pub TellsConflict : Text → Text → Option Value → Option (Either Value Tree) → Option Name → Option Conflict → ConcretizationError → Type 0
TellsConflict name wanted told held stated conflict (ValueError id kind given) = (rc_str_bytes id ≡ name) × (told ≡ Some given) × (conflict ≡ Some NotOfKind) × (kind.now ≡ wanted)
TellsConflict name wanted told held stated conflict (VarConfictError id existing given) = (rc_str_bytes id ≡ name) × (told ≡ Some given) × (conflict ≡ Some AlreadyGiven) × (held ≡ Some (partial_of existing))
TellsConflict name wanted told held stated conflict (EntityTypeConfictError id existing given) = (rc_str_bytes id ≡ name) × (told ≡ Some given) × (conflict ≡ Some OfOtherType) × (stated ≡ Some existing)
TellsConflict name wanted told held stated conflict (ValueEval e) = ⊥
TellsConflict name wanted told held stated conflict (Memory e) = ⊤

-- a principal, an action or a resource with what is told of it
abbrev pub TellsPart : Text → Part → Option Value → Result EntityUIDEntry ConcretizationError → Type 0
TellsPart name p told (Ok entry) = (part_conflict p told ≡ None) × (part_of entry ≡ part_told p told)
TellsPart name p told (Err error) = TellsConflict name (codes "entity") told (part_held p) (part_type p) (part_conflict p told) error

-- a context with what is told of it and for its unknowns
abbrev pub TellsMaybeContext : Table → ℕ → List (RcStr Global × Value) → Option (Either Value Tree) → Result (Option contexts.Context) ConcretizationError → Type 0
TellsMaybeContext table depth entries c (Ok made) = (context_conflict c (told_for entries (codes "context")) ≡ None) × ContextTold table depth entries c (option_map context_part made)
TellsMaybeContext table depth entries c (Err (ValueEval e)) = (context_conflict c (told_for entries (codes "context")) ≡ None) × ((p : Either Value Tree) × (c ≡ Some p) × TellsContext table depth entries p (Err e))
TellsMaybeContext table depth entries c (Err error) = TellsConflict (codes "context") (codes "record") (told_for entries (codes "context")) c None (context_conflict c (told_for entries (codes "context"))) error

-- the record that is told of a context, where none is given
abbrev pub TellsGivenContext : Option (Either Value Tree) → Value → Result contexts.Context ConcretizationError → Type 0
TellsGivenContext c v (Ok made) = (context_conflict c (Some v) ≡ None) × (c ≡ None) × (context_part made ≡ Left v)
TellsGivenContext c v (Err error) = TellsConflict (codes "context") (codes "record") (Some v) c None (context_conflict c (Some v)) error

abbrev pub Concretizes : Table → ℕ → List (RcStr Global × Value) → RequestParts → Result Request ConcretizationError → Type 0
Concretizes table depth entries r (Ok more) = IsConcreteRequest table depth entries r (request_parts more)
Concretizes table depth entries r (Err error) = IsRefused table depth entries r error

-- ---- errors that are made

abbrev pub IsOfKind : Text → Text → Value → ConcretizationError → Type 0
IsOfKind name wanted v (ValueError id kind given) = (rc_str_bytes id ≡ name) × (kind.now ≡ wanted) × (given ≡ v)
IsOfKind name wanted v (VarConfictError id existing given) = ⊥
IsOfKind name wanted v (EntityTypeConfictError id existing given) = ⊥
IsOfKind name wanted v (ValueEval e) = ⊥
IsOfKind name wanted v (Memory e) = ⊥

abbrev pub IsOfGiven : Text → Either Value Tree → Value → ConcretizationError → Type 0
IsOfGiven name p v (ValueError id kind given) = ⊥
IsOfGiven name p v (VarConfictError id existing given) = (rc_str_bytes id ≡ name) × (partial_of existing ≡ p) × (given ≡ v)
IsOfGiven name p v (EntityTypeConfictError id existing given) = ⊥
IsOfGiven name p v (ValueEval e) = ⊥
IsOfGiven name p v (Memory e) = ⊥

abbrev pub IsOfType : Text → Name → Value → ConcretizationError → Type 0
IsOfType name ty v (ValueError id kind given) = ⊥
IsOfType name ty v (VarConfictError id existing given) = ⊥
IsOfType name ty v (EntityTypeConfictError id existing given) = (rc_str_bytes id ≡ name) × (existing ≡ ty) × (given ≡ v)
IsOfType name ty v (ValueEval e) = ⊥
IsOfType name ty v (Memory e) = ⊥
