-- What a request holds.
use Rattle.std.specs.Prelude.{Option, Some, None, option_map}
use Rattle.either.specs.declared.Either.{Either}
use Rattle.cedar_language.specs.Tree.{Tree}
use Rattle.cedar_language.specs.Value.{Value}
use Rattle.cedar_partial_evaluation.specs.Question.{Part, Given}
use Rattle.cedar_requests.specs.Contexts.{context_part}
use Rattle.cedar_names.specs.declared.places.Loc.{Loc}
use Rattle.cedar_requests.specs.Parts.{part_of, entry_place}
use Rattle.cedar_requests.specs.declared.requests.Request.{Request}
use Rattle.cedar_requests.specs.declared.requests.RequestType.{RequestType}

-- what is asked; the context's record, or the tree of what is left of it, where one is given
pub record RequestParts : Type 0 where
  pub principal : Part
  pub action : Part
  pub resource : Part
  pub context : Option (Either Value Tree)

abbrev pub request_parts : Request → RequestParts
request_parts r = record {
  principal = part_of r.principal;
  action = part_of r.action;
  resource = part_of r.resource;
  context = option_map context_part r.context;
}

-- where its entities were read, if they were
pub record RequestPlaces : Type 0 where
  pub principal : Option Loc
  pub action : Option Loc
  pub resource : Option Loc

abbrev pub request_places : Request → RequestPlaces
request_places r = record { principal = entry_place r.principal; action = entry_place r.action; resource = entry_place r.resource }

abbrev type_by : Part → Part → Part → Option RequestType
type_by (Given p) (Given a) (Given r) = Some (record { principal = p.type_name; action = a; resource = r.type_name })
type_by p a r = None

-- its types, where all three uids are given
abbrev pub request_type : RequestParts → Option RequestType
request_type r = type_by r.principal r.action r.resource
