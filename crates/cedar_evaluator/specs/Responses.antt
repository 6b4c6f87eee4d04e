-- What a response keeps of policies, by their effects and by what was found of them.
use Rattle.std.specs.Prelude.{Bool, true, false, Option, Some, None, option_map, List, [], ◌++◌, map}
use Rattle.std.specs.List.{filter_map}
use Rattle.cedar_language.specs.Uid.{Text}
use Rattle.cedar_language.specs.Tree.{Tree}
use Rattle.cedar_language.specs.Answering as answering
use Rattle.cedar_language.specs.Answering.{Effect, Permit, Forbid, Judged}
use Rattle.cedar_extensions.specs.Failures.{Failure}
use Rattle.cedar_evaluator.specs.Evaluations.{Found, Satisfied, Unsatisfied, Erred, Open, Annotations, Kept}

-- ---- what is found of the policies of one effect

abbrev pub if_effect : {X : Type 0} → Effect → Effect → Option X → Option X
if_effect Permit Permit o = o
if_effect Forbid Forbid o = o
if_effect _ _ o = None

abbrev pub satisfied_id : Text → Found → Option Text
satisfied_id id Satisfied = Some id
satisfied_id id _ = None

-- not satisfied; with whether it erred
abbrev pub false_id : Text → Found → Option (Text × Bool)
false_id id Unsatisfied = Some (id, false)
false_id id (Erred f) = Some (id, true)
false_id id _ = None

abbrev pub open_id : Text → Found → Option (Text × Tree)
open_id id (Open t) = Some (id, t)
open_id id _ = None

abbrev pub error_id : Text → Found → Option (Text × Failure)
error_id id (Erred f) = Some (id, f)
error_id id _ = None

abbrev pub satisfied_of : Effect → List Kept → List Text
satisfied_of e ks = filter_map (λ (k : Kept). if_effect e k.effect (satisfied_id k.id k.found)) ks

abbrev pub false_of : Effect → List Kept → List (Text × Bool)
false_of e ks = filter_map (λ (k : Kept). if_effect e k.effect (false_id k.id k.found)) ks

abbrev pub open_of : Effect → List Kept → List (Text × Tree)
open_of e ks = filter_map (λ (k : Kept). if_effect e k.effect (open_id k.id k.found)) ks

abbrev pub errors_of : List Kept → List (Text × Failure)
errors_of ks = filter_map (λ (k : Kept). error_id k.id k.found) ks

-- ---- their annotations

-- the policy's annotations under its id, where it is one of a group
abbrev pub annotated : {X : Type 0} → Kept → Option X → Option (Text × Annotations)
annotated k o = option_map (λ x. (k.id, k.annotations)) o

abbrev pub satisfied_annotated : Effect → List Kept → List (Text × Annotations)
satisfied_annotated e ks = filter_map (λ (k : Kept). if_effect e k.effect (annotated k (satisfied_id k.id k.found))) ks

abbrev pub false_annotated : Effect → List Kept → List (Text × Annotations)
false_annotated e ks = filter_map (λ (k : Kept). if_effect e k.effect (annotated k (false_id k.id k.found))) ks

abbrev pub open_annotated : Effect → List Kept → List (Text × Annotations)
open_annotated e ks = filter_map (λ (k : Kept). if_effect e k.effect (annotated k (open_id k.id k.found))) ks

-- of each group the annotations of its policies, under their ids and in their order
pub record Annotated : Type 0 where
  pub satisfied_permits : List (Text × Annotations)
  pub false_permits : List (Text × Annotations)
  pub open_permits : List (Text × Annotations)
  pub satisfied_forbids : List (Text × Annotations)
  pub false_forbids : List (Text × Annotations)
  pub open_forbids : List (Text × Annotations)

abbrev pub annotated_of : List Kept → Annotated
annotated_of ks = record {
  satisfied_permits = satisfied_annotated Permit ks;
  false_permits = false_annotated Permit ks;
  open_permits = open_annotated Permit ks;
  satisfied_forbids = satisfied_annotated Forbid ks;
  false_forbids = false_annotated Forbid ks;
  open_forbids = open_annotated Forbid ks;
}

-- ---- all

-- what a response holds: of each group its policies in order and their annotations, and the errors
pub record Holding : Type 0 where
  pub satisfied_permits : List Text
  pub false_permits : List (Text × Bool)
  pub open_permits : List (Text × Tree)
  pub satisfied_forbids : List Text
  pub false_forbids : List (Text × Bool)
  pub open_forbids : List (Text × Tree)
  pub errors : List (Text × Failure)
  pub annotated : Annotated

-- what it holds of kept policies
abbrev pub holding_of : List Kept → Holding
holding_of ks = record {
  satisfied_permits = satisfied_of Permit ks;
  false_permits = false_of Permit ks;
  open_permits = open_of Permit ks;
  satisfied_forbids = satisfied_of Forbid ks;
  false_forbids = false_of Forbid ks;
  open_forbids = open_of Forbid ks;
  errors = errors_of ks;
  annotated = annotated_of ks;
}

-- the same without the policies that aren't satisfied; the errors are kept
abbrev pub without_false : Holding → Holding
without_false h = record h { false_permits = []; false_forbids = []; annotated = record h.annotated { false_permits = []; false_forbids = [] } }

-- ---- how its policies stand, an error counting as not satisfied

abbrev pub stands : Effect → answering.Standing → Text → Judged
stands e s id = record { id = id; effect = e; standing = s }

-- permits before forbids, and of each the satisfied, the false and the open ones
abbrev pub judged_held : Holding → List Judged
judged_held h =
    map (stands Permit answering.Satisfied) h.satisfied_permits
    ++ map (λ e. stands Permit answering.Unsatisfied e.0) h.false_permits
    ++ map (λ e. stands Permit answering.Residual e.0) h.open_permits
    ++ map (stands Forbid answering.Satisfied) h.satisfied_forbids
    ++ map (λ e. stands Forbid answering.Unsatisfied e.0) h.false_forbids
    ++ map (λ e. stands Forbid answering.Residual e.0) h.open_forbids
