-- How policies stood in answers, and what is told of it.
use Rattle.std.specs.Prelude.{◌≡◌, Bool, true, false, not, List, [], ◌++◌, ◌==◌, length, codes, string_bytes, if◌then◌else◌}
use Rattle.std.specs.List.{list_any}
use Rattle.cedar_language.specs.Uid.{Text}
use Rattle.cedar_evaluator.specs.declared.partial_response.PartialResponse.{PartialResponse}
use Rattle.cedar_authoring.specs.Standing.{is_satisfied}
use Rattle.cedar_authoring.specs.declared.covering.Seen.{Seen}

-- The policy was satisfied in none of these answers.
abbrev pub never_satisfied : List PartialResponse → Text → Bool
never_satisfied responses id = not (list_any (λ r. is_satisfied r id) responses)

-- What is kept of a policy says whether these answers never satisfied it.
abbrev pub Keeps : List PartialResponse → Text → Seen → Type 0
Keeps responses id seen = never_satisfied responses id ≡ not seen.satisfied

-- what no answer showed: that it is satisfied, and that it isn't, though the question lies in its scope
abbrev pub gap_of : Bool → Bool → Text
gap_of true true = []
gap_of true false = codes " was never unsatisfied in its scope"
gap_of false true = codes " was never satisfied"
gap_of false false = codes " was never satisfied, and never unsatisfied in its scope"

-- a line tells which policy it is, and the gap, where there is one
abbrev pub tells_gap : Text → Text → Text
tells_gap heading gap = if length gap == 0 then [] else (heading ++ gap) ++ codes "\n"

abbrev pub TellsCovered : Seen → Text → Type 0
TellsCovered seen told = told ≡ tells_gap (string_bytes seen.heading) (gap_of seen.satisfied seen.unsatisfied)
