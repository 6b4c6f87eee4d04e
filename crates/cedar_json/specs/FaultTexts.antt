-- How faults are written as JSON.
use Rattle.std.specs.Prelude.{ℕ, Option, Some, None, List, [], ◌∷◌, ◌++◌, codes, decimal, string_bytes}
use Rattle.json.specs.Print.{print}
use Rattle.json.specs.Token.{Token, begin_object, end_object, begin_array, end_array, key, string, number}
use Rattle.cedar_language.specs.Uid.{Text}
use Rattle.cedar_json.specs.declared.faults.FaultKind.{FaultKind}
use Rattle.cedar_json.specs.declared.faults.FaultKind.TheVariants as kind
use Rattle.cedar_json.specs.declared.faults.JsonFault.{JsonFault}

abbrev pub kind_name : FaultKind → Text
kind_name kind.NotUtf8 = codes "NotUtf8"
kind_name kind.Mark = codes "Mark"
kind_name kind.NotJson = codes "NotJson"
kind_name kind.Nesting = codes "Nesting"
kind_name kind.TwiceKey = codes "TwiceKey"
kind_name kind.Null = codes "Null"
kind_name kind.Float = codes "Float"
kind_name kind.Range = codes "Range"
kind_name kind.Uid = codes "Uid"
kind_name kind.«Type» = codes "Type"
kind_name kind.Extn = codes "Extn"
kind_name kind.Key = codes "Key"
kind_name kind.Missing = codes "Missing"
kind_name kind.Kind = codes "Kind"

-- members of an object: a number, a string
abbrev pub counted : Text → ℕ → List Token
counted name n = key name ∷ number (decimal n) ∷ []

abbrev pub stated : Text → Text → List Token
stated name text = key name ∷ string text ∷ []

-- where a fault stands, from 1
abbrev pub place_members : JsonFault → List Token
place_members fault = counted (codes "line") fault.line ++ counted (codes "column") fault.column

-- of what it is, and what is wrong there
abbrev pub told_members : JsonFault → List Token
told_members fault =
    stated (codes "pointer") (string_bytes fault.pointer) ++ (stated (codes "kind") (kind_name fault.kind) ++ stated (codes "message") (string_bytes fault.message))

abbrev pub fault_object : JsonFault → List Token
fault_object fault = begin_object ∷ (place_members fault ++ (told_members fault ++ end_object ∷ []))

-- the faults of a text, of which one at most is told, in a list
abbrev pub fault_list : Option JsonFault → List Token
fault_list None = begin_array ∷ end_array ∷ []
fault_list (Some fault) = begin_array ∷ (fault_object fault ++ end_array ∷ [])

abbrev pub faults_written : Option JsonFault → Text
faults_written fault = print (fault_list fault)
