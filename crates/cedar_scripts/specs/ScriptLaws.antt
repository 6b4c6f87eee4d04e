-- What holds of scripts.
use Rattle.std.specs.Prelude.{◌≡◌, ℕ}
use Rattle.cedar_language.specs.Uid.{Text}
use Rattle.cedar_scripts.specs.declared.fault.ScriptFault.{ScriptFault}
use Rattle.cedar_scripts.specs.ScriptLines.{Said, Says}
use Rattle.cedar_scripts.specs.ScriptTexts.{ScriptText, IsScript}
use Rattle.cedar_scripts.specs.ScriptFaults.{IsFirstFault}

-- No line says two things.
abbrev pub LinesSayOneThing : Type 0
LinesSayOneThing = (line : Text) (said other : Said) → Says line said → Says line other → said ≡ other

-- No text is two scripts.
abbrev pub TextsAreOneScript : Type 0
TextsAreOneScript = (text : Text) (script other : ScriptText) → IsScript text script → IsScript text other → script ≡ other

-- A text with a fault is no script.
abbrev pub FaultsAreInNoScript : Type 0
FaultsAreInNoScript = (text : Text) (number : ℕ) (fault : ScriptFault) (script : ScriptText) → IsFirstFault text number fault → IsScript text script → ⊥

-- No text has two first faults.
abbrev pub FaultsAreOne : Type 0
FaultsAreOne =
    (text : Text) (number number' : ℕ) (fault fault' : ScriptFault) → IsFirstFault text number fault → IsFirstFault text number' fault'
    → (number ≡ number') × (fault ≡ fault')
