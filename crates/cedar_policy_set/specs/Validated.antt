-- Whether what a policy set binds is valid. (Cedar language reference, "Policy templates".)
use Rattle.std.specs.Prelude.{◌≡◌, ◌≢◌, ◌⊎◌, ⊤, List, [], ◌∷◌, Result, Ok, Err}
use Rattle.cedar_language.specs.Tree.{SlotId}
use Rattle.cedar_language.specs.Uid.{Text}
use Rattle.cedar_grammar.specs.Policy.{Policy, slots}
use Rattle.cedar_extensions.specs.Table.{Table}
use Rattle.cedar_policies.specs.Validation as validation
use Rattle.cedar_policies.specs.Validation.{Validates}
use Rattle.cedar_policies.specs.declared.errors.TemplateValidationError.{TemplateValidationError}
use Rattle.cedar_policy_set.specs.Entries.{Entry, static_policy, template, link, Entries}
use Rattle.cedar_policy_set.specs.declared.errors.PolicySetValidationError.{PolicySetValidationError}
use Rattle.cedar_policy_set.specs.declared.errors.PolicySetValidationError.TheVariants.{InvalidTemplate, LinkToSlotlessTemplate, Memory}

-- the answers of a template's own validation, and of a set's
abbrev pub refused_by : TemplateValidationError → Result Unit TemplateValidationError
refused_by error = Err error

abbrev pub refused_for : PolicySetValidationError → Result Unit PolicySetValidationError
refused_for error = Err error

abbrev pub accepted : Result Unit PolicySetValidationError
accepted = Ok tt

-- the template, which lists these slots, is valid, or is refused for why it isn't
abbrev pub ValidatesTemplate : {A : Type 0} → Table → Text → List SlotId → Policy → Result A PolicySetValidationError → Type 0
ValidatesTemplate table id listed s (Ok a) = Validates table listed s (Ok a)
ValidatesTemplate table id listed s (Err (InvalidTemplate i error)) = (i ≡ id) × Validates table listed s (refused_by error)
ValidatesTemplate table id listed s (Err (LinkToSlotlessTemplate i)) = ⊥
ValidatesTemplate table id listed s (Err (Memory e)) = ⊤

-- the link is of a template with slots, or is refused
abbrev pub ValidatesLink : {A : Type 0} → Text → Policy → Result A PolicySetValidationError → Type 0
ValidatesLink id s (Ok a) = slots s ≢ []
ValidatesLink id s (Err (InvalidTemplate i error)) = ⊥
ValidatesLink id s (Err (LinkToSlotlessTemplate i)) = (i ≡ id) × (slots s ≡ [])
ValidatesLink id s (Err (Memory e)) = ⊤

-- a static policy lists no slot, and a template those that it has
abbrev pub ValidatesOne : {A : Type 0} → Table → Text → Entry → Result A PolicySetValidationError → Type 0
ValidatesOne table id (static_policy s) r = ValidatesTemplate table id [] s r
ValidatesOne table id (template s) r = ValidatesTemplate table id (slots s) s r
ValidatesOne table id (link t s b) r = ValidatesLink id s r

abbrev pub StopsAtInvalid : {A : Type 0} → Table → Text × Entry → Result A PolicySetValidationError → Type 0
StopsAtInvalid table e (Ok a) = ⊥
StopsAtInvalid table e (Err error) = ValidatesOne table e.0 e.1 (refused_for error)

-- Each is valid in turn, up to the first that isn't, for which the set is refused.
abbrev pub ValidatesAll : {A : Type 0} → Table → Entries → Result A PolicySetValidationError → Type 0
ValidatesAll table [] (Ok a) = ⊤
ValidatesAll table [] (Err error) = ⊥
ValidatesAll table (e ∷ es) r = (ValidatesOne table e.0 e.1 accepted × ValidatesAll table es r) ⊎ StopsAtInvalid table e r

-- the same is told
abbrev pub TellsSame : PolicySetValidationError → PolicySetValidationError → Type 0
TellsSame (InvalidTemplate i e) (InvalidTemplate j f) = (j ≡ i) × validation.TellsSame e f
TellsSame (LinkToSlotlessTemplate i) (LinkToSlotlessTemplate j) = j ≡ i
TellsSame (Memory e) (Memory f) = ⊤
TellsSame e f = ⊥
