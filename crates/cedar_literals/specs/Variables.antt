-- Variables, as the language has them, and how they are written.
use Rattle.std.proofs.Common.{◌≡◌, refl, sym, ap, ◌∙◌, codes}
use Rattle.cedar_language.specs.Uid.{Text}
use Rattle.cedar_language.specs.Tree as tree
use Rattle.cedar_literals.specs.declared.variables.Var.{Var}
use Rattle.cedar_literals.specs.declared.variables.Var.TheVariants.{Principal, Action, Resource, Context}

abbrev pub variable_of : Var → tree.Variable
variable_of Principal = tree.Principal
variable_of Action = tree.Action
variable_of Resource = tree.Resource
variable_of Context = tree.Context

abbrev pub variable_text : tree.Variable → Text
variable_text tree.Principal = codes "principal"
variable_text tree.Action = codes "action"
variable_text tree.Resource = codes "resource"
variable_text tree.Context = codes "context"

abbrev variable_from : tree.Variable → Var
variable_from tree.Principal = Principal
variable_from tree.Action = Action
variable_from tree.Resource = Resource
variable_from tree.Context = Context

variable_back : (v : Var) → variable_from (variable_of v) ≡ v
variable_back Principal = refl
variable_back Action = refl
variable_back Resource = refl
variable_back Context = refl

-- each variable is the language's own
abbrev pub VariablesAreToldApart : Type 0
VariablesAreToldApart = (v w : Var) → variable_of v ≡ variable_of w → v ≡ w

pub variables_told_apart : VariablesAreToldApart
variables_told_apart v w e = sym (variable_back v) ∙ ap variable_from e ∙ variable_back w
