-- What is written of a policy or of a template, as the grammar has it.
use Rattle.std.specs.Prelude.{Option, option_map}
use Rattle.std.specs.declared.rc.Rc.{Rc}
use Rattle.std.specs.declared.alloc.Global.{Global}
use Rattle.cedar_language.specs.Uid.{Text}
use Rattle.cedar_language.specs.Tree.{Tree}
use Rattle.cedar_grammar.specs.Policy.{Policy}
use Rattle.cedar_names.specs.declared.places.Loc.{Loc}
use Rattle.cedar_trees.specs.Bare.{bare}
use Rattle.cedar_trees.specs.declared.expr.Expr.{Expr}
use Rattle.cedar_policy_parts.specs.Effects.{effect_of}
use Rattle.cedar_policy_parts.specs.Actions.{action_of}
use Rattle.cedar_policies.specs.declared.bodies.TemplateBody.{TemplateBody}

-- the bare tree of a shared expression
abbrev pub shared_tree : Rc (Expr Unit) Global → Tree
shared_tree e = bare e.value

abbrev pub body_id : TemplateBody → Text
body_id b = b.id

-- where it was read, if it was
abbrev pub body_place : TemplateBody → Option Loc
body_place b = b.loc

-- its syntax, without places
abbrev pub body_syntax : TemplateBody → Policy
body_syntax b = record {
  effect = effect_of b.effect;
  annotations = b.annotations.value;
  principal = b.principal_constraint;
  action = action_of b.action_constraint;
  resource = b.resource_constraint;
  body = option_map shared_tree b.non_scope_constraints;
}
