-- A policy as an entry of a set: its syntax, and its slots' entities.
use Rattle.std.proofs.Common.{◌≡◌, Option, Some, None, refl, sym}
use Rattle.std.specs.Option.{ForNone}
use Rattle.cedar_language.specs.Uid.{Text}
use Rattle.cedar_grammar.specs.Policy as grammar
use Rattle.cedar_grammar.specs.Bindings.{Bindings}
use Rattle.cedar_policy_parts.specs.Bindings.{unbound}
use Rattle.cedar_policy_set.specs.Bounds.{entry_by}
use Rattle.cedar_policy_set.specs.Texts.{syntax_in}
use Rattle.cedar_evaluator.specs.Evaluations.{bindings_in}

pub syntax_entered : (l : Option Text) (t : Text) (s : grammar.Policy) (b : Bindings) → syntax_in (entry_by l t s b) ≡ s
syntax_entered None t s b = refl
syntax_entered (Some id) t s b = refl

-- a policy that is no link binds nothing
pub bindings_entered : (l : Option Text) (t : Text) (s : grammar.Policy) (b : Bindings) → ForNone l (b ≡ unbound) → bindings_in (entry_by l t s b) ≡ b
bindings_entered None t s b own = sym (own refl)
bindings_entered (Some id) t s b own = refl
