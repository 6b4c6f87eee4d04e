-- The word of a variable, and the variables of a scope.
use Rattle.std.specs.Prelude.{Option, Some, None}
use Rattle.cedar_language.specs.Tree as tree
use Rattle.cedar_language.specs.Tree.{Variable}
use Rattle.cedar_grammar.specs.Token as token
use Rattle.cedar_grammar.specs.Token.{Word}
use Rattle.cedar_policy_parts.specs.declared.constraints.PrincipalOrResource.{PrincipalOrResource}
use Rattle.cedar_policy_parts.specs.declared.constraints.PrincipalOrResource.TheVariants.{Principal, Resource}

abbrev pub own_word : PrincipalOrResource → Word
own_word Principal = token.Principal
own_word Resource = token.Resource

-- a variable of which a scope may ask something
abbrev pub asked_of : Variable → Option Variable
asked_of tree.Context = None
asked_of v = Some v

-- that there is none
abbrev pub without : {A : Type 0} → Option A → Option Unit
without None = Some tt
without (Some x) = None
