-- Laws of substitution.
use Rattle.std.specs.Prelude.{◌≡◌, ◌↔◌, List, Option, Result}
use Rattle.std.specs.declared.alloc.Global.{Global}
use Rattle.std.specs.declared.rc.RcStr.{RcStr}
use Rattle.cedar_language.specs.Uid.{Text}
use Rattle.cedar_language.specs.Tree.{ValueType, Tree}
use Rattle.cedar_language.specs.Value.{Value}
use Rattle.cedar_builders.specs.Operations.{Operations, Gives, made, built}
use Rattle.cedar_substitution.specs.Chains.{with_built}
use Rattle.cedar_substitution.specs.Told.{Substitutes}
use Rattle.cedar_substitution.specs.Typed.{SubstitutesValues, GivesValues}

-- what is made of an expression that was substituted is what is made of the expression where its unknowns are substituted
abbrev pub SubstitutedIsBuiltAlike : {M R : Type 0} → Operations M R → Type 0
SubstitutedIsBuiltAlike o = (told : Text → Option ValueType → Tree) (t substituted : Tree)
    → Substitutes told t substituted
    → built o substituted ≡ made o (with_built o told) t

-- what is given of an expression with values told is what is given of what a substitution of these values answers
abbrev pub SubstitutedValuesAreBuiltAlike : {E B M R : Type 0} → Operations M R → (E → M) → (B → Option R) → Type 0
SubstitutedValuesAreBuiltAlike {E} {B} o meaning refusal = (told : List (RcStr Global × Value)) (t substituted : Tree) (result : Result E B)
    → SubstitutesValues told t substituted
    → (GivesValues o meaning refusal told t result ↔ Gives meaning refusal result (built o substituted))
