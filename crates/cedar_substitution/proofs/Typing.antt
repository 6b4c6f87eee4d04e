-- Values told for unknowns: their types, and what is built with what writes them.
use Rattle.std.proofs.Common.{◌≡◌, ◌∙◌, ap, sym, refl, List, ◌∷◌}
use Rattle.std.specs.Prelude.{Option, None, Some, Result, Ok, Err, IfOk, IfErr}
use Rattle.std.specs.Option.{option_map, option_or}
use Rattle.std.specs.declared.alloc.Global.{Global}
use Rattle.std.specs.declared.rc.RcStr.{RcStr}
use Rattle.cedar_language.specs.Uid.{Text}
use Rattle.cedar_language.specs.Tree.{ValueType, Tree}
use Rattle.cedar_language.specs.Value.{Value}
use Rattle.cedar_literals.specs.declared.types.Type as code
use Rattle.cedar_builders.specs.Operations.{Operations, OnRefusal, Gives, made}
use Rattle.cedar_builders.specs.Own.{own_operations}
use Rattle.cedar_substitution.specs.Chains.{with_built}
use Rattle.cedar_substitution.specs.Rising.{RecordsRiseWith, CallsAreTaken, BuildsRising}
use Rattle.cedar_substitution.specs.Told.{told_for}
use Rattle.cedar_substitution.specs.Typed.{Tells, OnValuesRefused, GivesValues, mistyped, mistyped_among, types_apart}

or_again : {A : Type 0} (a b c : Option A) → option_or (option_or a b) c ≡ option_or a (option_or b c)
or_again None b c = refl
or_again (Some x) b c = refl

map_or : {A B : Type 0} (f : A → B) (a b : Option A) → option_map f (option_or a b) ≡ option_or (option_map f a) (option_map f b)
map_or f None b = refl
map_or f (Some x) b = refl

-- one more unknown, to the left of those before it
pub leftmost_step : (told : List (RcStr Global × Value)) (whole : Option (ValueType × ValueType)) (rest others : List (Text × Option ValueType)) (u : Text × Option ValueType) (types old new : Option (code.Type × code.Type))
    → whole ≡ option_or (mistyped_among told rest) (option_map types_apart old) → rest ≡ u ∷ others → option_map types_apart types ≡ mistyped u.1 (told_for told u.0) → new ≡ option_or types old
    → whole ≡ option_or (mistyped_among told others) (option_map types_apart new)
leftmost_step told whole rest others u types old new is cut here joined =
    is
    ∙ ap (λ us. option_or (mistyped_among told us) (option_map types_apart old)) cut
    ∙ or_again (mistyped_among told others) (mistyped u.1 (told_for told u.0)) (option_map types_apart old)
    ∙ ap (λ m. option_or (mistyped_among told others) (option_or m (option_map types_apart old))) (sym here)
    ∙ ap (option_or (mistyped_among told others)) (sym (map_or types_apart types old) ∙ ap (option_map types_apart) (sym joined))

pub each_ok : {A E : Type 0} {P Q : A → Type 0} (r : Result A E) → ((x : A) → P x → Q x) → IfOk r P → IfOk r Q
each_ok (Ok x) f h = f x h
each_ok (Err e) f h = tt

module _ {M R : Type 0} (o : Operations M R) (told : List (RcStr Global × Value)) (t : Tree) (trees : Text → Option ValueType → Tree) (tells : Tells told trees) where
  values_refused : (r : Option R) → OnRefusal r (made o (with_built o trees) t) → OnValuesRefused o told t r
  values_refused None h = tt
  values_refused (Some r) h = (trees, tells, h)

  pub gives_values : {E B : Type 0} (meaning : E → M) (refusal : B → Option R) (result : Result E B) → Gives meaning refusal result (made o (with_built o trees) t) → BuildsRising o refusal (RecordsRiseWith trees t) result → GivesValues o meaning refusal told t result
  gives_values meaning refusal (Ok e) given rising = (trees, tells, rising, given)
  gives_values meaning refusal (Err b) given rising = values_refused (refusal b) given

pub refused_for_memory : {E B M R : Type 0} (o : Operations M R) (refusal : B → Option R) (rises : Type 0) (result : Result E B) → BuildsRising o refusal rises result → IfErr result (λ b. CallsAreTaken o → refusal b ≡ None)
refused_for_memory o refusal rises (Ok e) h = tt
refused_for_memory o refusal rises (Err b) h = h

pub own_calls : CallsAreTaken own_operations
own_calls f ts = (_, refl)
