-- Unknowns that are told values of other types than their own.
use Rattle.std.proofs.Common.{◌≡◌, ◌∙◌, ap, sym, refl, subst, List, [], ◌∷◌}
use Rattle.std.specs.Prelude.{Option, None, Some}
use Rattle.std.specs.Option.{option_or}
use Rattle.std.specs.declared.alloc.Global.{Global}
use Rattle.std.specs.declared.rc.RcStr.{RcStr}
use Rattle.cedar_language.specs.Uid.{Text}
use Rattle.cedar_language.specs.Tree.{ValueType}
use Rattle.cedar_language.specs.Value.{Value}
use Rattle.cedar_extensions.specs.declared.evaluation_error.EvaluationError.{EvaluationError}
use Rattle.cedar_substitution.specs.Told.{told_for}
use Rattle.cedar_substitution.specs.Typed.{mistyped, mistyped_among}
use Rattle.cedar_requests.specs.Telling.{IsMistypingOf}

or_again : {A : Type 0} (a b c : Option A) → option_or (option_or a b) c ≡ option_or a (option_or b c)
or_again None b c = refl
or_again (Some x) b c = refl

or_none : {A : Type 0} (a : Option A) → option_or a None ≡ a
or_none None = refl
or_none (Some x) = refl

mistyping_or : (m n : Option (ValueType × ValueType)) (e f : Option EvaluationError) → IsMistypingOf m e → IsMistypingOf n f → IsMistypingOf (option_or m n) (option_or e f)
mistyping_or None n None f h k = k
mistyping_or None n (Some e) f h k = absurd h
mistyping_or (Some m) n None f h k = absurd h
mistyping_or (Some m) n (Some e) f h k = h

-- the types at the leftmost unknown are those of the first one among what is left, or else those of the error that is held
pub record IsSoFar (told : List (RcStr Global × Value)) (whole : Option (ValueType × ValueType)) (rest : List (Text × Option ValueType)) (leftmost : Option EvaluationError) : Type 0 where
  pub types : Option (ValueType × ValueType)
  pub held : IsMistypingOf types leftmost
  pub joined : whole ≡ option_or (mistyped_among told rest) types

module _ (told : List (RcStr Global × Value)) (whole : Option (ValueType × ValueType)) where
  pub starts : (rest : List (Text × Option ValueType)) (first : Option EvaluationError) → first ≡ None → whole ≡ mistyped_among told rest → IsSoFar told whole rest first
  starts rest first is same = record { types = None; held = subst (IsMistypingOf None) (sym is) tt; joined = same ∙ sym (or_none (mistyped_among told rest)) }

  pub goes_on : (rest others : List (Text × Option ValueType)) (u : Text × Option ValueType) (error old new : Option EvaluationError) → IsSoFar told whole rest old → rest ≡ u ∷ others → IsMistypingOf (mistyped u.1 (told_for told u.0)) error → new ≡ option_or error old → IsSoFar told whole others new
  goes_on rest others u error old new so cut here is = record {
    types = option_or (mistyped u.1 (told_for told u.0)) so.types;
    held = subst (IsMistypingOf (option_or (mistyped u.1 (told_for told u.0)) so.types)) (sym is) (mistyping_or _ so.types error old here so.held);
    joined = so.joined ∙ ap (λ us. option_or (mistyped_among told us) so.types) cut ∙ or_again (mistyped_among told others) (mistyped u.1 (told_for told u.0)) so.types;
  }

  pub ends : (rest : List (Text × Option ValueType)) (leftmost : Option EvaluationError) → IsSoFar told whole rest leftmost → rest ≡ [] → IsMistypingOf whole leftmost
  ends rest leftmost so none = subst (λ m. IsMistypingOf m leftmost) (sym (so.joined ∙ ap (λ us. option_or (mistyped_among told us) so.types) none)) so.held
