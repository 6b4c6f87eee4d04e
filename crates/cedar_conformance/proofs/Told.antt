-- One check after another: the first fault is told.
use Rattle.std.proofs.Common.{◌≡◌, Option, Some, None, Result, Ok, Err, refl, sym, subst}
use Rattle.std.specs.Prelude.{is_some, option_map, IsErr}
use Rattle.std.specs.Result.{IsErrAnd}
use Rattle.cedar_schema_grammar.specs.Declared.{or_else}
use Rattle.cedar_conformance.specs.Requests.{RequestFault}
use Rattle.cedar_conformance.specs.Verdicts.{fault_told, Tells, IsVerdict}
use Rattle.cedar_conformance.specs.declared.errors.RequestValidationError.{RequestValidationError}

told : (x a b : Option RequestFault) → Tells a x → Tells (or_else a b) x
told None a b t = tt
told (Some k) (Some l) b t = t
told (Some k) None b t = cc

-- what is told of the first stays told
pub told_first : (a b : Option RequestFault) (e : RequestValidationError) (r : Result (Unit {0}) RequestValidationError) → IsErr r × IsErrAnd r (λ f. f ≡ e) →
    IsVerdict a (Err e) → IsVerdict (or_else a b) r
told_first a b e (Ok u) err h = absurd err.1
told_first a b e (Err f) err h = subst (λ x. Tells (or_else a b) (fault_told x)) (sym err.1) (told (fault_told e) a b h)

-- where the first has none, the next decides
pub told_next : (a b : Option RequestFault) (r : Result (Unit {0}) RequestValidationError) → a ≡ None → IsVerdict b r → IsVerdict (or_else a b) r
told_next None b r h v = v
told_next (Some k) b r h v = cc

-- what is made of a value is there where the value is
pub some_kept : {X Y : Type 0} (f : X → Y) (o : Option X) → is_some (option_map f o) ≡ is_some o
some_kept f (Some x) = refl
some_kept f None = refl
