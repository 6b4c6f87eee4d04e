-- What is told of the faults of a text is told of its errors.
use Rattle.std.proofs.Common.{◌≡◌, List, [], ◌∷◌, map, sym, subst}
use Rattle.cedar_language.specs.Uid.{Text}
use Rattle.cedar_parser.specs.ErrorsLeft.{errors_of}
use Rattle.cedar_parser.specs.declared.errors.ParseErrors.{ParseErrors}
use Rattle.cedar_messages.specs.declared.fault.Fault.{Fault}
use Rattle.cedar_messages.specs.Faults.{AreFaultsOf, extent_of, reach, start_of, Tells, TellsFault}
use Rattle.cedar_messages.specs.Telling.{TellsEach, TellsOf}

-- what is told of each by a part of it is told of others with the same parts
pub told_alike : {X Y P : Type 0} (T : P → Text → Type 0) (f : X → P) (g : Y → P) (xs : List X) (ys : List Y) (told : Text) → map f xs ≡ map g ys
    → TellsEach (λ x. T (f x)) xs told → TellsEach (λ y. T (g y)) ys told
told_alike T f g [] [] told same h = h
told_alike T f g [] (y ∷ ys) told same h = absurd (cc)
told_alike T f g (x ∷ xs) [] told same h = absurd (cc)
told_alike {P = P} T f g (x ∷ xs) (y ∷ ys) told same h =
    let first : f x ≡ g y = cc in
    let rest : map f xs ≡ map g ys = cc in
    (h.0, h.1, subst (λ (p : P). T p h.0) first h.2, told_alike T f g xs ys h.1 rest h.3, h.4)

pub told_of_errors : (name text : Text) (errors : ParseErrors) (faults lent : List Fault) (told : Text) → lent ≡ faults → AreFaultsOf text errors faults
    → TellsEach (Tells name) lent told → TellsEach (TellsFault name text) (errors_of errors) told
told_of_errors name text errors faults lent told same are lines =
    let P : List Fault → Type 0 = λ fs. TellsEach (Tells name) fs told in
    told_alike (λ extent. TellsOf name (start_of extent)) reach (extent_of text) faults (errors_of errors) told are (subst P same lines)
