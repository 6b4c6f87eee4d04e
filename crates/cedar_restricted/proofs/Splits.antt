-- Partial values that are split.
use Rattle.std.proofs.Common.{◌≡◌, ◌∙◌, refl, ap, sym, Bool, List, [], ◌∷◌, ◌++◌, map}
use Rattle.std.specs.Prelude.{◌||◌}
use Rattle.std.specs.List.{list_any}
use Rattle.std.proofs.lemmas.List.{append-nil}
use Rattle.either.specs.declared.Either.{Either}
use Rattle.cedar_language.specs.Tree.{Tree}
use Rattle.cedar_language.specs.Value.{Value}
use Rattle.cedar_restricted.specs.PartialValues.{partial_of}
use Rattle.cedar_restricted.specs.Splitting.{is_residual, ExpressEach}
use Rattle.cedar_restricted.specs.declared.partial_values.PartialValue.{PartialValue}

any_mapped : (ps : List PartialValue) → list_any is_residual (map partial_of ps) ≡ list_any (λ p. is_residual (partial_of p)) ps
any_mapped [] = refl
any_mapped (p ∷ ps) = ap (λ b. is_residual (partial_of p) || b) (any_mapped ps)

pub any_residual : (ps qs : List PartialValue) (b c : Bool) → qs ≡ ps → b ≡ list_any (λ p. is_residual (partial_of p)) qs → b ≡ c → list_any is_residual (map partial_of ps) ≡ c
any_residual ps qs b c same is test = any_mapped ps ∙ ap (list_any (λ p. is_residual (partial_of p))) (sym same) ∙ sym is ∙ test

pub each_written : (rest : List PartialValue) (all : List (Either Value Tree)) (done : List Tree) → ((ts : List Tree) → ExpressEach (map partial_of rest) ts → ExpressEach all (done ++ ts)) → rest ≡ [] → ExpressEach all done
each_written rest all done go none = rw (append-nil done) at (go [] (rw none tt))
