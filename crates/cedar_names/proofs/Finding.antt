-- The first element that passes a test.
use Rattle.std.proofs.Common.{◌≡◌, ℕ, zero, suc, ◌<◌, List, [], ◌∷◌, length, drop, get_or, Bool, true, refl, sym, ap, ◌∙◌, arith, slice_get}
use Rattle.std.specs.List.{find}
use Rattle.cedar_language.specs.Uid.{Name}

pub find-here : (p : Name → Bool) (ns : List Name) (i : ℕ) (n : Name) → i < length ns → n ≡ get_or ns i n → p n ≡ true → find p (drop i ns) ≡ slice_get ns i
find-here p [] i n below is passes = absurd (omega arith)
find-here p (m ∷ ms) zero n below is passes = rw (ap p (sym is) ∙ passes) refl
find-here p (m ∷ ms) (suc i) n below is passes = find-here p ms i n (omega arith) is passes
