-- Looks at what a reader has read ahead, and what is consumed of it.
use Rattle.std.proofs.Common.{◌≡◌, ℕ, List, [], ◌++◌, ◌≤◌, ◌<◌, length, take, drop, min, Option, Some, None, IfSome, sym, ap, ◌∙◌, subst, arith, length-take-le, take-take, take-append-drop}
use Rattle.std.proofs.Math.Seq.{take-append_seam}
use Rattle.std.specs.Io.{StartsWith}
use Rattle.std.specs.Io.KnownBytes.{Consumes, Keeps, IsAtEnd}
use Rattle.std.specs.Io.BufRead.{DropsConsumable}
use Rattle.std.specs.Prelude.{Result, Ok, Err, OnErr}
use Rattle.cedar_frames.specs.Ahead.{IsShown}
use Rattle.cedar_frames.proofs.Bytes.{keeps_consumes}

-- what was copied to the front
pub copied_front : (bytes old new : List ℕ) (n : ℕ) → n ≡ min (length bytes) (length old) → new ≡ take n bytes ++ drop n old → take n new ≡ take n bytes
copied_front bytes old new n is copied =
    let long : length (take n bytes) ≡ n = length-take-le n bytes (omega arith) in
    ap (take n) copied ∙ subst (λ k. take k (take n bytes ++ drop n old) ≡ take n bytes) long (take-append_seam (take n bytes) (drop n old))

-- what a reader that keeps its bytes shows a beginning of
pub shown_front : (a b : Option (List ℕ)) (most : Option ℕ) (shown ahead : List ℕ) (n : ℕ) → n ≤ length shown → ahead ≡ take n shown
    → IfSome a (λ xs. StartsWith xs shown) → Keeps a b → IfSome a (λ _. IfSome most (λ k. length shown ≤ k)) → IsShown a b most ahead
shown_front None b most shown ahead n within is front kept fits = (kept, tt)
shown_front (Some xs) b most shown ahead n within is front kept fits = (
  kept,
  (ap (λ k. take k xs) long ∙ sym (take-take n (length shown) xs within) ∙ ap (take n) front ∙ sym is, less most fits),
)
  where
    long : length ahead ≡ n
    long = ap length is ∙ length-take-le n shown within

    less : (o : Option ℕ) → IfSome o (λ k. length shown ≤ k) → IfSome o (λ k. length ahead ≤ k)
    less None h = tt
    less (Some k) h = omega (arith, long, within, h)

-- nothing is shown at the end alone
pub shown_end : (a : Option (List ℕ)) (shown : List ℕ) (n room : ℕ) → n ≡ min (length shown) room → IfSome a (λ xs. length shown ≡ 0 → xs ≡ []) → n ≡ 0 → 0 < room → IsAtEnd a
shown_end None shown n room is end none some = tt
shown_end (Some xs) shown n room is end none some = end (omega (arith, is, none, some))

-- what is consumed of it
pub shown_consumed : (a b c : Option (List ℕ)) (most : Option ℕ) (ahead : List ℕ) (n : ℕ) → n ≤ length ahead → IsShown a b most ahead → DropsConsumable b c most n
    → Consumes a c (take n ahead)
shown_consumed None b c most ahead n within shown drops = tt
shown_consumed (Some x) None c most ahead n within shown drops = absurd shown.0
shown_consumed (Some x) (Some y) c most ahead n within shown drops = at c (drops (room most shown.1.1))
  where
    room : (o : Option ℕ) → IfSome o (λ k. length ahead ≤ k) → IfSome o (λ k. n ≤ k)
    room None h = tt
    room (Some k) h = omega arith

    at : (o : Option (List ℕ)) → o ≡ Some (drop n y) → Consumes (Some x) o (take n ahead)
    at o e = rw (e, shown.0) (sym (take-append-drop n x) ∙ ap (λ l. l ++ drop n x) (sym (take-take n (length ahead) x within) ∙ ap (take n) shown.1.0))

-- a look that failed took nothing
pub failed_look : {E : Type 0} (a b : Option (List ℕ)) (result : Result ℕ E) → OnErr result (Keeps a b) → OnErr result (Consumes a b [])
failed_look a b (Ok n) err = tt
failed_look a b (Err e) err = keeps_consumes a b err
