-- How what is read in parts makes a frame, or none.
use Rattle.std.proofs.Common.{◌≡◌, ℕ, List, [], ◌∷◌, ◌++◌, ◌≤◌, ◌<◌, length, take, arith, inr, ap, sym, refl, subst, length-append}
use Rattle.std.proofs.lemmas.List.{length-take}
use Rattle.cedar_frames.specs.declared.verb.Verb.{Verb}
use Rattle.cedar_frames.specs.Heads.{IsHead, body_limit}
use Rattle.cedar_frames.specs.Frames.{IsHeadLine, IsFrame, IsOverrun, IsPartial}
use Rattle.cedar_frames.proofs.Bytes.{not_nil}

pub head_line : (taken line : List ℕ) (len size : ℕ) (verb : Verb) → len ≤ 32 → taken ≡ take len line ++ 10 ∷ [] → IsHead (take len line) verb size → IsHeadLine taken verb size
head_line taken line len size verb short is head = record { line = take len line; is = is; short = omega (arith, length-take len line); head = head }

pub open_frame : (head part : List ℕ) (verb : Verb) (len : ℕ) → IsHeadLine head verb len → len ≤ body_limit → length part ≤ len → IsPartial (head ++ part)
open_frame head part verb len opens fits short = inr (record { head = head; verb = verb; len = len; opens = opens; fits = fits; part = part; short = short; is = refl })

pub not_empty : (head part : List ℕ) (verb : Verb) (len : ℕ) → IsHeadLine head verb len → head ++ part ≡ [] → ⊥
not_empty head part verb len opens e =
    let some : 0 < length head = omega (arith, ap length opens.is, length-append opens.line (10 ∷ [])) in
    let more : 0 < length (head ++ part) = omega (arith, length-append head part) in
    not_nil (head ++ part) more e

pub whole_frame : (head body : List ℕ) (verb : Verb) (len : ℕ) → IsHeadLine head verb len → len ≤ body_limit → length body ≡ len → IsFrame ((head ++ body) ++ 10 ∷ []) verb body
whole_frame head body verb len opens fits same = record { head = head; opens = subst (IsHeadLine head verb) (sym same) opens; fits = omega arith; is = refl }

pub overrun : (head body : List ℕ) (verb : Verb) (len byte : ℕ) → IsHeadLine head verb len → len ≤ body_limit → length body ≡ len → (byte ≡ 10 → ⊥) → IsOverrun ((head ++ body) ++ byte ∷ [])
overrun head body verb len byte opens fits same other = record { head = head; verb = verb; body = body; opens = subst (IsHeadLine head verb) (sym same) opens; fits = omega arith; byte = byte; other = other; is = refl }
