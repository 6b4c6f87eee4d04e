-- Texts that are put and gathered, one behind the other.
use Rattle.std.proofs.Common.{◌≡◌, ℕ, List, [], ◌++◌, Option, sym, ap, subst, ◌∙◌, append-nil}
use Rattle.cedar_frames.specs.declared.watched.Calls.{Calls}
use Rattle.cedar_frames.specs.Writing.{Puts}
use Rattle.cedar_frames.proofs.Bytes.{puts_more, puts_nothing}

-- a beginning of the text was put, and the rest of it is gathered
abbrev All : Calls → Option (List ℕ) → Calls → Option (List ℕ) → List ℕ → List ℕ → Type 0
All f a g b gathered text = (done : List ℕ) × (text ≡ done ++ gathered) × Puts f a g b done

-- before anything is gathered
pub nothing_gathered : (f : Calls) (a : Option (List ℕ)) (gathered : List ℕ) → gathered ≡ [] → All f a f a gathered []
nothing_gathered f a gathered empty = ([], sym empty, puts_nothing f a)

-- what is gathered is put
pub gathered_put : (f0 f1 f2 : Calls) (a b c : Option (List ℕ)) (gathered text : List ℕ) → All f0 a f1 b gathered text → Puts f1 b f2 c gathered → Puts f0 a f2 c text
gathered_put f0 f1 f2 a b c gathered text all put = subst (Puts f0 a f2 c) (sym all.1) (puts_more f0 f1 f2 a b c all.0 gathered all.2 put)

-- and then a text behind it
pub all_put : (f0 f1 f2 f3 : Calls) (a b c d : Option (List ℕ)) (gathered cleared past text : List ℕ) → All f0 a f1 b gathered past → Puts f1 b f2 c gathered → Puts f2 c f3 d text → cleared ≡ [] → All f0 a f3 d cleared (past ++ text)
all_put f0 f1 f2 f3 a b c d gathered cleared past text all put more empty =
    (past ++ text, sym (append-nil (past ++ text)) ∙ ap (λ l. (past ++ text) ++ l) (sym empty), puts_more f0 f2 f3 a c d past text (gathered_put f0 f1 f2 a b c gathered past all put) more)
