-- Bytes inside quotes, in parts.
use Rattle.std.proofs.Common.{◌≡◌, ℕ, List, [], ◌∷◌, ◌++◌, ◌+◌, ◌<◌, ◌-◌, length, take, drop, get_or, refl, sym, ap, ◌∙◌, append_assoc, append-nil}
use Rattle.std.proofs.lemmas.List.{take_more}
use Rattle.cedar_frames.specs.Quoting.{escaped, escaped_all}
use Rattle.cedar_frames.proofs.Heads.{parted_at}

escaped_all-append : (xs ys : List ℕ) → escaped_all (xs ++ ys) ≡ escaped_all xs ++ escaped_all ys
escaped_all-append [] ys = refl
escaped_all-append (x ∷ xs) ys = ap (λ l. escaped x ++ l) (escaped_all-append xs ys) ∙ sym (append_assoc (escaped x) (escaped_all xs) (escaped_all ys))

-- one more byte that stands as it is
pub plain_more : (xs : List ℕ) (i : ℕ) → i < length xs → escaped_all (take i xs) ≡ take i xs → escaped (get_or xs i 0) ≡ get_or xs i 0 ∷ [] → escaped_all (take (i + 1) xs) ≡ take (i + 1) xs
plain_more xs i h plain byte =
    let more = take_more xs i 0 h in
    ap escaped_all more
    ∙ escaped_all-append (take i xs) (get_or xs i 0 ∷ [])
    ∙ ap (λ l. l ++ escaped_all (get_or xs i 0 ∷ [])) plain
    ∙ ap (λ l. take i xs ++ l) (append-nil (escaped (get_or xs i 0)) ∙ byte)
    ∙ sym more

-- what stands round the first byte that is escaped
pub escaped_at : (xs written : List ℕ) (i : ℕ) → i < length xs → escaped_all (take i xs) ≡ take i xs → written ≡ escaped (get_or xs i 0) → escaped_all xs ≡ take i xs ++ written ++ escaped_all (take (length xs - (i + 1)) (drop (i + 1) xs))
escaped_at xs written i h plain byte =
    let rest : List ℕ = take (length xs - (i + 1)) (drop (i + 1) xs) in
    ap escaped_all (parted_at xs i h)
    ∙ escaped_all-append (take i xs) (get_or xs i 0 ∷ rest)
    ∙ ap (λ l. l ++ (escaped (get_or xs i 0) ++ escaped_all rest)) plain
    ∙ ap (λ l. take i xs ++ (l ++ escaped_all rest)) (sym byte)
    ∙ sym (append_assoc (take i xs) written (escaped_all rest))

-- what is written before the rest, once more of it is
pub more_written : (whole done plain written rest after : List ℕ) → whole ≡ done ++ rest → rest ≡ plain ++ written ++ after → whole ≡ done ++ plain ++ written ++ after
more_written whole done plain written rest after e f =
    e ∙ ap (λ l. done ++ l) f ∙ sym (append_assoc done (plain ++ written) after) ∙ ap (λ l. l ++ after) (sym (append_assoc done plain written))
