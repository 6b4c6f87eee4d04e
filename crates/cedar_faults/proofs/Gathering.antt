-- What several parts fail by together, one after the other.
use Rattle.std.proofs.Common.{◌≡◌, List, [], ◌∷◌, ◌++◌, Result, Ok, Err, refl, sym, ap, ◌∙◌, subst, append_assoc}
use Rattle.std.specs.Prelude.{⊤}
use Rattle.std.proofs.lemmas.List.{append-nil}
use Rattle.cedar_faults.specs.declared.errors.ConversionError.{ConversionError}
use Rattle.cedar_faults.specs.declared.errors.ConversionError.TheVariants as error
use Rattle.cedar_faults.specs.Reasons.{Reason, Gathers, gathered, means_nothing, refused, out_of_memory, reason, faults_of}
use Rattle.cedar_faults.specs.Flat.{Flat, FailsByAll, all_gathered, all_faults, failing}

gathered_more : {E : Type 0} (r : Reason E) (es : List (ConversionError E)) (f : ConversionError E) → all_gathered r (es ++ f ∷ []) ≡ gathered (all_gathered r es) (reason f)
gathered_more r [] f = refl
gathered_more r (e ∷ es) f = gathered_more (gathered r (reason e)) es f

faults_more : {E : Type 0} (es : List (ConversionError E)) (f : ConversionError E) → all_faults (es ++ f ∷ []) ≡ all_faults es ++ faults_of f
faults_more [] f = append-nil (faults_of f)
faults_more (e ∷ es) f = ap (λ xs. faults_of e ++ xs) (faults_more es f) ∙ sym (append_assoc (faults_of e) (all_faults es) (faults_of f))

-- ---- where the builder's refusals are all that fails, there are no faults

abbrev IsRefused : {E : Type 0} → Reason E → Type 0
IsRefused (refused e) = ⊤
IsRefused r = ⊥

both_refused : {E : Type 0} (r s : Reason E) → IsRefused (gathered r s) → IsRefused r × IsRefused s
both_refused out_of_memory s h = absurd h
both_refused means_nothing out_of_memory h = absurd h
both_refused means_nothing means_nothing h = absurd h
both_refused means_nothing (refused f) h = absurd h
both_refused (refused e) out_of_memory h = absurd h
both_refused (refused e) means_nothing h = absurd h
both_refused (refused e) (refused f) h = (tt, tt)

no_faults : {E : Type 0} (e : ConversionError E) → IsRefused (reason e) → faults_of e ≡ []
no_faults (error.Faults fs) h = absurd h
no_faults (error.Builder b) h = refl
no_faults error.Memory h = refl

all_refused : {E : Type 0} (r : Reason E) (es : List (ConversionError E)) → IsRefused (all_gathered r es) → IsRefused r × (all_faults es ≡ [])
all_refused r [] h = (h, refl)
all_refused r (e ∷ es) h =
    let more = all_refused (gathered r (reason e)) es h in
    let both = both_refused r (reason e) more.0 in
    (both.0, ap (λ xs. xs ++ all_faults es) (no_faults e both.1) ∙ more.1)

-- ---- one more part

-- after what fails for the stated reason, by the faults of all
after : {E : Type 0} (e : ConversionError E) (es : List (ConversionError E)) (m f d : ConversionError E) → reason m ≡ all_gathered (reason e) es → faults_of m ≡ all_faults (e ∷ es) → Gathers (reason m) (reason f) (reason d) → (reason d ≡ means_nothing → faults_of d ≡ faults_of m ++ faults_of f) → FailsByAll (e ∷ (es ++ f ∷ [])) d
after e es m f error.Memory r k g h = (tt, λ x. cc)
after e es m f (error.Faults fs) r k g h = (
  g ∙ ap (λ s. gathered s (reason f)) r ∙ sym (gathered_more (reason e) es f),
  λ x. h x ∙ ap (λ xs. xs ++ faults_of f) k ∙ sym (faults_more (e ∷ es) f),
)
after e es m f (error.Builder b) r k g h = (
  g ∙ ap (λ s. gathered s (reason f)) r ∙ sym (gathered_more (reason e) es f),
  λ x. cc,
)

pub one_more : {E : Type 0} (es : List (ConversionError E)) (m f d : ConversionError E) → FailsByAll es m → Gathers (reason m) (reason f) (reason d) → (reason d ≡ means_nothing → faults_of d ≡ faults_of m ++ faults_of f) → FailsByAll (es ++ f ∷ []) d
one_more [] m f d fails g h = absurd fails
one_more (e ∷ es) (error.Faults fs) f d fails g h = after e es (error.Faults fs) f d fails.0 (fails.1 refl) g h
one_more (e ∷ es) (error.Builder b) f d fails g h =
    let all = all_refused (reason e) es (subst IsRefused fails.0 tt) in
    after e es (error.Builder b) f d fails.0 (sym (ap (λ xs. xs ++ all_faults es) (no_faults e all.0) ∙ all.1)) g h
one_more (e ∷ es) error.Memory f (error.Faults fs) fails g h = absurd (cc g)
one_more (e ∷ es) error.Memory f (error.Builder b) fails g h = absurd (cc g)
one_more (e ∷ es) error.Memory f error.Memory fails g h = (tt, λ x. cc)

-- ---- two parts

alone_fails : {E : Type 0} (f e : ConversionError E) → e ≡ f → FailsByAll (f ∷ []) e
alone_fails f error.Memory h = (tt, λ x. cc)
alone_fails f (error.Faults fs) h = (ap reason h, λ x. ap faults_of h ∙ sym (append-nil (faults_of f)))
alone_fails f (error.Builder b) h = (ap reason h, λ x. cc)

pub two_fail : {A B E : Type 0} (a : Result A (ConversionError E)) (b : Result B (ConversionError E)) (e : ConversionError E) → Flat a b (Err e) → FailsByAll (failing a ++ failing b) e
two_fail (Ok x) (Ok y) e h = cc
two_fail (Ok x) (Err f) e h = alone_fails f e (cc)
two_fail (Err f) (Ok y) e h = alone_fails f e (cc)
two_fail (Err f) (Err g) error.Memory h = (tt, λ x. cc)
two_fail (Err f) (Err g) (error.Faults fs) h = (h.0, λ x. h.1 x ∙ ap (λ xs. faults_of f ++ xs) (sym (append-nil (faults_of g))))
two_fail (Err f) (Err g) (error.Builder b) h = (h.0, λ x. cc)
