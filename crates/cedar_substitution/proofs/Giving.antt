-- Steps of a building that may be refused.
use Rattle.std.proofs.Common.{◌≡◌, sym, ◌∙◌, ap, refl, subst, List, [], ◌∷◌, ◌++◌, append_assoc, Option, map}
use Rattle.std.proofs.lemmas.List.{append-nil}
use Rattle.std.proofs.Common.{ℕ, suc, ◌+◌, ◌<◌, length, get_or, drop, drop-cons, add-one}
use Rattle.std.specs.Prelude.{Result, Ok, Err, Some, None}
use Rattle.std.specs.Result.{IsErr, IsErrAnd}
use Rattle.std.specs.List.{zip}
use Rattle.cedar_language.specs.Uid.{Text}
use Rattle.cedar_language.specs.Tree as tree
use Rattle.cedar_language.specs.Tree.{ValueType, Tree}
use Rattle.cedar_grammar.specs.Build.{trees}
use Rattle.cedar_builders.specs.Operations.{Operations, ◌>>=◌, OnRefusal, Gives, made, made_all, built}
use Rattle.cedar_substitution.specs.Chains.{with_built}

pub after : {M M' R : Type 0} {want : Result M R} {first : Result M' R} (k : M' → Result M R) {x : M'} → want ≡ (first >>= k) → first ≡ Ok x → want ≡ k x
unfolding ◌>>=◌
after k is ok = is ∙ ap (λ z. z >>= k) ok

pub refused : {M M' R : Type 0} {want : Result M R} {first : Result M' R} (k : M' → Result M R) → want ≡ (first >>= k) → (r : R) → first ≡ Err r → want ≡ Err r
unfolding ◌>>=◌
refused k is r err = is ∙ ap (λ z. z >>= k) err

weaker : {M M' R : Type 0} (o : Option R) (first : Result M' R) (want : Result M R) → ((r : R) → first ≡ Err r → want ≡ Err r) → OnRefusal o first → OnRefusal o want
weaker None first want h t = tt
weaker (Some r) first want h t = h r t

-- what refuses a part refuses the whole
pub passes : {E B M M' R : Type 0} (meaning : E → M) (refusal : B → Option R) (b : B) (result : Result E B) (want : Result M R) (first : Result M' R) → ((r : R) → first ≡ Err r → want ≡ Err r) → IsErr result × IsErrAnd result (λ y. y ≡ b) → OnRefusal (refusal b) first → Gives meaning refusal result want
passes meaning refusal b (Ok e) want first h err given = absurd err.1
passes meaning refusal b (Err y) want first h err given =
    weaker (refusal y) first want h (subst (λ z. OnRefusal (refusal z) first) (sym err.1) given)

pub gives : {E B M R : Type 0} (meaning : E → M) (refusal : B → Option R) (result : Result E B) (want other : Result M R) → want ≡ other → Gives meaning refusal result other → Gives meaning refusal result want
gives meaning refusal result want other is given = subst (λ w. Gives meaning refusal result w) (sym is) given

pub gathered : {M R : Type 0} (p : Result M R) (q : Result (List M) R) (k : List M → Result M R) → ((p >>= λ x. q >>= λ xs. Ok (x ∷ xs)) >>= k) ≡ (p >>= λ x. q >>= λ xs. k (x ∷ xs))
unfolding ◌>>=◌
gathered (Ok x) (Ok xs) k = refl
gathered (Ok x) (Err r) k = refl
gathered (Err r) q k = refl

first_of_rest : {M R : Type 0} (b : Result M R) (m : Result (List M) R) (done : List M) → ((b >>= λ x. m >>= λ xs. Ok (x ∷ xs)) >>= λ ys. Ok (done ++ ys)) ≡ (b >>= λ x. m >>= λ xs. Ok (done ++ x ∷ xs))
unfolding ◌>>=◌
first_of_rest (Ok x) (Ok xs) done = refl
first_of_rest (Ok x) (Err r) done = refl
first_of_rest (Err r) m done = refl

regroup : {A R : Type 0} (m : Result (List A) R) (done done' : List A) (x : A) → done' ≡ done ++ x ∷ [] → (m >>= λ xs. Ok (done ++ x ∷ xs)) ≡ (m >>= λ ys. Ok (done' ++ ys))
unfolding ◌>>=◌
regroup (Ok xs) done done' x e = ap Ok (sym (ap (λ d. d ++ xs) e ∙ append_assoc done (x ∷ []) xs))
regroup (Err r) done done' x e = refl

pub starts : {A R : Type 0} (m : Result (List A) R) (done : List A) → done ≡ [] → m ≡ (m >>= λ ys. Ok (done ++ ys))
unfolding ◌>>=◌
starts (Ok xs) done e = ap Ok (sym (ap (λ d. d ++ xs) e))
starts (Err r) done e = refl

module _ {M R : Type 0} (o : Operations M R) (u : Text → Option ValueType → Result M R) where
  pub all_first : {whole : Result (List M) R} (done : List M) (t : Tree) (rest others : List Tree) → whole ≡ (made_all o u (trees rest) >>= λ ys. Ok (done ++ ys)) → rest ≡ t ∷ others → whole ≡ (made o u t >>= λ z. made_all o u (trees others) >>= λ zs. Ok (done ++ z ∷ zs))
  unfolding made
  all_first done t rest others is cut =
      is ∙ ap (λ r. made_all o u (trees r) >>= λ ys. Ok (done ++ ys)) cut ∙ first_of_rest (made o u t) (made_all o u (trees others)) done

  pub all_step : {whole : Result (List M) R} (done done' : List M) (m : M) (t : Tree) (rest others : List Tree) → whole ≡ (made_all o u (trees rest) >>= λ ys. Ok (done ++ ys)) → rest ≡ t ∷ others → made o u t ≡ Ok m → done' ≡ done ++ m ∷ [] → whole ≡ (made_all o u (trees others) >>= λ ys. Ok (done' ++ ys))
  all_step done done' m t rest others is cut ok more = after _ (all_first done t rest others is cut) ok ∙ regroup _ done done' m more

  pub all_end : {whole : Result (List M) R} (done : List M) (rest : List Tree) → whole ≡ (made_all o u (trees rest) >>= λ ys. Ok (done ++ ys)) → rest ≡ [] → whole ≡ Ok done
  unfolding made ◌>>=◌
  all_end done rest is none = is ∙ ap (λ r. made_all o u (trees r) >>= λ ys. Ok (done ++ ys)) none ∙ ap Ok (append-nil done)

pub zip_pairs : {P M : Type 0} (key : P → Text) (view : P → M) (ps : List P) (ks : List Text) → map key ps ≡ ks → zip ks (map view ps) ≡ map (λ p. (key p, view p)) ps
zip_pairs key view [] ks is = ap (λ l. zip l []) (sym is)
zip_pairs key view (p ∷ ps) ks is = ap (λ l. zip l (view p ∷ map view ps)) (sym is) ∙ ap (λ l. (key p, view p) ∷ l) (zip_pairs key view ps (map key ps) refl)

pub cut_at : {A : Type 0} (l : List A) (i : ℕ) (x : A) → i < length l → x ≡ get_or l i x → drop i l ≡ x ∷ drop (i + 1) l
cut_at l i x lt is =
    drop-cons l i x lt
    ∙ ap (λ y. y ∷ drop (suc i) l) (sym is)
    ∙ ap (λ k. x ∷ drop k l) (sym (add-one i))

pub keys_step : {A : Type 0} (done done' rest others : List A) (x : A) → rest ≡ x ∷ others → done' ≡ done ++ x ∷ [] → done ++ rest ≡ done' ++ others
keys_step done done' rest others x cut more = ap (λ r. done ++ r) cut ∙ sym (ap (λ d. d ++ others) more ∙ append_assoc done (x ∷ []) others)

-- each unknown standing for itself
pub unchanged : {M R : Type 0} (o : Operations M R) (t : Tree) → made o (with_built o (λ n ty. tree.Unknown n ty)) t ≡ built o t
unfolding made
unchanged o t = refl
