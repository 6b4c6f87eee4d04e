-- Members of lists that are joined, filtered or gathered.
use Rattle.std.proofs.Common.{◌≡◌, Bool, true, false, cond, ◌⊎◌, inl, inr, Option, Some, None, List, [], ◌∷◌, ◌++◌, filter, filter_map, refl, sym, ◌∙◌, ap}
use Rattle.std.specs.List.{cons_option}
use Rattle.cedar_evaluator.proofs.Lists.{IsAmong}

-- ---- lists that are joined

pub among_left : {X : Type 0} (x : X) (xs ys : List X) → IsAmong x xs → IsAmong x (xs ++ ys)
among_left x [] ys a = absurd a
among_left x (z ∷ xs) ys (inl e) = inl e
among_left x (z ∷ xs) ys (inr a) = inr (among_left x xs ys a)

pub among_right : {X : Type 0} (x : X) (xs ys : List X) → IsAmong x ys → IsAmong x (xs ++ ys)
among_right x [] ys a = a
among_right x (z ∷ xs) ys a = inr (among_right x xs ys a)

one_more : {A B C : Type 0} → B ⊎ C → (A ⊎ B) ⊎ C
one_more (inl b) = inl (inr b)
one_more (inr c) = inr c

pub among_either : {X : Type 0} (x : X) (xs ys : List X) → IsAmong x (xs ++ ys) → IsAmong x xs ⊎ IsAmong x ys
among_either x [] ys a = inr a
among_either x (z ∷ xs) ys (inl e) = inl (inl e)
among_either x (z ∷ xs) ys (inr a) = one_more (among_either x xs ys a)

-- ---- lists that are filtered

module _ {X : Type 0} (test : X → Bool) where
  kept_later : (x y : X) (b : Bool) (rest : List X) → IsAmong x rest → IsAmong x (cond b (y ∷ rest) rest)
  kept_later x y true rest a = inr a
  kept_later x y false rest a = a

  kept_here : (x y : X) (b : Bool) (rest : List X) → y ≡ x → b ≡ true → IsAmong x (cond b (y ∷ rest) rest)
  kept_here x y b rest e h = rw h (inl e)

  pub filtered : (x : X) (xs : List X) → IsAmong x xs → test x ≡ true → IsAmong x (filter test xs)
  filtered x [] a h = absurd a
  filtered x (y ∷ xs) (inl e) h = kept_here x y (test y) (filter test xs) e (ap test e ∙ h)
  filtered x (y ∷ xs) (inr a) h = kept_later x y (test y) (filter test xs) (filtered x xs a h)

  unfiltered_step : (x y : X) (xs rest : List X) (b : Bool) → test y ≡ b → (IsAmong x rest → IsAmong x xs × (test x ≡ true)) → IsAmong x (cond b (y ∷ rest) rest) → IsAmong x (y ∷ xs) × (test x ≡ true)
  unfiltered_step x y xs rest true is g (inl e) = (inl e, sym (ap test e) ∙ is)
  unfiltered_step x y xs rest true is g (inr a) = (inr ((g a).0), (g a).1)
  unfiltered_step x y xs rest false is g a = (inr ((g a).0), (g a).1)

  pub unfiltered : (x : X) (xs : List X) → IsAmong x (filter test xs) → IsAmong x xs × (test x ≡ true)
  unfiltered x [] a = absurd a
  unfiltered x (y ∷ xs) a = unfiltered_step x y xs (filter test xs) (test y) refl (unfiltered x xs) a

-- ---- what is gathered of a list

module _ {X Y : Type 0} (f : X → Option Y) where
  gathered_later : (y : Y) (o : Option Y) (rest : List Y) → IsAmong y rest → IsAmong y (cons_option o rest)
  gathered_later y None rest a = a
  gathered_later y (Some z) rest a = inr a

  gathered_here : (y : Y) (o : Option Y) (rest : List Y) → o ≡ Some y → IsAmong y (cons_option o rest)
  gathered_here y o rest h = rw h (inl refl)

  pub gathered : (x : X) (y : Y) (xs : List X) → IsAmong x xs → f x ≡ Some y → IsAmong y (filter_map f xs)
  gathered x y [] a h = absurd a
  gathered x y (z ∷ xs) (inl e) h = gathered_here y (f z) (filter_map f xs) (ap f e ∙ h)
  gathered x y (z ∷ xs) (inr a) h = gathered_later y (f z) (filter_map f xs) (gathered x y xs a h)

  ungathered_step : (y : Y) (z : X) (xs : List X) (o : Option Y) (rest : List Y) → f z ≡ o → (IsAmong y rest → (x : X) × IsAmong x xs × (f x ≡ Some y)) → IsAmong y (cons_option o rest) → (x : X) × IsAmong x (z ∷ xs) × (f x ≡ Some y)
  ungathered_step y z xs None rest is g a = let u = g a in (u.0, inr u.1, u.2)
  ungathered_step y z xs (Some w) rest is g (inl e) = (z, inl refl, is ∙ ap Some e)
  ungathered_step y z xs (Some w) rest is g (inr a) = let u = g a in (u.0, inr u.1, u.2)

  pub ungathered : (y : Y) (xs : List X) → IsAmong y (filter_map f xs) → (x : X) × IsAmong x xs × (f x ≡ Some y)
  ungathered y [] a = absurd a
  ungathered y (z ∷ xs) a = ungathered_step y z xs (f z) (filter_map f xs) refl (ungathered y xs) a
