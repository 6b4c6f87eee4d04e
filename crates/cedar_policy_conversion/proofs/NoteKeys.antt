-- The keys of annotations, and those that stand among others.
use Rattle.std.proofs.Common.{◌≡◌, ◌⊎◌, inl, inr, ℕ, zero, suc, ◌+◌, ◌<◌, arith, Bool, true, false, List, [], ◌∷◌, ◌++◌, map, take, length, get_or, Some, sym, ap, ◌∙◌, subst}
use Rattle.std.specs.Prelude.{cond}
use Rattle.std.proofs.lemmas.List.{map-append}
use Rattle.std.specs.Cmp.Lexicographic.{bytes_decides, slice_cmp}
use Rattle.std.specs.Ordering.{nat_cmp, is_lt}
use Rattle.std.proofs.lemmas.Bool.{or_cases, or_left, or_right}
use Rattle.cedar_language.specs.Uid.{Text}
use Rattle.cedar_grammar.specs.Names.{is_text, is_among}
use Rattle.cedar_grammar.specs.Build.{Keyed, keys, put}
use Rattle.cedar_grammar.specs.Loose as loose
use Rattle.cedar_faults.proofs.Telling.{at_item}
use Rattle.cedar_faults.specs.declared.kinds.ToASTErrorKind.{ToASTErrorKind}
use Rattle.cedar_faults.specs.declared.kinds.ToASTErrorKind.TheVariants as kinds
use Rattle.cedar_policy_conversion.specs.PartsShow.{annotation_key, HasKey, HasKeyTwice, annotation_shows, again_shows, each_annotation_shows, twice_shows, annotations_show}

-- ---- keys among others

among_tail : (j k : Text) (ks : List Text) → is_among j (k ∷ ks) ≡ true → (j ≡ k) ⊎ (is_among j ks ≡ true)
among_tail j k ks h = by (or_cases (is_text j k) (is_among j ks) h)
  where
    by : (is_text j k ≡ true) ⊎ (is_among j ks ≡ true) → (j ≡ k) ⊎ (is_among j ks ≡ true)
    by (inl e) = inl ((bytes_decides j k).0 e)
    by (inr e) = inr e

among_later : (j k : Text) (ks : List Text) → is_among j ks ≡ true → is_among j (k ∷ ks) ≡ true
among_later j k ks h = or_right (is_text j k) (is_among j ks) h

-- the keys behind one that is put in are this one and those before
pub among_put : {A : Type 0} (j : Text) (e : Keyed A) (es : List (Keyed A)) → is_among j (keys (put e es)) ≡ true → (j ≡ e.0) ⊎ (is_among j (keys es) ≡ true)
among_put j e [] h = among_tail j e.0 [] h
among_put j e (f ∷ fs) h = by (among_put j e fs) (is_lt (slice_cmp nat_cmp e.0 f.0)) h
  where
    later : (j ≡ e.0) ⊎ (is_among j (keys fs) ≡ true) → (j ≡ e.0) ⊎ (is_among j (keys (f ∷ fs)) ≡ true)
    later (inl is) = inl is
    later (inr is) = inr (among_later j f.0 (keys fs) is)

    behind : (is_among j (keys (put e fs)) ≡ true → (j ≡ e.0) ⊎ (is_among j (keys fs) ≡ true)) → (is_text j f.0 ≡ true) ⊎ (is_among j (keys (put e fs)) ≡ true) → (j ≡ e.0) ⊎ (is_among j (keys (f ∷ fs)) ≡ true)
    behind more (inl is) = inr (or_left (is_text j f.0) (is_among j (keys fs)) is)
    behind more (inr is) = later (more is)

    by : (is_among j (keys (put e fs)) ≡ true → (j ≡ e.0) ⊎ (is_among j (keys fs) ≡ true)) → (b : Bool) → is_among j (keys (cond b (e ∷ f ∷ fs) (f ∷ put e fs))) ≡ true → (j ≡ e.0) ⊎ (is_among j (keys (f ∷ fs)) ≡ true)
    by more true is = among_tail j e.0 (keys (f ∷ fs)) is
    by more false is = behind more (or_cases (is_text j f.0) (is_among j (keys (put e fs))) is)

-- ---- keys of annotations

pub has_more : (xs ys : List loose.Annotation) (k : Text) → HasKey xs k → HasKey (xs ++ ys) k
has_more [] ys k h = absurd h
has_more (x ∷ xs) ys k (inl is) = inl is
has_more (x ∷ xs) ys k (inr h) = inr (has_more xs ys k h)

pub has_last : (xs : List loose.Annotation) (x : loose.Annotation) (k : Text) → annotation_key x ≡ Some k → HasKey (xs ++ x ∷ []) k
has_last [] x k is = inl is
has_last (y ∷ ys) x k is = inr (has_last ys x k is)

module _ {A : Type 0} (seen : A → loose.Annotation) where
  pub has_at : (xs : List A) (i : ℕ) (x : A) (k : Text) → i < length xs → x ≡ get_or xs i x → annotation_key (seen x) ≡ Some k → HasKey (map seen xs) k
  has_at xs i x k lt is key = at_item (λ ys. HasKey (map seen ys) k) (λ y ys h. inr h) xs i x lt is (inl key)

  pub twice_at : (xs : List A) (i : ℕ) (x : A) (k : Text) → i < length xs → x ≡ get_or xs i x → annotation_key (seen x) ≡ Some k → HasKey (map seen (take i xs)) k → HasKeyTwice (map seen xs) k
  twice_at [] i x k lt is key h = absurd (none i h)
    where
      none : (j : ℕ) → HasKey (map seen (take j [])) k → ⊥
      none zero h = h
      none (suc j) h = h
  twice_at (y ∷ ys) zero x k lt is key h = absurd h
  twice_at (y ∷ ys) (suc i) x k lt is key (inl first) = inl (first, has_at ys i x k (omega arith) is key)
  twice_at (y ∷ ys) (suc i) x k lt is key (inr later) = inr (twice_at ys i x k (omega arith) is key later)

  -- ---- one more of them

  -- each of these keys is that of an annotation before this place
  abbrev pub AreBefore : List Text → ℕ → List A → Type 0
  AreBefore ks i xs = (k : Text) → is_among k ks ≡ true → HasKey (map seen (take i xs)) k

  pub more_keys : (xs : List A) (i : ℕ) (x : A) (ks : List Text) → take (i + 1) xs ≡ take i xs ++ x ∷ [] → AreBefore ks i xs → (k : Text) → (annotation_key (seen x) ≡ Some k) ⊎ (is_among k ks ≡ true) → HasKey (map seen (take (i + 1) xs)) k
  more_keys xs i x ks cut before k h = subst (λ ys. HasKey ys k) (sym (ap (map seen) cut ∙ map-append seen (take i xs) (x ∷ []))) (by h)
    where
      by : (annotation_key (seen x) ≡ Some k) ⊎ (is_among k ks ≡ true) → HasKey (map seen (take i xs) ++ seen x ∷ []) k
      by (inl is) = has_last (map seen (take i xs)) (seen x) k is
      by (inr is) = has_more (map seen (take i xs)) (seen x ∷ []) k (before k is)

  module _ (xs : List A) (i : ℕ) (x : A) (lt : i < length xs) (is : x ≡ get_or xs i x) (ks : List Text) (before : AreBefore ks i xs) where
    again_twice : (k : ToASTErrorKind) → again_shows ks (seen x) k → twice_shows (map seen xs) k
    again_twice (kinds.DuplicateAnnotation key) s = twice_at xs i x key lt is s.0 (before key s.1)
    again_twice _ s = absurd s

    pub all_show : (k : ToASTErrorKind) → annotation_shows (seen x) k ⊎ again_shows ks (seen x) k → annotations_show (map seen xs) k
    all_show k (inl s) = inl (at_item (λ ys. each_annotation_shows (map seen ys) k) (λ y ys later. inr later) xs i x lt is (inl s))
    all_show k (inr s) = inr (again_twice k s)
