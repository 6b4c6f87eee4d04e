-- Keys that stand twice, found where they are put one by one.
use Rattle.std.proofs.Common.{◌≡◌, ◌⊎◌, inl, inr, List, [], ◌∷◌, Bool, true, false, refl, sym, ap, ◌∙◌}
use Rattle.std.specs.Prelude.{cond, ◌||◌, Some}
use Rattle.std.specs.Ordering.{nat_cmp, is_lt}
use Rattle.std.specs.Cmp.Lexicographic.{slice_cmp, bytes_decides}
use Rattle.cedar_language.specs.Uid.{Text}
use Rattle.cedar_grammar.specs.Names.{is_text, is_among}
use Rattle.cedar_grammar.specs.Build.{Keyed, keys, put}
use Rattle.cedar_faults.specs.declared.kinds.ToASTErrorKind.{ToASTErrorKind}
use Rattle.cedar_conversion.specs.Entries.{StandsTwice, IsRepeated, repeated_key}
use Rattle.cedar_conversion.proofs.Told.{in_some}
use Rattle.cedar_lemmas.proofs.Booleans.{or_either, or_swapped as or_turn}
use Rattle.std.proofs.lemmas.Bool.{or_right as or_later}

at_either : {A B : Type 0} (f : A → B) (b : Bool) (x y : A) (z : B) → f x ≡ z → f y ≡ z → f (cond b x y) ≡ z
at_either f true x y z h k = h
at_either f false x y z h k = k

among_put : {A : Type 0} (s : Text) (e : Keyed A) (es : List (Keyed A)) → is_among s (keys (put e es)) ≡ (is_text s e.0 || is_among s (keys es))
among_put s e [] = refl
among_put s e (g ∷ gs) =
    at_either (λ xs. is_among s (keys xs)) (is_lt (slice_cmp nat_cmp e.0 g.0)) (e ∷ g ∷ gs) (g ∷ put e gs) (is_text s e.0 || (is_text s g.0 || is_among s (keys gs))) refl
    (ap (λ b. is_text s g.0 || b) (among_put s e gs) ∙ or_turn (is_text s g.0) (is_text s e.0) (is_among s (keys gs)))

-- what a loop keeps that puts keys where none of them stands: what stands there and in the rest, stands twice
pub record TwiceSoFar (there rest all : List Text) : Type 0 where
  pub among : (s : Text) → is_among s there ≡ true → is_among s rest ≡ true → StandsTwice s all
  pub later : (s : Text) → StandsTwice s rest → StandsTwice s all

pub none_twice : (all : List Text) → TwiceSoFar [] all all
none_twice all = record { among = λ s none there. cc; later = λ s twice. twice }

pub more_twice : {A : Type 0} (t : Text) (x : A) (old : List (Keyed A)) (rest all : List Text) → TwiceSoFar (keys old) (t ∷ rest) all → TwiceSoFar (keys (put (t, x) old)) rest all
more_twice t x old rest all so = record {
  among = λ s there behind. by s behind (or_either (is_text s t) (is_among s (keys old)) (sym (among_put s (t, x) old) ∙ there));
  later = λ s twice. so.later s (inr twice);
}
  where
    by : (s : Text) → is_among s rest ≡ true → (is_text s t ≡ true) ⊎ (is_among s (keys old) ≡ true) → StandsTwice s all
    by s behind (inl same) = so.later s (inl (sym ((bytes_decides s t).0 same), behind))
    by s behind (inr there) = so.among s there (or_later (is_text s t) (is_among s rest) behind)

-- the key that stands there already
pub is_twice : (s : Text) (there rest all : List Text) (k : ToASTErrorKind) → TwiceSoFar there (s ∷ rest) all → is_among s there ≡ true → repeated_key k ≡ Some s → IsRepeated all k
is_twice s there rest all k so among is = in_some (λ t. StandsTwice t all) (repeated_key k) s is (so.among s among (ap (λ b. b || is_among s rest) ((bytes_decides s s).1 refl)))
