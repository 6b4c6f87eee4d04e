-- What is told of one more.
use Rattle.std.proofs.Common.{◌≡◌, ℕ, ◌+◌, ◌<◌, Result, Ok, Err, OnOk, List, [], ◌∷◌, ◌++◌, length, take, get_or, refl, sym, ap, subst, ◌∙◌, append_assoc}
use Rattle.std.proofs.lemmas.List.{append-nil, take_more}
use Rattle.cedar_language.specs.Uid.{Text}
use Rattle.cedar_messages.specs.Telling.{Adds, TellsEach}

module _ {X : Type 0} (Tells : X → Text → Type 0) where
  pub TellsEach-push : (xs : List X) (x : X) (told more : Text) → TellsEach Tells xs told → Tells x more → TellsEach Tells (xs ++ x ∷ []) (told ++ more)
  TellsEach-push [] x told more h one = (more, [], one, refl, ap (λ t. t ++ more) h ∙ sym (append-nil more))
  TellsEach-push (y ∷ ys) x told more h one =
      (h.0, h.1 ++ more, h.2, TellsEach-push ys x h.1 more h.3 one, ap (λ t. t ++ more) h.4 ∙ append_assoc h.0 h.1 more)

  -- the list of one more element, behind others
  more_taken : (zs xs : List X) (i : ℕ) (x : X) → i < length xs → x ≡ get_or xs i x → (zs ++ take i xs) ++ x ∷ [] ≡ zs ++ take (i + 1) xs
  more_taken zs xs i x within is =
      append_assoc zs (take i xs) (x ∷ []) ∙ ap (λ ys. zs ++ ys) (ap (λ y. take i xs ++ y ∷ []) is ∙ sym (take_more xs i x within))

  -- one more of a list is told, behind others that were
  pub TellsEach-more : (zs xs : List X) (i : ℕ) (x : X) (old new : Text) → i < length xs → x ≡ get_or xs i x
      → TellsEach Tells (zs ++ take i xs) old → Adds (Tells x) old new → TellsEach Tells (zs ++ take (i + 1) xs) new
  TellsEach-more zs xs i x old new within is told adds =
      let P : List X → Type 0 = λ ys. TellsEach Tells ys new in
      let Q : Text → Type 0 = λ t. TellsEach Tells ((zs ++ take i xs) ++ x ∷ []) t in
      subst P (more_taken zs xs i x within is) (subst Q (sym adds.2) (TellsEach-push (zs ++ take i xs) x old adds.0 told adds.1))

  -- what is added, where more is told of a list
  pub Adds-nothing : (start : Text) → Adds (TellsEach Tells []) start start
  Adds-nothing start = ([], refl, sym (append-nil start))

  pub Adds-more : (xs : List X) (i : ℕ) (x : X) (start old new : Text) → i < length xs → x ≡ get_or xs i x
      → Adds (TellsEach Tells (take i xs)) start old → Adds (Tells x) old new → Adds (TellsEach Tells (take (i + 1) xs)) start new
  Adds-more xs i x start old new within is so_far adds = (
    so_far.0 ++ adds.0,
    (let P : List X → Type 0 = λ ys. TellsEach Tells ys (so_far.0 ++ adds.0) in subst P (more_taken [] xs i x within is) (TellsEach-push (take i xs) x so_far.0 adds.0 so_far.1 adds.1)),
    adds.2 ∙ (ap (λ t. t ++ adds.0) so_far.2 ∙ append_assoc start so_far.0 adds.0),
  )

-- what was added to a text where a call went well
pub told_on_ok : {A E : Type 0} (result : Result A E) (Tells : Text → Type 0) (old new more : Text) → Tells more → OnOk result (new ≡ old ++ more) → OnOk result (Adds Tells old new)
told_on_ok (Ok a) Tells old new more tells is = (more, tells, is)
told_on_ok (Err e) Tells old new more tells is = is

-- what is told of each is told otherwise too
pub TellsEach-weaker : {X : Type 0} (Tells Also : X → Text → Type 0) → ((x : X) (told : Text) → Tells x told → Also x told) → (xs : List X) (told : Text)
    → TellsEach Tells xs told → TellsEach Also xs told
TellsEach-weaker Tells Also make [] told h = h
TellsEach-weaker Tells Also make (x ∷ xs) told h = (h.0, h.1, make x h.0 h.2, TellsEach-weaker Tells Also make xs h.1 h.3, h.4)
