-- What is copied is sound where its source is, and binds the same.
use Rattle.std.proofs.Common.{◌≡◌, List, [], ◌∷◌, map, refl, sym, subst, ◌∙◌}
use Rattle.std.specs.List.{AllZip}
use Rattle.std.specs.Map.{keys_of, values_of}
use Rattle.cedar_language.specs.Uid.{Text}
use Rattle.cedar_policy_set.specs.Entries.{IsWhole}
use Rattle.cedar_policy_set.specs.declared.bounds.BoundKind.{BoundKind}
use Rattle.cedar_policy_set.specs.Bounds.{bound_id, entries_of, IsNamed, ListTheirSlots, IsCopy, IsSound}

pub zip_weaker : {A B : Type 0} {R S : A → B → Type 0} → ((a : A) (b : B) → R a b → S a b) → (xs : List A) (ys : List B) → AllZip R xs ys → AllZip S xs ys
zip_weaker so [] [] h = tt
zip_weaker so [] (y ∷ ys) h = absurd h
zip_weaker so (x ∷ xs) [] h = absurd h
zip_weaker so (x ∷ xs) (y ∷ ys) h = (so x y h.0, zip_weaker so xs ys h.1)

-- each key with its copy
abbrev pub AreCopies : {V : Type 0} → (V → V → Type 0) → List (Text × V) → List (Text × V) → Type 0
AreCopies is_clone es fs = AllZip (λ e f. (f.0 ≡ e.0) × is_clone e.1 f.1) es fs

pub same_keys : {V : Type 0} (is_clone : V → V → Type 0) (es fs : List (Text × V)) → AreCopies is_clone es fs → keys_of fs ≡ keys_of es
same_keys is_clone [] [] h = refl
same_keys is_clone [] (f ∷ fs) h = absurd h
same_keys is_clone (e ∷ es) [] h = absurd h
same_keys is_clone (e ∷ es) (f ∷ fs) h = λ i. h.0.0 i ∷ same_keys is_clone es fs h.1 i

pub same_entries : (es fs : List (Text × BoundKind)) → AreCopies IsCopy es fs → entries_of fs ≡ entries_of es
same_entries [] [] h = refl
same_entries [] (f ∷ fs) h = absurd h
same_entries (e ∷ es) [] h = absurd h
same_entries (e ∷ es) (f ∷ fs) h = λ i. (h.0.0 i, h.0.1.entry i) ∷ same_entries es fs h.1 i

same_ids : (es fs : List (Text × BoundKind)) → AreCopies IsCopy es fs → map (λ f. bound_id f.1) fs ≡ map (λ e. bound_id e.1) es
same_ids [] [] h = refl
same_ids [] (f ∷ fs) h = absurd h
same_ids (e ∷ es) [] h = absurd h
same_ids (e ∷ es) (f ∷ fs) h = λ i. h.0.1.id i ∷ same_ids es fs h.1 i

copies_listed : (es fs : List (Text × BoundKind)) → AreCopies IsCopy es fs → ListTheirSlots (values_of es) → ListTheirSlots (values_of fs)
copies_listed [] [] h listed = tt
copies_listed [] (f ∷ fs) h listed = absurd h
copies_listed (e ∷ es) [] h listed = absurd h
copies_listed (e ∷ es) (f ∷ fs) h listed = (h.0.1.listed listed.0, copies_listed es fs h.1 listed.1)

pub copies_sound : (es fs : List (Text × BoundKind)) → AreCopies IsCopy es fs → IsSound es → IsSound fs
copies_sound es fs h sound = record {
  named = same_ids es fs h ∙ sound.named ∙ sym (same_keys IsCopy es fs h);
  listed = copies_listed es fs h sound.listed;
  whole = subst IsWhole (sym (same_entries es fs h)) sound.whole;
}
