-- One more annotation.
use Rattle.std.proofs.Common.{◌≡◌, ◌⊎◌, Bool, true, false, List, [], ◌∷◌, ◌++◌, Option, Some, None, Ok, Err, refl, sym, ap, ◌∙◌, subst}
use Rattle.std.specs.Prelude.{cond, ◌||◌, is_some}
use Rattle.std.specs.BTreeMap.{insert_entry, is_at}
use Rattle.std.specs.Cmp.Lexicographic.{slice_cmp, texts_ties}
use Rattle.std.specs.declared.cmp.Ordering.{Ordering}
use Rattle.std.specs.declared.cmp.Ordering.TheVariants.{Less, Equal, Greater}
use Rattle.std.specs.Map.{lookup}
use Rattle.std.specs.Ordering.{nat_cmp, is_lt, is_eq, match_ordering}
use Rattle.cedar_language.specs.Uid.{Text}
use Rattle.cedar_grammar.specs.Names.{is_text, is_among}
use Rattle.cedar_grammar.specs.Build.{Keyed, keys, put}
use Rattle.cedar_grammar.specs.Steps.{◌>>=◌}
use Rattle.cedar_grammar.specs.Converting.{each}
use Rattle.cedar_cst.specs.declared.cst.Annotation.{Annotation}
use Rattle.cedar_cst.specs.declared.node.Node.{Node}
use Rattle.cedar_trees.proofs.Records.{all_put}
use Rattle.cedar_conversion.specs.Entries.{ordered}
use Rattle.cedar_conversion.proofs.Ordering.{given, ordered_put}
use Rattle.cedar_policy_conversion.specs.Notes.{put_new, placed_note, placed_notes}
use Rattle.cedar_policy_conversion.proofs.Joining.{each_last}
use Rattle.cedar_policy_conversion.proofs.NoteKeys.{among_put}
use Rattle.cedar_lemmas.proofs.Booleans.{or_first as or_false_left, or_second as or_false_right}

-- ---- a map's own insertion and look-up

abbrev order : Text → Text → Ordering
order = slice_cmp nat_cmp

put_at : {A : Type 0} (o : Ordering) (x y z : A) → is_eq o ≡ false → match_ordering o x y z ≡ cond (is_lt o) x z
put_at Less x y z h = refl
put_at Equal x y z h = cc
put_at Greater x y z h = refl

insert_is_put : {A : Type 0} (k : Text) (t : A) (es : List (Keyed A)) → is_among k (keys es) ≡ false → insert_entry order es k t ≡ put (k, t) es
insert_is_put k t [] h = refl
insert_is_put k t (e ∷ es) h =
    put_at (order k (e.0)) ((k, t) ∷ e ∷ es) ((e.0, t) ∷ es) (e ∷ insert_entry order es k t) (sym (texts_ties k (e.0)) ∙ or_false_left _ _ h)
    ∙ ap (λ rest. cond (is_lt (order k (e.0))) ((k, t) ∷ e ∷ es) (e ∷ rest)) (insert_is_put k t es (or_false_right _ _ h))

found_at : {A : Type 0} (b : Bool) (x : A) (o : Option A) → is_some (cond b (Some x) o) ≡ (b || is_some o)
found_at true x o = refl
found_at false x o = refl

found_is_among : {A : Type 0} (k : Text) (es : List (Keyed A)) → is_some (lookup (is_at (order k)) es) ≡ is_among k (keys es)
found_is_among k [] = refl
found_is_among k (e ∷ es) =
    found_at (is_eq (order k (e.0))) (e.1) (lookup (is_at (order k)) es)
    ∙ ap (λ b. b || is_some (lookup (is_at (order k)) es)) (sym (texts_ties k (e.0)))
    ∙ ap (λ b. is_text k (e.0) || b) (found_is_among k es)

-- an annotation whose key is found isn't put, and another one is where the map inserts it
pub put_found : {A : Type 0} (k : Text) (t : A) (es : List (Keyed A)) (b : Bool) → b ≡ is_some (lookup (is_at (order k)) es) → b ≡ true → put_new (k, t) es ≡ None
put_found k t es b found is = ap (λ c. cond c None (Some (put (k, t) es))) (sym (found_is_among k es) ∙ sym found ∙ is)

pub put_unfound : {A : Type 0} (k : Text) (t : A) (es : List (Keyed A)) (b : Bool) → b ≡ is_some (lookup (is_at (order k)) es) → b ≡ false → put_new (k, t) es ≡ Some (insert_entry order es k t)
put_unfound k t es b found is =
    let new : is_among k (keys es) ≡ false = sym (found_is_among k es) ∙ sym found ∙ is in
    ap (λ c. cond c None (Some (put (k, t) es))) new ∙ ap Some (sym (insert_is_put k t es new))

-- where a key is found it is among the others, and else what is inserted are those and this one
pub among_found : {A : Type 0} (k : Text) (es : List (Keyed A)) (b : Bool) → b ≡ is_some (lookup (is_at (order k)) es) → b ≡ true → is_among k (keys es) ≡ true
among_found k es b found is = sym (found_is_among k es) ∙ sym found ∙ is

pub among_inserted : {A : Type 0} (j k : Text) (t : A) (es fs : List (Keyed A)) (b : Bool) → b ≡ is_some (lookup (is_at (order k)) es) → b ≡ false → fs ≡ insert_entry order es k t → is_among j (keys fs) ≡ true → (j ≡ k) ⊎ (is_among j (keys es) ≡ true)
among_inserted j k t es fs b found is made h = among_put j (k, t) es (subst (λ gs. is_among j (keys gs) ≡ true) (made ∙ insert_is_put k t es (sym (found_is_among k es) ∙ sym found ∙ is)) h)

-- ---- annotations in order

given_at : {A R : Type 0} (b : Bool) (e : R) (x : A) → given (cond b (Err e) (Ok x)) ≡ cond b None (Some x)
given_at true e x = refl
given_at false e x = refl

never : {A B : Type 0} (o : Option A) → (o >>= λ x. let z : Option B = None in z) ≡ None
never None = refl
never (Some x) = refl

module _ {A : Type 0} where
  -- one more behind those that are put in
  put_behind : (done es : List (Keyed A)) (e : Keyed A) → given (all_put done (es ++ e ∷ [])) ≡ (given (all_put done es) >>= put_new e)
  put_behind done [] e = given_at (is_among e.0 (keys done)) e.0 (put e done)
  put_behind done (d ∷ ds) e = by (is_among d.0 (keys done)) (put_behind (put d done) ds e)
    where
      by : (b : Bool) → given (all_put (put d done) (ds ++ e ∷ [])) ≡ (given (all_put (put d done) ds) >>= put_new e)
          → given (cond b (Err d.0) (all_put (put d done) (ds ++ e ∷ []))) ≡ (given (cond b (Err d.0) (all_put (put d done) ds)) >>= put_new e)
      by true h = refl
      by false h = h

  one_behind : (es : List (Keyed A)) (e : Keyed A) → ordered (es ++ e ∷ []) ≡ (ordered es >>= put_new e)
  one_behind es e = ordered_put (es ++ e ∷ []) ∙ put_behind [] es e ∙ ap (λ o. o >>= put_new e) (sym (ordered_put es))

  notes_turn : (v : Option (List (Keyed A))) (w : Option (Keyed A)) → ((v >>= λ es. w >>= λ e. let z : Option (List (Keyed A)) = Some (es ++ e ∷ []) in z) >>= ordered) ≡ ((v >>= ordered) >>= λ ns. w >>= λ e. put_new e ns)
  notes_turn None w = refl
  notes_turn (Some es) None = sym (never (ordered es))
  notes_turn (Some es) (Some e) = one_behind es e

pub notes_more : (ns : List (Node (Option Annotation))) (n : Node (Option Annotation)) → placed_notes (ns ++ n ∷ []) ≡ (placed_notes ns >>= λ hs. placed_note n >>= λ h. put_new h hs)
notes_more ns n = ap (λ v. v >>= ordered) (each_last placed_note ns n) ∙ notes_turn (each placed_note ns) (placed_note n)
