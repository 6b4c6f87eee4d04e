-- A record whose keys all differ is made.
use Rattle.std.specs.Prelude.{◌≡◌, refl, List, [], ◌∷◌, Bool, true, false, not, ◌&&◌, ◌||◌, cond, None, Some, Ok}
use Rattle.std.proofs.Common.{ap, ◌∙◌}
use Rattle.cedar_language.specs.Uid.{Text}
use Rattle.cedar_language.specs.Tree.{Tree}
use Rattle.cedar_grammar.specs.Names.{is_text, is_among, are_distinct}
use Rattle.cedar_grammar.specs.Build.{Keyed, keys, record_of}
use Rattle.cedar_trees.specs.Records.{repeated_after, unless_repeated, record_made}
use Rattle.std.specs.Cmp.Lexicographic.{nat_list_eq_equiv}

and_left : (a b : Bool) → (a && b) ≡ true → a ≡ true
and_left true b h = refl
and_left false b h = h

and_right : (a b : Bool) → (a && b) ≡ true → b ≡ true
and_right true b h = h
and_right false b h = cc

not_true : (a : Bool) → not a ≡ true → a ≡ false
not_true true h = cc
not_true false h = refl

or_false : (a b : Bool) → a ≡ false → b ≡ false → (a || b) ≡ false
or_false a b h i = rw h i

left_false : (a b : Bool) → (a || b) ≡ false → a ≡ false
left_false false b h = refl
left_false true b h = h

right_false : (a b : Bool) → (a || b) ≡ false → b ≡ false
right_false false b h = h
right_false true b h = cc

-- none of these texts is among those seen
abbrev none_seen : List Text → List Text → Bool
none_seen seen [] = true
none_seen seen (k ∷ ks) = not (is_among k seen) && none_seen seen ks

more_seen : (k : Text) (seen ks : List Text) → is_among k ks ≡ false → none_seen seen ks ≡ true → none_seen (k ∷ seen) ks ≡ true
more_seen k seen [] h i = refl
more_seen k seen (j ∷ js) h i =
    let other : is_text j k ≡ false = nat_list_eq_equiv.symm j k ∙ left_false _ _ h in
    let unseen : (is_text j k || is_among j seen) ≡ false = or_false _ _ other (not_true _ (and_left _ _ i)) in
    rw unseen (more_seen k seen js (right_false _ _ h) (and_right _ _ i))

none_repeated : (seen ks : List Text) → are_distinct ks ≡ true → none_seen seen ks ≡ true → repeated_after seen ks ≡ None
none_repeated seen [] h i = refl
none_repeated seen (k ∷ ks) h i =
    ap (λ b. cond b (Some k) (repeated_after (k ∷ seen) ks)) (not_true _ (and_left _ _ i))
    ∙ none_repeated (k ∷ seen) ks (and_right _ _ h) (more_seen k seen ks (not_true _ (and_left _ _ h)) (and_right _ _ i))

nothing_seen : (ks : List Text) → none_seen [] ks ≡ true
nothing_seen [] = refl
nothing_seen (k ∷ ks) = nothing_seen ks

-- distinct keys are refused by no record
pub distinct_records : (es : List (Keyed Tree)) → are_distinct (keys es) ≡ true → (t : Tree) × (record_made es ≡ Ok t)
distinct_records es h = (record_of es, ap (λ r. unless_repeated r (record_of es)) (none_repeated [] (keys es) h (nothing_seen (keys es))))
