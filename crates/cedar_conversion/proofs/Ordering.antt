-- Entries, put in one by one, each in the place of its key.
use Rattle.std.proofs.Common.{◌≡◌, refl, sym, ap, ◌∙◌, List, [], ◌∷◌, ◌++◌, map, Bool, true, false, Global, Option, Some, None, Ok}
use Rattle.std.specs.Prelude.{cond, not, ◌&&◌, ◌||◌, is_some}
use Rattle.std.specs.declared.cmp.Ordering.{Ordering}
use Rattle.std.specs.declared.cmp.Ordering.TheVariants.{Less, Equal, Greater}
use Rattle.std.specs.Ordering.{nat_cmp, is_lt, is_eq, match_ordering}
use Rattle.std.specs.Cmp.Lexicographic.{slice_cmp, texts_ties, nat_list_eq_equiv}
use Rattle.std.specs.BTreeMap.{insert_entry, is_at}
use Rattle.std.specs.Map.{lookup}
use Rattle.std.specs.List.{zip}
use Rattle.std.specs.Rc.{rc_str_bytes}
use Rattle.std.specs.declared.rc.RcStr.{RcStr}
use Rattle.cedar_language.specs.Uid.{Text}
use Rattle.cedar_language.specs.Tree.{Tree, MakeRecord}
use Rattle.cedar_grammar.specs.Names.{is_text, is_among, are_distinct}
use Rattle.cedar_grammar.specs.Build.{Keyed, keys, put, by_key, trees, record_of}
use Rattle.cedar_grammar.specs.Converting.{record_tree}
use Rattle.cedar_builders.specs.Operations.{Operations, built, built_all}
use Rattle.cedar_trees.specs.Records.{repeated_after, repeated, unless_repeated}
use Rattle.cedar_trees.proofs.Records.{all_put, entries_put}
use Rattle.cedar_faults.specs.declared.errors.ConversionError.{ConversionError}
use Rattle.cedar_faults.specs.declared.errors.ConversionError.TheVariants as error
use Rattle.cedar_faults.specs.Reasons.{IsFault, reason}
use Rattle.cedar_conversion.specs.Entries.{keyed, ordered, meant, EachIsBuilt, PutsNot}
pub use Rattle.cedar_conversion.specs.Heads.{given}
use Rattle.cedar_conversion.proofs.Made.{built_none, built_more, built_apply}
use Rattle.cedar_lemmas.proofs.Booleans.{or_first as or_false_left, or_second as or_false_right}

abbrev order : Text → Text → Ordering
order = slice_cmp nat_cmp

cond_swap : {A B : Type 0} (f : A → B) (b : Bool) (x y : A) → f (cond b x y) ≡ cond b (f x) (f y)
cond_swap f true x y = refl
cond_swap f false x y = refl

put_at : {A : Type 0} (o : Ordering) (x y z : A) → is_eq o ≡ false → match_ordering o x y z ≡ cond (is_lt o) x z
put_at Less x y z h = refl
put_at Equal x y z h = cc
put_at Greater x y z h = refl

-- ---- a map's own insertion and look-up

module _ {E : Type 0} where
  pub insert_is_put : (k : RcStr Global) (x : E) (es : List (RcStr Global × E)) → is_among (rc_str_bytes k) (keys (keyed es)) ≡ false
      → keyed (insert_entry (λ a b. order (rc_str_bytes a) (rc_str_bytes b)) es k x) ≡ put (rc_str_bytes k, x) (keyed es)
  insert_is_put k x [] h = refl
  insert_is_put k x (e ∷ es) h =
      let other : is_eq (order (rc_str_bytes k) (rc_str_bytes e.0)) ≡ false = sym (texts_ties (rc_str_bytes k) (rc_str_bytes e.0)) ∙ or_false_left _ _ h in
      ap keyed (put_at (order (rc_str_bytes k) (rc_str_bytes e.0)) ((k, x) ∷ e ∷ es) ((e.0, x) ∷ es) (e ∷ insert_entry (λ a b. order (rc_str_bytes a) (rc_str_bytes b)) es k x) other)
      ∙ cond_swap keyed (is_lt (order (rc_str_bytes k) (rc_str_bytes e.0))) ((k, x) ∷ e ∷ es) (e ∷ insert_entry (λ a b. order (rc_str_bytes a) (rc_str_bytes b)) es k x)
      ∙ ap (λ rest. cond (is_lt (order (rc_str_bytes k) (rc_str_bytes e.0))) ((rc_str_bytes k, x) ∷ (rc_str_bytes e.0, e.1) ∷ keyed es) ((rc_str_bytes e.0, e.1) ∷ rest)) (insert_is_put k x es (or_false_right _ _ h))

  found_at : (b : Bool) (x : E) (o : Option E) → is_some (cond b (Some x) o) ≡ (b || is_some o)
  found_at true x o = refl
  found_at false x o = refl

  pub found_is_among : (k : Text) (es : List (RcStr Global × E)) → is_some (lookup (is_at (λ q. order k (rc_str_bytes q))) es) ≡ is_among k (keys (keyed es))
  found_is_among k [] = refl
  found_is_among k (e ∷ es) =
      found_at (is_eq (order k (rc_str_bytes e.0))) e.1 (lookup (is_at (λ q. order k (rc_str_bytes q))) es)
      ∙ ap (λ b. b || is_some (lookup (is_at (λ q. order k (rc_str_bytes q))) es)) (sym (texts_ties k (rc_str_bytes e.0)))
      ∙ ap (λ b. is_text k (rc_str_bytes e.0) || b) (found_is_among k es)

-- ---- keys that all differ

-- none of these texts is among those seen
abbrev apart : List Text → List Text → Bool
apart seen [] = true
apart seen (k ∷ ks) = not (is_among k seen) && apart seen ks

shuffle : (a b c d : Bool) → ((not (a || b)) && (not c && d)) ≡ (not (a || c) && (not b && d))
shuffle true b c d = refl
shuffle false true true d = refl
shuffle false true false d = refl
shuffle false false true d = refl
shuffle false false false d = refl

seen_more : (k : Text) (seen ks : List Text) → apart (k ∷ seen) ks ≡ (not (is_among k ks) && apart seen ks)
seen_more k seen [] = refl
seen_more k seen (j ∷ js) =
    ap (λ b. not (is_text j k || is_among j seen) && b) (seen_more k seen js)
    ∙ shuffle (is_text j k) (is_among j seen) (is_among k js) (apart seen js)
    ∙ ap (λ b. not (b || is_among k js) && (not (is_among j seen) && apart seen js)) (nat_list_eq_equiv.symm j k)

abbrev none : {A : Type 0} → Option A → Bool
none None = true
none (Some x) = false

none_at : (b : Bool) (k : Text) (r : Option Text) → none (cond b (Some k) r) ≡ (not b && none r)
none_at true k r = refl
none_at false k r = refl

regroup : (a b c d : Bool) → (a && ((b && c) && d)) ≡ ((a && c) && (b && d))
regroup false b c d = refl
regroup true true true d = refl
regroup true true false d = refl
regroup true false true d = refl
regroup true false false d = refl

repeated_apart : (seen ks : List Text) → none (repeated_after seen ks) ≡ (apart seen ks && are_distinct ks)
repeated_apart seen [] = refl
repeated_apart seen (k ∷ ks) =
    none_at (is_among k seen) k (repeated_after (k ∷ seen) ks)
    ∙ ap (λ b. not (is_among k seen) && b) (repeated_apart (k ∷ seen) ks ∙ ap (λ b. b && are_distinct ks) (seen_more k seen ks))
    ∙ regroup (not (is_among k seen)) (not (is_among k ks)) (apart seen ks) (are_distinct ks)

nothing_seen : (ks : List Text) → apart [] ks ≡ true
nothing_seen [] = refl
nothing_seen (k ∷ ks) = nothing_seen ks

unless : {A : Type 0} (r : Option Text) (x : A) → given (unless_repeated r x) ≡ cond (none r) (Some x) None
unless None x = refl
unless (Some k) x = refl

-- the entries in order are what putting them in one by one gives
pub ordered_put : {A : Type 0} (es : List (Keyed A)) → ordered es ≡ given (all_put [] es)
ordered_put es =
    ap (λ b. cond b (Some (by_key es)) None) (sym (repeated_apart [] (keys es) ∙ ap (λ b. b && are_distinct (keys es)) (nothing_seen (keys es))))
    ∙ sym (unless (repeated (keys es)) (by_key es))
    ∙ ap given (entries_put es)

-- ---- what stands beside the keys

module _ {A B : Type 0} (f : A → B) where
  abbrev beside : Keyed A → Keyed B
  beside e = (e.0, f e.1)

  put_beside : (e : Keyed A) (es : List (Keyed A)) → map beside (put e es) ≡ put (beside e) (map beside es)
  put_beside e [] = refl
  put_beside e (g ∷ gs) =
      cond_swap (map beside) (is_lt (order e.0 g.0)) (e ∷ g ∷ gs) (g ∷ put e gs)
      ∙ ap (λ xs. cond (is_lt (order e.0 g.0)) (beside e ∷ beside g ∷ map beside gs) (beside g ∷ xs)) (put_beside e gs)

  pub by_key_beside : (es : List (Keyed A)) → map beside (by_key es) ≡ by_key (map beside es)
  by_key_beside [] = refl
  by_key_beside (e ∷ es) = put_beside e (by_key es) ∙ ap (put (beside e)) (by_key_beside es)

pub meant_keyed : {E M : Type 0} (m : E → M) (ps : List (RcStr Global × E)) → meant m ps ≡ map (λ e. (e.0, m e.1)) (keyed ps)
meant_keyed m [] = refl
meant_keyed m (p ∷ ps) = ap (λ xs. (rc_str_bytes p.0, m p.1) ∷ xs) (meant_keyed m ps)

pub keyed_keys : {E M : Type 0} (m : E → M) (ps : List (RcStr Global × E)) → keys (keyed ps) ≡ keys (meant m ps)
keyed_keys m [] = refl
keyed_keys m (p ∷ ps) = ap (λ xs. rc_str_bytes p.0 ∷ xs) (keyed_keys m ps)

module _ {M R : Type 0} (o : Operations M R) where
  pub each_keys : (ps : List (Keyed M)) (es : List (Keyed Tree)) → EachIsBuilt o ps es → keys ps ≡ keys es
  each_keys [] [] h = refl
  each_keys [] (e ∷ es) h = absurd h
  each_keys (p ∷ ps) [] h = absurd h
  each_keys (p ∷ ps) (e ∷ es) h = let tail = each_keys ps es h.2 in cc (h.0)

  each_at : (b c : Bool) (ps qs : List (Keyed M)) (es fs : List (Keyed Tree)) → b ≡ c → EachIsBuilt o ps es → EachIsBuilt o qs fs → EachIsBuilt o (cond b ps qs) (cond c es fs)
  each_at true true ps qs es fs same h k = h
  each_at true false ps qs es fs same h k = cc
  each_at false true ps qs es fs same h k = cc
  each_at false false ps qs es fs same h k = k

  each_put : (p : Keyed M) (e : Keyed Tree) (ps : List (Keyed M)) (es : List (Keyed Tree)) → p.0 ≡ e.0 → built o e.1 ≡ Ok p.1 → EachIsBuilt o ps es → EachIsBuilt o (put p ps) (put e es)
  each_put p e [] [] k b h = (k, b, tt)
  each_put p e [] (g ∷ gs) k b h = absurd h
  each_put p e (q ∷ qs) [] k b h = absurd h
  each_put p e (q ∷ qs) (g ∷ gs) k b h =
      let same : is_lt (order p.0 q.0) ≡ is_lt (order e.0 g.0) = ap (λ x. is_lt (order x q.0)) k ∙ ap (λ x. is_lt (order e.0 x)) h.0 in
      each_at (is_lt (order p.0 q.0)) (is_lt (order e.0 g.0)) (p ∷ q ∷ qs) (q ∷ put p qs) (e ∷ g ∷ gs) (g ∷ put e gs) same (k, b, h) (h.0, h.1, each_put p e qs gs k b h.2)

  each_by_key : (ps : List (Keyed M)) (es : List (Keyed Tree)) → EachIsBuilt o ps es → EachIsBuilt o (by_key ps) (by_key es)
  each_by_key [] [] h = tt
  each_by_key [] (e ∷ es) h = absurd h
  each_by_key (p ∷ ps) [] h = absurd h
  each_by_key (p ∷ ps) (e ∷ es) h = each_put p e (by_key ps) (by_key es) h.0 h.1 (each_by_key ps es h.2)

  each_values : (ps : List (Keyed M)) (es : List (Keyed Tree)) → EachIsBuilt o ps es → built_all o (trees (map (λ e. e.1) es)) ≡ Ok (map (λ p. p.1) ps)
  each_values [] [] h = built_none o
  each_values [] (e ∷ es) h = absurd h
  each_values (p ∷ ps) [] h = absurd h
  each_values (p ∷ ps) (e ∷ es) h = built_more o e.1 (map (λ e. e.1) es) p.1 (map (λ p. p.1) ps) h.1 (each_values ps es h.2)

  zipped : (ps : List (Keyed M)) → zip (keys ps) (map (λ p. p.1) ps) ≡ ps
  zipped [] = refl
  zipped (p ∷ ps) = ap (λ xs. p ∷ xs) (zipped ps)

  pub built_record : (ps : List (Keyed M)) (es : List (Keyed Tree)) → EachIsBuilt o ps es → built o (record_of es) ≡ o.record_of (by_key ps)
  built_record ps es h =
      let in_order = each_by_key ps es h in
      built_apply o (MakeRecord (keys (by_key es))) (map (λ e. e.1) (by_key es)) (map (λ p. p.1) (by_key ps)) (each_values (by_key ps) (by_key es) in_order)
      ∙ ap (λ ks. o.record_of (zip ks (map (λ p. p.1) (by_key ps)))) (sym (each_keys (by_key ps) (by_key es) in_order))
      ∙ ap o.record_of (zipped (by_key ps))

  -- one more at the end
  pub each_last : (ps : List (Keyed M)) (es : List (Keyed Tree)) (p : Keyed M) (e : Keyed Tree) → EachIsBuilt o ps es → p.0 ≡ e.0 → built o e.1 ≡ Ok p.1 → EachIsBuilt o (ps ++ p ∷ []) (es ++ e ∷ [])
  each_last [] [] p e h k b = (k, b, tt)
  each_last [] (f ∷ fs) p e h k b = absurd h
  each_last (q ∷ qs) [] p e h k b = absurd h
  each_last (q ∷ qs) (f ∷ fs) p e h k b = (h.0, h.1, each_last qs fs p e h.2 k b)

-- ---- records

same_test : {A : Type 0} (b c : Bool) (x : A) → b ≡ c → cond b (Some x) None ≡ None → c ≡ false
same_test true c x same h = cc
same_test false c x same h = sym same

passing_test : {A : Type 0} (b c : Bool) (x y : A) → b ≡ c → cond b (Some x) None ≡ Some y → (c ≡ true) × (x ≡ y)
passing_test true c x y same h = (sym same, cc h)
passing_test false c x y same h = cc

pub no_record : {A : Type 0} (ps : List (Keyed A)) (es : List (Keyed Tree)) → keys ps ≡ keys es → ordered ps ≡ None → record_tree es ≡ None
no_record ps es same h = ap (λ b. cond b (Some (record_of es)) None) (same_test (are_distinct (keys ps)) (are_distinct (keys es)) (by_key ps) (ap are_distinct same) h)

pub a_record : {A : Type 0} (ps qs : List (Keyed A)) (es : List (Keyed Tree)) → keys ps ≡ keys es → ordered ps ≡ Some qs → (record_tree es ≡ Some (record_of es)) × (by_key ps ≡ qs)
a_record ps qs es same h =
    let t = passing_test (are_distinct (keys ps)) (are_distinct (keys es)) (by_key ps) qs (ap are_distinct same) h in
    (ap (λ b. cond b (Some (record_of es)) None) t.0, t.1)

-- what is meant by the entries in order
pub meant_in_order : {E M : Type 0} (m : E → M) (ps qs : List (RcStr Global × E)) → by_key (keyed ps) ≡ keyed qs → by_key (meant m ps) ≡ meant m qs
meant_in_order m ps qs h = ap by_key (meant_keyed m ps) ∙ sym (by_key_beside m (keyed ps)) ∙ ap (map (λ e. (e.0, m e.1))) h ∙ sym (meant_keyed m qs)

pub puts_not : {B : Type 0} (e : ConversionError B) (b : Bool) → IsFault e → b ≡ true → PutsNot (reason e) b
puts_not (error.Faults fs) b h is = is
puts_not (error.Builder r) b h is = absurd h
puts_not error.Memory b h is = tt
