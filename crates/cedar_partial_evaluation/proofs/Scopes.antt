-- How the parts of a scope evaluate: an entity, a conjunction, a list of entities.
use Rattle.std.proofs.Common.{◌≡◌, ◌↔◌, Bool, true, false, ◌||◌, Option, Some, None, IsTrue, List, [], ◌∷◌, map, refl, sym, ◌∙◌, ap, subst}
use Rattle.std.proofs.lemmas.Bool.{and_from, and_parts}
use Rattle.std.specs.List.{list_any}
use Rattle.std.specs.declared.cmp.Ordering.{Ordering}
use Rattle.std.specs.declared.cmp.Ordering.TheVariants as ordering
use Rattle.std.specs.Cmp.{both_ways}
use Rattle.std.specs.Cmp.Lexicographic.{pointwise_decides, bytes_decides}
use Rattle.cedar_language.specs.Uid.{Uid}
use Rattle.cedar_language.specs.Tree.{Boolean, Entity, Tree, Lit}
use Rattle.cedar_language.specs.Value.{Value, Plain, Values, no_values, a_value}
use Rattle.cedar_language.specs.Order.{same, same_text, same_name, same_uid, value_cmp, placed, put, rising}
use Rattle.cedar_language.specs.OrderLaws.{value_cmp_same, same_is, is_same}
use Rattle.cedar_language.specs.Facts.{Facts}
use Rattle.cedar_language.specs.Operators.{and_uid, uids_in, is_within, is_within_some}
use Rattle.cedar_partial_evaluation.specs.Partial.{Evaluated, Answers, AllEvaluated, and_answer, and_next, LeafAnswers, partial_in, all_partial_in}
use Rattle.cedar_grammar.specs.Build.{trees, conjunction}

-- ---- entities

name_decides : (a b : _) → IsTrue (same_name a b) ↔ (a ≡ b)
name_decides a b = pointwise_decides bytes_decides a b

pub decides_equality : (a b : Uid) → IsTrue (same_uid a b) ↔ (a ≡ b)
decides_equality a b = (
  λ h.
      let types : a.type_name ≡ b.type_name = (name_decides a.type_name b.type_name).0 (and_parts (same_name a.type_name b.type_name) _ h).0 in
      let ids : a.id ≡ b.id = (bytes_decides a.id b.id).0 (and_parts (same_name a.type_name b.type_name) _ h).1 in
      λ i. record { type_name = types i; id = ids i },
  λ e. and_from (same_name a.type_name b.type_name) (same_text a.id b.id) ((name_decides a.type_name b.type_name).1 (ap (λ (u : Uid). u.type_name) e)) ((bytes_decides a.id b.id).1 (ap (λ (u : Uid). u.id) e)),
)

pub entity_equal : (a b : Uid) → same (Plain (Entity a)) (Plain (Entity b)) ≡ same_uid a b
entity_equal a b =
    both_ways (same (Plain (Entity a)) (Plain (Entity b))) (same_uid a b)
    (λ h. let e : Plain (Entity a) ≡ Plain (Entity b) = same_is _ _ h in let is : a ≡ b = cc in (decides_equality a b).1 is)
    (λ h. is_same _ _ (ap (λ u. Plain (Entity u)) ((decides_equality a b).0 h)))

-- ---- conjunctions

pub conjoined : (facts : Facts) (holds : LeafAnswers) (l r : Tree) → partial_in facts holds (conjunction l r) ≡ and_answer facts (partial_in facts holds l) (partial_in facts holds r) r
conjoined facts holds (Lit (Boolean true)) (Lit (Boolean b)) = refl
conjoined facts holds (Lit (Boolean false)) (Lit (Boolean b)) = refl
conjoined facts holds _ _ = refl

-- ---- a set of entities

abbrev pub entities : List Uid → Values
entities [] = no_values
entities (u ∷ us) = a_value (Plain (Entity u)) (entities us)

pub all_listed : (facts : Facts) (holds : LeafAnswers) (us : List Uid) → all_partial_in facts holds (trees (map (λ u. Lit (Entity u)) us)) ≡ AllEvaluated (entities us)
all_listed facts holds [] = refl
all_listed facts holds (u ∷ us) = ap (λ (ps : Answers). and_next facts (Evaluated (Plain (Entity u))) ps) (all_listed facts holds us)

-- the values are entities, among which one is found just where it is found among these
pub record AreUids (facts : Facts) (vs : Values) (is_found : Uid → Bool) : Type 0 where
  pub uids : List Uid
  pub uids_are : uids_in vs ≡ Some uids
  pub found : (a : Uid) → is_within_some facts a uids ≡ is_found a

or_same : (p r : Bool) → (p || r) ≡ (p || (p || r))
or_same true r = refl
or_same false r = refl

or_swapped : (p q r : Bool) → (p || (q || r)) ≡ (q || (p || r))
or_swapped true true r = refl
or_swapped true false r = refl
or_swapped false q r = refl

module _ (facts : Facts) (u : Uid) where
  abbrev with_u : List Uid → Uid → Bool
  with_u cs a = is_within facts a u || is_within_some facts a cs

  put_placed : (o : Ordering) (x : Uid) (ws : Values) (cs : List Uid) → value_cmp (Plain (Entity u)) (Plain (Entity x)) ≡ o → uids_in ws ≡ Some cs → AreUids facts (put (Plain (Entity u)) ws) (with_u cs) →
      AreUids facts (placed o (Plain (Entity u)) (Plain (Entity x)) ws (put (Plain (Entity u)) ws)) (with_u (x ∷ cs))
  put_placed ordering.Less x ws cs e h rest = record { uids = u ∷ x ∷ cs; uids_are = rw h refl; found = λ a. refl }
  put_placed ordering.Equal x ws cs e h rest =
      let same : Plain (Entity u) ≡ Plain (Entity x) = value_cmp_same _ _ e in
      let is : u ≡ x = cc in
      record {
        uids = x ∷ cs;
        uids_are = rw h refl;
        found = λ a. or_same (is_within facts a x) (is_within_some facts a cs) ∙ ap (λ y. is_within facts a y || is_within_some facts a (x ∷ cs)) (sym is);
      }
  put_placed ordering.Greater x ws cs e h rest = record {
    uids = x ∷ rest.uids;
    uids_are = rw (rest.uids_are) refl;
    found = λ a. ap (λ b. is_within facts a x || b) (rest.found a) ∙ or_swapped (is_within facts a x) (is_within facts a u) (is_within_some facts a cs);
  }

  first_uid : (w : Value) (o : Option (List Uid)) (cs : List Uid) → and_uid w o ≡ Some cs → (x : Uid) × (rest : List Uid) × (w ≡ Plain (Entity x)) × (o ≡ Some rest) × (cs ≡ x ∷ rest)
  first_uid (Plain (Entity x)) (Some rest) cs h = (x, rest, refl, refl, cc)
  first_uid (Plain (Entity x)) None cs h = cc
  first_uid _ o cs h = cc

  put_uids : (ws : Values) (cs : List Uid) → uids_in ws ≡ Some cs → AreUids facts (put (Plain (Entity u)) ws) (with_u cs)
  put_uids no_values cs h = let none : cs ≡ [] = cc in record { uids = u ∷ []; uids_are = refl; found = λ a. rw none refl }
  put_uids (a_value w ws) cs h =
      let (x, rest, w_is, rest_is, cs_is) = first_uid w (uids_in ws) cs h in
      let here = put_placed (value_cmp (Plain (Entity u)) (Plain (Entity x))) x ws rest refl rest_is (put_uids ws rest rest_is) in
      subst (λ (y : Value). AreUids facts (put (Plain (Entity u)) (a_value y ws)) (with_u cs)) (sym w_is)
      (subst (λ (ys : List Uid). AreUids facts (put (Plain (Entity u)) (a_value (Plain (Entity x)) ws)) (with_u ys)) (sym cs_is) here)

pub rising_uids : (facts : Facts) (us : List Uid) → AreUids facts (rising (entities us)) (λ a. list_any (is_within facts a) us)
rising_uids facts [] = record { uids = []; uids_are = refl; found = λ a. refl }
rising_uids facts (u ∷ us) =
    let rest = rising_uids facts us in
    let more = put_uids facts u (rising (entities us)) rest.uids rest.uids_are in
    record { uids = more.uids; uids_are = more.uids_are; found = λ a. more.found a ∙ ap (λ b. is_within facts a u || b) (rest.found a) }
