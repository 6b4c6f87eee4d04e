-- The edges of a graph that is turned round, once one is added or removed.
use Rattle.std.proofs.Common.{◌≡◌, Bool, true, false, cond, ◌||◌, ◌&&◌, List, [], ◌∷◌, IsTrue, refl, sym, ap, ◌∙◌, Option, Some, None, Result, Ok, Err, OnOk, length, arith}
use Rattle.std.specs.Prelude.{not}
use Rattle.std.specs.Option.{option_map_or}
use Rattle.std.specs.declared.cmp.Ordering.{Ordering}
use Rattle.std.specs.Ordering.{is_eq, eq_by_cmp}
use Rattle.std.specs.Cmp.{IsEquivalence, IsTotalOrder}
use Rattle.std.specs.BTreeMap.{get, is_at}
use Rattle.std.specs.BTreeSet.{BTreeSet, contains}
use Rattle.std.specs.HashMap.Eq.{lookup_congr}
use Rattle.std.specs.List.{list_any}
use Rattle.std.specs.Map.{lookup}
use Rattle.std.proofs.lemmas.Cmp.{eq_by_cmp_equiv}
use Rattle.cedar_closure.specs.Sources.{has_source}
use Rattle.cedar_closure.specs.declared.sources.Sources.{Sources}
use Rattle.cedar_closure.proofs.Members.{or_none}

-- what follows where there is a value
pub on_ok : {A E P Q : Type 0} (r : Result A E) → OnOk r P → (P → Q) → OnOk r Q
on_ok (Ok a) p f = f p
on_ok (Err e) p f = p

-- nothing is left
pub none_left : {X : Type 0} (xs : List X) → length xs ≡ 0 → xs ≡ []
none_left [] h = refl
none_left (x ∷ xs) h = absurd (omega (arith, h))

and_true : (a : Bool) → (a && true) ≡ a
and_true true = refl
and_true false = refl

and_false : (a : Bool) → (a && false) ≡ false
and_false true = refl
and_false false = refl

-- one more is there, or one less
pub put_true : (b c : Bool) → cond b true c ≡ (c || b)
put_true true true = refl
put_true true false = refl
put_true false c = sym (or_none c)

put_false : (b c : Bool) → cond b false c ≡ (c && not b)
put_false true c = sym (and_false c)
put_false false c = sym (and_true c)

module _ {Z : Type 0} (f : Z → Bool) where
  put_same : (b : Bool) (o : Option Z) (w : Z) → (b ≡ true → f w ≡ option_map_or f o false) → option_map_or f (cond b (Some w) o) false ≡ option_map_or f o false
  put_same true o w h = h refl
  put_same false o w h = refl

  put_more : (b now : Bool) (o : Option Z) (w : Z) → (b ≡ true → f w ≡ (option_map_or f o false || now)) → option_map_or f (cond b (Some w) o) false ≡ (option_map_or f o false || (b && now))
  put_more true now o w h = h refl
  put_more false now o w h = sym (or_none (option_map_or f o false))

  put_less : (b now : Bool) (o : Option Z) (w : Z) → (b ≡ true → f w ≡ (option_map_or f o false && not now)) → option_map_or f (cond b (Some w) o) false ≡ (option_map_or f o false && not (b && now))
  put_less true now o w h = h refl
  put_less false now o w h = sym (and_true (option_map_or f o false))

  put_none : (b : Bool) (o : Option Z) → option_map_or f (cond b None o) false ≡ (option_map_or f o false && not b)
  put_none true o = sym (and_false (option_map_or f o false))
  put_none false o = sym (and_true (option_map_or f o false))

  -- where nothing is left, none need be kept
  put_empty : (b : Bool) (o : Option Z) → (b ≡ true → false ≡ option_map_or f o false) → option_map_or f (cond b None o) false ≡ option_map_or f o false
  put_empty true o h = h refl
  put_empty false o h = refl

  left_out : (b now : Bool) (o : Option Z) → (b ≡ true → option_map_or f o false ≡ false) → option_map_or f o false ≡ (option_map_or f o false && not (b && now))
  left_out true now o h = h refl ∙ sym (ap (λ c. c && not now) (h refl))
  left_out false now o h = sym (and_true (option_map_or f o false))

module _ {K : Type 0} {eq : K → K → Bool} {cmp : K → K → Ordering} (laws : IsEquivalence eq) (total : IsTotalOrder cmp) (ties : (x y : K) → eq x y ≡ is_eq (cmp x y)) where
  -- whether the key that is found is that of the target
  at_target : (target at t : K) → IsTrue (eq target at) → is_at (cmp at) t ≡ eq target t
  at_target target at t e = sym (ties at t) ∙ sym (laws.congr target at t e)

  -- equal targets have the same sources
  pub target_alike : (graph : Sources K) (x y s : K) → IsTrue (eq x y) → has_source cmp graph x s ≡ has_source cmp graph y s
  unfolding has_source
  target_alike graph x y s e = ap (λ o. option_map_or (λ sources. contains cmp sources s) o false) (lookup_congr (eq_by_cmp cmp) (eq_by_cmp_equiv total).congr graph.by_target.entries x y (sym (ties x y) ∙ e))

  -- one more source in a set, which was that of the target or empty
  pub set_added : (graph : Sources K) (target source key : K) (old new : BTreeSet K) → Some old ≡ get cmp graph.by_target target → IsTrue (eq source key)
      → ((q : K) → contains cmp new q ≡ cond (is_at (cmp key) q) true (contains cmp old q)) → (s : K) → contains cmp new s ≡ (has_source cmp graph target s || eq source s)
  unfolding has_source
  set_added graph target source key old new there e put s =
      put s ∙ put_true (is_at (cmp key) s) (contains cmp old s)
      ∙ ap (λ b. contains cmp old s || b) (at_target source key s e)
      ∙ ap (λ o. option_map_or (λ sources. contains cmp sources s) o false || eq source s) there

  pub set_first : (graph : Sources K) (target source : K) (old new : BTreeSet K) → old.keys ≡ [] → ((s : K) → has_source cmp graph target s ≡ false)
      → ((q : K) → contains cmp new q ≡ cond (is_at (cmp source) q) true (contains cmp old q)) → (s : K) → contains cmp new s ≡ (has_source cmp graph target s || eq source s)
  set_first graph target source old new empty none put s =
      put s ∙ put_true (is_at (cmp source) s) (contains cmp old s)
      ∙ ap (λ b. contains cmp old s || b) (sym (ties source s))
      ∙ ap (λ ks. list_any (is_at (cmp s)) ks || eq source s) empty
      ∙ ap (λ b. b || eq source s) (sym (none s))

  -- and one less
  pub set_removed : (graph : Sources K) (target source : K) (old new : BTreeSet K) → Some old ≡ get cmp graph.by_target target
      → ((q : K) → contains cmp new q ≡ cond (is_at (cmp source) q) false (contains cmp old q)) → (s : K) → contains cmp new s ≡ (has_source cmp graph target s && not (eq source s))
  unfolding has_source
  set_removed graph target source old new there put s =
      put s ∙ put_false (is_at (cmp source) s) (contains cmp old s)
      ∙ ap (λ b. contains cmp old s && not b) (sym (ties source s))
      ∙ ap (λ o. option_map_or (λ sources. contains cmp sources s) o false && not (eq source s)) there

  module _ (old new : Sources K) (target : K) where
    -- the set with one more source stands at the target
    pub edge_added : (at source : K) (w : BTreeSet K) → IsTrue (eq target at)
        → ((q : K) → get cmp new.by_target q ≡ cond (is_at (cmp at) q) (Some w) (get cmp old.by_target q))
        → ((s : K) → contains cmp w s ≡ (has_source cmp old target s || eq source s))
        → (t s : K) → has_source cmp new t s ≡ (has_source cmp old t s || (eq target t && eq source s))
    unfolding has_source
    edge_added at source w e put holds t s =
        ap (λ o. option_map_or (λ sources. contains cmp sources s) o false) (put t ∙ ap (λ b. cond b (Some w) (get cmp old.by_target t)) (at_target target at t e))
        ∙ put_more (λ sources. contains cmp sources s) (eq target t) (eq source s) (get cmp old.by_target t) w (λ same. holds s ∙ ap (λ b. b || eq source s) (target_alike old target t s same))

    -- a set that has the same sources
    pub edge_kept : (v w : BTreeSet K) → Some v ≡ get cmp old.by_target target → w.keys ≡ v.keys
        → ((q : K) → get cmp new.by_target q ≡ cond (is_at (cmp target) q) (Some w) (get cmp old.by_target q))
        → (t s : K) → has_source cmp new t s ≡ has_source cmp old t s
    unfolding has_source
    edge_kept v w there keys put t s =
        ap (λ o. option_map_or (λ sources. contains cmp sources s) o false) (put t ∙ ap (λ b. cond b (Some w) (get cmp old.by_target t)) (at_target target target t (laws.refl target)))
        ∙ put_same (λ sources. contains cmp sources s) (eq target t) (get cmp old.by_target t) w
        (λ same. ap (λ ks. list_any (is_at (cmp s)) ks) keys ∙ ap (λ o. option_map_or (λ sources. contains cmp sources s) o false) there ∙ target_alike old target t s same)

    -- a set with one source less
    pub edge_removed : (source : K) (w : BTreeSet K)
        → ((q : K) → get cmp new.by_target q ≡ cond (is_at (cmp target) q) (Some w) (get cmp old.by_target q))
        → ((s : K) → contains cmp w s ≡ (has_source cmp old target s && not (eq source s)))
        → (t s : K) → has_source cmp new t s ≡ (has_source cmp old t s && not (eq target t && eq source s))
    unfolding has_source
    edge_removed source w put holds t s =
        ap (λ o. option_map_or (λ sources. contains cmp sources s) o false) (put t ∙ ap (λ b. cond b (Some w) (get cmp old.by_target t)) (at_target target target t (laws.refl target)))
        ∙ put_less (λ sources. contains cmp sources s) (eq target t) (eq source s) (get cmp old.by_target t) w (λ same. holds s ∙ ap (λ b. b && not (eq source s)) (target_alike old target t s same))

    -- no set stands at the target any more
    pub target_removed : ((q : K) → get cmp new.by_target q ≡ cond (is_at (cmp target) q) None (get cmp old.by_target q))
        → (t s : K) → has_source cmp new t s ≡ (has_source cmp old t s && not (eq target t))
    unfolding has_source
    target_removed put t s =
        ap (λ o. option_map_or (λ sources. contains cmp sources s) o false) (put t ∙ ap (λ b. cond b None (get cmp old.by_target t)) (at_target target target t (laws.refl target)))
        ∙ put_none (λ sources. contains cmp sources s) (eq target t) (get cmp old.by_target t)

    -- and none stood there that has a source
    pub target_emptied : ((s : K) → has_source cmp old target s ≡ false)
        → ((q : K) → get cmp new.by_target q ≡ cond (is_at (cmp target) q) None (get cmp old.by_target q))
        → (t s : K) → has_source cmp new t s ≡ has_source cmp old t s
    unfolding has_source
    target_emptied none put t s =
        ap (λ o. option_map_or (λ sources. contains cmp sources s) o false) (put t ∙ ap (λ b. cond b None (get cmp old.by_target t)) (at_target target target t (laws.refl target)))
        ∙ put_empty (λ sources. contains cmp sources s) (eq target t) (get cmp old.by_target t) (λ same. sym (none s) ∙ target_alike old target t s same)

  -- nothing is removed where no set stands
  pub edge_missing : (graph : Sources K) (target source : K) → None ≡ get cmp graph.by_target target
      → (t s : K) → has_source cmp graph t s ≡ (has_source cmp graph t s && not (eq target t && eq source s))
  unfolding has_source
  edge_missing graph target source none t s =
      left_out (λ sources. contains cmp sources s) (eq target t) (eq source s) (get cmp graph.by_target t)
      (λ same. sym (target_alike graph target t s same) ∙ sym (ap (λ o. option_map_or (λ sources. contains cmp sources s) o false) none))

module _ {K : Type 0} (cmp : K → K → Ordering) where
  -- a set that is found has the sources
  pub sources_at : (graph : Sources K) (target : K) (held : BTreeSet K) → Some held ≡ get cmp graph.by_target target → (s : K) → contains cmp held s ≡ has_source cmp graph target s
  unfolding has_source
  sources_at graph target held there s = ap (λ o. option_map_or (λ sources. contains cmp sources s) o false) there

  pub no_sources_at : (graph : Sources K) (target : K) → None ≡ get cmp graph.by_target target → (s : K) → has_source cmp graph target s ≡ false
  unfolding has_source
  no_sources_at graph target none s = sym (ap (λ o. option_map_or (λ sources. contains cmp sources s) o false) none)

  -- a set without keys
  pub empty_at : (graph : Sources K) (target : K) (held : BTreeSet K) → get cmp graph.by_target target ≡ Some held → held.keys ≡ [] → (s : K) → has_source cmp graph target s ≡ false
  unfolding has_source
  empty_at graph target held there empty s = ap (λ o. option_map_or (λ sources. contains cmp sources s) o false) there ∙ ap (λ ks. list_any (is_at (cmp s)) ks) empty

  -- the same entries are the same edges, and none are no edges
  pub same_edges : (old new : Sources K) → new.by_target.entries ≡ old.by_target.entries → (t s : K) → has_source cmp new t s ≡ has_source cmp old t s
  unfolding has_source
  same_edges old new same t s = ap (λ es. option_map_or (λ sources. contains cmp sources s) (lookup (is_at (cmp t)) es) false) same

  pub no_edges_there : (graph : Sources K) → graph.by_target.entries ≡ [] → (t s : K) → has_source cmp graph t s ≡ false
  unfolding has_source
  no_edges_there graph none t s = ap (λ es. option_map_or (λ sources. contains cmp sources s) (lookup (is_at (cmp t)) es) false) none
