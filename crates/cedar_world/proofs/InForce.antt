-- The policies in force, as a list and under their ids.
use Rattle.std.proofs.Common.{◌≡◌, ◌⊎◌, inl, inr, Bool, true, false, cond, ◌&&◌, T, List, [], ◌∷◌, Option, Some, None, All, get_or, refl, sym, ◌∙◌, ap, subst}
use Rattle.std.proofs.lemmas.List.Elements.{Contains-get_or}
use Rattle.std.specs.declared.cmp.Ordering.{Ordering}
use Rattle.std.specs.declared.cmp.Ordering.TheVariants.{Equal}
use Rattle.std.specs.Ordering.{is_lt, is_eq, ordering_reverse}
use Rattle.std.specs.Cmp.{Equal-is}
use Rattle.std.specs.FinMap as finite
use Rattle.std.specs.FinMap.Entries.{find, below_all, is_sorted, same_entries}
use Rattle.cedar_language.specs.Uid.{Text}
use Rattle.cedar_language.specs.OrderLaws.{text_cmp_total, text_cmp_same}
use Rattle.cedar_world.specs.Orders.{text_cmp, text_eq}
use Rattle.cedar_grammar.specs.Syntax.{PolicySyntax}
use Rattle.cedar_world.specs.World.{World, Bound, Policies, standing_for, and_more, standing, in_force, in_force_as, in_force_at}
use Rattle.cedar_world.specs.InForce.{AreInForce}
use Rattle.cedar_world.proofs.Lists.{IsAmong, contained, contains, same_option}
use Rattle.cedar_world.proofs.Maps.{itself}

pub same_id : (a b : Text) → text_eq a b ≡ true → a ≡ b
same_id a b h = text_cmp_same a b ((Equal-is (text_cmp a b)).0 h)

both_first : (a b : Bool) → T (a && b) → T a
both_first true b h = tt
both_first false b h = h

both_second : (a b : Bool) → T (a && b) → T b
both_second true b h = h
both_second false b h = absurd h

-- ---- entries in the order of their keys

not_tied : (o : Ordering) → T (is_lt o) → is_eq (ordering_reverse o) ≡ false
not_tied Equal h = absurd h
not_tied _ h = refl

module _ {X : Type 0} where
  entry_step : (id : Text) (k : Text) (v x : X) (es : List (Text × X)) → (find text_cmp id es ≡ Some x → IsAmong (id, x) es) →
      (t : Bool) → text_eq id k ≡ t → cond t (Some v) (find text_cmp id es) ≡ Some x → IsAmong (id, x) ((k, v) ∷ es)
  entry_step id k v x es rest true tie h = let same = same_id id k tie in let is : v ≡ x = cc in inl (λ i. (sym same i, is i))
  entry_step id k v x es rest false tie h = inr (rest h)

  -- what is found under an id is its entry
  pub entry_found : (es : List (Text × X)) (id : Text) (x : X) → find text_cmp id es ≡ Some x → IsAmong (id, x) es
  entry_found [] id x h = cc
  entry_found (e ∷ es) id x h = entry_step id e.0 e.1 x es (entry_found es id x) (text_eq id e.0) refl h

  later_differs : (k : Text) (es : List (Text × X)) (id : Text) (x : X) → T (below_all text_cmp k es) → IsAmong (id, x) es → text_eq id k ≡ false
  later_differs k [] id x h a = absurd a
  later_differs k (e ∷ es) id x h (inl is) =
      let less : T (is_lt (text_cmp k id)) = subst (λ (y : Text × X). T (is_lt (text_cmp k y.0))) is (both_first (is_lt (text_cmp k e.0)) _ h) in
      ap is_eq (text_cmp_total.antisymm id k) ∙ not_tied (text_cmp k id) less
  later_differs k (e ∷ es) id x h (inr a) = later_differs k es id x (both_second (is_lt (text_cmp k e.0)) _ h) a

  pub found_entry : (es : List (Text × X)) (id : Text) (x : X) → T (is_sorted text_cmp es) → IsAmong (id, x) es → find text_cmp id es ≡ Some x
  found_entry [] id x h a = absurd a
  found_entry (e ∷ es) id x h (inl is) =
      let tie : text_eq id e.0 ≡ true = subst (λ (y : Text × X). text_eq y.0 e.0 ≡ true) is (itself e.0) in
      rw tie (ap (λ (y : Text × X). Some y.1) is)
  found_entry (e ∷ es) id x h (inr a) =
      let other : text_eq id e.0 ≡ false = later_differs e.0 es id x (both_first (below_all text_cmp e.0 es) _ h) a in
      rw other (found_entry es id x (both_second (below_all text_cmp e.0 es) _ h) a)

-- ---- policies in force

module _ (policies : Policies) where
  more_among : (id : Text) (s : PolicySyntax) (k : Text) (o : Option PolicySyntax) (rest : List (Text × PolicySyntax)) →
      IsAmong (id, s) (and_more k o rest) → ((id ≡ k) × (o ≡ Some s)) ⊎ IsAmong (id, s) rest
  more_among id s k None rest a = inr a
  more_among id s k (Some u) rest (inl is) = inl (λ i. (sym is i).0, λ i. Some ((is i).1))
  more_among id s k (Some u) rest (inr a) = inr a

  bound_of : (es : List (Text × Bound)) (id : Text) (s : PolicySyntax) → IsAmong (id, s) (standing policies es) →
      (b : Bound) × IsAmong (id, b) es × (standing_for policies b ≡ Some s)
  bound_of [] id s a = absurd a
  bound_of (e ∷ es) id s a =
      elim (more_among id s e.0 (standing_for policies e.1) (standing policies es) a) [
        | inl h ↦ (e.1, inl (λ i. (sym h.0 i, e.1)), h.1)
        | inr h ↦ let u = bound_of es id s h in (u.0, inr u.1, u.2)
      ]

  among_more : (k : Text) (s : PolicySyntax) (o : Option PolicySyntax) (rest : List (Text × PolicySyntax)) → o ≡ Some s → IsAmong (k, s) (and_more k o rest)
  among_more k s (Some u) rest h = let is : u ≡ s = cc in inl (λ i. (k, is i))
  among_more k s None rest h = cc

  kept_among : (x : Text × PolicySyntax) (k : Text) (o : Option PolicySyntax) (rest : List (Text × PolicySyntax)) → IsAmong x rest → IsAmong x (and_more k o rest)
  kept_among x k (Some u) rest a = inr a
  kept_among x k None rest a = a

  stands_among : (es : List (Text × Bound)) (id : Text) (b : Bound) (s : PolicySyntax) → IsAmong (id, b) es → standing_for policies b ≡ Some s → IsAmong (id, s) (standing policies es)
  stands_among [] id b s a h = absurd a
  stands_among (e ∷ es) id b s (inl is) h =
      let stands : standing_for policies e.1 ≡ Some s = ap (λ (y : Text × Bound). standing_for policies y.1) is ∙ h in
      subst (λ (y : Text × Bound). IsAmong (y.0, s) (standing policies (e ∷ es))) is (among_more e.0 s (standing_for policies e.1) (standing policies es) stands)
  stands_among (e ∷ es) id b s (inr a) h = kept_among (id, s) e.0 (standing_for policies e.1) (standing policies es) (stands_among es id b s a h)

  bound_standing : (o : Option Bound) (s : PolicySyntax) → in_force_as policies o ≡ Some s → (b : Bound) × (o ≡ Some b) × (standing_for policies b ≡ Some s)
  bound_standing (Some b) s h = (b, refl, h)
  bound_standing None s h = cc

  -- a policy of the list is in force under its id, and the other way round
  pub listed_in_force : (id : Text) (s : PolicySyntax) → IsAmong (id, s) (in_force policies) → in_force_at policies id ≡ Some s
  listed_in_force id s a =
      let u = bound_of (finite.entries policies) id s a in
      let found : finite.get policies id ≡ Some u.0 = finite.get-entries policies id ∙ found_entry (finite.entries policies) id u.0 (finite.entries_sorted policies) u.1 in
      ap (in_force_as policies) found ∙ u.2

  pub in_force_listed : (id : Text) (s : PolicySyntax) → in_force_at policies id ≡ Some s → IsAmong (id, s) (in_force policies)
  in_force_listed id s h =
      let u = bound_standing (finite.get policies id) s h in
      stands_among (finite.entries policies) id u.0 s (entry_found (finite.entries policies) id u.0 (sym (finite.get-entries policies id) ∙ u.1)) u.2

-- ---- the list

all_among : {X : Type 0} (P : X → Type 0) (xs : List X) → ((x : X) → IsAmong x xs → P x) → All P xs
all_among P xs f k d lt = f (get_or xs k d) (contained xs (get_or xs k d) (Contains-get_or xs k d lt))

pub listed : (world : World) → AreInForce world (in_force world.policies)
listed world = record {
  each = all_among (λ p. in_force_at world.policies p.0 ≡ Some p.1) (in_force world.policies) (λ p a. listed_in_force world.policies p.0 p.1 a);
  every = λ id s h. contains (in_force world.policies) (id, s) (in_force_listed world.policies id s h);
}

-- ---- one list

both : (a b : Bool) → T a → T b → T (a && b)
both true b h k = k
both false b h k = absurd h

module _ (policies : Policies) where
  below_more : (k id : Text) (o : Option PolicySyntax) (rest : List (Text × PolicySyntax)) → T (is_lt (text_cmp k id)) → T (below_all text_cmp k rest) → T (below_all text_cmp k (and_more id o rest))
  below_more k id None rest h b = b
  below_more k id (Some s) rest h b = both (is_lt (text_cmp k id)) (below_all text_cmp k rest) h b

  below_standing : (k : Text) (es : List (Text × Bound)) → T (below_all text_cmp k es) → T (below_all text_cmp k (standing policies es))
  below_standing k [] h = h
  below_standing k (e ∷ es) h =
      below_more k e.0 (standing_for policies e.1) (standing policies es) (both_first (is_lt (text_cmp k e.0)) _ h) (below_standing k es (both_second (is_lt (text_cmp k e.0)) _ h))

  sorted_more : (id : Text) (o : Option PolicySyntax) (rest : List (Text × PolicySyntax)) → T (below_all text_cmp id rest) → T (is_sorted text_cmp rest) → T (is_sorted text_cmp (and_more id o rest))
  sorted_more id None rest b h = h
  sorted_more id (Some s) rest b h = both (below_all text_cmp id rest) (is_sorted text_cmp rest) b h

  sorted_standing : (es : List (Text × Bound)) → T (is_sorted text_cmp es) → T (is_sorted text_cmp (standing policies es))
  sorted_standing [] h = h
  sorted_standing (e ∷ es) h =
      sorted_more e.0 (standing_for policies e.1) (standing policies es) (below_standing e.0 es (both_first (below_all text_cmp e.0 es) _ h)) (sorted_standing es (both_second (below_all text_cmp e.0 es) _ h))

  in_force_sorted : T (is_sorted text_cmp (in_force policies))
  in_force_sorted = sorted_standing (finite.entries policies) (finite.entries_sorted policies)

  pub found_in_force : (id : Text) → find text_cmp id (in_force policies) ≡ in_force_at policies id
  found_in_force id =
      same_option (find text_cmp id (in_force policies)) (in_force_at policies id)
      (λ s h. listed_in_force policies id s (entry_found (in_force policies) id s h))
      (λ s h. found_entry (in_force policies) id s in_force_sorted (in_force_listed policies id s h))

pub one_list : (policies others : Policies) → ((id : Text) → in_force_at policies id ≡ in_force_at others id) → in_force policies ≡ in_force others
one_list policies others alike =
    same_entries text_cmp text_cmp_total text_cmp_same (in_force policies) (in_force others) (in_force_sorted policies) (in_force_sorted others)
    (λ id. found_in_force policies id ∙ alike id ∙ sym (found_in_force others id))
