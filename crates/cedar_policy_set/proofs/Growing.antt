-- What is found in an index is found there still when more is listed.
use Rattle.std.proofs.Common.{◌≡◌, ℕ, nat_eq, Bool, true, false, cond, List, [], ◌∷◌, ◌++◌, refl, ap, ◌∙◌, Result, Ok, Err, OnOk, OnErr}
use Rattle.std.specs.Cmp.{nat_eq_equiv}
use Rattle.std.specs.Cmp.Lexicographic.{nat_list_eq_equiv}
use Rattle.std.proofs.lemmas.List.Folds.{list_any-append}
use Rattle.std.proofs.lemmas.Bool.{or_left, or_right}
use Rattle.cedar_language.specs.Uid.{Uid}
use Rattle.cedar_language.specs.Order.{same_text}
use Rattle.cedar_grammar.specs.Policy.{Policy}
use Rattle.cedar_grammar.specs.Bindings.{Bindings}
use Rattle.cedar_policy_set.specs.declared.scope_index.positions.Positions.{Positions}
use Rattle.cedar_policy_set.specs.declared.scope_index.index.ScopeIndex.{ScopeIndex}
use Rattle.cedar_policy_set.specs.ScopeFinding.{positions_at, others_of, is_listed, IsListedFor, by_nothing, by_principal, by_action, by_resource, by_pair, IsFound, KeepsFound}
use Rattle.cedar_policy_set.specs.ClosedPlaces.{position_of, closed_up}

-- what the one lists, the other lists under the same entity
abbrev pub Holds : Positions → Positions → Type 0
Holds old new = (u : Uid) (p : ℕ) → is_listed (positions_at old u) p ≡ true → is_listed (positions_at new u) p ≡ true

pub record Grows (x y : ScopeIndex) : Type 0 where
  pub others : (p : ℕ) → is_listed (others_of x) p ≡ true → is_listed (others_of y) p ≡ true
  pub principals : Holds x.principals y.principals
  pub actions : Holds x.actions y.actions
  pub resources : Holds x.resources y.resources
  pub paired_principals : Holds x.paired_principals y.paired_principals
  pub paired_resources : Holds x.paired_resources y.paired_resources

pub grown : (x y : ScopeIndex) → Grows x y → (t : ℕ) (b : Bindings) (s : Policy) → IsListedFor x t b s → IsListedFor y t b s
grown x y g t b s (by_nothing l) = by_nothing (g.others t l)
grown x y g t b s (by_principal u n l) = by_principal u n (g.principals u t l)
grown x y g t b s (by_action u settled n l) = by_action u settled n (g.actions u t l)
grown x y g t b s (by_resource u settled n l) = by_resource u settled n (g.resources u t l)
grown x y g t b s (by_pair u v settled n m l k) = by_pair u v settled n m (g.paired_principals u t l) (g.paired_resources v t k)

-- how far it goes is no matter
pub grows_counted : (x : ScopeIndex) (n : ℕ) → Grows x (record x { len = n })
grows_counted x n = record {
  others = λ p h. h;
  principals = λ u p h. h;
  actions = λ u p h. h;
  resources = λ u p h. h;
  paired_principals = λ u p h. h;
  paired_resources = λ u p h. h;
}

-- where no place is taken out, what is found stays so
pub keeps : (x y : ScopeIndex) → y.gaps ≡ x.gaps → Grows x y → KeepsFound x y
keeps x y same g p b s found = record {
  place = found.place;
  stands = ap (λ gaps. position_of gaps.taken.items found.place) same ∙ found.stands;
  listed = grown x y g found.place b s found.listed;
}

-- how far an index goes is no matter
pub counted : (x : ScopeIndex) (n : ℕ) → KeepsFound x (record x { len = n })
counted x n = keeps x (record x { len = n }) refl (grows_counted x n)

-- what is listed at a place is found where that place stands
pub found_there : (x : ScopeIndex) (n t p : ℕ) (b : Bindings) (s : Policy) → position_of x.gaps.taken.items t ≡ p → IsListedFor x t b s → IsFound (record x { len = n }) p b s
found_there x n t p b s stands listed = record {
  place = t;
  stands = stands;
  listed = grown x (record x { len = n }) (grows_counted x n) t b s listed;
}

-- ---- a position is taken out

-- each place stands where it says
pub taken_within : (x y : ScopeIndex) (out p : ℕ) (b : Bindings) (s : Policy) → Grows x y
    → ((t : ℕ) → position_of y.gaps.taken.items t ≡ closed_up out (position_of x.gaps.taken.items t)) → IsFound x p b s → IsFound y (closed_up out p) b s
taken_within x y out p b s g closes found = record {
  place = found.place;
  stands = closes found.place ∙ ap (closed_up out) found.stands;
  listed = grown x y g found.place b s found.listed;
}

-- ---- one more at the end of a list

still_listed : (ps : List ℕ) (q p : ℕ) → is_listed ps p ≡ true → is_listed (ps ++ q ∷ []) p ≡ true
still_listed ps q p h = list_any-append (nat_eq p) ps (q ∷ []) ∙ or_left (is_listed ps p) _ h

pub last_listed : (ps : List ℕ) (p : ℕ) → is_listed (ps ++ p ∷ []) p ≡ true
last_listed ps p = list_any-append (nat_eq p) ps (p ∷ []) ∙ or_right (is_listed ps p) _ (or_left (nat_eq p p) _ (nat_eq_equiv.refl p))

-- also where it wasn't listed
pub still : {E : Type 0} (r : Result (Unit {0}) E) (ps qs : List ℕ) (q : ℕ) → OnOk r (qs ≡ ps ++ q ∷ []) → OnErr r (qs ≡ ps) → (p : ℕ) → is_listed ps p ≡ true → is_listed qs p ≡ true
still (Ok a) ps qs q more same p h = ap (λ xs. is_listed xs p) more ∙ still_listed ps q p h
still (Err e) ps qs q more same p h = ap (λ xs. is_listed xs p) same ∙ h

-- what holds anyway
pub on_ok_always : {A E P : Type 0} (r : Result A E) → P → OnOk r P
on_ok_always (Ok a) p = p
on_ok_always (Err e) p = tt

-- two facts of what was done
pub on_ok_both : {A E P Q R : Type 0} (r : Result A E) → (P → Q → R) → OnOk r P → OnOk r Q → OnOk r R
on_ok_both (Ok a) f p q = f p q
on_ok_both (Err e) f p q = tt

-- ---- one more under an entity

abbrev pub Lists : Positions → Positions → Uid → ℕ → Type 0
Lists old new uid q = (u : Uid) → positions_at new u ≡ cond (same_text uid.id u.id) (positions_at old u ++ q ∷ []) (positions_at old u)

abbrev pub Stays : Positions → Positions → Type 0
Stays old new = (u : Uid) → positions_at new u ≡ positions_at old u

pub listed_there : (old new : Positions) (uid : Uid) (q : ℕ) → Lists old new uid q → is_listed (positions_at new uid) q ≡ true
listed_there old new uid q more =
    ap (λ ps. is_listed ps q) (more uid ∙ ap (λ c. cond c (positions_at old uid ++ q ∷ []) (positions_at old uid)) (nat_list_eq_equiv.refl uid.id)) ∙ last_listed (positions_at old uid) q

holds_more : (old new : Positions) (uid : Uid) (q : ℕ) → Lists old new uid q → Holds old new
holds_more old new uid q more u p h = ap (λ ps. is_listed ps p) (more u) ∙ by (same_text uid.id u.id)
  where
    by : (c : Bool) → is_listed (cond c (positions_at old u ++ q ∷ []) (positions_at old u)) p ≡ true
    by true = still_listed (positions_at old u) q p h
    by false = h

pub holds : {E : Type 0} (r : Result (Unit {0}) E) (old new : Positions) (uid : Uid) (q : ℕ) → OnOk r (Lists old new uid q) → OnErr r (Stays old new) → Holds old new
holds (Ok a) old new uid q more same = holds_more old new uid q more
holds (Err e) old new uid q more same = λ u p h. ap (λ ps. is_listed ps p) (same u) ∙ h
