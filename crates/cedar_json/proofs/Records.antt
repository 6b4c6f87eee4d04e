-- Entries of a record, sorted and as they stand.
use Rattle.std.proofs.Common.{◌≡◌, ℕ, ◌≤◌, Bool, true, false, cond, List, [], ◌∷◌, ◌++◌, map, refl, ap, ◌∙◌, arith}
use Rattle.std.specs.Prelude.{◌&&◌}
use Rattle.std.specs.List.{AllByRecursion}
use Rattle.std.specs.Ordering.{nat_cmp, is_lt}
use Rattle.std.specs.Cmp.Lexicographic.{slice_cmp}
use Rattle.std.proofs.lemmas.Bool.{and_parts}
use Rattle.cedar_language.specs.Uid.{Name}
use Rattle.cedar_language.specs.Height.{height, heights}
use Rattle.cedar_language.specs.Slots.{tree_slots, trees_slots}
use Rattle.cedar_language.specs.Tree.{Tree}
use Rattle.cedar_grammar.specs.Build.{trees, Keyed, put, by_key}
use Rattle.cedar_grammar.specs.Calls.{calls_only, all_call_only}

abbrev pub Entries : Type 0
Entries = List (Keyed Tree)

abbrev pub values : Entries → List Tree
values es = map (λ e. e.1) es

module _ (P : Tree → Type 0) where
  abbrev pub Each : Entries → Type 0
  Each = AllByRecursion (λ (e : Keyed Tree). P e.1)

  put_each : (e : Keyed Tree) (es : Entries) → P e.1 → Each es → Each (put e es)
  put_each e [] h all = (h, tt)
  put_each e (f ∷ es) h all = by (put_each e es h all.1) (is_lt (slice_cmp nat_cmp e.0 f.0))
    where
      by : Each (put e es) → (b : Bool) → Each (cond b (e ∷ f ∷ es) (f ∷ put e es))
      by others true = (h, all)
      by others false = (all.0, others)

  pub sorted_each : (es : Entries) → Each es → Each (by_key es)
  sorted_each [] all = tt
  sorted_each (e ∷ es) all = put_each e (by_key es) all.0 (sorted_each es all.1)

  taken_each : (e : Keyed Tree) (es : Entries) → Each (put e es) → P e.1 × Each es
  taken_each e [] all = (all.0, tt)
  taken_each e (f ∷ es) all = by (λ rest. taken_each e es rest) (is_lt (slice_cmp nat_cmp e.0 f.0)) all
    where
      by : (Each (put e es) → P e.1 × Each es) → (b : Bool) → Each (cond b (e ∷ f ∷ es) (f ∷ put e es)) → P e.1 × Each (f ∷ es)
      by others true h = (h.0, h.1)
      by others false h = let x = others h.1 in (x.0, (h.0, x.1))

  pub unsorted_each : (es : Entries) → Each (by_key es) → Each es
  unsorted_each [] all = tt
  unsorted_each (e ∷ es) all = let x = taken_each e (by_key es) all in (x.0, unsorted_each es x.1)

-- ---- what holds of all values

each_low : (n : ℕ) (es : Entries) → heights (trees (values es)) ≤ n → Each (λ t. height t ≤ n) es
each_low n [] h = tt
each_low n (e ∷ es) h = (omega arith, each_low n es (omega arith))

all_low : (n : ℕ) (es : Entries) → Each (λ t. height t ≤ n) es → heights (trees (values es)) ≤ n
all_low n [] h = omega arith
all_low n (e ∷ es) h = let one = h.0 in let more = all_low n es h.1 in omega arith

-- the values are no higher than they are sorted
pub low_unsorted : (n : ℕ) (es : Entries) → heights (trees (values (by_key es))) ≤ n → heights (trees (values es)) ≤ n
low_unsorted n es h = all_low n es (unsorted_each (λ t. height t ≤ n) es (each_low n (by_key es) h))

module _ (passes : Name → Bool) where
  each_calls : (es : Entries) → all_call_only passes (trees (values es)) ≡ true → Each (λ t. calls_only passes t ≡ true) es
  each_calls [] h = tt
  each_calls (e ∷ es) h = let both = and_parts (calls_only passes e.1) (all_call_only passes (trees (values es))) h in (both.0, each_calls es both.1)

  all_calls : (es : Entries) → Each (λ t. calls_only passes t ≡ true) es → all_call_only passes (trees (values es)) ≡ true
  all_calls [] h = refl
  all_calls (e ∷ es) h = ap (λ b. b && all_call_only passes (trees (values es))) h.0 ∙ all_calls es h.1

  pub calls_unsorted : (es : Entries) → all_call_only passes (trees (values (by_key es))) ≡ true → all_call_only passes (trees (values es)) ≡ true
  calls_unsorted es h = all_calls es (unsorted_each (λ t. calls_only passes t ≡ true) es (each_calls (by_key es) h))

abbrev pub SlotFree : Tree → Type 0
SlotFree t = tree_slots t ≡ []

all_free : (es : Entries) → Each SlotFree es → trees_slots (trees (values es)) ≡ []
all_free [] h = refl
all_free (e ∷ es) h = ap (λ ss. ss ++ trees_slots (trees (values es))) h.0 ∙ all_free es h.1

pub free_sorted : (es : Entries) → Each SlotFree es → trees_slots (trees (values (by_key es))) ≡ []
free_sorted es h = all_free (by_key es) (sorted_each SlotFree es h)
