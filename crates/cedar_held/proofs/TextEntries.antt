-- What the policies of a text bind under their numbers.
use Rattle.std.proofs.Common.{◌≡◌, ℕ, suc, ◌+◌, ◌^◌, ◌<◌, ◌≤◌, Bool, true, false, cond, List, [], ◌∷◌, length, refl, sym, ap, ◌∙◌, true≢false, arith, is_some, Some, ltb, ltb-true, ltb-false}
use Rattle.std.specs.List.{IsDistinct, AllByRecursion}
use Rattle.std.specs.Map.{keys_of}
use Rattle.std.specs.Cmp.Lexicographic.{nat_list_eq_equiv}
use Rattle.cedar_language.specs.Order.{same_text}
use Rattle.cedar_grammar.specs.Policy.{slots}
use Rattle.cedar_grammar.specs.Syntax.{PolicySyntax, is_template, are_some, numbered}
use Rattle.cedar_world.specs.World as world
use Rattle.cedar_language.specs.Tree.{SlotId}
use Rattle.cedar_policies.proofs.Holding.{scope_is_bare}
use Rattle.cedar_policy_set.specs.Entries.{Entry, static_policy, template, bound_at, is_bound, HasItsTemplate, IsFull, IsWhole}
use Rattle.cedar_held.specs.PolicyWorlds.{world_bound}
use Rattle.cedar_policy_set.proofs.Finding.{same_id, id_itself}
use Rattle.cedar_store.specs.Renaming.{NewIds, renamed}
use Rattle.cedar_policy_set.specs.Texts.{text_entry, text_entries}
use Rattle.cedar_store.proofs.Numbers.{numbered_injective, numbered_apart}
use Rattle.cedar_store.proofs.Wholes.{of_all}

-- an id of the text is one of its numbers
pub number_in_text : (i m : ℕ) (ss : List PolicySyntax) → m < 2 ^ 64 → i + length ss ≤ 2 ^ 64 → is_bound (text_entries i ss) (numbered m) ≡ true → (i ≤ m) × (m < i + length ss)
number_in_text i m [] small fits h = absurd (true≢false (sym h))
number_in_text i m (s ∷ ss) small fits h = by (same_text (numbered m) (numbered i)) refl h (number_in_text (suc i) m ss small (omega arith))
  where
    by : (c : Bool) → same_text (numbered m) (numbered i) ≡ c → is_some (cond c (Some (text_entry s)) (bound_at (text_entries (suc i) ss) (numbered m))) ≡ true
        → (is_bound (text_entries (suc i) ss) (numbered m) ≡ true → (suc i ≤ m) × (m < suc i + length ss)) → (i ≤ m) × (m < i + length (s ∷ ss))
    by true e g rest = let same : m ≡ i = numbered_injective m i small (omega arith) (same_id (numbered m) (numbered i) e) in (omega arith, omega arith)
    by false e g rest =
        let r = rest g in
        let low : suc i ≤ m = r.0 in
        let high : m < suc i + length ss = r.1 in
        (omega arith, omega arith)

-- and each of its numbers is an id of the text
pub text_has_number : (i m : ℕ) (ss : List PolicySyntax) → i ≤ m → m < i + length ss → is_bound (text_entries i ss) (numbered m) ≡ true
text_has_number i m [] low high = absurd (omega arith)
text_has_number i m (s ∷ ss) low high = by (same_text (numbered m) (numbered i)) refl (text_has_number (suc i) m ss)
  where
    by : (c : Bool) → same_text (numbered m) (numbered i) ≡ c → (suc i ≤ m → m < suc i + length ss → is_bound (text_entries (suc i) ss) (numbered m) ≡ true)
        → is_some (cond c (Some (text_entry s)) (bound_at (text_entries (suc i) ss) (numbered m))) ≡ true
    by true e rest = refl
    by false e rest = at (ltb i m) refl
      where
        at : (b : Bool) → ltb i m ≡ b → is_bound (text_entries (suc i) ss) (numbered m) ≡ true
        at true f = let over : i < m = ltb-true i m f in rest (omega arith) (omega arith)
        at false f =
            let under : m ≤ i = ltb-false i m f in
            let same : m ≡ i = omega arith in
            absurd (true≢false (sym (ap (λ k. same_text (numbered m) (numbered k)) (sym same) ∙ id_itself (numbered m)) ∙ e))

-- what holds of what is written of a policy, whether it has slots or not
by_slots : (P : Entry → Type 0) (s : PolicySyntax) → P (template s) → (slots s ≡ [] → P (static_policy s)) → P (text_entry s)
by_slots P s t p = at (slots s) refl
  where
    at : (ks : List SlotId) → slots s ≡ ks → P (cond (are_some (slots s)) (template s) (static_policy s))
    at [] e = subst_slots [] e (p e)
      where
        subst_slots : (ks : List SlotId) → slots s ≡ ks → P (cond (are_some ks) (template s) (static_policy s)) → P (cond (are_some (slots s)) (template s) (static_policy s))
        subst_slots ks f h = rw f h
    at (k ∷ ks) e = rw e t

pub text_bound : (s : PolicySyntax) → world_bound (text_entry s) ≡ world.Policy s
text_bound s = by_slots (λ e. world_bound e ≡ world.Policy s) s refl (λ h. refl)

pub text_renamed : (r : NewIds) (s : PolicySyntax) → renamed r (text_entry s) ≡ text_entry s
text_renamed r s = by (is_template s)
  where
    by : (b : Bool) → renamed r (cond b (template s) (static_policy s)) ≡ cond b (template s) (static_policy s)
    by true = refl
    by false = refl

-- what holds of each policy of a text holds of all that it binds
all_text : (P : Entry → Type 0) → ((s : PolicySyntax) → P (text_entry s)) → (i : ℕ) (ss : List PolicySyntax) → AllByRecursion (λ e. P e.1) (text_entries i ss)
all_text P h i [] = tt
all_text P h i (s ∷ ss) = (h s, all_text P h (suc i) ss)

later_apart : (ss : List PolicySyntax) (m n : ℕ) → m < n → n + length ss ≤ 2 ^ 64 → AllByRecursion (λ y. same_text (numbered m) y ≡ false) (keys_of (text_entries n ss))
later_apart [] m n lt fits = tt
later_apart (s ∷ ss) m n lt fits = (nat_list_eq_equiv.symm (numbered m) (numbered n) ∙ numbered_apart m n lt (omega arith), later_apart ss m (suc n) (omega arith) (omega arith))

text_distinct : (ss : List PolicySyntax) (n : ℕ) → n + length ss ≤ 2 ^ 64 → IsDistinct same_text (keys_of (text_entries n ss))
unfolding IsDistinct
text_distinct [] n fits = tt
text_distinct (s ∷ ss) n fits = (later_apart ss n (suc n) (omega arith) (omega arith), text_distinct ss (suc n) (omega arith))

pub text_is_whole : (ss : List PolicySyntax) → length ss ≤ 2 ^ 64 → IsWhole (text_entries 0 ss)
text_is_whole ss fits =
    record {
      distinct = text_distinct ss 0 (omega arith);
      templates = of_all (HasItsTemplate (text_entries 0 ss)) (text_entries 0 ss)
          (all_text (HasItsTemplate (text_entries 0 ss)) (λ s. by_slots (HasItsTemplate (text_entries 0 ss)) s tt (λ h. tt)) 0 ss);
      full = of_all IsFull (text_entries 0 ss) (all_text IsFull (λ s. by_slots IsFull s tt (scope_is_bare s)) 0 ss);
    }
