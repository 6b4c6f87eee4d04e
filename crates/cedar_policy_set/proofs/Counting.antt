-- What is known of the ids policy0, policy1, .. stays known when ids are bound, and of the others when one is taken away.
use Rattle.std.proofs.Common.{◌≡◌, ◌≢◌, ℕ, ◌+◌, ◌<◌, ◌≤◌, ◌⊎◌, inl, inr, subst, true, cond, ◌++◌, refl, sym, ap, ◌∙◌, true≢false, Option, None, Some, is_some, arith}
use Rattle.std.proofs.lemmas.Bool.{cases_lt, cases_eq}
use Rattle.cedar_language.specs.Uid.{Text}
use Rattle.cedar_grammar.specs.Syntax.{numbered}
use Rattle.cedar_policy_set.specs.Entries.{Entry, Entries, bound_at, is_bound, without, IsWhole}
use Rattle.cedar_policy_set.specs.Numbers.{BindsNumbers, Counts, AreBound}
use Rattle.cedar_policy_set.specs.declared.numbers.Numbers.{Numbers}
use Rattle.cedar_policy_set.proofs.Finding.{id_apart, found_first}
use Rattle.cedar_policy_set.proofs.Wholes.{found_without}

bound_more : (es more : Entries) (id : Text) → is_bound es id ≡ true → is_bound (es ++ more) id ≡ true
bound_more es more id h = by (bound_at es id) refl h
  where
    by : (o : Option Entry) → bound_at es id ≡ o → is_some o ≡ true → is_bound (es ++ more) id ≡ true
    by None e g = absurd (true≢false (sym g))
    by (Some x) e g = ap is_some (found_first es more id x e)

pub counts_none : (es : Entries) (n : Numbers) → n.below ≡ 0 → AreBound es n
counts_none es n none k c = absurd (let below = c.0 in let never : ⊥ = omega arith in never)

pub counts_more : (es more : Entries) (n : Numbers) → AreBound es n → AreBound (es ++ more) n
counts_more es more n h k c = bound_more es more (numbered k) (h k c)

pub counts_without : (es : Entries) (id : Text) (old new : Numbers) → IsWhole es → ((k : ℕ) → Counts new k → (id ≢ numbered k) × Counts old k) → AreBound es old → AreBound (without id es) new
counts_without es id old new whole others h k c =
    let other = others k c in
    ap is_some (found_without es id whole (numbered k) ∙ ap (λ b. cond b None (bound_at es (numbered k))) (id_apart id (numbered k) other.0)) ∙ h k other.1

-- a number that is bound, and those before and behind it
pub binds_on : (es : Entries) (from n next : ℕ) → BindsNumbers es from n → is_bound es (numbered n) ≡ true → BindsNumbers es (n + 1) next → BindsNumbers es from next
binds_on es from n next before here behind k low high = by (cases_lt k n) (cases_eq k n)
  where
    by : (k < n) ⊎ (n ≤ k) → (k ≡ n) ⊎ (k ≡ n → ⊥) → is_bound es (numbered k) ≡ true
    by (inl below) other = before k low below
    by (inr above) (inl same) = subst (λ j. is_bound es (numbered j) ≡ true) (sym same) here
    by (inr above) (inr apart) = behind k (omega arith) high

pub binds_up : (es : Entries) (from n end : ℕ) → BindsNumbers es from n → end ≤ n → BindsNumbers es from end
binds_up es from n end bound far k low high = bound k low (omega arith)
