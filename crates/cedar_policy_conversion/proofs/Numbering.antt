-- The policies of a text under their numbers.
use Rattle.std.proofs.Common.{◌≡◌, ℕ, suc, ◌+◌, ◌^◌, ◌<◌, ◌≤◌, Bool, true, false, cond, List, [], ◌∷◌, ◌++◌, length, codes, decimal, refl, sym, ap, ◌∙◌, subst, arith, add-one, Option, None, Some, Result, Ok, Err, is_some, inl, inr}
use Rattle.std.specs.Prelude.{IfOk}
use Rattle.std.proofs.lemmas.Fmt.{decimal_injective}
use Rattle.std.proofs.lemmas.List.{append_cancel_left, length-append}
use Rattle.std.specs.Option.{option_map}
use Rattle.cedar_language.specs.Uid.{Text}
use Rattle.cedar_language.specs.Order.{same_text}
use Rattle.cedar_grammar.specs.Names.{Names}
use Rattle.cedar_grammar.specs.Policy.{Policy}
use Rattle.cedar_grammar.specs.Steps.{◌>>=◌}
use Rattle.cedar_grammar.specs.Converting.{each, policy_syntax}
use Rattle.cedar_grammar.specs.Loose as loose
use Rattle.cedar_grammar.specs.Syntax.{numbered}
use Rattle.cedar_faults.specs.declared.errors.ConversionError.{ConversionError}
use Rattle.cedar_faults.specs.Converts.{Finds}
use Rattle.cedar_faults.specs.declared.kinds.ToASTErrorKind.{ToASTErrorKind}
use Rattle.cedar_policy_conversion.specs.Free.{LeavesFree}
use Rattle.cedar_policy_conversion.specs.Shows.{policy_shows, each_policy_shows}
use Rattle.cedar_policy_conversion.proofs.Joining.{each_last}
use Rattle.cedar_policy_set.specs.Entries.{Entry, Entries, bound_at, is_bound}
use Rattle.cedar_policy_set.specs.Texts.{text_entry, text_entries}
use Rattle.cedar_policy_set.proofs.Finding.{same_id}

-- ---- free numbers

numbered_injective : (m n : ℕ) → m < 2 ^ 64 → n < 2 ^ 64 → numbered m ≡ numbered n → m ≡ n
numbered_injective m n hm hn e = decimal_injective m n hm hn (append_cancel_left (codes "policy") (decimal m) (decimal n) e)

numbered_apart : (m n : ℕ) → m < 2 ^ 64 → n < 2 ^ 64 → (m ≡ n → ⊥) → same_text (numbered m) (numbered n) ≡ false
numbered_apart m n hm hn other = by (same_text (numbered m) (numbered n)) refl
  where
    by : (c : Bool) → same_text (numbered m) (numbered n) ≡ c → c ≡ false
    by true e = absurd (other (numbered_injective m n hm hn (same_id (numbered m) (numbered n) e)))
    by false e = refl

last_free : (es : Entries) (id other : Text) (e : Entry) → same_text id other ≡ false → is_bound es id ≡ false → is_bound (es ++ (other, e) ∷ []) id ≡ false
last_free [] id other e apart free = ap (λ c. is_some (cond c (Some e) None)) apart
last_free ((key, x) ∷ es) id other e apart free = by (same_text id key) free (λ rest. last_free es id other e apart rest)
  where
    by : (c : Bool) → is_some (cond c (Some x) (bound_at es id)) ≡ false → (is_bound es id ≡ false → is_bound (es ++ (other, e) ∷ []) id ≡ false) → is_some (cond c (Some x) (bound_at (es ++ (other, e) ∷ []) id)) ≡ false
    by true some more = some
    by false rest more = more rest

longer_by_one : (es : Entries) (x : Text × Entry) → length (es ++ x ∷ []) ≡ suc (length es)
longer_by_one es x = length-append es (x ∷ []) ∙ add-one (length es)

-- a policy more takes its number alone
free_more : (es : Entries) (e : Entry) → LeavesFree es → LeavesFree (es ++ (numbered (length es), e) ∷ [])
free_more es e free n above small =
    let long = longer_by_one es (numbered (length es), e) in
    let more : suc (length es) ≤ n = omega (arith, long) in
    last_free es (numbered n) (numbered (length es)) e (numbered_apart n (length es) small (omega arith) (λ same. omega (arith, same))) (free n (omega arith) small)

pub still_free : {B : Type 0} (r : Result Entries (ConversionError B)) (es : Entries) (id : Text) (e : Entry) → LeavesFree es → id ≡ numbered (length es) → Finds (λ set. set) r (Some (es ++ (id, e) ∷ [])) → IfOk r LeavesFree
still_free (Ok set) es id e free is found =
    let same : es ++ (id, e) ∷ [] ≡ set = cc found in
    subst LeavesFree (ap (λ k. es ++ (k, e) ∷ []) (sym is) ∙ same) (free_more es e free)
still_free (Err f) es id e free is found = tt

-- ---- one more policy

text_length : (i : ℕ) (ss : List Policy) → length (text_entries i ss) ≡ length ss
text_length i [] = refl
text_length i (s ∷ ss) = ap suc (text_length (suc i) ss)

text_last : (i : ℕ) (ss : List Policy) (s : Policy) → text_entries i (ss ++ s ∷ []) ≡ text_entries i ss ++ (numbered (i + length ss), text_entry s) ∷ []
text_last i [] s = let same : i ≡ i + 0 = omega arith in ap (λ k. (numbered k, text_entry s) ∷ []) same
text_last i (t ∷ ts) s =
    let same : suc i + length ts ≡ i + suc (length ts) = omega arith in
    ap (λ es. (numbered i, text_entry t) ∷ es) (text_last (suc i) ts s ∙ ap (λ k. text_entries (suc i) ts ++ (numbered k, text_entry s) ∷ []) same)

module _ (names : Names) where
  -- the entries of these policies
  abbrev pub entries_of : List loose.Policy → Option Entries
  entries_of ps = option_map (text_entries 0) (each (policy_syntax names) ps)

  pub entries_more : (ps : List loose.Policy) (p : loose.Policy)
      → entries_of (ps ++ p ∷ []) ≡ (entries_of ps >>= λ es. option_map text_entry (policy_syntax names p) >>= λ e. Some (es ++ (numbered (length es), e) ∷ []))
  entries_more ps p = ap (option_map (text_entries 0)) (each_last (policy_syntax names) ps p) ∙ by (each (policy_syntax names) ps) (policy_syntax names p)
    where
      by : (o : Option (List Policy)) (q : Option Policy)
          → option_map (text_entries 0) (o >>= λ ss. q >>= λ s. Some (ss ++ s ∷ [])) ≡ (option_map (text_entries 0) o >>= λ es. option_map text_entry q >>= λ e. Some (es ++ (numbered (length es), e) ∷ []))
      by None q = refl
      by (Some ss) None = refl
      by (Some ss) (Some s) =
          let many : 0 + length ss ≡ length (text_entries 0 ss) = omega (arith, text_length 0 ss) in
          ap Some (text_last 0 ss s ∙ ap (λ n. text_entries 0 ss ++ (numbered n, text_entry s) ∷ []) many)

  -- ---- what they show

  pub show_before : (ps : List loose.Policy) (p : loose.Policy) (kind : ToASTErrorKind) → each_policy_shows names ps kind → each_policy_shows names (ps ++ p ∷ []) kind
  show_before [] p kind shown = absurd shown
  show_before (q ∷ qs) p kind (inl shown) = inl shown
  show_before (q ∷ qs) p kind (inr shown) = inr (show_before qs p kind shown)

  pub show_last : (ps : List loose.Policy) (p : loose.Policy) (kind : ToASTErrorKind) → policy_shows names p kind → each_policy_shows names (ps ++ p ∷ []) kind
  show_last [] p kind shown = inl shown
  show_last (q ∷ qs) p kind shown = inr (show_last qs p kind shown)
