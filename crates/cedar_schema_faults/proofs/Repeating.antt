-- Errors of keys that stand again, from the last key to the first.
use Rattle.std.proofs.Common.{◌≡◌, Bool, true, false, cond, ◌||◌, List, [], ◌∷◌, ◌++◌, append_assoc, refl, sym, ap, ◌∙◌, subst}
use Rattle.std.specs.Prelude.{map, reverse}
use Rattle.std.specs.List.{list_any}
use Rattle.std.specs.declared.cmp.Ordering.{Ordering}
use Rattle.std.specs.BTreeMap.{is_at}
use Rattle.std.specs.BTreeSet.{BTreeSet, contains}
use Rattle.std.proofs.lemmas.List.{append-nil, reverse-append}
use Rattle.cedar_schema_grammar.specs.Faults.{repeated}
use Rattle.cedar_schema_faults.specs.Repeats.{shares_key}
use Rattle.cedar_schema_faults.specs.declared.kinds.SchemaError.{SchemaError}

module _ {K : Type 0} (cmp : K → K → Ordering) where
  -- what is left to be looked at, and what is known of those behind it
  pub record IsUnder (all left : List (K × SchemaError)) (seen : BTreeSet K) (errors : List SchemaError) : Type 0 where
    pub behind : List (K × SchemaError)
    pub whole : all ≡ left ++ behind
    pub keys : (k : K) → contains cmp seen k ≡ list_any (λ q. is_at (cmp q.0) k) behind
    pub told : reverse errors ≡ map (λ p. p.1) (repeated (shares_key cmp) behind)

  pub before_all : (all : List (K × SchemaError)) (seen : BTreeSet K) (errors : List SchemaError) → ((k : K) → contains cmp seen k ≡ false) → errors ≡ []
      → IsUnder all all seen errors
  before_all all seen errors none e = record { behind = []; whole = sym (append-nil all); keys = none; told = ap reverse e }

  or_is : (b c : Bool) → cond b true c ≡ (b || c)
  or_is true c = refl
  or_is false c = refl

  errors_are : (p : K × SchemaError) (ps : List (K × SchemaError)) (errors : List SchemaError) (was again : Bool) → was ≡ again
      → reverse errors ≡ map (λ q. q.1) (repeated (shares_key cmp) ps)
      → reverse (errors ++ cond was (p.1 ∷ []) []) ≡ map (λ q. q.1) (cond again (p ∷ repeated (shares_key cmp) ps) (repeated (shares_key cmp) ps))
  errors_are p ps errors true true e f = reverse-append errors (p.1 ∷ []) ∙ ap (λ xs. p.1 ∷ xs) f
  errors_are p ps errors false false e f = ap reverse (append-nil errors) ∙ f
  errors_are p ps errors true false e f = absurd (cc e)
  errors_are p ps errors false true e f = absurd (cc e)

  pub one_before : (all left new : List (K × SchemaError)) (seen more : BTreeSet K) (errors all_errors : List SchemaError) (key : K) (error : SchemaError)
      (was : Bool)
      → left ≡ new ++ (key, error) ∷ [] → was ≡ contains cmp seen key
      → ((k : K) → contains cmp more k ≡ cond (is_at (cmp key) k) true (contains cmp seen k))
      → all_errors ≡ errors ++ cond was (error ∷ []) [] → IsUnder all left seen errors → IsUnder all new more all_errors
  one_before all left new seen more errors all_errors key error was cut is added put under = record {
    behind = (key, error) ∷ under.behind;
    whole = under.whole ∙ ap (λ xs. xs ++ under.behind) cut ∙ append_assoc new ((key, error) ∷ []) under.behind;
    keys = λ k. added k ∙ or_is (is_at (cmp key) k) (contains cmp seen k) ∙ ap (λ b. is_at (cmp key) k || b) (under.keys k);
    told = ap reverse put ∙ errors_are (key, error) under.behind errors was (list_any (shares_key cmp (key, error)) under.behind) (is
        ∙ under.keys key) under.told;
  }

  pub all_are : (all left : List (K × SchemaError)) (seen : BTreeSet K) (errors : List SchemaError) → left ≡ [] → IsUnder all left seen errors
      → reverse errors ≡ map (λ p. p.1) (repeated (shares_key cmp) all)
  all_are all left seen errors e under =
      under.told ∙ ap (λ ps. map (λ p. p.1) (repeated (shares_key cmp) ps)) (sym (under.whole ∙ ap (λ xs. xs ++ under.behind) e))
