-- Keys that are seen one after another.
use Rattle.std.proofs.Common.{◌≡◌, ◌+◌, Bool, true, false, ◌&&◌, ◌||◌, not, List, [], ◌++◌, length, refl, sym, ap, ◌∙◌, arith}
use Rattle.std.specs.declared.cmp.Ordering.{Ordering}
use Rattle.std.specs.Set.{is_member}
use Rattle.std.proofs.lemmas.List.Folds.{list_any-append}
use Rattle.cedar_language.proofs.Booleans.{or_false}
use Rattle.cedar_validator_schema.specs.Searches.{seen_by, SeesMore}
use Rattle.cedar_validator_schema.specs.declared.searches.Search.{Search}

-- no more keys
pub see_none : {K : Type 0} (eq : K → K → Bool) (cmp : K → K → Ordering) (s : Search K) → SeesMore eq cmp [] s s
see_none eq cmp s = record {
  seen = λ q. sym (or_false (seen_by cmp s q));
  pending = λ q. sym (or_false (is_member eq s.pending.items q));
  ordered = λ o. o;
  as_many = refl;
}

-- some keys, and more
pub sees_on : {K : Type 0} (eq : K → K → Bool) (cmp : K → K → Ordering) (xs ys : List K) (s t u : Search K) → SeesMore eq cmp xs s t → SeesMore eq cmp ys t u
    → SeesMore eq cmp (xs ++ ys) s u
sees_on {K} eq cmp xs ys s t u f g = record {
  seen = λ q. g.seen q ∙ ap (λ a. a || is_member eq ys q) (f.seen q) ∙ apart (seen_by cmp s q) (is_member eq xs q) (is_member eq ys q)
      ∙ ap (λ b. seen_by cmp s q || b) (sym (list_any-append (eq q) xs ys));
  pending = λ q. g.pending q ∙ ap (λ a. a || (is_member eq ys q && not (seen_by cmp t q))) (f.pending q)
      ∙ ap (λ b. (is_member eq s.pending.items q || (is_member eq xs q && not (seen_by cmp s q))) || (is_member eq ys q && not b)) (f.seen q)
      ∙ waits (is_member eq s.pending.items q) (is_member eq xs q) (is_member eq ys q) (seen_by cmp s q)
      ∙ ap (λ b. is_member eq s.pending.items q || (b && not (seen_by cmp s q))) (sym (list_any-append (eq q) xs ys));
  ordered = λ o. g.ordered (f.ordered o);
  as_many = (
      let first : length t.pending.items + length s.seen.keys ≡ length s.pending.items + length t.seen.keys = f.as_many in
      let second : length u.pending.items + length t.seen.keys ≡ length t.pending.items + length u.seen.keys = g.as_many in
      omega arith
      );
}
  where
    apart : (a b c : Bool) → ((a || b) || c) ≡ (a || (b || c))
    apart true b c = refl
    apart false b c = refl

    waits : (p x y s : Bool) → ((p || (x && not s)) || (y && not (s || x))) ≡ (p || ((x || y) && not s))
    waits true x y s = refl
    waits false true y true = none y
      where
        none : (b : Bool) → (b && false) ≡ false
        none true = refl
        none false = refl
    waits false true y false = refl
    waits false false y true = refl
    waits false false true false = refl
    waits false false false false = refl
