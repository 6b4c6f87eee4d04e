-- Questions in which nothing is unknown: each has its request.
use Rattle.std.proofs.Common.{◌≡◌, ◌∙◌, refl, ap, sym, subst, true, false, ◌&&◌, Option, is_some, codes, true≢false}
use Rattle.std.specs.FinMap as map
use Rattle.std.specs.FinMap.{get-empty}
use Rattle.cedar_language.specs.Uid.{Text, Uid}
use Rattle.cedar_language.specs.Order.{text_cmp}
use Rattle.cedar_language.specs.Tree.{Tree, Lit, Var, Slot, Unknown, If, And, Or, Apply, Trees, no_trees, a_tree, ValueType}
use Rattle.cedar_language.specs.Value.{Value}
use Rattle.cedar_partial_evaluation.specs.Filling as early
use Rattle.cedar_partial_evaluation.specs.Unknowns.{EachUnknown, EachUnknownOf}
use Rattle.cedar_world.specs.Asking.{Part, Given, Missing, Entries, NoContext, WithEntries, Question}
use Rattle.cedar_world.specs.Bodies.{some_name, some_name_of}
use Rattle.cedar_world.specs.First.{IsData, HasRequest}
use Rattle.cedar_world.specs.Orders.{text_eq}
use Rattle.cedar_world.specs.Question.{is_missing, has_name}
use Rattle.cedar_world.specs.Setting.{Setting, functions_alone}
use Rattle.std.specs.Cmp.{tied_itself}
use Rattle.std.specs.Ordering.{is_eq}
use Rattle.cedar_world.proofs.Maps.{text_total}
use Rattle.cedar_telling.specs.Contexts.{MeansRecord}
use Rattle.cedar_lemmas.proofs.Booleans.{or_first as or_left, or_second as or_right}
use Rattle.std.proofs.lemmas.Bool.{or_from as neither}

text_itself : (n : Text) → text_eq n n ≡ true
text_itself n = ap is_eq (tied_itself text_total n)

-- ---- names

-- no name stands there
mutual
  pub no_name : (t : Tree) → ((n : Text) → some_name (text_eq n) t ≡ false) → some_name (λ n. true) t ≡ false
  no_name (Lit l) h = refl
  no_name (Var v) h = refl
  no_name (Slot s) h = refl
  no_name (Unknown n ty) h = absurd (true≢false (sym (text_itself n) ∙ h n))
  no_name (If t y n) h =
      neither (some_name (λ n. true) t) _ (no_name t (λ m. or_left _ _ (h m)))
      (neither (some_name (λ n. true) y) _ (no_name y (λ m. or_left _ _ (or_right (some_name (text_eq m) t) _ (h m)))) (no_name n (λ m. or_right (some_name (text_eq m) y) _ (or_right (some_name (text_eq m) t) _ (h m)))))
  no_name (And l r) h = neither (some_name (λ n. true) l) _ (no_name l (λ m. or_left _ _ (h m))) (no_name r (λ m. or_right (some_name (text_eq m) l) _ (h m)))
  no_name (Or l r) h = neither (some_name (λ n. true) l) _ (no_name l (λ m. or_left _ _ (h m))) (no_name r (λ m. or_right (some_name (text_eq m) l) _ (h m)))
  no_name (Apply op ts) h = no_names ts h

  pub no_names : (ts : Trees) → ((n : Text) → some_name_of (text_eq n) ts ≡ false) → some_name_of (λ n. true) ts ≡ false
  no_names no_trees h = refl
  no_names (a_tree t ts) h = neither (some_name (λ n. true) t) _ (no_name t (λ m. or_left _ _ (h m))) (no_names ts (λ m. or_right (some_name (text_eq m) t) _ (h m)))

-- so each has its value
module _ (Passes : Text → Option ValueType → Type 0) where
  mutual
    each : (t : Tree) → some_name (λ n. true) t ≡ false → EachUnknown Passes t
    each (Lit l) h = tt
    each (Var v) h = tt
    each (Slot s) h = tt
    each (Unknown n ty) h = cc
    each (If t y n) h = (each t (or_left _ _ h), each y (or_left _ _ (or_right (some_name (λ n. true) t) _ h)), each n (or_right (some_name (λ n. true) y) _ (or_right (some_name (λ n. true) t) _ h)))
    each (And l r) h = (each l (or_left _ _ h), each r (or_right (some_name (λ n. true) l) _ h))
    each (Or l r) h = (each l (or_left _ _ h), each r (or_right (some_name (λ n. true) l) _ h))
    each (Apply op ts) h = all_each ts h

    all_each : (ts : Trees) → some_name_of (λ n. true) ts ≡ false → EachUnknownOf Passes ts
    all_each no_trees h = tt
    all_each (a_tree t ts) h = (each t (or_left _ _ h), all_each ts (or_right (some_name (λ n. true) t) _ h))

-- ---- the request

given_uid : (p : Part) (n : Text) → (is_missing p && text_eq n n) ≡ false → (u : Uid) × (p ≡ Given u)
given_uid (Given u) n h = (u, refl)
given_uid (Missing ty) n h = absurd (true≢false (sym (text_itself n) ∙ h))

module _ (by : Setting) where
  context_filled : (c : Entries) → IsData c → MeansRecord by c → ((n : Text) → has_name c n ≡ false) → (w : Value) × early.FillsContext (functions_alone by.functions) c map.empty w
  context_filled NoContext d m h = absurd (true≢false (sym (text_itself (codes "context")) ∙ h (codes "context")))
  context_filled (WithEntries ks ts) d m h =
      let none = no_names ts h in
      let (w, gives) = m none in
      (w, (d, all_each (early.IsGiven map.empty) ts none, gives))

  fills_given : (p : Part) (o : Option Value) (u : Uid) → p ≡ Given u → early.FillsPart p o u
  fills_given p o u e = subst (λ x. early.FillsPart x o u) (sym e) refl

  -- a question whose context means a record, where it has no names, has a request where it is known
  pub has_request : (q : Question) → IsData q.context → MeansRecord by q.context → HasRequest by q
  has_request q d m known =
      let (p, is_p) = given_uid q.principal (codes "principal") (or_left _ _ (known (codes "principal"))) in
      let (a, is_a) = given_uid q.action (codes "action") (or_left _ _ (or_right (is_missing q.principal && text_eq (codes "action") (codes "principal")) _ (known (codes "action")))) in
      let (r, is_r) = given_uid q.resource (codes "resource") (or_left _ _ (or_right (is_missing q.action && text_eq (codes "resource") (codes "action")) _ (or_right (is_missing q.principal && text_eq (codes "resource") (codes "principal")) _ (known (codes "resource"))))) in
      let (w, fills) = context_filled q.context d m (λ n. or_right (is_missing q.resource && text_eq n (codes "resource")) _ (or_right (is_missing q.action && text_eq n (codes "action")) _ (or_right (is_missing q.principal && text_eq n (codes "principal")) _ (known n)))) in (
        record { principal = p; action = a; resource = r; context = w },
        record {
          names = λ n. ap is_some (get-empty text_cmp n) ∙ sym (known n);
          fills = record {
            principal = fills_given q.principal _ p is_p;
            action = fills_given q.action _ a is_a;
            resource = fills_given q.resource _ r is_r;
            context = fills;
          };
        },
      )
