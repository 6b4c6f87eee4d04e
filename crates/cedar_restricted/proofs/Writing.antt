-- Trees that write values, and arguments of calls.
use Rattle.std.proofs.Common.{◌≡◌, ◌∙◌, ℕ, suc, ◌+◌, ◌<◌, ◌≤◌, refl, ap, sym, List, [], ◌∷◌, ◌++◌, append_assoc, length, get_or, take, drop, drop-cons, map, Bool, true, false, add-one, arith, rules, BTreeMap, Global}
use Rattle.std.specs.Prelude.{◌&&◌, max}
use Rattle.std.specs.Rc.{rc_str_bytes}
use Rattle.std.specs.declared.rc.Rc.{Rc}
use Rattle.std.specs.declared.rc.RcStr.{RcStr}
use Rattle.std.proofs.lemmas.List.{append-nil, take-append-drop}
use Rattle.cedar_language.specs.Tree.{MakeRecord, Tree, Apply, Trees, no_trees, a_tree}
use Rattle.cedar_language.specs.Value.{Value, Values}
use Rattle.cedar_language.specs.Order.{all_of}
use Rattle.cedar_grammar.specs.Build.{trees, keys}
use Rattle.cedar_values.specs.Representations.{trees_of, written, written_all}
use Rattle.cedar_values.specs.declared.extension_values.Argument.{Argument, the_lemmas}
use Rattle.cedar_values.specs.declared.extension_values.Argument.TheVariants as argument
use Rattle.cedar_trees.specs.Bare.{bare_entries, record_tree}
use Rattle.cedar_trees.specs.declared.expr.Expr.{Expr}
use Rattle.cedar_values.specs.Sizes.{weigh, weigh_all}
use Rattle.cedar_restricted.specs.Expressing.{is_ground, are_ground, Expresses, ExpressAll}
use Rattle.cedar_restricted.proofs.Rising.{texts}

-- ---- values, the rest of which is to be written

abbrev pub GoesOn : Values → List Tree → Values → Type 0
GoesOn rest done all = (ts : List Tree) → ExpressAll rest (trees ts) → ExpressAll all (trees (done ++ ts))

pub goes_on : (rest later : List Value) (v : Value) (all : Values) (t : Tree) (done more : List Tree) → GoesOn (all_of rest) done all → rest ≡ v ∷ later → Expresses v t → more ≡ done ++ t ∷ [] → GoesOn (all_of later) more all
goes_on rest later v all t done more go cut h is = λ ts k. rw (is, append_assoc done (t ∷ []) ts) (go (t ∷ ts) (rw cut (h, k)))

pub all_written : (rest : List Value) (all : Values) (done : List Tree) → GoesOn (all_of rest) done all → rest ≡ [] → ExpressAll all (trees done)
all_written rest all done go none = rw (append-nil done) at (go [] (rw none tt))

cut_at : {A : Type 0} (l : List A) (i : ℕ) (x : A) → i < length l → x ≡ get_or l i x → drop i l ≡ x ∷ drop (i + 1) l
cut_at l i x lt is =
    drop-cons l i x lt
    ∙ ap (λ y. y ∷ drop (suc i) l) (sym is)
    ∙ ap (λ k. x ∷ drop k l) (sym (add-one i))

pub cut_items : {A B : Type 0} (f : A → B) (l : List A) (i : ℕ) (x : A) → i < length l → x ≡ get_or l i x → map f (drop i l) ≡ f x ∷ map f (drop (i + 1) l)
cut_items f l i x lt is = ap (map f) (cut_at l i x lt is)

-- ---- each member weighs less

weighs_less : (before after : List Value) (v : Value) → weigh v + 1 ≤ weigh_all (all_of (before ++ v ∷ after))
weighs_less [] after v = omega arith
weighs_less (w ∷ before) after v = omega (arith, weighs_less before after v)

pub member_weighs_less : (vs : List Value) (i : ℕ) (v : Value) → i < length vs → v ≡ get_or vs i v → weigh v + 1 ≤ weigh_all (all_of vs)
member_weighs_less vs i v lt is =
    let whole : take i vs ++ v ∷ drop (i + 1) vs ≡ vs = ap (λ r. take i vs ++ r) (sym (cut_at vs i v lt is)) ∙ take-append-drop i vs in
    rw whole at (weighs_less (take i vs) (drop (i + 1) vs) v)

-- ---- arguments

pub same_trees : (ts : List Tree) → trees ts ≡ trees_of ts
same_trees [] = refl
same_trees (t ∷ ts) = ap (a_tree t) (same_trees ts)

and_true : (a b c : Bool) → (a && b) ≡ true → (b ≡ true → c ≡ true) → (a && c) ≡ true
and_true true b c h k = k h
and_true false b c h k = h

ground_last : (ts : List Tree) (t : Tree) → are_ground (trees ts) ≡ true → is_ground t ≡ true → are_ground (trees (ts ++ t ∷ [])) ≡ true
ground_last [] t h k = rw k refl
ground_last (s ∷ ts) t h k = and_true (is_ground s) (are_ground (trees ts)) (are_ground (trees (ts ++ t ∷ []))) h (λ g. ground_last ts t g k)

pub ground_more : (ts more : List Tree) (t : Tree) → are_ground (trees ts) ≡ true → is_ground t ≡ true → more ≡ ts ++ t ∷ [] → are_ground (trees more) ≡ true
ground_more ts more t h k is = rw is (ground_last ts t h k)

-- how deep calls, sets and records nest
abbrev mutual
  pub depth : Tree → ℕ
  depth (Apply op ts) = depths ts + 1
  depth _ = 0

  pub depths : Trees → ℕ
  depths no_trees = 0
  depths (a_tree t ts) = max (depth t) (depths ts)

deeper : (before after : List Tree) (t : Tree) → depth t ≤ depths (trees_of (before ++ t ∷ after))
deeper [] after t = omega arith
deeper (s ∷ before) after t = omega (arith, deeper before after t)

pub part_is_deep : (done rest later all : List Tree) (t : Tree) → done ++ rest ≡ all → rest ≡ t ∷ later → depth t ≤ depths (trees_of all)
part_is_deep done rest later all t h cut =
    let whole : done ++ t ∷ later ≡ all = ap (λ r. done ++ r) (sym cut) ∙ h in
    rw whole at (deeper done later t)

-- what is written, the rest of which is to be written
pub write_next : (done rest later all more : List Tree) (t u : Tree) → done ++ rest ≡ all → rest ≡ u ∷ later → t ≡ u → more ≡ done ++ t ∷ [] → more ++ later ≡ all
write_next done rest later all more t u h cut same is = ap (λ ts. ts ++ later) is ∙ append_assoc done (t ∷ []) later ∙ ap (λ s. done ++ s ∷ later) same ∙ ap (λ r. done ++ r) (sym cut) ∙ h

pub write_end : (done rest all : List Tree) → done ++ rest ≡ all → rest ≡ [] → trees done ≡ trees_of all
write_end done rest all h none = same_trees done ∙ ap trees_of (sym (append-nil done) ∙ ap (λ r. done ++ r) (sym none) ∙ h)

-- ---- records of arguments

abbrev Fields : Type 0
Fields = List (RcStr Global × Argument)

-- a field, as it is written
abbrev field : RcStr Global × Argument → RcStr Global × Tree
field e = (e.0, written e.1)

keys_back : (es : Fields) → texts (map field es) ≡ texts es
keys_back [] = refl
keys_back (e ∷ es) = ap (λ ks. rc_str_bytes e.0 ∷ ks) (keys_back es)

trees_back : (es : Fields) → map (λ e. e.1) (map field es) ≡ map written (map (λ e. e.1) es)
trees_back [] = refl
trees_back (e ∷ es) = ap (λ ts. written e.1 ∷ ts) (trees_back es)

written-Record : (m : Rc (BTreeMap (RcStr Global) Argument) Global) → written (argument.Record m) ≡ Apply (MakeRecord (texts m.value.entries)) (written_all (map (λ e. e.1) m.value.entries))
written-Record m =
    let folded : written (argument.Record m) ≡ Apply (MakeRecord (texts (map field m.value.entries))) (trees_of (map (λ e. e.1) (map field m.value.entries))) = search (rules, the_lemmas) in
    folded
    ∙ ap (λ ks. Apply (MakeRecord ks) (trees_of (map (λ e. e.1) (map field m.value.entries)))) (keys_back m.value.entries)
    ∙ ap (λ ts. Apply (MakeRecord (texts m.value.entries)) (trees_of ts)) (trees_back m.value.entries)

module _ (a : Argument) (m : Rc (BTreeMap (RcStr Global) Argument) Global) (n : BTreeMap (RcStr Global) Argument) where
  record_of : a ≡ argument.Record m → n ≡ m.value → written a ≡ Apply (MakeRecord (texts n.entries)) (written_all (map (λ e. e.1) n.entries))
  record_of is same = ap written is ∙ written-Record m ∙ ap (λ o. Apply (MakeRecord (texts o.entries)) (written_all (map (λ e. e.1) o.entries))) (sym same)

  pub record_is_deep : a ≡ argument.Record m → n ≡ m.value → depth (written a) ≡ depths (written_all (map (λ e. e.1) n.entries)) + 1
  record_is_deep is same = ap depth (record_of is same)

  pub record_is_written : (es : BTreeMap (RcStr Global) (Expr (Unit {0}))) (r : Rc (BTreeMap (RcStr Global) (Expr (Unit {0}))) Global) (t : Tree) → a ≡ argument.Record m → n ≡ m.value → keys (bare_entries es.entries) ≡ texts n.entries → trees (map (λ e. e.1) (bare_entries es.entries)) ≡ written_all (map (λ e. e.1) n.entries) → are_ground (trees (map (λ e. e.1) (bare_entries es.entries))) ≡ true → t ≡ record_tree (bare_entries r.value.entries) → r.value ≡ es → (t ≡ written a) × (is_ground t ≡ true)
  record_is_written es r t is same ks ts ground made kept =
      let whole : t ≡ record_tree (bare_entries es.entries) = made ∙ ap (λ (o : BTreeMap (RcStr Global) (Expr (Unit {0}))). record_tree (bare_entries o.entries)) kept in
      (whole ∙ ap (λ ks. Apply (MakeRecord ks) (trees (map (λ e. e.1) (bare_entries es.entries)))) ks ∙ ap (Apply (MakeRecord (texts n.entries))) ts ∙ sym (record_of is same), ap is_ground whole ∙ ground)
