-- Reading calls as unknowns.
use Rattle.std.proofs.Common.{◌≡◌, Bool, true, false, ◌||◌, refl, sym, ◌∙◌, ap}
use Rattle.std.proofs.lemmas.Bool.{and_parts, or_parts}
use Rattle.cedar_language.specs.Uid.{Name}
use Rattle.cedar_language.specs.Tree.{String, Operator, Call, Tree, Lit, Var, Slot, Unknown, If, And, Or, Apply, Trees, no_trees, a_tree}
use Rattle.cedar_language.specs.Order.{same_name}
use Rattle.cedar_language.specs.Restricted.{is_restricted, are_restricted}
use Rattle.cedar_partial_evaluation.specs.ReadUnknowns.{unknown_function, unknown_or_call, read_call, read_unknowns, all_read, is_unknown_call, calls_unknown, some_calls_unknown, ReadsData, UnknownsAreRead}
use Rattle.cedar_partial_evaluation.proofs.Passing.{data_in}

-- ---- no call

other_call : (b : Bool) (f : Name) (t : Tree) (ts : Trees) → b ≡ false → unknown_or_call b f t ts ≡ Apply (Call f) (a_tree t ts)
other_call true f t ts h = cc
other_call false f t ts h = refl

other_applied : (op : Operator) (ts : Trees) → is_unknown_call op ≡ false → read_call op ts ≡ Apply op ts
other_applied (Call f) no_trees h = refl
other_applied (Call f) (a_tree t ts) h = other_call (same_name f unknown_function) f t ts h
other_applied op ts h = refl

mutual
  without : (t : Tree) → calls_unknown t ≡ false → read_unknowns t ≡ t
  without (Lit l) h = refl
  without (Var v) h = refl
  without (Slot s) h = refl
  without (Unknown n ty) h = refl
  without (If t y n) h =
      let (ht, rest) = or_parts (calls_unknown t) (calls_unknown y || calls_unknown n) h in
      let (hy, hn) = or_parts (calls_unknown y) (calls_unknown n) rest in
      rw (without t ht, without y hy, without n hn) refl
  without (And l r) h = let (hl, hr) = or_parts (calls_unknown l) (calls_unknown r) h in rw (without l hl, without r hr) refl
  without (Or l r) h = let (hl, hr) = or_parts (calls_unknown l) (calls_unknown r) h in rw (without l hl, without r hr) refl
  without (Apply op ts) h =
      let (here, inside) = or_parts (is_unknown_call op) (some_calls_unknown ts) h in
      ap (read_call op) (all_without ts inside) ∙ other_applied op ts here

  all_without : (ts : Trees) → some_calls_unknown ts ≡ false → all_read ts ≡ ts
  all_without no_trees h = refl
  all_without (a_tree t ts) h = let (ht, hts) = or_parts (calls_unknown t) (some_calls_unknown ts) h in rw (without t ht, all_without ts hts) refl

-- ---- once

read_again : (b : Bool) (f : Name) (t : Tree) (ts : Trees) → same_name f unknown_function ≡ b → read_unknowns t ≡ t → all_read ts ≡ ts →
    read_unknowns (unknown_or_call b f t ts) ≡ unknown_or_call b f t ts
read_again false f t ts e h i = ap (read_call (Call f)) (ap (λ u. a_tree u (all_read ts)) h ∙ ap (a_tree t) i) ∙ ap (λ b. unknown_or_call b f t ts) e
read_again true f (Lit (String n)) no_trees e h i = refl
read_again true f t ts e h i = ap (read_call (Call f)) (ap (λ u. a_tree u (all_read ts)) h ∙ ap (a_tree t) i) ∙ ap (λ b. unknown_or_call b f t ts) e

abbrev first_tree : Tree → Trees → Tree
first_tree s no_trees = s
first_tree s (a_tree t ts) = t

abbrev later_trees : Trees → Trees
later_trees no_trees = no_trees
later_trees (a_tree t ts) = ts

applied_again : (op : Operator) (ts : Trees) → all_read ts ≡ ts → (b : Bool) → is_unknown_call op ≡ b → read_unknowns (read_call op ts) ≡ read_call op ts
applied_again op ts h false e = ap read_unknowns (other_applied op ts e) ∙ ap (read_call op) h
applied_again (Call f) no_trees h true e = refl
applied_again (Call f) (a_tree t ts) h true e =
    ap read_unknowns (ap (λ b. unknown_or_call b f t ts) e) ∙ read_again true f t ts e (ap (first_tree t) h) (ap later_trees h) ∙ ap (λ b. unknown_or_call b f t ts) (sym e)
applied_again op ts h true e = cc

mutual
  once : (t : Tree) → read_unknowns (read_unknowns t) ≡ read_unknowns t
  once (Lit l) = refl
  once (Var v) = refl
  once (Slot s) = refl
  once (Unknown n ty) = refl
  once (If t y n) = rw (once t, once y, once n) refl
  once (And l r) = rw (once l, once r) refl
  once (Or l r) = rw (once l, once r) refl
  once (Apply op ts) = applied_again op (all_read ts) (all_once ts) (is_unknown_call op) refl

  all_once : (ts : Trees) → all_read (all_read ts) ≡ all_read ts
  all_once no_trees = refl
  all_once (a_tree t ts) = rw (once t, all_once ts) refl

-- ---- data

module _ (read : Tree → Tree) (read_all : Trees → Trees) (reads : ReadsData read read_all) where
  mutual
    alone : (t : Tree) → is_restricted t ≡ true → read t ≡ read_unknowns t
    alone (Lit l) h = reads.literal l
    alone (Unknown n ty) h = reads.unknown n ty
    alone (Apply op ts) h = reads.applied op ts ∙ ap (read_call op) (all_alone ts (data_in op ts h).0)
    alone _ h = cc

    all_alone : (ts : Trees) → are_restricted ts ≡ true → read_all ts ≡ all_read ts
    all_alone no_trees h = reads.nothing
    all_alone (a_tree t ts) h =
        let (ht, hts) = and_parts (is_restricted t) (are_restricted ts) h in
        reads.more t ts ∙ ap (λ u. a_tree u (read_all ts)) (alone t ht) ∙ ap (a_tree (read_unknowns t)) (all_alone ts hts)

pub unknowns_are_read : UnknownsAreRead
unknowns_are_read = record {
  without = without;
  once = once;
  data_alone = λ read read_all reads t h. alone read read_all reads t h;
}
