-- Calls that name unknowns, read as these.
use Rattle.std.proofs.Common.{◌≡◌, ◌∙◌, ℕ, refl, sym, ap, subst, Bool, true, false, cond, ◌&&◌, ◌||◌, Option, Some, None, List, [], ◌∷◌}
use Rattle.std.specs.Option.{option_map}
use Rattle.cedar_language.specs.Uid.{Text, Name}
use Rattle.cedar_language.specs.Tree.{Boolean, String, EntityType, Operator, Equal, Is, GetAttr, HasAttr, MakeSet, MakeRecord, Call, Tree, Lit, Var, Slot, Unknown, If, And, Or, Apply, Trees, no_trees, a_tree}
use Rattle.cedar_language.specs.Value.{Value, Plain, SetOf, RecordOf, ExtensionOf, Values, no_values, a_value, Outcome, Gives, Fails}
use Rattle.cedar_language.specs.Constructing.{longs_of}
use Rattle.cedar_language.specs.Facts.{Facts}
use Rattle.cedar_language.specs.Operators.{applied}
use Rattle.cedar_language.specs.Order.{same_name, same_text}
use Rattle.cedar_language.specs.Restricted.{is_projectable, are_projectable}
use Rattle.cedar_partial_evaluation.specs.MadeAgain.{tree_of, trees_of}
use Rattle.cedar_partial_evaluation.specs.Partial.{Answer, Evaluated, ResidualTree, Failed, Answers, AllEvaluated, SomeResiduals, SomeFailed, answer_of, best_effort, last_answer, and_answer, or_answer, if_answer, and_next, LeafAnswers, built_answer, projected_in, all_projected_in, found_tree, entry_answer, attribute_answer, has_entry_answer, has_answer, is_answer, stated_type, types_differ, equal_answer, residual_answer, apply_answer, partial_in, all_partial_in}
use Rattle.cedar_partial_evaluation.specs.ReadUnknowns.{unknown_function, unknown_or_call, read_call, read_unknowns, all_read, is_unknown_call, calls_unknown, some_calls_unknown, UnknownsAreRead}
use Rattle.cedar_interpreter.specs.Naming.{named_or, call_answer, construct_answer, naming_in, all_naming_in, as_read, IsPlain, ArePlain, GivesTexts}
use Rattle.cedar_interpreter.proofs.Constructs.{other_construct}
use Rattle.std.proofs.lemmas.Bool.{or_from as neither}
pub use Rattle.cedar_lemmas.proofs.Booleans.{or_first as first_none, or_second as last_none}
use Rattle.cedar_lemmas.proofs.Booleans.{and_both as both_true}

-- ---- Booleans

pub none_left : (b x y : Bool) → (b && (x || y)) ≡ false → (b && x) ≡ false
none_left false x y h = refl
none_left true false y h = refl
none_left true true y h = cc

pub none_right : (b x y : Bool) → (b && (x || y)) ≡ false → (b && y) ≡ false
none_right false x y h = refl
none_right true false y h = h
none_right true true y h = cc

true_then : (x y : Bool) → x ≡ true → (x || y) ≡ false → ⊥
true_then true y e h = cc
true_then false y e h = cc

-- ---- no call that names

module _ (naming : Bool) (facts : Facts) (holds : LeafAnswers) where
  mutual
    pub without : (t : Tree) → (naming && calls_unknown t) ≡ false → naming_in naming facts holds t ≡ partial_in facts holds t
    without (Lit l) h = refl
    without (Var v) h = refl
    without (Slot s) h = refl
    without (Unknown n ty) h = refl
    without (If t y n) h =
        let rest = none_right naming (calls_unknown t) (calls_unknown y || calls_unknown n) h in
        rw (without t (none_left naming (calls_unknown t) (calls_unknown y || calls_unknown n) h), without y (none_left naming (calls_unknown y) (calls_unknown n) rest), without n (none_right naming (calls_unknown y) (calls_unknown n) rest)) refl
    without (And l r) h = rw (without l (none_left naming (calls_unknown l) (calls_unknown r) h), without r (none_right naming (calls_unknown l) (calls_unknown r) h)) refl
    without (Or l r) h = rw (without l (none_left naming (calls_unknown l) (calls_unknown r) h), without r (none_right naming (calls_unknown l) (calls_unknown r) h)) refl
    without (Apply op ts) h =
        ap (construct_answer naming facts holds op) (all_without ts (none_right naming (is_unknown_call op) (some_calls_unknown ts) h))
        ∙ other_construct naming facts holds op (all_partial_in facts holds ts) (none_left naming (is_unknown_call op) (some_calls_unknown ts) h)

    all_without : (ts : Trees) → (naming && some_calls_unknown ts) ≡ false → all_naming_in naming facts holds ts ≡ all_partial_in facts holds ts
    all_without no_trees h = refl
    all_without (a_tree t ts) h = rw (without t (none_left naming (calls_unknown t) (some_calls_unknown ts) h), all_without ts (none_right naming (calls_unknown t) (some_calls_unknown ts) h)) refl

-- ---- trees of values, and trees that are projected, call nothing

longs_call : (bs : List ℕ) → some_calls_unknown (longs_of bs) ≡ false
longs_call [] = refl
longs_call (b ∷ bs) = longs_call bs

module _ (facts : Facts) where
  mutual
    value_calls : (v : Value) → calls_unknown (tree_of facts v) ≡ false
    value_calls (Plain l) = refl
    value_calls (SetOf vs) = values_call vs
    value_calls (RecordOf ks vs) = values_call vs
    value_calls (ExtensionOf e) = longs_call e.key

    values_call : (vs : Values) → some_calls_unknown (trees_of facts vs) ≡ false
    values_call no_values = refl
    values_call (a_value v vs) = neither (calls_unknown (tree_of facts v)) (some_calls_unknown (trees_of facts vs)) (value_calls v) (values_call vs)

-- ---- what is read within `if`, `&&` and `||` alone

abbrev mutual
  read_within : Tree → Tree
  read_within (If t y n) = If (read_unknowns t) (read_unknowns y) (read_unknowns n)
  read_within (And l r) = And (read_unknowns l) (read_unknowns r)
  read_within (Or l r) = Or (read_unknowns l) (read_unknowns r)
  read_within (Apply op ts) = Apply op (all_read_within ts)
  read_within t = t

  all_read_within : Trees → Trees
  all_read_within no_trees = no_trees
  all_read_within (a_tree t ts) = a_tree (read_within t) (all_read_within ts)

-- whether a call stands elsewhere
abbrev mutual
  calls_outside : Tree → Bool
  calls_outside (Apply op ts) = is_unknown_call op || some_call_outside ts
  calls_outside t = false

  some_call_outside : Trees → Bool
  some_call_outside no_trees = false
  some_call_outside (a_tree t ts) = calls_outside t || some_call_outside ts

other_call : (b : Bool) (f : Name) (t : Tree) (ts : Trees) → b ≡ false → unknown_or_call b f t ts ≡ Apply (Call f) (a_tree t ts)
other_call true f t ts h = cc
other_call false f t ts h = refl

other_applied : (op : Operator) (ts : Trees) → is_unknown_call op ≡ false → read_call op ts ≡ Apply op ts
other_applied (Call f) no_trees h = refl
other_applied (Call f) (a_tree t ts) h = other_call (same_name f unknown_function) f t ts h
other_applied op ts h = refl

mutual
  within_alone : (t : Tree) → calls_outside t ≡ false → read_unknowns t ≡ read_within t
  within_alone (Lit l) h = refl
  within_alone (Var v) h = refl
  within_alone (Slot s) h = refl
  within_alone (Unknown n ty) h = refl
  within_alone (If t y n) h = refl
  within_alone (And l r) h = refl
  within_alone (Or l r) h = refl
  within_alone (Apply op ts) h =
      other_applied op (all_read ts) (first_none (is_unknown_call op) (some_call_outside ts) h)
      ∙ ap (Apply op) (all_within_alone ts (last_none (is_unknown_call op) (some_call_outside ts) h))

  all_within_alone : (ts : Trees) → some_call_outside ts ≡ false → all_read ts ≡ all_read_within ts
  all_within_alone no_trees h = refl
  all_within_alone (a_tree t ts) h =
      rw (within_alone t (first_none (calls_outside t) (some_call_outside ts) h), all_within_alone ts (last_none (calls_outside t) (some_call_outside ts) h)) refl

mutual
  none_outside : (t : Tree) → calls_unknown t ≡ false → calls_outside t ≡ false
  none_outside (Apply op ts) h =
      neither (is_unknown_call op) (some_call_outside ts) (first_none (is_unknown_call op) (some_calls_unknown ts) h) (all_none_outside ts (last_none (is_unknown_call op) (some_calls_unknown ts) h))
  none_outside t h = refl

  all_none_outside : (ts : Trees) → some_calls_unknown ts ≡ false → some_call_outside ts ≡ false
  all_none_outside no_trees h = refl
  all_none_outside (a_tree t ts) h =
      neither (calls_outside t) (some_call_outside ts) (none_outside t (first_none (calls_unknown t) (some_calls_unknown ts) h)) (all_none_outside ts (last_none (calls_unknown t) (some_calls_unknown ts) h))

-- a tree that is projected is kept, and no other becomes one
mutual
  within_projectable : (t : Tree) → is_projectable (read_within t) ≡ is_projectable t
  within_projectable (Apply MakeSet ts) = all_within_projectable ts
  within_projectable (Apply (MakeRecord ks) ts) = all_within_projectable ts
  within_projectable (Apply op ts) = refl
  within_projectable t = refl

  all_within_projectable : (ts : Trees) → are_projectable (all_read_within ts) ≡ are_projectable ts
  all_within_projectable no_trees = refl
  all_within_projectable (a_tree t ts) = rw (within_projectable t, all_within_projectable ts) refl

mutual
  kept_within : (t : Tree) → is_projectable t ≡ true → read_within t ≡ t
  kept_within (Apply MakeSet ts) h = ap (Apply MakeSet) (all_kept_within ts h)
  kept_within (Apply (MakeRecord ks) ts) h = ap (Apply (MakeRecord ks)) (all_kept_within ts h)
  kept_within (Lit l) h = refl
  kept_within (Var v) h = refl
  kept_within (Unknown n ty) h = refl
  kept_within t h = cc

  all_kept_within : (ts : Trees) → are_projectable ts ≡ true → all_read_within ts ≡ ts
  all_kept_within no_trees h = refl
  all_kept_within (a_tree t ts) h = let (ht, hts) = both_true (is_projectable t) (are_projectable ts) h in rw (kept_within t ht, all_kept_within ts hts) refl

within_stated : (t : Tree) → stated_type (read_within t) ≡ stated_type t
within_stated (Apply op ts) = refl
within_stated t = refl

within_found : (ks : List Text) (ts : Trees) (a : Text) → found_tree ks (all_read_within ts) a ≡ option_map read_within (found_tree ks ts a)
within_found [] ts a = refl
within_found (k ∷ ks) no_trees a = refl
within_found (k ∷ ks) (a_tree t ts) a = ap (cond (same_text k a) (Some (read_within t))) (within_found ks ts a) ∙ chosen (same_text k a) (found_tree ks ts a)
  where
    chosen : (b : Bool) (o : Option Tree) → cond b (Some (read_within t)) (option_map read_within o) ≡ option_map read_within (cond b (Some t) o)
    chosen true o = refl
    chosen false o = refl

-- ---- the second answer is the first one, what is left being read

abbrev ReadsTo : Answer → Answer → Type 0
ReadsTo (Evaluated v) b = b ≡ Evaluated v
ReadsTo (ResidualTree r) b = (b ≡ ResidualTree (read_within r)) × (calls_outside r ≡ false)
ReadsTo (Failed k) b = b ≡ Failed k

abbrev AllReadTo : Answers → Answers → Type 0
AllReadTo (AllEvaluated vs) bs = bs ≡ AllEvaluated vs
AllReadTo (SomeResiduals rs) bs = (bs ≡ SomeResiduals (all_read_within rs)) × (some_call_outside rs ≡ false)
AllReadTo (SomeFailed k) bs = bs ≡ SomeFailed k

module _ (unread : UnknownsAreRead) where
  plain_reads : (a : Answer) → IsPlain a → ReadsTo a a
  plain_reads (Evaluated v) h = refl
  plain_reads (ResidualTree r) h = let o = none_outside r h in (ap ResidualTree (sym (sym (within_alone r o) ∙ unread.without r h)), o)
  plain_reads (Failed k) h = refl

  outcome_reads : (o : Outcome) → ReadsTo (answer_of o) (answer_of o)
  outcome_reads (Gives v) = refl
  outcome_reads (Fails k) = refl

  pub as_read_is : (a b : Answer) → ReadsTo a b → b ≡ as_read a
  as_read_is (Evaluated v) b h = h
  as_read_is (ResidualTree r) b h = h.0 ∙ ap ResidualTree (sym (within_alone r h.1))
  as_read_is (Failed k) b h = h

  module _ (facts : Facts) where
    value_within : (v : Value) → read_within (tree_of facts v) ≡ tree_of facts v
    value_within v = let h = value_calls facts v in sym (within_alone (tree_of facts v) (none_outside (tree_of facts v) h)) ∙ unread.without (tree_of facts v) h

    values_within : (vs : Values) → all_read_within (trees_of facts vs) ≡ trees_of facts vs
    values_within no_values = refl
    values_within (a_value v vs) = rw (value_within v, values_within vs) refl

    next_is : (a b : Answer) (as_ bs : Answers) → b ≡ a → bs ≡ as_ → and_next facts b bs ≡ and_next facts a as_
    next_is a b as_ bs h k = ap (λ x. and_next facts x bs) h ∙ ap (and_next facts a) k

    next_reads : (a b : Answer) (as_ bs : Answers) → ReadsTo a b → AllReadTo as_ bs → AllReadTo (and_next facts a as_) (and_next facts b bs)
    next_reads (Failed k) b as_ bs h hs = ap (λ x. and_next facts x bs) h
    next_reads (Evaluated v) b (AllEvaluated vs) bs h hs = next_is (Evaluated v) b (AllEvaluated vs) bs h hs
    next_reads (Evaluated v) b (SomeResiduals rs) bs h hs = (
      next_is (Evaluated v) b (SomeResiduals (all_read_within rs)) bs h hs.0 ∙ ap (λ t. SomeResiduals (a_tree t (all_read_within rs))) (sym (value_within v)),
      neither (calls_outside (tree_of facts v)) (some_call_outside rs) (none_outside (tree_of facts v) (value_calls facts v)) hs.1,
    )
    next_reads (Evaluated v) b (SomeFailed k) bs h hs = next_is (Evaluated v) b (SomeFailed k) bs h hs
    next_reads (ResidualTree r) b (AllEvaluated vs) bs h hs = (
      next_is (ResidualTree (read_within r)) b (AllEvaluated vs) bs h.0 hs ∙ ap (λ ts. SomeResiduals (a_tree (read_within r) ts)) (sym (values_within vs)),
      neither (calls_outside r) (some_call_outside (trees_of facts vs)) h.1 (all_none_outside (trees_of facts vs) (values_call facts vs)),
    )
    next_reads (ResidualTree r) b (SomeResiduals rs) bs h hs = (
      next_is (ResidualTree (read_within r)) b (SomeResiduals (all_read_within rs)) bs h.0 hs.0,
      neither (calls_outside r) (some_call_outside rs) h.1 hs.1,
    )
    next_reads (ResidualTree r) b (SomeFailed k) bs h hs = next_is (ResidualTree (read_within r)) b (SomeFailed k) bs h.0 hs

    -- ---- `&&`, `||` and `if`

    effort_reads : (a b : Answer) (t : Tree) → ReadsTo a b → best_effort facts b (read_unknowns t) ≡ read_unknowns (best_effort facts a t)
    effort_reads (Evaluated v) b t h = ap (λ x. best_effort facts x (read_unknowns t)) h ∙ sym (unread.without (tree_of facts v) (value_calls facts v))
    effort_reads (ResidualTree r) b t h = ap (λ x. best_effort facts x (read_unknowns t)) h.0 ∙ sym (within_alone r h.1)
    effort_reads (Failed k) b t h = ap (λ x. best_effort facts x (read_unknowns t)) h

    and_last : (a b : Answer) → ReadsTo a b → ReadsTo (last_answer (And (Lit (Boolean true))) a) (last_answer (And (Lit (Boolean true))) b)
    and_last (Evaluated (Plain (Boolean x))) b h = ap (last_answer (And (Lit (Boolean true)))) h
    and_last (Evaluated _) b h = ap (last_answer (And (Lit (Boolean true)))) h
    and_last (ResidualTree r) b h = (ap (last_answer (And (Lit (Boolean true)))) h.0 ∙ ap (λ u. ResidualTree (And (Lit (Boolean true)) u)) (sym (within_alone r h.1)), refl)
    and_last (Failed k) b h = ap (last_answer (And (Lit (Boolean true)))) h

    or_last : (a b : Answer) → ReadsTo a b → ReadsTo (last_answer (Or (Lit (Boolean false))) a) (last_answer (Or (Lit (Boolean false))) b)
    or_last (Evaluated (Plain (Boolean x))) b h = ap (last_answer (Or (Lit (Boolean false)))) h
    or_last (Evaluated _) b h = ap (last_answer (Or (Lit (Boolean false)))) h
    or_last (ResidualTree r) b h = (ap (last_answer (Or (Lit (Boolean false)))) h.0 ∙ ap (λ u. ResidualTree (Or (Lit (Boolean false)) u)) (sym (within_alone r h.1)), refl)
    or_last (Failed k) b h = ap (last_answer (Or (Lit (Boolean false)))) h

    and_reads : (a b x y : Answer) (t : Tree) → ReadsTo a b → ReadsTo x y → ReadsTo (and_answer facts a x t) (and_answer facts b y (read_unknowns t))
    and_reads (ResidualTree r) b x y t h k = (
      ap (λ z. and_answer facts z y (read_unknowns t)) h.0
          ∙ ap (λ u. ResidualTree (And u (best_effort facts y (read_unknowns t)))) (sym (within_alone r h.1))
          ∙ ap (λ u. ResidualTree (And (read_unknowns r) u)) (effort_reads x y t k),
      refl,
    )
    and_reads (Evaluated (Plain (Boolean true))) b x y t h k = subst (λ z. ReadsTo (last_answer (And (Lit (Boolean true))) x) (and_answer facts z y (read_unknowns t))) (sym h) (and_last x y k)
    and_reads (Evaluated (Plain (Boolean false))) b x y t h k = ap (λ z. and_answer facts z y (read_unknowns t)) h
    and_reads (Evaluated _) b x y t h k = ap (λ z. and_answer facts z y (read_unknowns t)) h
    and_reads (Failed e) b x y t h k = ap (λ z. and_answer facts z y (read_unknowns t)) h

    or_reads : (a b x y : Answer) (t : Tree) → ReadsTo a b → ReadsTo x y → ReadsTo (or_answer facts a x t) (or_answer facts b y (read_unknowns t))
    or_reads (ResidualTree r) b x y t h k = (
      ap (λ z. or_answer facts z y (read_unknowns t)) h.0
          ∙ ap (λ u. ResidualTree (Or u (best_effort facts y (read_unknowns t)))) (sym (within_alone r h.1))
          ∙ ap (λ u. ResidualTree (Or (read_unknowns r) u)) (effort_reads x y t k),
      refl,
    )
    or_reads (Evaluated (Plain (Boolean false))) b x y t h k = subst (λ z. ReadsTo (last_answer (Or (Lit (Boolean false))) x) (or_answer facts z y (read_unknowns t))) (sym h) (or_last x y k)
    or_reads (Evaluated (Plain (Boolean true))) b x y t h k = ap (λ z. or_answer facts z y (read_unknowns t)) h
    or_reads (Evaluated _) b x y t h k = ap (λ z. or_answer facts z y (read_unknowns t)) h
    or_reads (Failed e) b x y t h k = ap (λ z. or_answer facts z y (read_unknowns t)) h

    if_reads : (a b x y v w : Answer) (t u : Tree) → ReadsTo a b → ReadsTo x y → ReadsTo v w → ReadsTo (if_answer facts a x v t u) (if_answer facts b y w (read_unknowns t) (read_unknowns u))
    if_reads (ResidualTree r) b x y v w t u h k l = (
      ap (λ z. if_answer facts z y w (read_unknowns t) (read_unknowns u)) h.0
          ∙ ap (λ s. ResidualTree (If s (best_effort facts y (read_unknowns t)) (best_effort facts w (read_unknowns u)))) (sym (within_alone r h.1))
          ∙ ap (λ s. ResidualTree (If (read_unknowns r) s (best_effort facts w (read_unknowns u)))) (effort_reads x y t k)
          ∙ ap (λ s. ResidualTree (If (read_unknowns r) (read_unknowns (best_effort facts x t)) s)) (effort_reads v w u l),
      refl,
    )
    if_reads (Evaluated (Plain (Boolean true))) b x y v w t u h k l = subst (λ z. ReadsTo x (if_answer facts z y w (read_unknowns t) (read_unknowns u))) (sym h) k
    if_reads (Evaluated (Plain (Boolean false))) b x y v w t u h k l = subst (λ z. ReadsTo v (if_answer facts z y w (read_unknowns t) (read_unknowns u))) (sym h) l
    if_reads (Evaluated _) b x y v w t u h k l = ap (λ z. if_answer facts z y w (read_unknowns t) (read_unknowns u)) h
    if_reads (Failed e) b x y v w t u h k l = ap (λ z. if_answer facts z y w (read_unknowns t) (read_unknowns u)) h

    -- ---- constructs

    module _ (holds : LeafAnswers) (leaves : ArePlain holds) where
      outcome_plain : (o : Outcome) → IsPlain (answer_of o)
      outcome_plain (Gives v) = tt
      outcome_plain (Fails k) = tt

      abbrev AllPlain : Answers → Type 0
      AllPlain (SomeResiduals rs) = some_calls_unknown rs ≡ false
      AllPlain as_ = Unit {0}

      next_plain : (a : Answer) (as_ : Answers) → IsPlain a → AllPlain as_ → AllPlain (and_next facts a as_)
      next_plain (Failed k) as_ h hs = tt
      next_plain (Evaluated v) (AllEvaluated vs) h hs = tt
      next_plain (Evaluated v) (SomeResiduals rs) h hs = neither (calls_unknown (tree_of facts v)) (some_calls_unknown rs) (value_calls facts v) hs
      next_plain (Evaluated v) (SomeFailed k) h hs = tt
      next_plain (ResidualTree r) (AllEvaluated vs) h hs = neither (calls_unknown r) (some_calls_unknown (trees_of facts vs)) h (values_call facts vs)
      next_plain (ResidualTree r) (SomeResiduals rs) h hs = neither (calls_unknown r) (some_calls_unknown rs) h hs
      next_plain (ResidualTree r) (SomeFailed k) h hs = tt

      built_plain : (op : Operator) (as_ : Answers) → is_unknown_call op ≡ false → AllPlain as_ → IsPlain (built_answer facts op as_)
      built_plain op (AllEvaluated vs) c h = outcome_plain (applied facts op vs)
      built_plain op (SomeResiduals rs) c h = neither (is_unknown_call op) (some_calls_unknown rs) c h
      built_plain op (SomeFailed k) c h = tt

      mutual
        projected_plain : (t : Tree) → is_projectable t ≡ true → IsPlain (projected_in facts holds t)
        projected_plain (Lit l) h = tt
        projected_plain (Var v) h = leaves.variable v
        projected_plain (Unknown n ty) h = leaves.unknown n ty
        projected_plain (Apply MakeSet ts) h = built_plain MakeSet (all_projected_in facts holds ts) refl (all_projected_plain ts h)
        projected_plain (Apply (MakeRecord ks) ts) h = built_plain (MakeRecord ks) (all_projected_in facts holds ts) refl (all_projected_plain ts h)
        projected_plain t h = cc

        all_projected_plain : (ts : Trees) → are_projectable ts ≡ true → AllPlain (all_projected_in facts holds ts)
        all_projected_plain no_trees h = tt
        all_projected_plain (a_tree t ts) h =
            let (ht, hts) = both_true (is_projectable t) (are_projectable ts) h in
            next_plain (projected_in facts holds t) (all_projected_in facts holds ts) (projected_plain t ht) (all_projected_plain ts hts)

      found_projectable : (ks : List Text) (ts : Trees) (a : Text) (u : Tree) → found_tree ks ts a ≡ Some u → are_projectable ts ≡ true → is_projectable u ≡ true
      found_projectable [] ts a u is h = cc
      found_projectable (k ∷ ks) no_trees a u is h = cc
      found_projectable (k ∷ ks) (a_tree t ts) a u is h =
          let (ht, hts) = both_true (is_projectable t) (are_projectable ts) h in
          first (same_text k a) (found_tree ks ts a) is ht (λ later. found_projectable ks ts a u later hts)
        where
          first : (b : Bool) (o : Option Tree) → cond b (Some t) o ≡ Some u → is_projectable t ≡ true → (o ≡ Some u → is_projectable u ≡ true) → is_projectable u ≡ true
          first true o e p later = let same : t ≡ u = cc in subst (λ x. is_projectable x ≡ true) same p
          first false o e p later = later e

      one_outside : (r : Tree) → calls_outside r ≡ false → (calls_outside r || false) ≡ false
      one_outside r h = neither (calls_outside r) false h refl

      module _ (ks : List Text) (rs : Trees) (strict : some_call_outside rs ≡ false) (a : Text) where
        entry_plain : (o : Option Tree) → found_tree ks rs a ≡ o → are_projectable rs ≡ true → IsPlain (entry_answer facts holds a (Apply (MakeRecord ks) rs) true o)
        entry_plain None is p = tt
        entry_plain (Some t) is p = projected_plain t (found_projectable ks rs a t is p)

        entry_waits : (o : Option Tree) → ReadsTo (entry_answer facts holds a (Apply (MakeRecord ks) rs) false o) (entry_answer facts holds a (Apply (MakeRecord ks) (all_read_within rs)) false (option_map read_within o))
        entry_waits None = refl
        entry_waits (Some t) = (refl, one_outside (Apply (MakeRecord ks) rs) strict)

        entry_reads : (p : Bool) → are_projectable rs ≡ p → ReadsTo (entry_answer facts holds a (Apply (MakeRecord ks) rs) p (found_tree ks rs a)) (entry_answer facts holds a (Apply (MakeRecord ks) (all_read_within rs)) p (found_tree ks (all_read_within rs) a))
        entry_reads true is =
            subst (λ us. ReadsTo (entry_answer facts holds a (Apply (MakeRecord ks) rs) true (found_tree ks rs a)) (entry_answer facts holds a (Apply (MakeRecord ks) us) true (found_tree ks us a)))
            (sym (all_kept_within rs is)) (plain_reads (entry_answer facts holds a (Apply (MakeRecord ks) rs) true (found_tree ks rs a)) (entry_plain (found_tree ks rs a) refl is))
        entry_reads false is =
            subst (λ o. ReadsTo (entry_answer facts holds a (Apply (MakeRecord ks) rs) false (found_tree ks rs a)) (entry_answer facts holds a (Apply (MakeRecord ks) (all_read_within rs)) false o))
            (sym (within_found ks rs a)) (entry_waits (found_tree ks rs a))

        has_entry_told : (o : Option Tree) → ReadsTo (has_entry_answer a (Apply (MakeRecord ks) rs) true o) (has_entry_answer a (Apply (MakeRecord ks) (all_read_within rs)) true (option_map read_within o))
        has_entry_told None = refl
        has_entry_told (Some t) = refl

        has_entry_reads : (p : Bool) (o : Option Tree) → ReadsTo (has_entry_answer a (Apply (MakeRecord ks) rs) p o) (has_entry_answer a (Apply (MakeRecord ks) (all_read_within rs)) p (option_map read_within o))
        has_entry_reads true o = has_entry_told o
        has_entry_reads false o = (refl, one_outside (Apply (MakeRecord ks) rs) strict)

      attribute_reads : (a : Text) (r : Tree) → calls_outside r ≡ false → ReadsTo (attribute_answer facts holds a r) (attribute_answer facts holds a (read_within r))
      attribute_reads a (Apply (MakeRecord ks) rs) h =
          subst (λ p. ReadsTo (entry_answer facts holds a (Apply (MakeRecord ks) rs) (are_projectable rs) (found_tree ks rs a)) (entry_answer facts holds a (Apply (MakeRecord ks) (all_read_within rs)) p (found_tree ks (all_read_within rs) a)))
          (sym (all_within_projectable rs)) (entry_reads ks rs h a (are_projectable rs) refl)
      attribute_reads a (Apply op rs) h = (refl, one_outside (Apply op rs) h)
      attribute_reads a r h = (refl, refl)

      has_reads : (a : Text) (r : Tree) → calls_outside r ≡ false → ReadsTo (has_answer a r) (has_answer a (read_within r))
      has_reads a (Apply (MakeRecord ks) rs) h =
          subst (λ p. ReadsTo (has_entry_answer a (Apply (MakeRecord ks) rs) (are_projectable rs) (found_tree ks rs a)) (has_entry_answer a (Apply (MakeRecord ks) (all_read_within rs)) p (found_tree ks (all_read_within rs) a)))
          (sym (all_within_projectable rs))
          (subst (λ o. ReadsTo (has_entry_answer a (Apply (MakeRecord ks) rs) (are_projectable rs) (found_tree ks rs a)) (has_entry_answer a (Apply (MakeRecord ks) (all_read_within rs)) (are_projectable rs) o))
          (sym (within_found ks rs a)) (has_entry_reads ks rs h a (are_projectable rs) (found_tree ks rs a)))
      has_reads a (Apply op rs) h = (refl, one_outside (Apply op rs) h)
      has_reads a r h = (refl, refl)

      is_reads : (ty : Name) (r : Tree) → calls_outside r ≡ false → ReadsTo (is_answer ty r) (is_answer ty (read_within r))
      is_reads ty (Unknown n (Some (EntityType u))) h = refl
      is_reads ty (Unknown n o) h = (refl, refl)
      is_reads ty (Apply op rs) h = (refl, one_outside (Apply op rs) h)
      is_reads ty r h = (refl, refl)

      equal_by : (b : Bool) (r s : Tree) → calls_outside r ≡ false → calls_outside s ≡ false → ReadsTo (equal_answer b r s) (equal_answer b (read_within r) (read_within s))
      equal_by true r s h k = refl
      equal_by false r s h k = (refl, neither (calls_outside r) (calls_outside s || false) h (one_outside s k))

      equal_reads : (r s : Tree) → calls_outside r ≡ false → calls_outside s ≡ false →
          ReadsTo (equal_answer (types_differ (stated_type r) (stated_type s)) r s) (equal_answer (types_differ (stated_type (read_within r)) (stated_type (read_within s))) (read_within r) (read_within s))
      equal_reads r s h k =
          subst (λ o. ReadsTo (equal_answer (types_differ (stated_type r) (stated_type s)) r s) (equal_answer (types_differ o (stated_type (read_within s))) (read_within r) (read_within s))) (sym (within_stated r))
          (subst (λ o. ReadsTo (equal_answer (types_differ (stated_type r) (stated_type s)) r s) (equal_answer (types_differ (stated_type r) o) (read_within r) (read_within s))) (sym (within_stated s))
          (equal_by (types_differ (stated_type r) (stated_type s)) r s h k))

      residual_reads : (op : Operator) (rs : Trees) → is_unknown_call op ≡ false → some_call_outside rs ≡ false → ReadsTo (residual_answer facts holds op rs) (residual_answer facts holds op (all_read_within rs))
      residual_reads (GetAttr a) (a_tree r no_trees) c h = attribute_reads a r (first_none (calls_outside r) false h)
      residual_reads (HasAttr a) (a_tree r no_trees) c h = has_reads a r (first_none (calls_outside r) false h)
      residual_reads (Is ty) (a_tree r no_trees) c h = is_reads ty r (first_none (calls_outside r) false h)
      residual_reads Equal (a_tree r (a_tree s no_trees)) c h =
          equal_reads r s (first_none (calls_outside r) (calls_outside s || false) h) (first_none (calls_outside s) false (last_none (calls_outside r) (calls_outside s || false) h))
      residual_reads op rs c h = (refl, neither (is_unknown_call op) (some_call_outside rs) c h)

      apply_reads : (op : Operator) (as_ bs : Answers) → is_unknown_call op ≡ false → AllReadTo as_ bs → ReadsTo (apply_answer facts holds op as_) (apply_answer facts holds op bs)
      apply_reads op (AllEvaluated vs) bs c h = subst (λ x. ReadsTo (answer_of (applied facts op vs)) (apply_answer facts holds op x)) (sym h) (outcome_reads (applied facts op vs))
      apply_reads op (SomeResiduals rs) bs c h = subst (λ x. ReadsTo (residual_answer facts holds op rs) (apply_answer facts holds op x)) (sym h.0) (residual_reads op rs c h.1)
      apply_reads op (SomeFailed k) bs c h = ap (apply_answer facts holds op) h

      -- ---- calls that name

      literal_call : (b : Bool) (f : Name) (t : Tree) (us : Trees) → b ≡ true → same_name f unknown_function ≡ true → calls_unknown (unknown_or_call b f t us) ≡ false → (n : Text) × (a_tree t us ≡ a_tree (Lit (String n)) no_trees)
      literal_call false f t us e s h = cc
      literal_call true f (Lit (String n)) no_trees e s h = (n, refl)
      literal_call true f t us e s h = absurd (true_then (same_name f unknown_function) _ s h)

      one_literal : (f : Name) (us : Trees) → same_name f unknown_function ≡ true → calls_unknown (read_call (Call f) us) ≡ false → (n : Text) × (us ≡ a_tree (Lit (String n)) no_trees)
      one_literal f no_trees s h = absurd (true_then (same_name f unknown_function) _ s h)
      one_literal f (a_tree t us) s h = literal_call (same_name f unknown_function) f t us s s h

      all_values : (as_ bs : Answers) (vs : Values) → AllReadTo as_ bs → bs ≡ AllEvaluated vs → as_ ≡ AllEvaluated vs
      all_values (AllEvaluated ws) bs vs h is = let same : AllEvaluated ws ≡ AllEvaluated vs = sym h ∙ is in same
      all_values (SomeResiduals rs) bs vs h is = let no : SomeResiduals (all_read_within rs) ≡ AllEvaluated vs = sym h.0 ∙ is in cc
      all_values (SomeFailed k) bs vs h is = let no : SomeFailed k ≡ AllEvaluated vs = sym h ∙ is in cc

      -- which of the operands is called
      pub operands_plain : (op : Operator) (us : Trees) (b : Bool) → is_unknown_call op ≡ b → calls_unknown (read_call op us) ≡ false → some_calls_unknown us ≡ false
      operands_plain op us false e h = last_none (is_unknown_call op) (some_calls_unknown us) (sym (ap calls_unknown (other_applied op us e)) ∙ h)
      operands_plain (Call f) us true e h = let (n, is) = one_literal f us e h in ap some_calls_unknown is
      operands_plain op us true e h = cc

      module _ (gives : GivesTexts facts) where
        named_reads : (f : Name) (as_ bs : Answers) (us : Trees) (n : Text) → same_name f unknown_function ≡ true → us ≡ a_tree (Lit (String n)) no_trees → bs ≡ all_partial_in facts holds us → AllReadTo as_ bs →
            ReadsTo (construct_answer true facts holds (Call f) as_) (partial_in facts holds (read_call (Call f) us))
        named_reads f as_ bs us n e is by h =
            let vs : Values = a_value (Plain (String n)) no_values in
            let values : as_ ≡ AllEvaluated vs = all_values as_ bs vs h (by ∙ ap (all_partial_in facts holds) is) in
            let named : construct_answer true facts holds (Call f) as_ ≡ holds.unknown n None =
            ap (construct_answer true facts holds (Call f)) values
            ∙ ap (call_answer true (λ m. holds.unknown m None) f) (gives f e n)
            ∙ ap (λ b. named_or (λ m. holds.unknown m None) (cond b (Some n) None) (Evaluated (Plain (String n)))) e in
            let read : partial_in facts holds (read_call (Call f) us) ≡ holds.unknown n None =
            ap (λ ts. partial_in facts holds (read_call (Call f) ts)) is ∙ ap (λ b. partial_in facts holds (unknown_or_call b f (Lit (String n)) no_trees)) e in
            subst (λ x. ReadsTo x (partial_in facts holds (read_call (Call f) us))) (sym named)
            (subst (ReadsTo (holds.unknown n None)) (sym read) (plain_reads (holds.unknown n None) (leaves.unknown n None)))

        applied_reads : (op : Operator) (as_ : Answers) (us : Trees) (b : Bool) → is_unknown_call op ≡ b → calls_unknown (read_call op us) ≡ false → AllReadTo as_ (all_partial_in facts holds us) →
            ReadsTo (construct_answer true facts holds op as_) (partial_in facts holds (read_call op us))
        applied_reads op as_ us false e h all =
            subst (λ x. ReadsTo x (partial_in facts holds (read_call op us))) (sym (other_construct true facts holds op as_ e))
            (subst (λ u. ReadsTo (apply_answer facts holds op as_) (partial_in facts holds u)) (sym (other_applied op us e)) (apply_reads op as_ (all_partial_in facts holds us) e all))
        applied_reads (Call f) as_ us true e h all = let (n, is) = one_literal f us e h in named_reads f as_ (all_partial_in facts holds us) us n e is refl all
        applied_reads op as_ us true e h all = cc

        mutual
          pub reads : (t : Tree) → calls_unknown (read_unknowns t) ≡ false → ReadsTo (naming_in true facts holds t) (partial_in facts holds (read_unknowns t))
          reads (Lit l) h = refl
          reads (Var v) h = plain_reads (holds.variable v) (leaves.variable v)
          reads (Slot s) h = plain_reads (holds.slot s) (leaves.slot s)
          reads (Unknown n ty) h = plain_reads (holds.unknown n ty) (leaves.unknown n ty)
          reads (If t y n) h =
              let rest = last_none (calls_unknown (read_unknowns t)) (calls_unknown (read_unknowns y) || calls_unknown (read_unknowns n)) h in
              if_reads _ _ _ _ _ _ y n (reads t (first_none _ _ h)) (reads y (first_none _ _ rest)) (reads n (last_none _ _ rest))
          reads (And l r) h = and_reads _ _ _ _ r (reads l (first_none _ _ h)) (reads r (last_none _ _ h))
          reads (Or l r) h = or_reads _ _ _ _ r (reads l (first_none _ _ h)) (reads r (last_none _ _ h))
          reads (Apply op ts) h =
              applied_reads op (all_naming_in true facts holds ts) (all_read ts) (is_unknown_call op) refl h (all_reads ts (operands_plain op (all_read ts) (is_unknown_call op) refl h))

          all_reads : (ts : Trees) → some_calls_unknown (all_read ts) ≡ false → AllReadTo (all_naming_in true facts holds ts) (all_partial_in facts holds (all_read ts))
          all_reads no_trees h = refl
          all_reads (a_tree t ts) h = next_reads _ _ _ _ (reads t (first_none _ _ h)) (all_reads ts (last_none _ _ h))
