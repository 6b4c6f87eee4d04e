-- What is told of a tree by what is lent of its parts.
use Rattle.std.proofs.Common.{◌≡◌, ◌∙◌, ◌≤◌, ◌<◌, ◌+◌, ◌^◌, ℕ, ℤ, pos, negsuc, nat_lt, refl, sym, ap, subst, Bool, true, false, not, ◌&&◌, cond, Option, Some, None, IfSome, arith}
use Rattle.std.proofs.lemmas.Grind.{common_steps}
use Rattle.std.specs.Prelude.{neg_ℤ}
use Rattle.std.specs.Int.RustNames.{FitsSigned}
use Rattle.std.specs.Int.{w64}
use Rattle.std.specs.Option.{SomeIff}
use Rattle.std.specs.Bool.{Decides, one_answer}
use Rattle.std.specs.Cmp.Lexicographic.{bytes_decides}
use Rattle.cedar_language.specs.Uid.{Text, Uid}
use Rattle.cedar_language.specs.Tree.{Boolean, Long, String, Entity, Literal, Operator, Not, Neg, GetAttr, Call, Tree, Lit, Var, Variable, If, And, Or}
use Rattle.cedar_language.specs.Value.{Value, Plain, Values, no_values, Gives, Fails, FailedExtensionFunctionLookup, IntegerOverflow, RecordAttrDoesNotExist}
use Rattle.cedar_language.specs.Facts.{Facts}
use Rattle.cedar_language.specs.Order.{same, same_text, same_name, same_uid}
use Rattle.cedar_language.specs.OrderLaws.{value_cmp_total, value_cmp_same}
use Rattle.cedar_language.specs.Operators.{applied, or_fails, is_long, checked, negated, arithmetic, attribute, attribute_held}
use Rattle.cedar_partial_evaluation.specs.Partial.{Evaluated, AllEvaluated, LeafAnswers, answer_of, last_answer, and_answer, or_answer, if_answer, and_next, partial_in}
use Rattle.cedar_entities.specs.Data.{EntityData}
use Rattle.cedar_entities.specs.declared.store.Entities.{Entities}
use Rattle.cedar_entities.specs.Held.{held_of}
use Rattle.cedar_entities.specs.Store.{held_at}
use Rattle.cedar_grammar.specs.Build.{unary, binary}
use Rattle.cedar_literals.specs.Heads.{order_decides}
use Rattle.cedar_literals.proofs.Sameness.{uids_same}
use Rattle.cedar_value_operators.specs.Operands.{one, two}
use Rattle.cedar_operators.specs.Store.{HasFacts}
use Rattle.cedar_interpreter.specs.Glancing.{value_lent, least_depth, Tells}
use Rattle.cedar_interpreter.specs.Holding.{held_by, variable_held}
use Rattle.cedar_interpreter.specs.Naming.{construct_answer, naming_in}
use Rattle.cedar_interpreter.specs.Seen.{IsSeen}
use Rattle.cedar_interpreter.specs.declared.evaluator.Evaluator.{Evaluator}
use Rattle.cedar_interpreter.specs.declared.lent.Lent.{Lent}
use Rattle.cedar_interpreter.proofs.Naming.{without}
use Rattle.cedar_policy_parts.specs.Bindings.{Bindings}

-- ---- `==` of two literals is any test that decides whether they are one

plain_inj : (l m : Literal) → Plain l ≡ Plain m → l ≡ m
plain_inj l m e = cc

literals_tie : (l m : Literal) (b : Bool) → Decides b (l ≡ m) → same (Plain l) (Plain m) ≡ b
literals_tie l m b d =
    let values = order_decides value_cmp_total value_cmp_same (Plain l) (Plain m) in
    let literals : Decides (same (Plain l) (Plain m)) (l ≡ m) = (λ h. plain_inj l m (values.0 h), λ e. values.1 (ap Plain e)) in
    one_answer (same (Plain l) (Plain m)) b literals d

string_inj : (s t : Text) → String s ≡ String t → s ≡ t
string_inj s t e = cc

entity_inj : (a b : Uid) → Entity a ≡ Entity b → a ≡ b
entity_inj a b e = cc

pub texts_tie : (s t : Text) → same (Plain (String s)) (Plain (String t)) ≡ same_text s t
texts_tie s t = literals_tie (String s) (String t) (same_text s t) (λ h. ap String ((bytes_decides s t).0 h), λ e. (bytes_decides s t).1 (string_inj s t e))

pub uids_tie : (a b : Uid) → same (Plain (Entity a)) (Plain (Entity b)) ≡ same_uid a b
uids_tie a b = literals_tie (Entity a) (Entity b) (same_uid a b) (λ h. ap Entity ((uids_same a b).0 h), λ e. (uids_same a b).1 (entity_inj a b e))

-- ---- two uids, by their ids first

pub same_by_id : (u v : Uid) → same_text u.id v.id ≡ true → same_name u.type_name v.type_name ≡ same_uid u v
same_by_id u v is = by (same_name u.type_name v.type_name) (same_text u.id v.id) is
  where
    by : (a b : Bool) → b ≡ true → a ≡ (a && b)
    by true b e = sym e
    by false b e = refl

pub differs_by_id : (u v : Uid) → same_text u.id v.id ≡ false → false ≡ same_uid u v
differs_by_id u v is = by (same_name u.type_name v.type_name) (same_text u.id v.id) is
  where
    by : (a b : Bool) → b ≡ false → false ≡ (a && b)
    by true b e = sym e
    by false b e = refl

-- ---- checked arithmetic of longs

below : (k : ℕ) → k < 2 ^ 63 → nat_lt k (2 ^ 63) ≡ true
below k h = grind (arith, common_steps)

fits_is : (z : ℤ) → FitsSigned w64 z → is_long z ≡ true
fits_is (pos k) h = below k h.sfits
fits_is (negsuc k) h = below k h.sfits

checked_gives : (r : Option ℤ) (z : ℤ) → SomeIff r (FitsSigned w64 z) z → IfSome r (λ n. checked z ≡ Gives (Plain (Long n)))
checked_gives None z h = tt
checked_gives (Some n) z h =
    ap (λ b. cond b (Gives (Plain (Long z))) (Fails IntegerOverflow)) (fits_is z h.0) ∙ ap (λ m. Gives (Plain (Long m))) (sym h.1)

pub long_of_longs : (f : ℤ → ℤ → ℤ) (u v : Value) (x y : ℤ) (r : Option ℤ) → u ≡ Plain (Long x) → v ≡ Plain (Long y) → SomeIff r (FitsSigned w64 (f x y)) (f x y) → IfSome r (λ n. arithmetic f (two u v) ≡ Gives (Plain (Long n)))
long_of_longs f u v x y r is also h =
    subst (λ w. IfSome r (λ n. arithmetic f (two w v) ≡ Gives (Plain (Long n)))) (sym is)
    (subst (λ w. IfSome r (λ n. arithmetic f (two (Plain (Long x)) w) ≡ Gives (Plain (Long n)))) (sym also) (checked_gives r (f x y) h))

pub negative_long : (v : Value) (x : ℤ) (r : Option ℤ) → v ≡ Plain (Long x) → SomeIff r (FitsSigned w64 (neg_ℤ x)) (neg_ℤ x) → IfSome r (λ n. negated (one v) ≡ Gives (Plain (Long n)))
negative_long v x r is h = subst (λ w. IfSome r (λ n. negated (one w) ≡ Gives (Plain (Long n)))) (sym is) (checked_gives r (neg_ℤ x) h)

-- ---- a value that is there, or isn't

pub there : (o : Option Value) (v : Value) → or_fails RecordAttrDoesNotExist o ≡ Gives v → Some v ≡ o
there (Some w) v is = cc
there None v is = absurd (cc is)

pub missing : (o : Option Value) → or_fails RecordAttrDoesNotExist o ≡ Fails RecordAttrDoesNotExist → None ≡ o
missing (Some w) is = absurd (cc is)
missing None is = refl

-- ---- an operator that gives a value whatever functions there are calls none

abbrev without_functions : Facts → Facts
without_functions facts = record { entity = facts.entity; reaches = facts.reaches; function = λ n. None }

still_facts : (store : Entities) (facts : Facts) → HasFacts store facts → HasFacts store (without_functions facts)
still_facts store facts has = record { whole = has.whole; closed = has.closed; entities = has.entities; reaches = has.reaches }

construct_gives : (store : Entities) (naming : Bool) (facts : Facts) (holds : LeafAnswers) (op : Operator) (vs : Values) (w : Value) → ((fs : Facts) → HasFacts store fs → applied fs op vs ≡ Gives w) → HasFacts store facts
    → construct_answer naming facts holds op (AllEvaluated vs) ≡ Evaluated w
construct_gives store naming facts holds (Call f) vs w k has = let no : Fails FailedExtensionFunctionLookup ≡ Gives w = k (without_functions facts) (still_facts store facts has) in cc
construct_gives store naming facts holds op vs w k has = ap answer_of (k facts has)

-- ---- trees by their parts

module _ {F : Type 0} (ev : Evaluator F) where
  -- the same tree, at the same limit
  pub tells_as : (d e : ℕ) (t u : Tree) (found : Option Lent) → d ≡ e → t ≡ u → IfSome found (λ l. Tells ev e u (value_lent l)) → IfSome found (λ l. Tells ev d t (value_lent l))
  tells_as d e t u found is same h =
      subst (λ s. IfSome found (λ l. Tells ev d s (value_lent l))) (sym same) (subst (λ n. IfSome found (λ l. Tells ev n u (value_lent l))) (sym is) h)

  -- the same of a Boolean that is told
  pub test_as : (d e : ℕ) (t u : Tree) (found : Option Bool) → d ≡ e → t ≡ u → IfSome found (λ b. Tells ev e u (Plain (Boolean b))) → IfSome found (λ b. Tells ev d t (Plain (Boolean b)))
  test_as d e t u found is same h =
      subst (λ s. IfSome found (λ b. Tells ev d s (Plain (Boolean b)))) (sym same) (subst (λ n. IfSome found (λ b. Tells ev n u (Plain (Boolean b)))) (sym is) h)

  -- the same limit
  pub tells_at : (d e : ℕ) (t : Tree) (v : Value) → d ≡ e → Tells ev e t v → Tells ev d t v
  tells_at d e t v is h = subst (λ n. Tells ev n t v) (sym is) h

  -- the same value
  pub tells_same : (d : ℕ) (t : Tree) (v w : Value) → v ≡ w → Tells ev d t v → Tells ev d t w
  tells_same d t v w is h = subst (Tells ev d t) is h

  pub leaf_tells : (d e : ℕ) (t : Tree) (found : Option Lent) → d ≡ e + 1 → IfSome found (λ l. Tells ev 1 t (value_lent l)) → IfSome found (λ l. Tells ev d t (value_lent l))
  leaf_tells d e t None is h = tt
  leaf_tells d e t (Some l) is h = record { value = h.value; within = omega (arith, h.within, is) }

  pub literal_tells : (t : Tree) (l : Literal) (v : Value) → t ≡ Lit l → v ≡ Plain l → Tells ev 1 t v
  literal_tells t l v is also = record {
    value = λ naming facts slots has. ap (naming_in naming facts (held_by ev slots)) is ∙ ap Evaluated (sym also);
    within = let h : least_depth t ≡ 1 = ap least_depth is in omega (arith, h);
  }

  -- where the limit isn't met
  pub literal_within : (d e : ℕ) (t : Tree) (l : Literal) (v : Value) → d ≡ e + 1 → t ≡ Lit l → v ≡ Plain l → Tells ev d t v
  literal_within d e t l v most is also = let h = literal_tells t l v is also in record { value = h.value; within = omega (arith, h.within, most) }

  pub variable_tells : (t : Tree) (x : Variable) (v : Value) → t ≡ Var x → variable_held ev x ≡ Evaluated v → Tells ev 1 t v
  variable_tells t x v is held = record {
    value = λ naming facts slots has. ap (naming_in naming facts (held_by ev slots)) is ∙ held;
    within = let h : least_depth t ≡ 1 = ap least_depth is in omega (arith, h);
  }

  -- the same tree, where the limit is no lower
  pub tells_within : (d e : ℕ) (t u : Tree) (found : Option Lent) → e ≤ d → t ≡ u → IfSome found (λ l. Tells ev e u (value_lent l)) → IfSome found (λ l. Tells ev d t (value_lent l))
  tells_within d e t u None most same h = tt
  tells_within d e t u (Some l) most same h = subst (λ s. Tells ev d s (value_lent l)) (sym same) (record { value = h.value; within = omega (arith, h.within, most) })

  module _ (d : ℕ) where
    pub and_stops : (l r : Tree) (b : Bool) → b ≡ false → Tells ev d l (Plain (Boolean b)) → Tells ev (d + 1) (And l r) (Plain (Boolean false))
    and_stops l r b is h = record {
      value = λ naming facts slots has.
          let holds = held_by ev slots in
          ap (λ x. and_answer facts x (naming_in naming facts holds r) r) (h.value naming facts slots has ∙ ap (λ c. Evaluated (Plain (Boolean c))) is);
      within = omega (arith, h.within);
    }

    pub and_goes_on : (l r : Tree) (b c : Bool) → b ≡ true → Tells ev d l (Plain (Boolean b)) → Tells ev d r (Plain (Boolean c)) → Tells ev (d + 1) (And l r) (Plain (Boolean c))
    and_goes_on l r b c is h k = record {
      value = λ naming facts slots has.
          let holds = held_by ev slots in
          ap (λ x. and_answer facts x (naming_in naming facts holds r) r) (h.value naming facts slots has ∙ ap (λ c. Evaluated (Plain (Boolean c))) is)
          ∙ ap (last_answer (And (Lit (Boolean true)))) (k.value naming facts slots has);
      within = omega (arith, h.within);
    }

    pub or_stops : (l r : Tree) (b : Bool) → b ≡ true → Tells ev d l (Plain (Boolean b)) → Tells ev (d + 1) (Or l r) (Plain (Boolean true))
    or_stops l r b is h = record {
      value = λ naming facts slots has.
          let holds = held_by ev slots in
          ap (λ x. or_answer facts x (naming_in naming facts holds r) r) (h.value naming facts slots has ∙ ap (λ c. Evaluated (Plain (Boolean c))) is);
      within = omega (arith, h.within);
    }

    pub or_goes_on : (l r : Tree) (b c : Bool) → b ≡ false → Tells ev d l (Plain (Boolean b)) → Tells ev d r (Plain (Boolean c)) → Tells ev (d + 1) (Or l r) (Plain (Boolean c))
    or_goes_on l r b c is h k = record {
      value = λ naming facts slots has.
          let holds = held_by ev slots in
          ap (λ x. or_answer facts x (naming_in naming facts holds r) r) (h.value naming facts slots has ∙ ap (λ c. Evaluated (Plain (Boolean c))) is)
          ∙ ap (last_answer (Or (Lit (Boolean false)))) (k.value naming facts slots has);
      within = omega (arith, h.within);
    }

    pub if_yes : (t y n : Tree) (b : Bool) (found : Option Lent) → b ≡ true → Tells ev d t (Plain (Boolean b)) → IfSome found (λ l. Tells ev d y (value_lent l)) → IfSome found (λ l. Tells ev (d + 1) (If t y n) (value_lent l))
    if_yes t y n b None is h k = tt
    if_yes t y n b (Some l) is h k = record {
      value = λ naming facts slots has.
          let holds = held_by ev slots in
          ap (λ x. if_answer facts x (naming_in naming facts holds y) (naming_in naming facts holds n) y n) (h.value naming facts slots has ∙ ap (λ c. Evaluated (Plain (Boolean c))) is) ∙ k.value naming facts slots has;
      within = omega (arith, h.within);
    }

    pub if_no : (t y n : Tree) (b : Bool) (found : Option Lent) → b ≡ false → Tells ev d t (Plain (Boolean b)) → IfSome found (λ l. Tells ev d n (value_lent l)) → IfSome found (λ l. Tells ev (d + 1) (If t y n) (value_lent l))
    if_no t y n b None is h k = tt
    if_no t y n b (Some l) is h k = record {
      value = λ naming facts slots has.
          let holds = held_by ev slots in
          ap (λ x. if_answer facts x (naming_in naming facts holds y) (naming_in naming facts holds n) y n) (h.value naming facts slots has ∙ ap (λ c. Evaluated (Plain (Boolean c))) is) ∙ k.value naming facts slots has;
      within = omega (arith, h.within);
    }

    pub one_tells : (op : Operator) (t : Tree) (v w : Value) → Tells ev d t v → ((facts : Facts) → HasFacts ev.entities.now facts → applied facts op (one v) ≡ Gives w) → Tells ev (d + 1) (unary op t) w
    one_tells op t v w h k = record {
      value = λ naming facts slots has.
          let holds = held_by ev slots in
          ap (λ b. construct_answer naming facts holds op (and_next facts b (AllEvaluated no_values))) (h.value naming facts slots has) ∙ construct_gives ev.entities.now naming facts holds op (one v) w k has;
      within = omega (arith, h.within);
    }

    pub not_tells : (op : Operator) (t : Tree) (b : Bool) → op ≡ Not → Tells ev d t (Plain (Boolean b)) → Tells ev (d + 1) (unary op t) (Plain (Boolean (not b)))
    not_tells op t b is h = one_tells op t (Plain (Boolean b)) (Plain (Boolean (not b))) h (λ facts has. ap (λ o. applied facts o (one (Plain (Boolean b)))) is)

    pub negative_tells : (op : Operator) (t : Tree) (v : Value) (n : ℤ) → op ≡ Neg → Tells ev d t v → negated (one v) ≡ Gives (Plain (Long n)) → Tells ev (d + 1) (unary op t) (Plain (Long n))
    negative_tells op t v n is h gives = one_tells op t v (Plain (Long n)) h (λ facts has. ap (λ o. applied facts o (one v)) is ∙ gives)

    pub attribute_tells : (a b : Text) (t : Tree) (v : Value) (found : Option Lent) → b ≡ a → Tells ev d t v → ((facts : Facts) → HasFacts ev.entities.now facts → IfSome found (λ l. attribute facts b v ≡ Gives (value_lent l))) →
        IfSome found (λ l. Tells ev (d + 1) (unary (GetAttr a) t) (value_lent l))
    attribute_tells a b t v None is h k = tt
    attribute_tells a b t v (Some l) is h k = one_tells (GetAttr a) t v (value_lent l) h (λ facts has. subst (λ x. attribute facts x v ≡ Gives (value_lent l)) is (k facts has))

    pub two_tells : (op : Operator) (s t : Tree) (u v w : Value) → Tells ev d s u → Tells ev d t v → ((facts : Facts) → HasFacts ev.entities.now facts → applied facts op (two u v) ≡ Gives w) → Tells ev (d + 1) (binary op s t) w
    two_tells op s t u v w h g k = record {
      value = λ naming facts slots has.
          let holds = held_by ev slots in
          ap (λ b. construct_answer naming facts holds op (and_next facts b (and_next facts (naming_in naming facts holds t) (AllEvaluated no_values)))) (h.value naming facts slots has)
          ∙ ap (λ b. construct_answer naming facts holds op (and_next facts (Evaluated u) (and_next facts b (AllEvaluated no_values)))) (g.value naming facts slots has)
          ∙ construct_gives ev.entities.now naming facts holds op (two u v) w k has;
      within = omega (arith, h.within, g.within);
    }

    pub long_tells : (op : Operator) (s t : Tree) (u v : Value) (found : Option ℤ) → Tells ev d s u → Tells ev d t v → ((facts : Facts) → IfSome found (λ n. applied facts op (two u v) ≡ Gives (Plain (Long n)))) →
        IfSome found (λ n. Tells ev (d + 1) (binary op s t) (Plain (Long n)))
    long_tells op s t u v None h g k = tt
    long_tells op s t u v (Some n) h g k = two_tells op s t u v (Plain (Long n)) h g (λ facts has. k facts)

  -- ---- an attribute of a variable

  module _ (a : Text) (x : Variable) (found : Option Lent) where
    pub attribute_of_variable : (v : Value) → variable_held ev x ≡ Evaluated v → ((facts : Facts) → HasFacts ev.entities.now facts → IfSome found (λ l. attribute facts a v ≡ Gives (value_lent l))) →
        IfSome found (λ l. Tells ev 2 (unary (GetAttr a) (Var x)) (value_lent l))
    attribute_of_variable v held k = attribute_tells 1 a a (Var x) v found refl (variable_tells (Var x) x v refl held) k

    -- of an entity that is given, by what the store holds of it
    pub attribute_of_given : (u : Uid) (e : EntityData) → variable_held ev x ≡ Evaluated (Plain (Entity u)) → IsSeen ev.entities.now u (Some e) →
        ((facts : Facts) → HasFacts ev.entities.now facts → held_at ev.entities.now u ≡ Some (held_of e) → IfSome found (λ l. attribute_held a (facts.entity u) ≡ Gives (value_lent l))) →
        IfSome found (λ l. Tells ev 2 (unary (GetAttr a) (Var x)) (value_lent l))
    attribute_of_given u e held seen k = attribute_of_variable (Plain (Entity u)) held (λ facts has. k facts has seen.0)

-- ---- what is told, where no call may name an unknown

pub told_plainly : {F : Type 0} (ev : Evaluator F) (d : ℕ) (t : Tree) (v : Value) → Tells ev d t v → (facts : Facts) (slots : Bindings) → HasFacts ev.entities.now facts → partial_in facts (held_by ev slots) t ≡ Evaluated v
told_plainly ev d t v tells facts slots has = sym (without false facts (held_by ev slots) t refl) ∙ tells.value false facts slots has
