-- What names held entities alone means such values, and doesn't err since an entity doesn't exist.
use Rattle.std.proofs.Common.{◌≡◌, ℤ, Bool, true, false, cond, List, [], ◌∷◌, Option, Some, None, refl, sym, ap, ◌∙◌, subst, inl, inr}
use Rattle.std.specs.Prelude.{neg_ℤ, ◌+ℤ◌, ◌-ℤ◌, ◌*ℤ◌}
use Rattle.std.specs.Ordering.{is_lt, is_le}
use Rattle.cedar_language.proofs.Booleans.{or_cases, or_left, or_right}
use Rattle.cedar_language.specs.Uid.{Text, Name, Uid}
use Rattle.cedar_language.specs.Tree.{Boolean, Long, String, Entity, Operator, Not, Neg, IsEmpty, Equal, Less, LessEq, Add, Sub, Mul, In, Contains, ContainsAll, ContainsAny, GetTag, HasTag, GetAttr, HasAttr, HasPath, Like, Is, MakeSet, MakeRecord, Call, Tree, Lit, Var, Slot, Unknown, If, And, Or, Apply, Trees, no_trees, a_tree}
use Rattle.cedar_language.specs.Value.{Value, Plain, SetOf, RecordOf, ExtensionOf, Values, no_values, a_value, Kind, TypeError, EntityDoesNotExist, EntityAttrDoesNotExist, RecordAttrDoesNotExist, FailedExtensionFunctionExecution, IntegerOverflow, WrongNumArguments, Outcome, Gives, Fails}
use Rattle.cedar_language.specs.Order.{text_cmp, same, same_text, rising}
use Rattle.cedar_language.specs.OrderLaws.{same_is, is_same}
use Rattle.cedar_language.specs.Sets.{SetsAreFinite}
use Rattle.cedar_language.specs.Facts.{Function, Facts}
use Rattle.cedar_language.specs.Meaning.{Request, Outcomes, GivesAll, OneFails, slot_outcome, boolean_of, and_of, or_of, if_of, more_of, apply_of, meaning, meanings}
use Rattle.cedar_language.specs.Answering.{Standing, Erring}
use Rattle.cedar_language.specs.Authorization.{request_at, standing_of}
use Rattle.cedar_language.specs.Operators.{truth, is_long, found, or_fails, not_of, negated, is_empty, equal_of, are_comparable, less_of, less_eq_of, arithmetic, uids_in, within_members, in_of, has_member, has_all, has_some, contains_of, of_two_sets, attribute, is_there, attribute_of, has_of, path_from, has_path_of, tag_of, like_of, is_of, takes, count, called, applied}
use Rattle.cedar_typing.specs.Existing.{IsHeld, NamesHeld, AllNameHeld, TreeNamesHeld, TreesNameHeld, OutcomeNamesHeld, FactsNameHeld, RequestNamesHeld, HeldEntitiesExist, IsOfArithmeticOrCalls, ValidPoliciesStandOverHeld}
use Rattle.cedar_typing.specs.Validated.{TypesAllow}
use Rattle.cedar_typing.proofs.Validated.{valid_policies_stand}

-- ---- members

module _ (facts : Facts) where
  abbrev O : Outcome → Type 0
  O o = OutcomeNamesHeld facts o

  member_names : (vs : Values) → AllNameHeld facts vs → (w : Value) → has_member vs w ≡ true → NamesHeld facts w
  member_names no_values h w m = cc
  member_names (a_value v vs) h w m = elim (or_cases (same v w) (has_member vs w) m) [
    | inl e ↦ subst (NamesHeld facts) (same_is v w e) h.0
    | inr k ↦ member_names vs h.1 w k
  ]

  all_by_members : (vs : Values) → ((w : Value) → has_member vs w ≡ true → NamesHeld facts w) → AllNameHeld facts vs
  all_by_members no_values f = tt
  all_by_members (a_value v vs) f =
      (f v (or_left (same v v) (has_member vs v) (is_same v v refl)), all_by_members vs (λ w m. f w (or_right (same v w) (has_member vs w) m)))

  set_names : SetsAreFinite → (vs : Values) → AllNameHeld facts vs → AllNameHeld facts (rising vs)
  set_names finite vs h = all_by_members (rising vs) (λ w m. member_names vs h w (sym (finite.members vs w) ∙ m))

  -- ---- operators that give Booleans and longs

  checked_names : (n : ℤ) (b : Bool) → O (cond b (Gives (Plain (Long n))) (Fails IntegerOverflow))
  checked_names n true = tt
  checked_names n false = tt

  compared_names : (b c : Bool) → O (cond b (truth c) (Fails TypeError))
  compared_names true c = tt
  compared_names false c = tt

  there_names : (o : Outcome) → O (is_there o)
  there_names (Gives v) = tt
  there_names (Fails TypeError) = tt
  there_names (Fails k) = tt

  path_names : (as_ : List Text) (o : Outcome) → O (path_from facts as_ o)
  path_names [] o = there_names o
  path_names (a ∷ as_) (Gives v) = path_names as_ (attribute facts a v)
  path_names (a ∷ as_) (Fails k) = there_names (Fails k)

  not_names : (vs : Values) → O (not_of vs)
  not_names (a_value (Plain (Boolean b)) no_values) = tt
  not_names vs = tt

  negated_names : (vs : Values) → O (negated vs)
  negated_names (a_value (Plain (Long n)) no_values) = checked_names (neg_ℤ n) (is_long (neg_ℤ n))
  negated_names vs = tt

  is_empty_names : (vs : Values) → O (is_empty vs)
  is_empty_names (a_value (SetOf no_values) no_values) = tt
  is_empty_names (a_value (SetOf (a_value v vs)) no_values) = tt
  is_empty_names vs = tt

  equal_names : (vs : Values) → O (equal_of vs)
  equal_names (a_value x (a_value y no_values)) = tt
  equal_names vs = tt

  less_names : (vs : Values) → O (less_of vs)
  less_names (a_value (Plain (Long x)) (a_value (Plain (Long y)) no_values)) = tt
  less_names (a_value (ExtensionOf x) (a_value (ExtensionOf y) no_values)) = compared_names (are_comparable x y) (is_lt (text_cmp x.key y.key))
  less_names vs = tt

  less_eq_names : (vs : Values) → O (less_eq_of vs)
  less_eq_names (a_value (Plain (Long x)) (a_value (Plain (Long y)) no_values)) = tt
  less_eq_names (a_value (ExtensionOf x) (a_value (ExtensionOf y) no_values)) = compared_names (are_comparable x y) (is_le (text_cmp x.key y.key))
  less_eq_names vs = tt

  arithmetic_names : (f : ℤ → ℤ → ℤ) (vs : Values) → O (arithmetic f vs)
  arithmetic_names f (a_value (Plain (Long x)) (a_value (Plain (Long y)) no_values)) = checked_names (f x y) (is_long (f x y))
  arithmetic_names f vs = tt

  within_names : (a : Uid) (us : Option (List Uid)) → O (within_members facts a us)
  within_names a (Some us) = tt
  within_names a None = tt

  in_names : (vs : Values) → O (in_of facts vs)
  in_names (a_value (Plain (Entity a)) (a_value (Plain (Entity b)) no_values)) = tt
  in_names (a_value (Plain (Entity a)) (a_value (SetOf vs) no_values)) = within_names a (uids_in vs)
  in_names vs = tt

  contains_names : (vs : Values) → O (contains_of vs)
  contains_names (a_value (SetOf ws) (a_value v no_values)) = tt
  contains_names vs = tt

  two_sets_name : (f : Values → Values → Bool) (vs : Values) → O (of_two_sets f vs)
  two_sets_name f (a_value (SetOf vs) (a_value (SetOf ws) no_values)) = tt
  two_sets_name f vs = tt

  has_names : (a : Text) (vs : Values) → O (has_of facts a vs)
  has_names a (a_value v no_values) = there_names (attribute facts a v)
  has_names a vs = tt

  has_path_names : (a : Text) (as_ : List Text) (vs : Values) → O (has_path_of facts a as_ vs)
  has_path_names a as_ (a_value v no_values) = path_names as_ (attribute facts a v)
  has_path_names a as_ vs = tt

  like_names : (ps : _) (vs : Values) → O (like_of ps vs)
  like_names ps (a_value (Plain (String s)) no_values) = tt
  like_names ps vs = tt

  is_names : (n : Name) (vs : Values) → O (is_of n vs)
  is_names n (a_value (Plain (Entity u)) no_values) = tt
  is_names n vs = tt

  -- ---- lazy ones

  boolean_names : (o : Outcome) → O o → O (boolean_of o)
  boolean_names (Gives (Plain (Boolean b))) h = tt
  boolean_names (Gives v) h = tt
  boolean_names (Fails k) h = h

  and_names : (o p : Outcome) → O o → O p → O (and_of o p)
  and_names (Gives (Plain (Boolean true))) p h k = boolean_names p k
  and_names (Gives (Plain (Boolean false))) p h k = tt
  and_names (Gives v) p h k = tt
  and_names (Fails f) p h k = h

  or_names : (o p : Outcome) → O o → O p → O (or_of o p)
  or_names (Gives (Plain (Boolean true))) p h k = tt
  or_names (Gives (Plain (Boolean false))) p h k = boolean_names p k
  or_names (Gives v) p h k = tt
  or_names (Fails f) p h k = h

  if_names : (o p q : Outcome) → O o → O p → O q → O (if_of o p q)
  if_names (Gives (Plain (Boolean true))) p q h k l = k
  if_names (Gives (Plain (Boolean false))) p q h k l = l
  if_names (Gives v) p q h k l = tt
  if_names (Fails f) p q h k l = h

  found_if : (b : Bool) (v : Value) (r : Option Value) → NamesHeld facts v → O (or_fails RecordAttrDoesNotExist r) →
      O (or_fails RecordAttrDoesNotExist (cond b (Some v) r))
  found_if true v r h k = h
  found_if false v r h k = k

  found_names : (ks : List Text) (vs : Values) (a : Text) → AllNameHeld facts vs → O (or_fails RecordAttrDoesNotExist (found ks vs a))
  found_names [] vs a h = tt
  found_names (k ∷ ks) no_values a h = tt
  found_names (k ∷ ks) (a_value v vs) a h = found_if (same_text k a) v (found ks vs a) h.0 (found_names ks vs a h.1)

  -- what is read under a name, where whatever stands there names held entities alone
  read_names : (k : Kind) → O (Fails k) → (o : Option Value) → ((v : Value) → o ≡ Some v → NamesHeld facts v) → O (or_fails k o)
  read_names k n (Some v) f = f v refl
  read_names k n None f = n

module _ (finite : SetsAreFinite) (facts : Facts) (closed : FactsNameHeld facts) where
  attribute_names : (a : Text) (v : Value) → NamesHeld facts v → OutcomeNamesHeld facts (attribute facts a v)
  attribute_names a (RecordOf ks vs) h = found_names facts ks vs a h
  attribute_names a (Plain (Entity u)) h =
      rw h.1 (read_names facts EntityAttrDoesNotExist tt (h.0.attribute a) (λ v e. closed.attributes u h.0 a v h.1 e))
  attribute_names a v h = tt

  attribute_of_names : (a : Text) (vs : Values) → AllNameHeld facts vs → OutcomeNamesHeld facts (attribute_of facts a vs)
  attribute_of_names a (a_value v no_values) h = attribute_names a v h.0
  attribute_of_names a vs h = tt

  tag_names : (vs : Values) → AllNameHeld facts vs → OutcomeNamesHeld facts (tag_of facts vs)
  tag_names (a_value (Plain (Entity u)) (a_value (Plain (String k)) no_values)) h =
      rw h.0.1 (read_names facts EntityAttrDoesNotExist tt (h.0.0.tag k) (λ v e. closed.tags u h.0.0 k v h.0.1 e))
  tag_names vs h = tt

  answer_names : (b : Bool) (o : Option Value) → ((v : Value) → o ≡ Some v → NamesHeld facts v) →
      OutcomeNamesHeld facts (cond b (or_fails FailedExtensionFunctionExecution o) (Fails WrongNumArguments))
  answer_names true o f = read_names facts FailedExtensionFunctionExecution tt o f
  answer_names false o f = tt

  called_names : (n : Name) (o : Option Function) → facts.function n ≡ o → (vs : Values) → AllNameHeld facts vs → OutcomeNamesHeld facts (called o vs)
  called_names n (Some f) e vs h = answer_names (takes f.takes (count vs)) (f.answer vs) (λ v i. closed.functions n f vs v e h i)
  called_names n None e vs h = tt

  operator_names : (op : Operator) (vs : Values) → AllNameHeld facts vs → OutcomeNamesHeld facts (applied facts op vs)
  operator_names Not vs h = not_names facts vs
  operator_names Neg vs h = negated_names facts vs
  operator_names IsEmpty vs h = is_empty_names facts vs
  operator_names Equal vs h = equal_names facts vs
  operator_names Less vs h = less_names facts vs
  operator_names LessEq vs h = less_eq_names facts vs
  operator_names Add vs h = arithmetic_names facts (λ x y. x +ℤ y) vs
  operator_names Sub vs h = arithmetic_names facts (λ x y. x -ℤ y) vs
  operator_names Mul vs h = arithmetic_names facts (λ x y. x *ℤ y) vs
  operator_names In vs h = in_names facts vs
  operator_names Contains vs h = contains_names facts vs
  operator_names ContainsAll vs h = two_sets_name facts has_all vs
  operator_names ContainsAny vs h = two_sets_name facts has_some vs
  operator_names GetTag vs h = tag_names vs h
  operator_names HasTag vs h = there_names facts (tag_of facts vs)
  operator_names (GetAttr a) vs h = attribute_of_names a vs h
  operator_names (HasAttr a) vs h = has_names facts a vs
  operator_names (HasPath a as_) vs h = has_path_names facts a as_ vs
  operator_names (Like ps) vs h = like_names facts ps vs
  operator_names (Is n) vs h = is_names facts n vs
  operator_names MakeSet vs h = set_names facts finite vs h
  operator_names (MakeRecord ks) vs h = h
  operator_names (Call f) vs h = called_names f (facts.function f) refl vs h

  abbrev AllNamed : Outcomes → Type 0
  AllNamed (GivesAll vs) = AllNameHeld facts vs
  AllNamed (OneFails k) = OutcomeNamesHeld facts (Fails k)

  more_names : (o : Outcome) (os : Outcomes) → OutcomeNamesHeld facts o → AllNamed os → AllNamed (more_of o os)
  more_names (Gives v) (GivesAll vs) h k = (h, k)
  more_names (Gives v) (OneFails f) h k = k
  more_names (Fails f) os h k = h

  apply_names : (op : Operator) (os : Outcomes) → AllNamed os → OutcomeNamesHeld facts (apply_of facts op os)
  apply_names op (GivesAll vs) h = operator_names op vs h
  apply_names op (OneFails k) h = h

  module _ (request : Request) (asked : RequestNamesHeld facts request) where
    slot_names : (o : Option Uid) → ((u : Uid) → o ≡ Some u → IsHeld facts u) → OutcomeNamesHeld facts (slot_outcome o)
    slot_names (Some u) f = f u refl
    slot_names None f = tt

    mutual
      names : (x : Tree) → TreeNamesHeld facts x → OutcomeNamesHeld facts (meaning facts request x)
      names (Lit l) h = h
      names (Var v) h = asked.variables v
      names (Slot s) h = slot_names (request.slots s) (asked.slots s)
      names (Unknown n ty) h = asked.unknowns n ty
      names (If t y n) h =
          if_names facts (meaning facts request t) (meaning facts request y) (meaning facts request n) (names t h.0) (names y h.1) (names n h.2)
      names (And l r) h = and_names facts (meaning facts request l) (meaning facts request r) (names l h.0) (names r h.1)
      names (Or l r) h = or_names facts (meaning facts request l) (meaning facts request r) (names l h.0) (names r h.1)
      names (Apply op ts) h = apply_names op (meanings facts request ts) (all_name ts h)

      all_name : (ts : Trees) → TreesNameHeld facts ts → AllNamed (meanings facts request ts)
      all_name no_trees h = tt
      all_name (a_tree t ts) h = more_names (meaning facts request t) (meanings facts request ts) (names t h.0) (all_name ts h.1)

pub held_entities_exist : SetsAreFinite → HeldEntitiesExist
held_entities_exist finite facts closed request asked x h = names finite facts closed request asked x h

-- ---- of valid policies

kind_in : Standing → Kind → Kind
kind_in (Erring k) l = k
kind_in _ l = l

boolean_stands : (b : Bool) → standing_of (Gives (Plain (Boolean b))) ≡ Erring EntityDoesNotExist → ⊥
boolean_stands true e = cc
boolean_stands false e = cc

value_stands : (v : Value) → standing_of (Gives v) ≡ Erring EntityDoesNotExist → ⊥
unfolding kind_in
value_stands (Plain (Boolean b)) e = boolean_stands b e
value_stands (Plain (Long n)) e = cc
value_stands (Plain (String s)) e = cc
value_stands (Plain (Entity u)) e = cc
value_stands (SetOf vs) e = cc
value_stands (RecordOf ks vs) e = cc
value_stands (ExtensionOf x) e = cc

never_missing : (facts : Facts) (o : Outcome) → OutcomeNamesHeld facts o → standing_of o ≡ Erring EntityDoesNotExist → ⊥
unfolding kind_in
never_missing facts (Gives v) h e = value_stands v e
never_missing facts (Fails k) h e = subst (λ l. OutcomeNamesHeld facts (Fails l)) (ap (λ s. kind_in s k) e) h

left_over : (k : Kind) → TypesAllow k → (k ≡ EntityDoesNotExist → ⊥) → IsOfArithmeticOrCalls k
left_over EntityDoesNotExist h n = n refl
left_over IntegerOverflow h n = tt
left_over FailedExtensionFunctionExecution h n = tt
left_over k h n = h

pub valid_policies_stand_over_held : SetsAreFinite → ValidPoliciesStandOverHeld
valid_policies_stand_over_held finite schema facts conforms closed may p valid named e is q asked held k s =
    let request = request_at q p.slots in
    let exists = held_entities_exist finite facts closed request held p.condition named in
    left_over k (valid_policies_stand finite schema facts conforms may p valid e is q asked k s)
    (λ i. never_missing facts (meaning facts request p.condition) exists (s ∙ ap Erring i))
