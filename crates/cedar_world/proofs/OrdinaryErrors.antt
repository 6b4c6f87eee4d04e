-- Which operators give a literal; and operators err neither with a failed look-up, where the function is found, nor with a slot that
-- isn't linked.
use Rattle.std.proofs.Common.{◌≡◌, Bool, true, false, cond, Option, Some, None, is_some, List, [], ◌∷◌, ℤ, ◌+ℤ◌, ◌-ℤ◌, ◌*ℤ◌, neg_ℤ, true≢false, sym}
use Rattle.cedar_language.specs.Uid.{Text, Name, Uid}
use Rattle.cedar_language.specs.Tree.{Boolean, Long, String, Entity, Operator, Not, Neg, IsEmpty, Equal, Less, LessEq, Add, Sub, Mul, In, Contains, ContainsAll, ContainsAny, GetTag, HasTag, GetAttr, HasAttr, HasPath, Like, MakeSet, MakeRecord, Call}
use Rattle.cedar_language.specs.Tree as tree
use Rattle.cedar_language.specs.Value.{Value, Plain, SetOf, RecordOf, ExtensionOf, Values, no_values, a_value, Kind, TypeError, IntegerOverflow, Outcome, Gives, Fails}
use Rattle.cedar_language.specs.Facts.{Held, Function, Facts}
use Rattle.cedar_language.specs.Operators.{found, applied, or_fails}
use Rattle.cedar_language.specs.Operators as op
use Rattle.cedar_grammar.specs.Calls.{calls_none_but}
use Rattle.cedar_world.specs.KnownKinds.{IsOrdinary, ErrsOrdinarily}

-- ---- operators that give a literal

-- a literal, or an ordinary error
abbrev pub IsPlainly : Outcome → Type 0
IsPlainly (Gives (Plain l)) = Unit {0}
IsPlainly (Gives _) = ⊥
IsPlainly (Fails k) = IsOrdinary k

cond_plain : (b : Bool) (o p : Outcome) → IsPlainly o → IsPlainly p → IsPlainly (cond b o p)
cond_plain true o p h k = h
cond_plain false o p h k = k

checked_plain : (n : ℤ) → IsPlainly (op.checked n)
checked_plain n = cond_plain (op.is_long n) (Gives (Plain (Long n))) (Fails IntegerOverflow) tt tt

is_there_plain : (o : Outcome) → IsPlainly (op.is_there o)
is_there_plain (Fails TypeError) = tt
is_there_plain _ = tt

arithmetic_plain : (f : ℤ → ℤ → ℤ) (vs : Values) → IsPlainly (op.arithmetic f vs)
arithmetic_plain f (a_value (Plain (Long x)) (a_value (Plain (Long y)) no_values)) = checked_plain (f x y)
arithmetic_plain f _ = tt

two_sets_plain : (f : Values → Values → Bool) (vs : Values) → IsPlainly (op.of_two_sets f vs)
two_sets_plain f (a_value (SetOf vs) (a_value (SetOf ws) no_values)) = tt
two_sets_plain f _ = tt

-- all but those that read what is held, call a function, or build
abbrev pub GivesLiteral : Operator → Type 0
GivesLiteral GetTag = ⊥
GivesLiteral (GetAttr a) = ⊥
GivesLiteral MakeSet = ⊥
GivesLiteral (MakeRecord ks) = ⊥
GivesLiteral (Call n) = ⊥
GivesLiteral _ = Unit {0}

module _ (facts : Facts) where
  path_plain : (as' : List Text) (o : Outcome) → IsPlainly (op.path_from facts as' o)
  path_plain [] o = is_there_plain o
  path_plain (a ∷ as') (Gives v) = path_plain as' (op.attribute facts a v)
  path_plain (a ∷ as') (Fails k) = is_there_plain (Fails k)

  within_plain : (a : Uid) (o : Option (List Uid)) → IsPlainly (op.within_members facts a o)
  within_plain a (Some bs) = tt
  within_plain a None = tt

  pub applied_plain : (o : Operator) (vs : Values) → GivesLiteral o → IsPlainly (applied facts o vs)
  applied_plain Not (a_value (Plain (Boolean b)) no_values) h = tt
  applied_plain Neg (a_value (Plain (Long n)) no_values) h = checked_plain (neg_ℤ n)
  applied_plain IsEmpty (a_value (SetOf no_values) no_values) h = tt
  applied_plain IsEmpty (a_value (SetOf (a_value v vs)) no_values) h = tt
  applied_plain Equal (a_value x (a_value y no_values)) h = tt
  applied_plain Less (a_value (Plain (Long x)) (a_value (Plain (Long y)) no_values)) h = tt
  applied_plain Less (a_value (ExtensionOf x) (a_value (ExtensionOf y) no_values)) h = cond_plain (op.are_comparable x y) _ _ tt tt
  applied_plain LessEq (a_value (Plain (Long x)) (a_value (Plain (Long y)) no_values)) h = tt
  applied_plain LessEq (a_value (ExtensionOf x) (a_value (ExtensionOf y) no_values)) h = cond_plain (op.are_comparable x y) _ _ tt tt
  applied_plain Add vs h = arithmetic_plain (λ x y. x +ℤ y) vs
  applied_plain Sub vs h = arithmetic_plain (λ x y. x -ℤ y) vs
  applied_plain Mul vs h = arithmetic_plain (λ x y. x *ℤ y) vs
  applied_plain In (a_value (Plain (Entity a)) (a_value (Plain (Entity b)) no_values)) h = tt
  applied_plain In (a_value (Plain (Entity a)) (a_value (SetOf vs) no_values)) h = within_plain a (op.uids_in vs)
  applied_plain Contains (a_value (SetOf ws) (a_value v no_values)) h = tt
  applied_plain ContainsAll vs h = two_sets_plain op.has_all vs
  applied_plain ContainsAny vs h = two_sets_plain op.has_some vs
  applied_plain HasTag vs h = is_there_plain (op.tag_of facts vs)
  applied_plain (HasAttr a) (a_value v no_values) h = is_there_plain (op.attribute facts a v)
  applied_plain (HasPath a as') (a_value v no_values) h = path_plain as' (op.attribute facts a v)
  applied_plain (Like ps) (a_value (Plain (String s)) no_values) h = tt
  applied_plain (tree.Is ty) (a_value (Plain (Entity u)) no_values) h = tt
  applied_plain GetTag vs h = absurd h
  applied_plain (GetAttr a) vs h = absurd h
  applied_plain MakeSet vs h = absurd h
  applied_plain (MakeRecord ks) vs h = absurd h
  applied_plain (Call n) vs h = absurd h
  applied_plain _ _ h = tt

-- ---- errors

plain_fine : (o : Outcome) → IsPlainly o → ErrsOrdinarily o
plain_fine (Gives v) h = tt
plain_fine (Fails k) h = h

cond_fine : (b : Bool) (o p : Outcome) → ErrsOrdinarily o → ErrsOrdinarily p → ErrsOrdinarily (cond b o p)
cond_fine true o p h k = h
cond_fine false o p h k = k

or_fails_fine : (k : Kind) (o : Option Value) → IsOrdinary k → ErrsOrdinarily (or_fails k o)
or_fails_fine k (Some v) h = tt
or_fails_fine k None h = h

called_fine : (o : Option Function) (vs : Values) → is_some o ≡ true → ErrsOrdinarily (op.called o vs)
called_fine None vs e = absurd (true≢false (sym e))
called_fine (Some f) vs e = cond_fine (op.takes f.takes (op.count vs)) _ _ (or_fails_fine _ (f.answer vs) tt) tt

attribute_held_fine : (a : Text) (o : Option Held) → ErrsOrdinarily (op.attribute_held a o)
attribute_held_fine a None = tt
attribute_held_fine a (Some h) = or_fails_fine _ (h.attribute a) tt

tag_held_fine : (a : Text) (o : Option Held) → ErrsOrdinarily (op.tag_held a o)
tag_held_fine a None = tt
tag_held_fine a (Some h) = or_fails_fine _ (h.tag a) tt

module _ (facts : Facts) where
  attribute_fine : (a : Text) (v : Value) → ErrsOrdinarily (op.attribute facts a v)
  attribute_fine a (RecordOf ks vs) = or_fails_fine _ (found ks vs a) tt
  attribute_fine a (Plain (Entity u)) = attribute_held_fine a (facts.entity u)
  attribute_fine a _ = tt

  module _ (passes : Name → Bool) (is_found : (name : Name) → passes name ≡ true → is_some (facts.function name) ≡ true) where
    pub applied_fine : (o : Operator) (vs : Values) → calls_none_but passes o ≡ true → ErrsOrdinarily (applied facts o vs)
    applied_fine GetTag (a_value (Plain (Entity u)) (a_value (Plain (String a)) no_values)) h = tag_held_fine a (facts.entity u)
    applied_fine GetTag _ h = tt
    applied_fine (GetAttr a) (a_value v no_values) h = attribute_fine a v
    applied_fine (GetAttr a) _ h = tt
    applied_fine MakeSet vs h = tt
    applied_fine (MakeRecord ks) vs h = tt
    applied_fine (Call n) vs h = called_fine (facts.function n) vs (is_found n h)
    applied_fine o vs h = plain_fine _ (applied_plain facts o vs tt)
