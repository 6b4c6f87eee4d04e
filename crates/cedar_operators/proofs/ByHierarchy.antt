-- `in`, by what its operands are.
use Rattle.std.proofs.Common.{◌≡◌, ◌<◌, ◌+◌, ℕ, Bool, true, false, ◌||◌, Option, None, Some, option_map, List, [], ◌∷◌, length, get_or, drop, drop-cons, add-one, refl, sym, ap, ◌∙◌}
use Rattle.std.specs.Borrow.{Bor}
use Rattle.std.specs.Option.{option_copied}
use Rattle.std.specs.List.{list_any}
use Rattle.cedar_language.specs.Uid.{Uid}
use Rattle.cedar_language.specs.Tree.{Boolean, Long, String, Entity}
use Rattle.cedar_language.specs.Value.{Value, Plain, SetOf, RecordOf, ExtensionOf, Values, a_value}
use Rattle.cedar_language.specs.Order.{all_of}
use Rattle.cedar_language.specs.Operators.{truth, and_uid, uids_in, is_within, is_within_some, within_members, in_of}
use Rattle.cedar_language.specs.Facts.{Facts}
use Rattle.cedar_entities.specs.Data.{EntityData}
use Rattle.cedar_entities.specs.declared.store.Entities.{Entities}
use Rattle.cedar_value_operators.specs.Operands.{uid_in, members_in, at_operand, two}
use Rattle.cedar_operators.specs.Store.{HasFacts, IsFound}
use Rattle.cedar_operators.specs.Hierarchy.{is_within_entity, within_of}
use Rattle.cedar_operators.proofs.ByStore.{within_is}
use Rattle.cedar_lemmas.proofs.Booleans.{or_grouped as or_or, or_nothing as or_false}

-- ---- what the right operand is

pub within_uid : (test : Uid → Bool) (w : Value) (b : Uid) → uid_in w ≡ Some b → within_of test w ≡ Some (test b)
within_uid test (Plain (Boolean b)) u e = cc
within_uid test (Plain (Long n)) u e = cc
within_uid test (Plain (String s)) u e = cc
within_uid test (Plain (Entity b)) u e = let same : b ≡ u = cc in ap (λ x. Some (test x)) same
within_uid test (SetOf vs) u e = cc
within_uid test (RecordOf ks vs) u e = cc
within_uid test (ExtensionOf x) u e = cc

pub within_set : (test : Uid → Bool) (w : Value) (vs : Values) → members_in w ≡ Some vs → within_of test w ≡ option_map (list_any test) (uids_in vs)
within_set test (Plain l) vs e = cc
within_set test (SetOf ws) vs e = let same : ws ≡ vs = cc in ap (λ x. option_map (list_any test) (uids_in x)) same
within_set test (RecordOf ks ws) vs e = cc
within_set test (ExtensionOf x) vs e = cc

pub within_others : (test : Uid → Bool) (w : Value) → uid_in w ≡ None → members_in w ≡ None → within_of test w ≡ None
within_others test (Plain (Boolean b)) e f = refl
within_others test (Plain (Long n)) e f = refl
within_others test (Plain (String s)) e f = refl
within_others test (Plain (Entity b)) e f = cc
within_others test (SetOf ws) e f = cc
within_others test (RecordOf ks ws) e f = refl
within_others test (ExtensionOf x) e f = refl

-- ---- the loop over the members

-- the test held before, or holds of some uid that is left
abbrev pub any_left : (Uid → Bool) → Bool → Values → Option Bool
any_left test found vs = option_map (λ us. found || list_any test us) (uids_in vs)

and_more : (test : Uid → Bool) (found : Bool) (u : Uid) (o : Option (List Uid)) → option_map (λ us. found || list_any test us) (and_uid (Plain (Entity u)) o) ≡ option_map (λ us. (found || test u) || list_any test us) o
and_more test found u None = refl
and_more test found u (Some us) = ap Some (or_or found (test u) (list_any test us))

one_more : (test : Uid → Bool) (found : Bool) (v : Value) (u : Uid) (vs : Values) → uid_in v ≡ Some u → any_left test found (a_value v vs) ≡ any_left test (found || test u) vs
one_more test found (Plain (Boolean b)) u vs e = cc
one_more test found (Plain (Long n)) u vs e = cc
one_more test found (Plain (String s)) u vs e = cc
one_more test found (Plain (Entity w)) u vs e = let same : w ≡ u = cc in and_more test found w (uids_in vs) ∙ ap (λ x. any_left test (found || test x) vs) same
one_more test found (SetOf ws) u vs e = cc
one_more test found (RecordOf ks ws) u vs e = cc
one_more test found (ExtensionOf x) u vs e = cc

no_more : (test : Uid → Bool) (found : Bool) (v : Value) (vs : Values) → uid_in v ≡ None → any_left test found (a_value v vs) ≡ None
no_more test found (Plain (Boolean b)) vs e = refl
no_more test found (Plain (Long n)) vs e = refl
no_more test found (Plain (String s)) vs e = refl
no_more test found (Plain (Entity w)) vs e = cc
no_more test found (SetOf ws) vs e = refl
no_more test found (RecordOf ks ws) vs e = refl
no_more test found (ExtensionOf x) vs e = refl

cut : (vs : List Value) (i : ℕ) (v : Value) → i < length vs → v ≡ get_or vs i v → drop i vs ≡ v ∷ drop (i + 1) vs
cut vs i v lt is = rw (add-one, drop-cons vs i v lt, ← is) refl

pub member_more : (test : Uid → Bool) (found : Bool) (vs : List Value) (i : ℕ) (v : Value) (u : Uid) → i < length vs → v ≡ get_or vs i v → uid_in v ≡ Some u →
    any_left test found (all_of (drop i vs)) ≡ any_left test (found || test u) (all_of (drop (i + 1) vs))
member_more test found vs i v u lt is e = ap (λ x. any_left test found (all_of x)) (cut vs i v lt is) ∙ one_more test found v u (all_of (drop (i + 1) vs)) e

pub member_is_none : (test : Uid → Bool) (found : Bool) (vs : List Value) (i : ℕ) (v : Value) → i < length vs → v ≡ get_or vs i v → uid_in v ≡ None → any_left test found (all_of (drop i vs)) ≡ None
member_is_none test found vs i v lt is e = ap (λ x. any_left test found (all_of x)) (cut vs i v lt is) ∙ no_more test found v (all_of (drop (i + 1) vs)) e

pub or_then : (b t r : Bool) → b ≡ true → r ≡ b → r ≡ (b || t)
or_then b t r e f = f ∙ e ∙ sym (ap (λ x. x || t) e)

pub or_else : (b t r : Bool) → b ≡ false → r ≡ t → r ≡ (b || t)
or_else b t r e f = f ∙ sym (ap (λ x. x || t) e)

pub all_seen : (test : Uid → Bool) (found : Bool) (vs : List Value) → vs ≡ [] → any_left test found (all_of vs) ≡ Some found
all_seen test found vs e = ap (λ x. any_left test found (all_of x)) e ∙ ap Some (or_false found)

none_found : (test : Uid → Bool) (o : Option (List Uid)) → option_map (λ us. false || list_any test us) o ≡ option_map (list_any test) o
none_found test None = refl
none_found test (Some us) = refl

pub all_left : (test : Uid → Bool) (vs : Values) → any_left test false vs ≡ option_map (list_any test) (uids_in vs)
all_left test vs = none_found test (uids_in vs)

-- ---- with a store's facts

some_is : (facts : Facts) (a : Uid) (us : List Uid) → is_within_some facts a us ≡ list_any (is_within facts a) us
some_is facts a [] = refl
some_is facts a (u ∷ us) = ap (λ b. is_within facts a u || b) (some_is facts a us)

members_at : (facts : Facts) (a : Uid) (o : Option (List Uid)) → within_members facts a o ≡ at_operand truth (option_map (list_any (is_within facts a)) o)
members_at facts a None = refl
members_at facts a (Some us) = ap truth (some_is facts a us)

entity_at : (facts : Facts) (a : Uid) (w : Value) → in_of facts (two (Plain (Entity a)) w) ≡ at_operand truth (within_of (is_within facts a) w)
entity_at facts a (Plain (Boolean b)) = refl
entity_at facts a (Plain (Long n)) = refl
entity_at facts a (Plain (String s)) = refl
entity_at facts a (Plain (Entity b)) = refl
entity_at facts a (SetOf vs) = members_at facts a (uids_in vs)
entity_at facts a (RecordOf ks vs) = refl
entity_at facts a (ExtensionOf x) = refl

-- `in` for an entity on the left, and for other values there
pub in_entity : (facts : Facts) (v w : Value) (a : Uid) → uid_in v ≡ Some a → in_of facts (two v w) ≡ at_operand truth (within_of (is_within facts a) w)
in_entity facts (Plain (Boolean b)) w a e = cc
in_entity facts (Plain (Long n)) w a e = cc
in_entity facts (Plain (String s)) w a e = cc
in_entity facts (Plain (Entity u)) w a e = let same : u ≡ a = cc in entity_at facts u w ∙ ap (λ x. at_operand truth (within_of (is_within facts x) w)) same
in_entity facts (SetOf vs) w a e = cc
in_entity facts (RecordOf ks vs) w a e = cc
in_entity facts (ExtensionOf x) w a e = cc

pub in_others : (facts : Facts) (v w : Value) → uid_in v ≡ None → in_of facts (two v w) ≡ at_operand truth None
in_others facts (Plain (Boolean b)) w e = refl
in_others facts (Plain (Long n)) w e = refl
in_others facts (Plain (String s)) w e = refl
in_others facts (Plain (Entity u)) w e = cc
in_others facts (SetOf vs) w e = refl
in_others facts (RecordOf ks vs) w e = refl
in_others facts (ExtensionOf x) w e = refl

-- with the entity that the store holds
pub in_held : (s : Entities) (facts : Facts) → HasFacts s facts → (v w : Value) (a : Uid) (o : Option (Bor EntityData)) → uid_in v ≡ Some a → IsFound s a o →
    in_of facts (two v w) ≡ at_operand truth (within_of (is_within_entity a (option_copied o)) w)
in_held s facts f v w a o e h =
    let same : is_within facts a ≡ is_within_entity a (option_copied o) = λ i b. sym (within_is s facts f a o h b) i in
    in_entity facts v w a e ∙ ap (λ (test : Uid → Bool). at_operand truth (within_of test w)) same
