-- What is held of a question, once no more than this is told, is no higher than what may be written into a condition.
use Rattle.std.proofs.Common.{◌≡◌, ◌≤◌, ◌<◌, ◌+◌, ◌⊎◌, inl, inr, ℕ, suc, Bool, true, false, cond, Option, Some, None, refl, sym, ◌∙◌, subst, arith, codes}
use Rattle.std.proofs.Math.Nat.{le-max_right}
use Rattle.std.proofs.lemmas.Bool.{cases_lt}
use Rattle.std.specs.FinMap as finite
use Rattle.cedar_language.specs.Uid.{Text, Uid}
use Rattle.cedar_language.specs.Tree.{Variable, Principal, Action, Resource, Context, ValueType, SlotId, Operator, GetTag, GetAttr, MakeRecord, Call, Tree, Var, Unknown, If, And, Or, Apply, Trees, no_trees, a_tree}
use Rattle.cedar_language.specs.Value.{Value}
use Rattle.cedar_language.specs.Facts as language
use Rattle.cedar_language.specs.Facts.{Facts}
use Rattle.cedar_language.specs.Constructing.{is_the_constructor, constructor_function}
use Rattle.cedar_language.specs.Height.{height, heights}
use Rattle.cedar_language.specs.Meaning.{Slots, slot_outcome}
use Rattle.cedar_grammar.specs.Functions.{function_of}
use Rattle.cedar_partial_evaluation.specs.Partial.{LeafAnswers, answer_of}
use Rattle.cedar_partial_evaluation.specs.Question.{Part, Given, Missing, entity_type, value_held, name_held, part_held, held_names, context_held, variable_held, held_of}
use Rattle.cedar_partial_evaluation.specs.Unknowns.{fits}
use Rattle.cedar_world.specs.Asking.{Entries, NoContext, WithEntries, Question, Told}
use Rattle.cedar_world.specs.Heights.{value_height, Heights, read_height, grown, all_grown, grown_answer, AreWithin, told_height, context_height, AreHeights, HeldIsWithin, AreAtMost, GrowsByHighest, variable_height}
use Rattle.cedar_world.specs.Question.{Extends}
use Rattle.cedar_world.specs.Setting.{Setting}
use Rattle.cedar_world.specs.World.{World, EntityData, seen}
use Rattle.cedar_world.specs.WorldFacts.{AreFactsOf}
use Rattle.cedar_world.proofs.Grown.{some_value, grows}

some_told : (o : Option Value) → 1 ≤ told_height o
some_told (Some v) = some_value v
some_told None = omega arith

pub slot_within : (h : Heights) (o : Option Uid) → grown_answer h (answer_of (slot_outcome o)) ≤ 1
slot_within h (Some u) = omega arith
slot_within h None = omega arith

value_within : (h : Heights) (b : Bool) (v : Value) (n : ℕ) → value_height v ≤ n → grown_answer h (value_held b v) ≤ n
value_within h true v n l = l
value_within h false v n l = omega arith

name_within : (h : Heights) (o : Option Value) (n : Text) (ty : Option ValueType) → told_height o ≤ h.named n → grown_answer h (name_held o n ty) ≤ h.named n
name_within h (Some v) n ty l = value_within h (fits ty v) v (h.named n) l
name_within h None n ty l = omega arith

earlier_height : (o p : Option Value) → ((v : Value) → o ≡ Some v → p ≡ Some v) → told_height o ≤ told_height p
earlier_height (Some v) p f = subst (λ (q : Option Value). value_height v ≤ told_height q) (sym (f v refl)) (omega arith)
earlier_height None p f = some_told p

abbrev attribute_in : Option language.Held → Text → Option Value
attribute_in (Some e) = e.attribute
attribute_in None = λ a. None

abbrev tag_in : Option language.Held → Text → Option Value
tag_in (Some e) = e.tag
tag_in None = λ a. None

chosen : {A : Type 0} (b : Bool) (x y : A) → b ≡ true → cond b x y ≡ x
chosen true x y h = refl
chosen false x y h = cc

module _ (by : Setting) (world : World) (q : Question) (told : Told) (h : Heights) (are : AreHeights by world q told h) where
  some_named : (n : Text) → 1 ≤ h.named n
  some_named n = omega (arith, some_told (finite.get told n), are.value_told n)

  some_context : (c : Entries) → 1 ≤ context_height h c
  some_context NoContext = some_named (codes "context")
  some_context (WithEntries ks ts) = omega (arith, le-max_right 0 (suc (all_grown h ts)))

  some_held : 1 ≤ h.context
  some_held = either_way (cases_lt by.depth h.context)
    where
      either_way : (by.depth < h.context) ⊎ (h.context ≤ by.depth) → 1 ≤ h.context
      either_way (inl high) = omega arith
      either_way (inr low) = omega (arith, some_context q.context, are.context low)

  -- ---- the highest of what is written

  module _ (most : ℕ) (at_most : AreAtMost h most) where
    some_most : 1 ≤ most
    some_most = omega (arith, some_held, at_most.context)

    variable_low : (v : Variable) → variable_height h v ≤ most
    variable_low Principal = at_most.named (codes "principal")
    variable_low Action = at_most.named (codes "action")
    variable_low Resource = at_most.named (codes "resource")
    variable_low Context = at_most.context

    read_low : (op : Operator) → read_height h op ≤ most
    read_low GetTag = at_most.tagged
    read_low (GetAttr a) = at_most.held a
    read_low (Call f) = either_low (is_the_constructor f)
      where
        either_low : (b : Bool) → cond b 0 h.answered ≤ most
        either_low true = omega arith
        either_low false = at_most.answered
    read_low _ = omega arith

    mutual
      pub grows_by : (t : Tree) → grown h t < height t + most
      grows_by (Var v) = omega (arith, variable_low v)
      grows_by (Unknown n ty) = omega (arith, at_most.named n)
      grows_by (If a b c) = omega (arith, grows_by a, grows_by b, grows_by c)
      grows_by (And a b) = omega (arith, grows_by a, grows_by b)
      grows_by (Or a b) = omega (arith, grows_by a, grows_by b)
      grows_by (Apply op ts) = omega (arith, read_low op, all_grow_by ts)
      grows_by _ = omega (arith, some_most)

      all_grow_by : (ts : Trees) → all_grown h ts < heights ts + most
      all_grow_by no_trees = omega (arith, some_most)
      all_grow_by (a_tree t ts) = omega (arith, grows_by t, all_grow_by ts)

  -- ---- what is held

  module _ (facts : Facts) (facts_are : AreFactsOf by world facts) (earlier : Told) (extends : Extends earlier told) where
    pub earlier_within : (n : Text) → told_height (finite.get earlier n) ≤ h.named n
    earlier_within n = omega (arith, earlier_height (finite.get earlier n) (finite.get told n) (extends n), are.value_told n)

    abbrev AreLow : (Text → Option Value) → (Text → ℕ) → Type 0
    AreLow values most = (a : Text) (v : Value) → values a ≡ Some v → most a ≤ by.depth → value_height v ≤ most a

    seen_attribute : (u : Uid) (o : Option EntityData) → finite.get world.entities u ≡ o → (e : language.Held) → seen o ≡ Some e → AreLow e.attribute h.held
    seen_attribute u None at e is a v here low = cc
    seen_attribute u (Some d) at e is a v here low = are.attribute u d a v at (subst (λ (x : Option language.Held). attribute_in x a ≡ Some v) (sym is) here) low

    seen_tag : (u : Uid) (o : Option EntityData) → finite.get world.entities u ≡ o → (e : language.Held) → seen o ≡ Some e → AreLow e.tag (λ a. h.tagged)
    seen_tag u None at e is a v here low = cc
    seen_tag u (Some d) at e is a v here low = are.tag u d a v at (subst (λ (x : Option language.Held). tag_in x a ≡ Some v) (sym is) here) low

    within_by : (holds : LeafAnswers) → ((v : Variable) → variable_height h v ≤ by.depth → grown_answer h (holds.variable v) ≤ variable_height h v)
        → ((n : Text) (ty : Option ValueType) → grown_answer h (holds.unknown n ty) ≤ h.named n)
        → ((s : SlotId) → grown_answer h (holds.slot s) ≤ 1) → AreWithin h by.depth facts holds
    within_by holds variable unknown slot = record {
      some_named = some_named;
      some_context = some_held;
      variable = variable;
      unknown = unknown;
      slot = slot;
      attribute = λ u e a v at here low. seen_attribute u (finite.get world.entities u) refl e (sym (facts_are.entity u) ∙ at) a v here low;
      tag = λ u e a v at here low. seen_tag u (finite.get world.entities u) refl e (sym (facts_are.entity u) ∙ at) a v here low;
      constructor = λ n is. facts_are.function n ∙ chosen (is_the_constructor n) (Some constructor_function) (function_of by.functions n) is;
      function = λ n f vs v is at here low. are.function n f vs v is (sym (facts_are.function n) ∙ at) here low;
    }

    -- of names alone
    pub names_within : AreWithin h by.depth facts (held_names earlier)
    names_within = within_by (held_names earlier) (λ v low. omega arith) (λ n ty. name_within h (finite.get earlier n) n ty (earlier_within n)) (λ s. omega arith)

    part_within : (p : Part) (n : Text) → grown_answer h (part_held p (finite.get earlier n) n) ≤ h.named n
    part_within (Given u) n = some_named n
    part_within (Missing ty) n = name_within h (finite.get earlier n) n (entity_type ty) (earlier_within n)

    pub context_within : (c : Entries) → context_height h c ≤ by.depth → grown_answer h (context_held facts earlier c) ≤ context_height h c
    context_within NoContext low = name_within h (finite.get earlier (codes "context")) (codes "context") None (earlier_within (codes "context"))
    context_within (WithEntries ks ts) low = grows h by.depth facts (held_names earlier) names_within (Apply (MakeRecord ks) ts) low

    variable_within : (v : Variable) → variable_height h v ≤ by.depth → grown_answer h (variable_held facts q earlier v) ≤ variable_height h v
    variable_within Principal low = part_within q.principal (codes "principal")
    variable_within Action low = part_within q.action (codes "action")
    variable_within Resource low = part_within q.resource (codes "resource")
    variable_within Context low =
        let high = are.context low in
        omega (arith, context_within q.context (omega arith))

    pub question_within : (slots : Slots) → AreWithin h by.depth facts (held_of facts q slots earlier)
    question_within slots =
        within_by (held_of facts q slots earlier) variable_within (λ n ty. name_within h (finite.get earlier n) n ty (earlier_within n)) (λ s. slot_within h (slots s))

pub held_is_within : HeldIsWithin
held_is_within by world facts q told earlier slots h facts_are are extends = question_within by world q told h are facts facts_are earlier extends slots

pub grows_by_highest : GrowsByHighest
grows_by_highest by world q told h most are at_most t = grows_by by world q told h are most at_most t
