-- Telling more values carries on what is settled.
use Rattle.std.proofs.Common.{◌≡◌, ◌≢◌, Bool, true, false, cond, ◌&&◌, Option, Some, None, List, [], ◌∷◌, refl, sym, ◌∙◌, ap}
use Rattle.std.proofs.lemmas.Bool.{and_parts, and_from}
use Rattle.std.specs.FinMap as finite
use Rattle.cedar_language.specs.Uid.{Text, Name, Uid}
use Rattle.cedar_language.specs.Tree.{Boolean, Long, String, Entity, Variable, Principal, Action, Resource, Context, SlotId, Operator, GetAttr, HasAttr, MakeSet, MakeRecord, Tree, Lit, Var, Slot, Unknown, If, And, Or, Apply, Trees, no_trees, a_tree, ValueType, EntityType, Equal}
use Rattle.cedar_language.specs.Tree as tree
use Rattle.cedar_language.specs.Value.{Value, Plain, SetOf, RecordOf, ExtensionOf, Values, no_values, a_value, Kind, RecordAttrDoesNotExist, UnlinkedSlot}
use Rattle.cedar_language.specs.Order.{same_name, same_text, rising, put, placed, value_cmp}
use Rattle.cedar_language.specs.Facts.{Facts}
use Rattle.cedar_language.specs.Operators.{found, applied}
use Rattle.cedar_language.specs.Meaning.{Slots, slot_outcome}
use Rattle.cedar_partial_evaluation.specs.Settling.{Settling, Open, Errs, Is, kindless, AllAre, and_more, apply_settled, Below, LeafSettlings, or_entry, stated_in, type_of_entity, type_known, or_type, settled_in, all_settled_in, types_in}
use Rattle.cedar_partial_evaluation.specs.MadeAgain.{tree_of, trees_of, IsMadeAgain, HoldsMade}
use Rattle.cedar_partial_evaluation.specs.Partial.{Answer, Evaluated, ResidualTree, Failed, Answers, AllEvaluated, SomeResiduals, SomeFailed, answer_of, best_effort, and_next, is_projectable, are_projectable, LeafAnswers, projected_in, found_tree, entry_answer, has_entry_answer, apply_answer, partial_in, all_partial_in}
use Rattle.cedar_partial_evaluation.specs.Fair.{IsOfType, read, IsStated, IsMadeAnswer, AreMadeLeaves}
use Rattle.std.specs.Prelude.{codes}
use Rattle.std.specs.Cmp.Lexicographic.{pointwise_decides, bytes_decides}
use Rattle.std.specs.declared.cmp.Ordering.{Ordering}
use Rattle.std.specs.declared.cmp.Ordering.TheVariants as ordering
use Rattle.cedar_partial_evaluation.specs.Seam.{Carries}
use Rattle.cedar_partial_evaluation.specs.Prompt.{Meets, Shows, without_kind}
use Rattle.cedar_partial_evaluation.specs.Question.{Part, Given, Missing, Entries, NoContext, WithEntries, Question, Told, entity_type, value_settled, value_held, name_settled, name_held, is_untold, untold_type, part_type, variable_type, settled_names, held_names, is_simple_name, is_simple, are_simple, only_value, entry_settled, has_settled, in_context, has_in_context, part_settled, context_settled, variable_settled, settled_of, part_held, context_held, variable_held, held_of, Extends, AreMadeTold, IsAccepted, TellingCarries}
use Rattle.cedar_partial_evaluation.specs.Unknowns.{fits, types_differ}
use Rattle.cedar_partial_evaluation.specs.Filling.{filled}
use Rattle.cedar_partial_evaluation.proofs.MadeAgain.{made, value_again}
use Rattle.cedar_partial_evaluation.proofs.Alike.{projected_is}
use Rattle.cedar_partial_evaluation.proofs.Sound.{tree_of_is, type_meant}
use Rattle.cedar_partial_evaluation.proofs.Carried.{BelowAll, below_refl, below_is, below_trans, and_mono, or_mono, if_mono, more_mono, apply_mono, raised_in}
use Rattle.cedar_partial_evaluation.proofs.Seam.{residuals_settle, plain_carried, entry_passes}
use Rattle.cedar_partial_evaluation.proofs.Prompt.{is_prompt}

-- where less is known of the leaves, less is settled
module _ (facts : Facts) (a b : LeafSettlings)
    (variable : (v : Variable) → Below (a.variable v) (b.variable v))
    (unknown : (n : Text) (ty : Option ValueType) → Below (a.unknown n ty) (b.unknown n ty))
    (slot : (s : SlotId) → Below (a.slot s) (b.slot s))
    (no_entry : (n : Text) → a.in_context n ≡ Open) (no_has : (n : Text) → a.has_in_context n ≡ Open)
    (no_type : (v : Variable) → a.variable_type v ≡ None) (told_all : (n : Text) → a.untold n ≡ false) where
  no_entries : (op : Operator) (ts : Trees) (x : Settling) → or_entry a op ts x ≡ x
  no_entries (GetAttr n) (a_tree (Var Context) no_trees) Open = no_entry n
  no_entries (HasAttr n) (a_tree (Var Context) no_trees) Open = no_has n
  no_entries op ts x = refl

  none_stated : (t : Tree) → stated_in a t ≡ None
  none_stated (Var v) = no_type v
  none_stated (Unknown n (Some (EntityType ty))) = rw (told_all n) refl
  none_stated t = refl

  -- where no type is stated, types settle nothing besides
  is_untyped : (ty : Name) (x : Settling) (o : Option Name) → o ≡ None →
      or_type (tree.Is ty) (type_known x o ∷ []) (apply_settled facts (tree.Is ty) (and_more x (AllAre no_values))) ≡ apply_settled facts (tree.Is ty) (and_more x (AllAre no_values))
  is_untyped ty Open o e = rw e refl
  is_untyped ty Errs o e = refl
  is_untyped ty (Is v) o e = type_meant (tree.Is ty) (type_of_entity v ∷ []) (applied facts (tree.Is ty) (a_value v no_values))

  not_differ : (o : Option Name) → types_differ o None ≡ false
  not_differ (Some u) = refl
  not_differ None = refl

  equal_untyped : (x y : Settling) (o p : Option Name) → o ≡ None → p ≡ None →
      or_type Equal (type_known x o ∷ type_known y p ∷ []) (apply_settled facts Equal (and_more x (and_more y (AllAre no_values)))) ≡ apply_settled facts Equal (and_more x (and_more y (AllAre no_values)))
  equal_untyped Open Open o p e f = rw e refl
  equal_untyped Open (Is w) o p e f = rw e refl
  equal_untyped (Is v) Open o p e f = rw f (rw (not_differ (type_of_entity v)) refl)
  equal_untyped (Is v) (Is w) o p e f = type_meant Equal (type_of_entity v ∷ type_of_entity w ∷ []) (applied facts Equal (a_value v (a_value w no_values)))
  equal_untyped Errs Open o p e f = refl
  equal_untyped Errs Errs o p e f = refl
  equal_untyped Errs (Is w) o p e f = refl
  equal_untyped Open Errs o p e f = refl
  equal_untyped (Is v) Errs o p e f = refl

  untyped : (op : Operator) (ts : Trees) → or_type op (types_in facts a ts) (apply_settled facts op (all_settled_in facts a ts)) ≡ apply_settled facts op (all_settled_in facts a ts)
  untyped (tree.Is ty) (a_tree s no_trees) = is_untyped ty (settled_in facts a s) (stated_in a s) (none_stated s)
  untyped Equal (a_tree s (a_tree t no_trees)) = equal_untyped (settled_in facts a s) (settled_in facts a t) (stated_in a s) (stated_in a t) (none_stated s) (none_stated t)
  untyped op ts = refl

  settled_plainly : (op : Operator) (ts : Trees) → settled_in facts a (Apply op ts) ≡ apply_settled facts op (all_settled_in facts a ts)
  settled_plainly op ts = ap (or_type op (types_in facts a ts)) (no_entries op ts (apply_settled facts op (all_settled_in facts a ts))) ∙ untyped op ts

  mutual
    pub settled_mono : (t : Tree) → Below (settled_in facts a t) (settled_in facts b t)
    settled_mono (Lit l) = refl
    settled_mono (Slot s) = slot s
    settled_mono (Unknown n ty) = unknown n ty
    settled_mono (Var v) = variable v
    settled_mono (And l r) = and_mono _ _ _ _ (settled_mono l) (settled_mono r)
    settled_mono (Or l r) = or_mono _ _ _ _ (settled_mono l) (settled_mono r)
    settled_mono (If t y n) = if_mono _ _ _ _ _ _ (settled_mono t) (settled_mono y) (settled_mono n)
    settled_mono (Apply op ts) =
        below_trans _ (apply_settled facts op (all_settled_in facts a ts)) _ (below_is _ _ (settled_plainly op ts))
        (below_trans _ (apply_settled facts op (all_settled_in facts b ts)) _
        (apply_mono facts op (all_settled_in facts a ts) (all_settled_in facts b ts) (all_settled_mono ts))
        (raised_in facts b op ts (apply_settled facts op (all_settled_in facts b ts))))

    all_settled_mono : (ts : Trees) → BelowAll (all_settled_in facts a ts) (all_settled_in facts b ts)
    all_settled_mono no_trees = refl
    all_settled_mono (a_tree t ts) = more_mono _ _ _ _ (settled_mono t) (all_settled_mono ts)

  pub read_mono : (p : Answer) → Below (read facts a p) (read facts b p)
  read_mono (Evaluated v) = refl
  read_mono (ResidualTree r) = settled_mono r
  read_mono (Failed k) = refl

pub meets_below : (errs_as : Kind → Type 0) (x : Settling) (p : Answer) → Meets errs_as x p → Below x (without_kind p)
meets_below errs_as Open p m = tt
meets_below errs_as Errs p (k, e, is) = rw e refl
meets_below errs_as (Is v) p m = rw m refl

pub meets_read : (facts : Facts) (around : LeafSettlings) (errs_as : Kind → Type 0) (x : Settling) (p : Answer) → Meets errs_as x p → Below x (read facts around p)
meets_read facts around errs_as Open p m = tt
meets_read facts around errs_as Errs p (k, e, is) = rw e refl
meets_read facts around errs_as (Is v) p m = rw m refl

-- met without an error
abbrev MeetsFine : Settling → Answer → Type 0
MeetsFine x p = Meets (λ k. ⊥) x p

never_met : (x : Settling) (p : Answer) → MeetsFine x p → x ≢ Errs
never_met Open p m h = cc
never_met Errs p (k, e, none) h = none
never_met (Is v) p m h = cc

-- ---- a value, whether it fits or not

value_carries : (facts : Facts) (around : LeafSettlings) (b : Bool) (v : Value) → Below (value_settled b v) (read facts around (value_held b v))
value_carries facts around true v = refl
value_carries facts around false v = tt

value_not : (b : Bool) (v : Value) → value_settled b v ≢ Errs
value_not true v h = cc
value_not false v h = cc

value_made : (facts : Facts) (b : Bool) (v : Value) → IsMadeAgain facts v → IsMadeAnswer facts (value_held b v)
value_made facts true v h = h
value_made facts false v h = tt

value_shows : (b : Bool) (v : Value) → Below (value_settled b v) (without_kind (value_held b v))
value_shows true v = refl
value_shows false v = tt

-- a name told keeps its value
pub name_carries : (facts : Facts) (around : LeafSettlings) (n : Text) (ty : Option ValueType) (o p : Option Value) → ((v : Value) → o ≡ Some v → p ≡ Some v) →
    around.unknown n ty ≡ name_settled p ty → Below (name_settled p ty) (read facts around (name_held o n ty))
name_carries facts around n ty (Some v) p f e = let g : p ≡ Some v = f v refl in rw g (value_carries facts around (fits ty v) v)
name_carries facts around n ty None p f e = below_is _ _ (sym e)

pub name_not : (o : Option Value) (ty : Option ValueType) → name_settled o ty ≢ Errs
name_not (Some v) ty = value_not (fits ty v) v
name_not None ty = λ h. cc

part_not : (p : Part) (o : Option Value) → part_settled p o ≢ Errs
part_not (Given u) o h = cc
part_not (Missing ty) o h = name_not o (entity_type ty) h

pub each_not : (facts : Facts) (q : Question) (later : Told) → context_settled facts later q.context ≢ Errs → (v : Variable) → variable_settled facts q later v ≢ Errs
each_not facts q later ok Principal = part_not q.principal (finite.get later (codes "principal"))
each_not facts q later ok Action = part_not q.action (finite.get later (codes "action"))
each_not facts q later ok Resource = part_not q.resource (finite.get later (codes "resource"))
each_not facts q later ok Context = ok

-- what is settled at a stated type of entities is an entity of it
entity_typed : (ty : Name) (u : Uid) (b : Bool) (v : Value) → same_name u.type_name ty ≡ b → value_settled b (Plain (Entity u)) ≡ Is v → IsOfType ty v
entity_typed ty u true v h e = (u, (let g : Plain (Entity u) ≡ v = cc in sym g), (pointwise_decides bytes_decides u.type_name ty).0 h)
entity_typed ty u false v h e = cc

name_typed : (ty : Name) (o : Option Value) (v : Value) → name_settled o (Some (EntityType ty)) ≡ Is v → IsOfType ty v
name_typed ty (Some (Plain (Entity u))) v e = entity_typed ty u (same_name u.type_name ty) v refl e
name_typed ty (Some (Plain (Boolean b))) v e = cc
name_typed ty (Some (Plain (Long n))) v e = cc
name_typed ty (Some (Plain (String s))) v e = cc
name_typed ty (Some (SetOf vs)) v e = cc
name_typed ty (Some (RecordOf ks vs)) v e = cc
name_typed ty (Some (ExtensionOf x)) v e = cc
name_typed ty None v e = cc

name_made : (facts : Facts) (n : Text) (ty : Option ValueType) (o : Option Value) → ((v : Value) → o ≡ Some v → IsMadeAgain facts v) → IsMadeAnswer facts (name_held o n ty)
name_made facts n ty (Some v) f = value_made facts (fits ty v) v (f v refl)
name_made facts n ty None f = tt

part_made : (facts : Facts) (n : Text) (p : Part) (o : Option Value) → ((v : Value) → o ≡ Some v → IsMadeAgain facts v) → IsMadeAnswer facts (part_held p o n)
part_made facts n (Given u) o f = tt
part_made facts n (Missing ty) o f = name_made facts n (entity_type ty) o f

slot_made : (facts : Facts) (o : Option Uid) → IsMadeAnswer facts (answer_of (slot_outcome o))
slot_made facts (Some u) = tt
slot_made facts None = tt

pub slot_below : (facts : Facts) (around : LeafSettlings) (o : Option Uid) → Below (kindless (slot_outcome o)) (read facts around (answer_of (slot_outcome o)))
slot_below facts around (Some u) = refl
slot_below facts around None = refl

pub names_made : (facts : Facts) (told : Told) → AreMadeTold facts told → AreMadeLeaves facts (held_names told)
names_made facts told h = record {
  variable = λ v. tt;
  unknown = λ n ty. name_made facts n ty (finite.get told n) (h n);
  slot = λ s. tt;
}

context_made : (facts : Facts) (good : HoldsMade facts) (told : Told) → AreMadeTold facts told → (context : Entries) → IsMadeAnswer facts (context_held facts told context)
context_made facts good told h NoContext = name_made facts (codes "context") None (finite.get told (codes "context")) (h (codes "context"))
context_made facts good told h (WithEntries ks ts) = made facts good (held_names told) (names_made facts told h) (Apply (MakeRecord ks) ts)

variable_made : (facts : Facts) (good : HoldsMade facts) (q : Question) (told : Told) → AreMadeTold facts told → (v : Variable) → IsMadeAnswer facts (variable_held facts q told v)
variable_made facts good q told h Principal = part_made facts (codes "principal") q.principal (finite.get told (codes "principal")) (h (codes "principal"))
variable_made facts good q told h Action = part_made facts (codes "action") q.action (finite.get told (codes "action")) (h (codes "action"))
variable_made facts good q told h Resource = part_made facts (codes "resource") q.resource (finite.get told (codes "resource")) (h (codes "resource"))
variable_made facts good q told h Context = context_made facts good told h q.context

pub held_made : (facts : Facts) (good : HoldsMade facts) (q : Question) (slots : Slots) (told : Told) → AreMadeTold facts told → AreMadeLeaves facts (held_of facts q slots told)
held_made facts good q slots told h = record {
  variable = variable_made facts good q told h;
  unknown = λ n ty. name_made facts n ty (finite.get told n) (h n);
  slot = λ s. slot_made facts (slots s);
}

-- entries of what the operands left
pub next_known : (facts : Facts) (p : Answer) (ps : Answers) (vs : Values) → and_next facts p ps ≡ AllEvaluated vs → (v : Value) × (ws : Values) × (p ≡ Evaluated v) × (ps ≡ AllEvaluated ws) × (vs ≡ a_value v ws)
next_known facts (Evaluated v) (AllEvaluated ws) vs h = (v, ws, refl, refl, cc)
next_known facts (Evaluated v) (SomeResiduals rs) vs h = cc
next_known facts (Evaluated v) (SomeFailed k) vs h = cc
next_known facts (ResidualTree r) (AllEvaluated ws) vs h = cc
next_known facts (ResidualTree r) (SomeResiduals rs) vs h = cc
next_known facts (ResidualTree r) (SomeFailed k) vs h = cc
next_known facts (Failed k) ps vs h = cc

module _ (facts : Facts) (good : HoldsMade facts) (q : Question) (slots : Slots) (told later : Told) (extends : Extends told later) (are_made : AreMadeTold facts told) where
  base_carries : Carries facts (settled_names later) (held_names told)
  base_carries = record {
    variable = λ v. tt;
    never_errs = λ v h. (let k : Open ≡ Errs = h in cc);
    unknown = λ n ty. name_carries facts (settled_names later) n ty (finite.get told n) (finite.get later n) (extends n) refl;
    name_never_errs = λ n ty. name_not (finite.get later n) ty;
    typed = λ n ty v e. name_typed ty (finite.get later n) v e;
    slot = λ s. tt;
    in_context = λ a. tt;
    has_in_context = λ a. tt;
    variable_type = λ v ty h. (let k : ◌≡◌ {A = Option Name} None (Some ty) = h in cc);
    untold = λ n ty h. (let k : false ≡ true = h in cc);
  }

  -- the question's leaves without the context's entries
  abbrev weak : LeafSettlings
  weak = filled facts q slots later

  names_below : (around : LeafSettlings) → ((n : Text) (ty : Option ValueType) → around.unknown n ty ≡ name_settled (finite.get later n) ty) → (p : Answer) → Below (read facts (settled_names later) p) (read facts around p)
  names_below around e p = read_mono facts (settled_names later) around (λ v. tt) (λ n ty. below_is _ _ (sym (e n ty))) (λ s. tt) (λ n. refl) (λ n. refl) (λ v. refl) (λ n. refl) p

  variable_carries : (around : LeafSettlings) → ((n : Text) (ty : Option ValueType) → around.unknown n ty ≡ name_settled (finite.get later n) ty) → (context : Entries) →
      Below (context_settled facts later context) (read facts around (context_held facts told context))
  variable_carries around e NoContext = name_carries facts around (codes "context") None (finite.get told (codes "context")) (finite.get later (codes "context")) (extends (codes "context")) (e (codes "context") None)
  variable_carries around e (WithEntries ks ts) =
      below_trans _ (read facts (settled_names later) (partial_in facts (held_names told) (Apply (MakeRecord ks) ts))) _
      (residuals_settle facts good (settled_names later) (held_names told) base_carries (names_made facts told are_made) (Apply (MakeRecord ks) ts))
      (names_below around e (partial_in facts (held_names told) (Apply (MakeRecord ks) ts)))

  part_carries : (around : LeafSettlings) → ((n : Text) (ty : Option ValueType) → around.unknown n ty ≡ name_settled (finite.get later n) ty) → (n : Text) (p : Part) →
      Below (part_settled p (finite.get later n)) (read facts around (part_held p (finite.get told n) n))
  part_carries around e n (Given u) = refl
  part_carries around e n (Missing ty) = name_carries facts around n (entity_type ty) (finite.get told n) (finite.get later n) (extends n) (e n (entity_type ty))

  pub each_carries : (around : LeafSettlings) → ((n : Text) (ty : Option ValueType) → around.unknown n ty ≡ name_settled (finite.get later n) ty) → (v : Variable) →
      Below (variable_settled facts q later v) (read facts around (variable_held facts q told v))
  each_carries around e Principal = part_carries around e (codes "principal") q.principal
  each_carries around e Action = part_carries around e (codes "action") q.action
  each_carries around e Resource = part_carries around e (codes "resource") q.resource
  each_carries around e Context = variable_carries around e q.context

  pub weak_carries : context_settled facts later q.context ≢ Errs → Carries facts weak (held_of facts q slots told)
  weak_carries ok = record {
    variable = each_carries weak (λ n ty. refl);
    never_errs = each_not facts q later ok;
    unknown = λ n ty. name_carries facts weak n ty (finite.get told n) (finite.get later n) (extends n) refl;
    name_never_errs = λ n ty. name_not (finite.get later n) ty;
    typed = λ n ty v e. name_typed ty (finite.get later n) v e;
    slot = λ s. slot_below facts _ (slots s);
    in_context = λ a. tt;
    has_in_context = λ a. tt;
    variable_type = λ v ty h. (let k : ◌≡◌ {A = Option Name} None (Some ty) = h in cc);
    untold = λ n ty h. (let k : false ≡ true = h in cc);
  }

  -- ---- types that are stated

  untold_before : (o p : Option Value) → ((v : Value) → o ≡ Some v → p ≡ Some v) → p ≡ None → o ≡ None
  untold_before (Some v) p f e = let g : p ≡ Some v = f v refl in cc
  untold_before None p f e = refl

  untold_stated : (p : Option Value) (stated : Option Name) (ty : Name) → untold_type p stated ≡ Some ty → (p ≡ None) × (stated ≡ Some ty)
  untold_stated None stated ty h = (refl, h)
  untold_stated (Some v) stated ty h = cc

  untold_none : (p : Option Value) → is_untold p ≡ true → p ≡ None
  untold_none None h = refl
  untold_none (Some v) h = cc

  name_stated : (n : Text) (ty : Name) → finite.get later n ≡ None → IsStated (settled_of facts q slots later) (name_held (finite.get told n) n (Some (EntityType ty))) ty
  name_stated n ty none =
      let before : finite.get told n ≡ None = untold_before (finite.get told n) (finite.get later n) (extends n) none in
      record { name = n; is = rw before refl; unsettled = rw none refl; untold = rw none refl }

  part_stated : (n : Text) (p : Part) (ty : Name) → part_type p (finite.get later n) ≡ Some ty → IsStated (settled_of facts q slots later) (part_held p (finite.get told n) n) ty
  part_stated n (Given u) ty h = cc
  part_stated n (Missing stated) ty h =
      let (none, is) = untold_stated (finite.get later n) stated ty h in
      rw is (name_stated n ty none)

  pub variable_stated : (v : Variable) (ty : Name) → variable_type q later v ≡ Some ty → IsStated (settled_of facts q slots later) (variable_held facts q told v) ty
  variable_stated Principal ty h = part_stated (codes "principal") q.principal ty h
  variable_stated Action ty h = part_stated (codes "action") q.action ty h
  variable_stated Resource ty h = part_stated (codes "resource") q.resource ty h
  variable_stated Context ty h = cc

  pub unknown_stated : (n : Text) (ty : Name) → is_untold (finite.get later n) ≡ true → IsStated (settled_of facts q slots later) (name_held (finite.get told n) n (Some (EntityType ty))) ty
  unknown_stated n ty h = name_stated n ty (untold_none (finite.get later n) h)

  -- in a simple context the entries that are left are plain
  abbrev IsPlainAnswer : Answer → Type 0
  IsPlainAnswer (Evaluated v) = is_projectable (tree_of facts v) ≡ true
  IsPlainAnswer (ResidualTree r) = is_projectable r ≡ true
  IsPlainAnswer (Failed k) = ⊥

  abbrev ArePlainAnswers : Answers → Type 0
  ArePlainAnswers (AllEvaluated vs) = are_projectable (trees_of facts vs) ≡ true
  ArePlainAnswers (SomeResiduals rs) = are_projectable rs ≡ true
  ArePlainAnswers (SomeFailed k) = ⊥

  simple_value : (b : Bool) (v : Value) → (b && is_projectable (tree_of facts v)) ≡ true → IsPlainAnswer (value_held b v)
  simple_value true v h = h
  simple_value false v h = cc

  simple_name : (n : Text) (ty : Option ValueType) (o : Option Value) → ((v : Value) → o ≡ Some v → finite.get later n ≡ Some v) → is_simple_name facts (finite.get later n) ty ≡ true →
      IsPlainAnswer (name_held o n ty)
  simple_name n ty (Some v) f h = let e : finite.get later n ≡ Some v = f v refl in simple_value (fits ty v) v (rw e at h)
  simple_name n ty None f h = refl

  next_plain : (p : Answer) (ps : Answers) → IsPlainAnswer p → ArePlainAnswers ps → ArePlainAnswers (and_next facts p ps)
  next_plain (Evaluated v) (AllEvaluated vs) h k = and_from _ _ h k
  next_plain (Evaluated v) (SomeResiduals rs) h k = and_from _ _ h k
  next_plain (Evaluated v) (SomeFailed e) h k = k
  next_plain (ResidualTree r) (AllEvaluated vs) h k = and_from _ _ h k
  next_plain (ResidualTree r) (SomeResiduals rs) h k = and_from _ _ h k
  next_plain (ResidualTree r) (SomeFailed e) h k = k
  next_plain (Failed e) ps h k = absurd h

  placed_plain : (o : Ordering) (v w : Value) (ws vs : Values) → is_projectable (tree_of facts v) ≡ true → (is_projectable (tree_of facts w) ≡ true) × (are_projectable (trees_of facts ws) ≡ true) → are_projectable (trees_of facts vs) ≡ true →
      are_projectable (trees_of facts (placed o v w ws vs)) ≡ true
  placed_plain ordering.Less v w ws vs h (i, j) k = and_from _ _ h (and_from _ _ i j)
  placed_plain ordering.Equal v w ws vs h (i, j) k = and_from _ _ i j
  placed_plain ordering.Greater v w ws vs h (i, j) k = and_from _ _ i k

  put_plain : (v : Value) (ws : Values) → is_projectable (tree_of facts v) ≡ true → are_projectable (trees_of facts ws) ≡ true → are_projectable (trees_of facts (put v ws)) ≡ true
  put_plain v no_values h k = and_from _ _ h k
  put_plain v (a_value w ws) h k =
      let two = and_parts (is_projectable (tree_of facts w)) (are_projectable (trees_of facts ws)) k in
      placed_plain (value_cmp v w) v w ws (put v ws) h two (put_plain v ws h two.1)

  rising_plain : (vs : Values) → are_projectable (trees_of facts vs) ≡ true → are_projectable (trees_of facts (rising vs)) ≡ true
  rising_plain no_values h = h
  rising_plain (a_value v vs) h =
      let two = and_parts (is_projectable (tree_of facts v)) (are_projectable (trees_of facts vs)) h in
      put_plain v (rising vs) two.0 (rising_plain vs two.1)

  set_plain : (ps : Answers) → ArePlainAnswers ps → IsPlainAnswer (apply_answer facts (held_names told) MakeSet ps)
  set_plain (AllEvaluated vs) h = rising_plain vs h
  set_plain (SomeResiduals rs) h = h
  set_plain (SomeFailed k) h = h

  record_plain : (ks : List Text) (ps : Answers) → ArePlainAnswers ps → IsPlainAnswer (apply_answer facts (held_names told) (MakeRecord ks) ps)
  record_plain ks (AllEvaluated vs) h = h
  record_plain ks (SomeResiduals rs) h = h
  record_plain ks (SomeFailed k) h = h

  mutual
    simple_plain : (t : Tree) → is_simple facts later t ≡ true → IsPlainAnswer (partial_in facts (held_names told) t)
    simple_plain (Lit l) h = refl
    simple_plain (Unknown n ty) h = simple_name n ty (finite.get told n) (extends n) h
    simple_plain (Apply MakeSet ts) h = set_plain (all_partial_in facts (held_names told) ts) (all_simple_plain ts h)
    simple_plain (Apply (MakeRecord ks) ts) h = record_plain ks (all_partial_in facts (held_names told) ts) (all_simple_plain ts h)
    simple_plain _ h = cc

    all_simple_plain : (ts : Trees) → are_simple facts later ts ≡ true → ArePlainAnswers (all_partial_in facts (held_names told) ts)
    all_simple_plain no_trees h = refl
    all_simple_plain (a_tree t ts) h =
        let (ht, hts) = and_parts (is_simple facts later t) (are_simple facts later ts) h in
        next_plain (partial_in facts (held_names told) t) (all_partial_in facts (held_names told) ts) (simple_plain t ht) (all_simple_plain ts hts)

  -- an entry of operands that are all known
  known_step : (b : Bool) (s t : Tree) (o : Option Tree) (v : Value) (p : Option Value) → partial_in facts (held_names told) s ≡ Evaluated v →
      (o ≡ Some t → (w : Value) × (p ≡ Some w) × (partial_in facts (held_names told) t ≡ Evaluated w)) →
      cond b (Some s) o ≡ Some t → (w : Value) × (cond b (Some v) p ≡ Some w) × (partial_in facts (held_names told) t ≡ Evaluated w)
  known_step true s t o v p h f e = let g : s ≡ t = cc in (v, refl, rw g at h)
  known_step false s t o v p h f e = f e

  known_found : (ks : List Text) (ts : Trees) (vs : Values) (a : Text) (t : Tree) → all_partial_in facts (held_names told) ts ≡ AllEvaluated vs →
      found_tree ks ts a ≡ Some t → (v : Value) × (found ks vs a ≡ Some v) × (partial_in facts (held_names told) t ≡ Evaluated v)
  known_found [] ts vs a t h e = cc
  known_found (k ∷ ks) no_trees vs a t h e = cc
  known_found (k ∷ ks) (a_tree s ts) vs a t h e =
      let (v, ws, hs, hts, is) = next_known facts (partial_in facts (held_names told) s) (all_partial_in facts (held_names told) ts) vs h in
      rw is (known_step (same_text k a) s t (found_tree ks ts a) v (found ks ws a) hs (known_found ks ts ws a t hts) e)

  none_step : (b : Bool) (s : Tree) (o : Option Tree) (v : Value) (p : Option Value) → (o ≡ None → p ≡ None) → cond b (Some s) o ≡ None → cond b (Some v) p ≡ None
  none_step true s o v p f e = cc
  none_step false s o v p f e = f e

  known_none : (ks : List Text) (ts : Trees) (vs : Values) (a : Text) → all_partial_in facts (held_names told) ts ≡ AllEvaluated vs →
      found_tree ks ts a ≡ None → found ks vs a ≡ None
  known_none [] ts vs a h e = refl
  known_none (k ∷ ks) no_trees no_values a h e = refl
  known_none (k ∷ ks) no_trees (a_value v vs) a h e = cc
  known_none (k ∷ ks) (a_tree s ts) vs a h e =
      let (v, ws, hs, hts, is) = next_known facts (partial_in facts (held_names told) s) (all_partial_in facts (held_names told) ts) vs h in
      rw is (none_step (same_text k a) s (found_tree ks ts a) v (found ks ws a) (known_none ks ts ws a hts) e)

  -- an entry of operands of which some are left
  abbrev all_left : Answers → Trees
  all_left (AllEvaluated vs) = trees_of facts vs
  all_left (SomeResiduals rs) = rs
  all_left (SomeFailed k) = no_trees

  abbrev NoneRefused : Answers → Type 0
  NoneRefused (SomeFailed k) = ⊥
  NoneRefused _ = Unit {0}

  next_left : (p : Answer) (ps : Answers) (t : Tree) → NoneRefused (and_next facts p ps) → (all_left (and_next facts p ps) ≡ a_tree (best_effort facts p t) (all_left ps)) × NoneRefused ps
  next_left (Evaluated v) (AllEvaluated vs) t h = (refl, tt)
  next_left (Evaluated v) (SomeResiduals rs) t h = (refl, tt)
  next_left (Evaluated v) (SomeFailed e) t h = absurd h
  next_left (ResidualTree r) (AllEvaluated vs) t h = (refl, tt)
  next_left (ResidualTree r) (SomeResiduals rs) t h = (refl, tt)
  next_left (ResidualTree r) (SomeFailed e) t h = absurd h
  next_left (Failed e) ps t h = absurd h

  left_step : (b : Bool) (s t : Tree) (o p : Option Tree) →
      (o ≡ Some t → p ≡ Some (best_effort facts (partial_in facts (held_names told) t) t)) →
      cond b (Some s) o ≡ Some t → cond b (Some (best_effort facts (partial_in facts (held_names told) s) s)) p ≡ Some (best_effort facts (partial_in facts (held_names told) t) t)
  left_step true s t o p f e = let g : s ≡ t = cc in rw g refl
  left_step false s t o p f e = f e

  left_found : (ks : List Text) (ts : Trees) (a : Text) (t : Tree) → NoneRefused (all_partial_in facts (held_names told) ts) → found_tree ks ts a ≡ Some t →
      found_tree ks (all_left (all_partial_in facts (held_names told) ts)) a ≡ Some (best_effort facts (partial_in facts (held_names told) t) t)
  left_found [] ts a t h e = cc
  left_found (k ∷ ks) no_trees a t h e = cc
  left_found (k ∷ ks) (a_tree s ts) a t h e =
      let (is, rest) = next_left (partial_in facts (held_names told) s) (all_partial_in facts (held_names told) ts) s h in
      rw is (left_step (same_text k a) s t (found_tree ks ts a) (found_tree ks (all_left (all_partial_in facts (held_names told) ts)) a) (left_found ks ts a t rest) e)

  left_none_step : (b : Bool) (s r : Tree) (o p : Option Tree) → (o ≡ None → p ≡ None) → cond b (Some s) o ≡ None → cond b (Some r) p ≡ None
  left_none_step true s r o p f e = cc
  left_none_step false s r o p f e = f e

  left_none : (ks : List Text) (ts : Trees) (a : Text) → NoneRefused (all_partial_in facts (held_names told) ts) → found_tree ks ts a ≡ None →
      found_tree ks (all_left (all_partial_in facts (held_names told) ts)) a ≡ None
  left_none [] ts a h e = refl
  left_none (k ∷ ks) no_trees a h e = refl
  left_none (k ∷ ks) (a_tree s ts) a h e =
      let (is, rest) = next_left (partial_in facts (held_names told) s) (all_partial_in facts (held_names told) ts) s h in
      rw is (left_none_step (same_text k a) s _ (found_tree ks ts a) (found_tree ks (all_left (all_partial_in facts (held_names told) ts)) a) (left_none ks ts a rest) e)

  only_value_below : (x y : Settling) → Below x y → Below (only_value x) y
  only_value_below Open y h = tt
  only_value_below Errs y h = tt
  only_value_below (Is v) y h = h

  module _ (then : IsAccepted facts later q.context) (a : Text) where
    none_left : (ks : List Text) (ts rs : Trees) → all_partial_in facts (held_names told) ts ≡ SomeResiduals rs → found_tree ks ts a ≡ None → found_tree ks rs a ≡ None
    none_left ks ts rs h e =
        let n : NoneRefused (all_partial_in facts (held_names told) ts) = rw h tt in
        let g : all_left (all_partial_in facts (held_names told) ts) ≡ rs = rw h refl in
        rw g at (left_none ks ts a n e)

    some_left : (ks : List Text) (ts rs : Trees) (t : Tree) → all_partial_in facts (held_names told) ts ≡ SomeResiduals rs → found_tree ks ts a ≡ Some t →
        found_tree ks rs a ≡ Some (best_effort facts (partial_in facts (held_names told) t) t)
    some_left ks ts rs t h e =
        let n : NoneRefused (all_partial_in facts (held_names told) ts) = rw h tt in
        let g : all_left (all_partial_in facts (held_names told) ts) ≡ rs = rw h refl in
        rw g at (left_found ks ts a t n e)

    some_plain : (ts rs : Trees) → all_partial_in facts (held_names told) ts ≡ SomeResiduals rs → are_simple facts later ts ≡ true → are_projectable rs ≡ true
    some_plain ts rs h s = rw h at (all_simple_plain ts s)

    known_entry : (ks : List Text) (ts : Trees) (vs : Values) (b : Bool) (o : Option Tree) → all_partial_in facts (held_names told) ts ≡ AllEvaluated vs → found_tree ks ts a ≡ o →
        Below (entry_settled facts later b o) (read facts (settled_of facts q slots later) (answer_of (applied facts (GetAttr a) (a_value (RecordOf ks vs) no_values))))
    known_entry ks ts vs b None h e = rw (known_none ks ts vs a h e) refl
    known_entry ks ts vs true (Some t) h e =
        let (v, f, known) = known_found ks ts vs a t h e in
        let below : Below (settled_in facts (settled_names later) t) (read facts (settled_names later) (partial_in facts (held_names told) t)) =
        residuals_settle facts good (settled_names later) (held_names told) base_carries (names_made facts told are_made) t in
        rw f (only_value_below (settled_in facts (settled_names later) t) (Is v) (rw known at below))
    known_entry ks ts vs false (Some t) h e = tt

    best_effort_reads : (p : Answer) (t : Tree) → IsMadeAnswer facts p → IsPlainAnswer p → read facts (settled_names later) p ≡ settled_in facts (settled_names later) (best_effort facts p t)
    best_effort_reads (Evaluated v) t m h = sym (tree_of_is facts (settled_names later) v m)
    best_effort_reads (ResidualTree r) t m h = refl
    best_effort_reads (Failed k) t m h = absurd h

    plain_of : (p : Answer) (t : Tree) → IsPlainAnswer p → is_projectable (best_effort facts p t) ≡ true
    plain_of (Evaluated v) t h = h
    plain_of (ResidualTree r) t h = h
    plain_of (Failed k) t h = absurd h

    found_simple : (ks : List Text) (ts : Trees) (t : Tree) → are_simple facts later ts ≡ true → found_tree ks ts a ≡ Some t → is_simple facts later t ≡ true
    found_simple ks ts t h e = entry_passes (is_simple facts later) (are_simple facts later) (λ s us i. and_parts (is_simple facts later s) (are_simple facts later us) i) ks ts a t h e

    -- a plain tree that is left is evaluated again to no less
    again : (t : Tree) → is_simple facts later t ≡ true →
        Below (settled_in facts (settled_names later) t)
        (read facts (settled_of facts q slots later) (projected_in facts (held_of facts q slots told) (best_effort facts (partial_in facts (held_names told) t) t)))
    again t h =
        let p : Answer = partial_in facts (held_names told) t in
        let simple : IsPlainAnswer p = simple_plain t h in
        let r : Tree = best_effort facts p t in
        below_trans _ (settled_in facts (settled_names later) r) _
        (below_trans _ (read facts (settled_names later) p) _
        (residuals_settle facts good (settled_names later) (held_names told) base_carries (names_made facts told are_made) t)
        (below_is _ _ (best_effort_reads p t (made facts good (held_names told) (names_made facts told are_made) t) simple)))
        (below_trans _ (settled_in facts weak r) _
        (settled_mono facts (settled_names later) weak (λ v. tt) (λ n ty. below_refl _) (λ s. tt) (λ n. refl) (λ n. refl) (λ v. refl) (λ n. refl) r)
        (below_trans _ (read facts weak (projected_in facts (held_of facts q slots told) r)) _
        (plain_carried facts good weak (held_of facts q slots told) (weak_carries then.settled) (held_made facts good q slots told are_made) r (plain_of p t simple))
        (read_mono facts weak (settled_of facts q slots later) (λ v. below_refl _) (λ n ty. below_refl _) (λ s. below_refl _) (λ n. refl) (λ n. refl) (λ v. refl) (λ n. refl)
        (projected_in facts (held_of facts q slots told) r))))

    left_entry : (ks : List Text) (ts rs : Trees) (b : Bool) (o : Option Tree) → all_partial_in facts (held_names told) ts ≡ SomeResiduals rs →
        are_simple facts later ts ≡ b → found_tree ks ts a ≡ o →
        Below (entry_settled facts later b o)
        (read facts (settled_of facts q slots later) (entry_answer facts (held_of facts q slots told) a (Apply (MakeRecord ks) rs) (are_projectable rs) (found_tree ks rs a)))
    left_entry ks ts rs b None h s e = rw (none_left ks ts rs h e) refl
    left_entry ks ts rs true (Some t) h s e =
        rw (some_left ks ts rs t h e, some_plain ts rs h s)
        (only_value_below (settled_in facts (settled_names later) t) _ (again t (found_simple ks ts t s e)))
    left_entry ks ts rs false (Some t) h s e = tt

    left_has : (ks : List Text) (ts rs : Trees) (b : Bool) (o : Option Tree) → all_partial_in facts (held_names told) ts ≡ SomeResiduals rs →
        are_simple facts later ts ≡ b → found_tree ks ts a ≡ o →
        MeetsFine (has_settled b o)
        (has_entry_answer a (Apply (MakeRecord ks) rs) (are_projectable rs) (found_tree ks rs a))
    left_has ks ts rs true None h s e = rw (none_left ks ts rs h e, some_plain ts rs h s) refl
    left_has ks ts rs true (Some t) h s e = rw (some_left ks ts rs t h e, some_plain ts rs h s) refl
    left_has ks ts rs false o h s e = tt

    known_has : (ks : List Text) (ts : Trees) (vs : Values) (b : Bool) (o : Option Tree) → all_partial_in facts (held_names told) ts ≡ AllEvaluated vs → found_tree ks ts a ≡ o →
        MeetsFine (has_settled b o) (answer_of (applied facts (HasAttr a) (a_value (RecordOf ks vs) no_values)))
    known_has ks ts vs true None h e = rw (known_none ks ts vs a h e) refl
    known_has ks ts vs true (Some t) h e = let (v, f, known) = known_found ks ts vs a t h e in rw f refl
    known_has ks ts vs false o h e = tt

    given_entry : (ks : List Text) (ts : Trees) (ps : Answers) → all_partial_in facts (held_names told) ts ≡ ps → NoneRefused ps →
        Below (entry_settled facts later (are_simple facts later ts) (found_tree ks ts a))
        (read facts (settled_of facts q slots later) (apply_answer facts (held_of facts q slots told) (GetAttr a)
        (and_next facts (apply_answer facts (held_names told) (MakeRecord ks) ps) (AllEvaluated no_values))))
    given_entry ks ts (AllEvaluated vs) h n = known_entry ks ts vs (are_simple facts later ts) (found_tree ks ts a) h refl
    given_entry ks ts (SomeResiduals rs) h n = left_entry ks ts rs (are_simple facts later ts) (found_tree ks ts a) h refl refl
    given_entry ks ts (SomeFailed k) h n = absurd n

    given_has : (ks : List Text) (ts : Trees) (ps : Answers) → all_partial_in facts (held_names told) ts ≡ ps → NoneRefused ps →
        MeetsFine (has_settled (are_simple facts later ts) (found_tree ks ts a))
        (apply_answer facts (held_of facts q slots told) (HasAttr a)
        (and_next facts (apply_answer facts (held_names told) (MakeRecord ks) ps) (AllEvaluated no_values)))
    given_has ks ts (AllEvaluated vs) h n = known_has ks ts vs (are_simple facts later ts) (found_tree ks ts a) h refl
    given_has ks ts (SomeResiduals rs) h n = left_has ks ts rs (are_simple facts later ts) (found_tree ks ts a) h refl refl
    given_has ks ts (SomeFailed k) h n = absurd n

    none_refused : (ks : List Text) (ps : Answers) → ((k : Kind) → apply_answer facts (held_names told) (MakeRecord ks) ps ≢ Failed k) → NoneRefused ps
    none_refused ks (AllEvaluated vs) h = tt
    none_refused ks (SomeResiduals rs) h = tt
    none_refused ks (SomeFailed k) h = h k refl

    context_entry : (context : Entries) → IsAccepted facts told context →
        Below (in_context facts later context a)
        (read facts (settled_of facts q slots later) (apply_answer facts (held_of facts q slots told) (GetAttr a) (and_next facts (context_held facts told context) (AllEvaluated no_values))))
    context_entry NoContext ok = tt
    context_entry (WithEntries ks ts) ok =
        given_entry ks ts (all_partial_in facts (held_names told) ts) refl (none_refused ks (all_partial_in facts (held_names told) ts) ok.held)

    context_has : (context : Entries) → IsAccepted facts told context →
        MeetsFine (has_in_context facts later context a)
        (apply_answer facts (held_of facts q slots told) (HasAttr a) (and_next facts (context_held facts told context) (AllEvaluated no_values)))
    context_has NoContext ok = tt
    context_has (WithEntries ks ts) ok =
        given_has ks ts (all_partial_in facts (held_names told) ts) refl (none_refused ks (all_partial_in facts (held_names told) ts) ok.held)

pub telling_carries : TellingCarries
telling_carries facts good q slots told later extends are_made now then = record {
  variable = each_carries facts good q slots told later extends are_made (settled_of facts q slots later) (λ n ty. refl);
  never_errs = each_not facts q later then.settled;
  unknown = λ n ty. name_carries facts (settled_of facts q slots later) n ty (finite.get told n) (finite.get later n) (extends n) refl;
  name_never_errs = λ n ty. name_not (finite.get later n) ty;
  typed = λ n ty v e. name_typed ty (finite.get later n) v e;
  slot = λ s. slot_below facts _ (slots s);
  in_context = λ a. context_entry facts good q slots told later extends are_made then a q.context now;
  has_in_context = λ a. meets_read facts _ _ _ _ (context_has facts good q slots told later extends are_made then a q.context now);
  variable_type = variable_stated facts good q slots told later extends are_made;
  untold = unknown_stated facts good q slots told later extends are_made;
}

name_shows : (o : Option Value) (n : Text) (ty : Option ValueType) → Below (name_settled o ty) (without_kind (name_held o n ty))
name_shows (Some v) n ty = value_shows (fits ty v) v
name_shows None n ty = tt

part_shows : (p : Part) (o : Option Value) (n : Text) → Below (part_settled p o) (without_kind (part_held p o n))
part_shows (Given u) o n = refl
part_shows (Missing ty) o n = name_shows o n (entity_type ty)

pub names_shown : (facts : Facts) (told : Told) → Shows facts (settled_names told) (held_names told)
names_shown facts told = record {
  variable = λ v. tt;
  never_errs = λ v h. (let k : Open ≡ Errs = h in cc);
  unknown = λ n ty. name_shows (finite.get told n) n ty;
  name_never_errs = λ n ty. name_not (finite.get told n) ty;
  slot = λ s. tt;
  in_context = λ a. tt;
  has_in_context = λ a. ((λ h. (let k : Open ≡ Errs = h in cc)), tt);
  variable_type = λ v ty h. (let k : ◌≡◌ {A = Option Name} None (Some ty) = h in cc);
  untold = λ n ty h. (let k : false ≡ true = h in cc);
}

slot_shows : (o : Option Uid) → Meets (λ k. k ≡ UnlinkedSlot) (kindless (slot_outcome o)) (answer_of (slot_outcome o))
slot_shows (Some u) = refl
slot_shows None = (UnlinkedSlot, refl, refl)

-- a plain value projected is itself
plain_again : (facts : Facts) (holds : LeafAnswers) (v : Value) → IsMadeAgain facts v → is_projectable (tree_of facts v) ≡ true →
    projected_in facts holds (tree_of facts v) ≡ Evaluated v
plain_again facts holds v m h = projected_is facts holds (tree_of facts v) h ∙ value_again facts holds v m

module _ (facts : Facts) (good : HoldsMade facts) (q : Question) (slots : Slots) (told : Told) (are_made : AreMadeTold facts told) (ok : IsAccepted facts told q.context) where
  as_told : Extends told told
  as_told n v h = h

  context_shows : (context : Entries) → Below (context_settled facts told context) (without_kind (context_held facts told context))
  context_shows NoContext = name_shows (finite.get told (codes "context")) (codes "context") None
  context_shows (WithEntries ks ts) =
      meets_below _ (settled_in facts (settled_names told) (Apply (MakeRecord ks) ts)) (partial_in facts (held_names told) (Apply (MakeRecord ks) ts))
      (is_prompt facts good (settled_names told) (held_names told) (names_shown facts told) (names_made facts told are_made) (Apply (MakeRecord ks) ts))

  each_shows : (v : Variable) → Below (variable_settled facts q told v) (without_kind (variable_held facts q told v))
  each_shows Principal = part_shows q.principal (finite.get told (codes "principal")) (codes "principal")
  each_shows Action = part_shows q.action (finite.get told (codes "action")) (codes "action")
  each_shows Resource = part_shows q.resource (finite.get told (codes "resource")) (codes "resource")
  each_shows Context = context_shows q.context

  known_now : (t : Tree) (v : Value) → settled_in facts (settled_names told) t ≡ Is v → partial_in facts (held_names told) t ≡ Evaluated v
  known_now t v h = rw h at (is_prompt facts good (settled_names told) (held_names told) (names_shown facts told) (names_made facts told are_made) t)

  module _ (a : Text) where
    entry_known : (ks : List Text) (ts : Trees) (vs : Values) (t : Tree) (x : Settling) → all_partial_in facts (held_names told) ts ≡ AllEvaluated vs → found_tree ks ts a ≡ Some t →
        settled_in facts (settled_names told) t ≡ x → Meets (λ k. k ≡ RecordAttrDoesNotExist) (only_value x) (answer_of (applied facts (GetAttr a) (a_value (RecordOf ks vs) no_values)))
    entry_known ks ts vs t Open h e s = tt
    entry_known ks ts vs t Errs h e s = tt
    entry_known ks ts vs t (Is v) h e s =
        let (w, f, known) = known_found facts good q slots told told as_told are_made ks ts vs a t h e in
        let now : partial_in facts (held_names told) t ≡ Evaluated v = known_now t v s in
        let is : w ≡ v = cc in
        rw (f, is) refl

    known_shows : (ks : List Text) (ts : Trees) (vs : Values) (b : Bool) (o : Option Tree) → all_partial_in facts (held_names told) ts ≡ AllEvaluated vs → found_tree ks ts a ≡ o →
        Meets (λ k. k ≡ RecordAttrDoesNotExist) (entry_settled facts told b o) (answer_of (applied facts (GetAttr a) (a_value (RecordOf ks vs) no_values)))
    known_shows ks ts vs b None h e = (RecordAttrDoesNotExist, rw (known_none facts good q slots told told as_told are_made ks ts vs a h e) refl, refl)
    known_shows ks ts vs true (Some t) h e = entry_known ks ts vs t (settled_in facts (settled_names told) t) h e refl
    known_shows ks ts vs false (Some t) h e = tt

    entry_left : (t : Tree) (x : Settling) → is_simple facts told t ≡ true → settled_in facts (settled_names told) t ≡ x →
        Meets (λ k. k ≡ RecordAttrDoesNotExist) (only_value x) (projected_in facts (held_of facts q slots told) (best_effort facts (partial_in facts (held_names told) t) t))
    entry_left t Open h s = tt
    entry_left t Errs h s = tt
    entry_left t (Is v) h s =
        let now : partial_in facts (held_names told) t ≡ Evaluated v = known_now t v s in
        rw now (plain_again facts (held_of facts q slots told) v (rw now at (made facts good (held_names told) (names_made facts told are_made) t)) (rw now at (simple_plain facts good q slots told told as_told are_made t h)))

    left_shows : (ks : List Text) (ts rs : Trees) (b : Bool) (o : Option Tree) → all_partial_in facts (held_names told) ts ≡ SomeResiduals rs →
        are_simple facts told ts ≡ b → found_tree ks ts a ≡ o →
        Meets (λ k. k ≡ RecordAttrDoesNotExist) (entry_settled facts told b o)
        (entry_answer facts (held_of facts q slots told) a (Apply (MakeRecord ks) rs) (are_projectable rs) (found_tree ks rs a))
    left_shows ks ts rs b None h s e = (RecordAttrDoesNotExist, rw (none_left facts good q slots told told as_told are_made ok a ks ts rs h e) refl, refl)
    left_shows ks ts rs true (Some t) h s e =
        rw (some_left facts good q slots told told as_told are_made ok a ks ts rs t h e, some_plain facts good q slots told told as_told are_made ok a ts rs h s)
        (entry_left t (settled_in facts (settled_names told) t) (found_simple facts good q slots told told as_told are_made ok a ks ts t s e) refl)
    left_shows ks ts rs false (Some t) h s e = tt

    given_shows : (ks : List Text) (ts : Trees) (ps : Answers) → all_partial_in facts (held_names told) ts ≡ ps → NoneRefused facts good q slots told told as_told are_made ps →
        Meets (λ k. k ≡ RecordAttrDoesNotExist) (entry_settled facts told (are_simple facts told ts) (found_tree ks ts a))
        (apply_answer facts (held_of facts q slots told) (GetAttr a) (and_next facts (apply_answer facts (held_names told) (MakeRecord ks) ps) (AllEvaluated no_values)))
    given_shows ks ts (AllEvaluated vs) h n = known_shows ks ts vs (are_simple facts told ts) (found_tree ks ts a) h refl
    given_shows ks ts (SomeResiduals rs) h n = left_shows ks ts rs (are_simple facts told ts) (found_tree ks ts a) h refl refl
    given_shows ks ts (SomeFailed k) h n = absurd n

    entry_shows : (context : Entries) → IsAccepted facts told context → Meets (λ k. k ≡ RecordAttrDoesNotExist) (in_context facts told context a)
        (apply_answer facts (held_of facts q slots told) (GetAttr a) (and_next facts (context_held facts told context) (AllEvaluated no_values)))
    entry_shows NoContext fine = tt
    entry_shows (WithEntries ks ts) fine =
        given_shows ks ts (all_partial_in facts (held_names told) ts) refl
        (none_refused facts good q slots told told as_told are_made ok a ks (all_partial_in facts (held_names told) ts) fine.held)

  pub question_shows : Shows facts (settled_of facts q slots told) (held_of facts q slots told)
  question_shows = record {
    variable = each_shows;
    never_errs = each_not facts q told ok.settled;
    unknown = λ n ty. name_shows (finite.get told n) n ty;
    name_never_errs = λ n ty. name_not (finite.get told n) ty;
    slot = λ s. slot_shows (slots s);
    in_context = λ a. entry_shows a q.context ok;
    has_in_context = λ a.
        let has = context_has facts good q slots told told as_told are_made ok a q.context ok in
        (never_met _ _ has, meets_below _ _ _ has);
    variable_type = variable_stated facts good q slots told told as_told are_made;
    untold = unknown_stated facts good q slots told told as_told are_made;
  }
