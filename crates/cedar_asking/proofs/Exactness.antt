-- What was found of a policy is what its condition answers; and how what is left of it stands.
use Rattle.std.proofs.Common.{◌≡◌, ◌∙◌, refl, sym, subst, Bool, true, false, Option, Some, None, List, codes}
use Rattle.std.specs.FinMap as finite
use Rattle.std.specs.FinMap.{get-empty}
use Rattle.cedar_grammar.specs.Build.{Keyed}
use Rattle.cedar_grammar.specs.Policy.{condition}
use Rattle.cedar_language.specs.Answering.{Effect}
use Rattle.cedar_language.specs.Facts.{Facts}
use Rattle.cedar_language.specs.Order.{text_cmp}
use Rattle.cedar_language.specs.Tree.{Boolean, Long, String, Entity, Variable, Principal, Action, Resource, Context, MakeRecord, Tree, Lit, Var, Slot, Unknown, If, And, Or, Apply, ValueType}
use Rattle.cedar_language.specs.Uid.{Text}
use Rattle.cedar_language.specs.Value.{Value}
use Rattle.cedar_partial_evaluation.specs.Partial.{ResidualTree, LeafAnswers, partial_in}
use Rattle.cedar_partial_evaluation.specs.Question.{Part, Given, Missing, part_held, value_held, name_held, held_names, variable_held, context_held}
use Rattle.cedar_partial_evaluation.specs.ReadUnknowns.{calls_unknown}
use Rattle.cedar_partial_evaluation.specs.Unknowns.{fits}
use Rattle.cedar_world.specs.PlainAnswers.{IsPlainAnswer, ArePlainLeaves, PlainAnswers}
use Rattle.cedar_world.specs.Asking.{Entries, NoContext, WithEntries, Question, Told}
use Rattle.cedar_world.specs.First.{IsData}
use Rattle.cedar_world.specs.Setting.{Setting}
use Rattle.cedar_world.specs.Values.{holds_bad_unknown}
use Rattle.cedar_policy_parts.specs.Bindings.{Bindings, binding_of}
use Rattle.cedar_extensions.specs.Table.{Table}
use Rattle.cedar_evaluator.specs.Asking.{untold, request_held}
use Rattle.cedar_interpreter.specs.Operating.{HasFunctions}
use Rattle.cedar_requests.specs.Holding.{RequestParts}
use Rattle.cedar_evaluator.specs.Evaluations.{Found, Satisfied, Unsatisfied, Erred, Open, Finds}
use Rattle.cedar_evaluator.specs.Residuals.{clause_policy}
use Rattle.cedar_telling.specs.Requests.{IsRequestOf}
use Rattle.cedar_asking.proofs.Plainness.{all_call_none, or_right, slot_plain}
use Rattle.cedar_evaluator.proofs.Taken.{clause_of}

-- ---- what is held of a question is plain

part_plain : (p : Part) (n : Text) → IsPlainAnswer (part_held p None n)
part_plain (Given u) n = tt
part_plain (Missing ty) n = refl

value_plain : (b : Bool) (v : Value) → IsPlainAnswer (value_held b v)
value_plain true v = tt
value_plain false v = tt

name_plain : (n : Text) (ty : Option ValueType) (o : Option Value) → IsPlainAnswer (name_held o n ty)
name_plain n ty None = refl
name_plain n ty (Some v) = value_plain (fits ty v) v

pub none_told : (n : Text) (v : Value) → finite.get {R = text_cmp} finite.empty n ≡ Some v → ⊥
none_told n v h = let no : ◌≡◌ {A = Option Value} None (Some v) = sym (get-empty text_cmp n) ∙ h in cc

pub names_plain : (told : Told) → ArePlainLeaves (held_names told)
names_plain told = record {
  variable = λ v. refl;
  unknown = λ n ty. name_plain n ty (finite.get told n);
  slot = λ s. refl;
}

pub record_calls_none : (c : Entries) → holds_bad_unknown c ≡ false → IsData c → (ks : _) (ts : _) → c ≡ WithEntries ks ts → calls_unknown (Apply (MakeRecord ks) ts) ≡ false
record_calls_none NoContext named given ks ts is = cc
record_calls_none (WithEntries js us) named given ks ts is =
    let same : WithEntries js us ≡ WithEntries ks ts = is in
    subst (λ (c : Entries). calls_in c ≡ false) same (all_call_none us given (or_right _ _ named))
  where
    calls_in : Entries → Bool
    calls_in NoContext = false
    calls_in (WithEntries ks ts) = calls_unknown (Apply (MakeRecord ks) ts)

module _ (law : PlainAnswers) (facts : Facts) where
  pub context_plain : (c : Entries) → holds_bad_unknown c ≡ false → IsData c → (told : Told) → IsPlainAnswer (context_held facts told c)
  context_plain NoContext named given told = name_plain _ None (finite.get told _)
  context_plain (WithEntries ks ts) named given told = law facts (held_names told) (names_plain told) (Apply (MakeRecord ks) ts) (record_calls_none (WithEntries ks ts) named given ks ts refl)

  module _ (by : Setting) (table : Table) (q : Question) (r : RequestParts) (asked : IsRequestOf by table q r) (named : holds_bad_unknown q.context ≡ false) (served : HasFunctions table facts) where
    held_plain : (v : Variable) → IsPlainAnswer (variable_held facts q finite.empty v)
    held_plain Principal = subst (λ o. IsPlainAnswer (part_held q.principal o (codes "principal"))) (sym (get-empty text_cmp (codes "principal"))) (part_plain q.principal (codes "principal"))
    held_plain Action = subst (λ o. IsPlainAnswer (part_held q.action o (codes "action"))) (sym (get-empty text_cmp (codes "action"))) (part_plain q.action (codes "action"))
    held_plain Resource = subst (λ o. IsPlainAnswer (part_held q.resource o (codes "resource"))) (sym (get-empty text_cmp (codes "resource"))) (part_plain q.resource (codes "resource"))
    held_plain Context = context_plain q.context named asked.is_data finite.empty

    pub leaves_plain : (slots : Bindings) → ArePlainLeaves (request_held (untold r) slots)
    leaves_plain slots = record {
      variable = λ v. subst IsPlainAnswer (sym (asked.holds facts served v)) (held_plain v);
      unknown = λ n ty. refl;
      slot = λ s. slot_plain (binding_of slots) s;
    }

-- ---- what was found is what is answered

module _ (law : PlainAnswers) (facts : Facts) (holds : LeafAnswers) (leaves : ArePlainLeaves holds) (t : Tree) (calls : calls_unknown t ≡ false) where
  left_plain : (u : Tree) → partial_in facts holds t ≡ ResidualTree u → calls_unknown u ≡ false
  left_plain u e = subst IsPlainAnswer e (law facts holds leaves t calls)

  pub clause_calls_none : (f : Found) → Finds (partial_in facts holds t) f → calls_unknown (clause_of f) ≡ false
  clause_calls_none Satisfied h = refl
  clause_calls_none Unsatisfied h = refl
  clause_calls_none (Erred e) h = refl
  clause_calls_none (Open r) h = left_plain r h

-- ---- policies of one clause

pub clause_calls : (effect : Effect) (annotations : List (Keyed Text)) (c : Tree) → calls_unknown (condition (clause_policy effect c annotations)) ≡ calls_unknown c
clause_calls effect annotations (Lit (Boolean b)) = refl
clause_calls effect annotations (Lit (Long n)) = refl
clause_calls effect annotations (Lit (String s)) = refl
clause_calls effect annotations (Lit (Entity u)) = refl
clause_calls effect annotations (Var v) = refl
clause_calls effect annotations (Slot s) = refl
clause_calls effect annotations (Unknown n ty) = refl
clause_calls effect annotations (If t y n) = refl
clause_calls effect annotations (And l r) = refl
clause_calls effect annotations (Or l r) = refl
clause_calls effect annotations (Apply op ts) = refl
