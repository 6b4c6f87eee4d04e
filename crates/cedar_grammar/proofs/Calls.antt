-- What texts call stands in the table of names.
use Rattle.std.proofs.Common.{◌≡◌, ℕ, ◌⊎◌, inl, inr, zero, suc, Bool, true, false, ◌&&◌, ◌||◌, List, [], ◌∷◌, map, refl, ap, ◌∙◌}
use Rattle.std.specs.List.{list_all}
use Rattle.cedar_language.specs.Uid.{Text, Name, Uid}
use Rattle.cedar_language.specs.Tree as tree
use Rattle.cedar_language.specs.Tree.{Tree, Trees, no_trees, a_tree, Lit, Slot, Apply, Operator, Call, SlotId, PrincipalSlot, ResourceSlot, Variable, Principal, Resource}
use Rattle.cedar_grammar.specs.Token as token
use Rattle.cedar_grammar.specs.Token.{Token, mark}
use Rattle.cedar_grammar.specs.Names.{Names, is_among, is_function}
use Rattle.cedar_grammar.specs.Build.{trees, conjunction}
use Rattle.cedar_grammar.specs.Grammar.{Within}
use Rattle.cedar_grammar.specs.Policy.{Policy, Target, the_entity, the_slot, target_tree, Constraint, anything, equals, within, of_type, of_type_within, constraint_tree, ActionConstraint, any_action, action_equals, action_within_any, action_tree, scope_tree, with_body, condition}
use Rattle.cedar_grammar.specs.Policies.{Each, no_more, one_more, body_of, policy, PolicyWithin}
use Rattle.cedar_grammar.specs.Calls.{is_method, is_in_table, calls_none_but, calls_only, all_call_only, ExprsCallTheTable, ConditionsCallTheTable}
use Rattle.cedar_grammar.proofs.TreesOfTexts.{IsInTable, AllHold, IsKept, within-kept, clauses-kept, joined-kept, conjunction-kept}

module _ (names : Names) where
  abbrev Calls : Tree → Type 0
  Calls t = calls_only (is_in_table names) t ≡ true

  both : (a b : Bool) → a ≡ true → b ≡ true → (a && b) ≡ true
  both a b e f = rw (e, f) refl

  either_first : (a b : Bool) → a ≡ true → (a || b) ≡ true
  either_first a b e = rw e refl

  either_second : (a b : Bool) → b ≡ true → (a || b) ≡ true
  either_second true b e = refl
  either_second false b e = e

  in_table : (p : Name) → (is_function names p ≡ true) ⊎ ((m : Text) × (p ≡ m ∷ []) × (is_among m names.methods ≡ true)) → is_in_table names p ≡ true
  in_table p (inl h) = either_first (is_function names p) (is_method names p) h
  in_table p (inr h) = either_second (is_function names p) (is_method names p) (ap (is_method names) h.1 ∙ h.2)

  operator_passes : (op : Operator) → IsInTable names op → calls_none_but (is_in_table names) op ≡ true
  operator_passes (Call p) h = in_table p h
  operator_passes op h = refl

  all-call : (ts : Trees) → AllHold Calls ts → all_call_only (is_in_table names) ts ≡ true
  all-call no_trees h = refl
  all-call (a_tree t ts) h = both (calls_only (is_in_table names) t) (all_call_only (is_in_table names) ts) h.0 (all-call ts h.1)

  calls-kept : IsKept names Calls
  calls-kept = record {
    literal = λ l. refl;
    variable = λ v. refl;
    slot = λ s. refl;
    if_ = λ a b c e f g. rw (e, f, g) refl;
    and = λ a b e f. both (calls_only (is_in_table names) a) (calls_only (is_in_table names) b) e f;
    or = λ a b e f. both (calls_only (is_in_table names) a) (calls_only (is_in_table names) b) e f;
    apply = λ op ts ok h. both (calls_none_but (is_in_table names) op) (all_call_only (is_in_table names) ts) (operator_passes op ok) (all-call ts h);
  }

  -- ---- scopes

  target_calls : (s : SlotId) (x : Target) → Calls (target_tree s x)
  target_calls s (the_entity u) = refl
  target_calls s the_slot = refl

  constraint_calls : (v : Variable) (s : SlotId) (c : Constraint) → Calls (constraint_tree v s c)
  constraint_calls v s anything = refl
  constraint_calls v s (equals x) = rw (target_calls s x) refl
  constraint_calls v s (within x) = rw (target_calls s x) refl
  constraint_calls v s (of_type p) = refl
  constraint_calls v s (of_type_within p x) = rw (target_calls s x) refl

  literals_call : (us : List Uid) → all_call_only (is_in_table names) (trees (map (λ u. Lit (tree.Entity u)) us)) ≡ true
  literals_call [] = refl
  literals_call (u ∷ us) = literals_call us

  action_calls : (c : ActionConstraint) → Calls (action_tree c)
  action_calls any_action = refl
  action_calls (action_equals u) = refl
  action_calls (action_within_any us) = rw (literals_call us) refl

  abbrev joins : (a b : Tree) → Calls a → Calls b → Calls (conjunction a b)
  joins = conjunction-kept names Calls calls-kept

  scope_calls : (p : Policy) → Calls (scope_tree p)
  scope_calls p =
      joins (conjunction (constraint_tree Principal PrincipalSlot p.principal) (action_tree p.action)) (constraint_tree Resource ResourceSlot p.resource)
      (joins (constraint_tree Principal PrincipalSlot p.principal) (action_tree p.action) (constraint_calls Principal PrincipalSlot p.principal) (action_calls p.action))
      (constraint_calls Resource ResourceSlot p.resource)

  with_body_calls : (scope : Tree) → Calls scope → (xs : List Tree) → AllHold Calls (trees xs) → Calls (with_body scope (body_of xs))
  with_body_calls scope e [] h = e
  with_body_calls scope e (a ∷ xs) h = joins scope _ e (joined-kept names Calls calls-kept a xs h.0 h.1)

pub exprs_call_the_table : ExprsCallTheTable
exprs_call_the_table names n ts t d = within-kept names (Calls names) (calls-kept names) n ts t [] d.0

policy_calls : (names : Names) (n : ℕ) (ts : List Token) (p : Policy) (rest : List Token) → PolicyWithin names n ts p rest → Calls names (condition p)
policy_calls names zero ts p rest d = absurd d
policy_calls names (suc n) ts p rest (policy xs e q a r cs t1 t2 h s d) =
    with_body_calls names _ (scope_calls names (record { effect = e; annotations = []; principal = q; action = a; resource = r; body = body_of cs })) cs
    (clauses-kept names (Calls names) (calls-kept names) (Within names (suc n)) (within-kept names (Calls names) (calls-kept names) (suc n)) t2 cs (mark token.Semicolon ∷ rest) d)

each_calls : (names : Names) (n : ℕ) (ts : List Token) (ps : List Policy) (rest : List Token) → Each (PolicyWithin names n) ts ps rest → list_all (λ p. calls_only (is_in_table names) (condition p)) ps ≡ true
each_calls names n ts ps rest no_more = refl
each_calls names n ts ps rest (one_more {x} {xs} mid d more) =
    both names (calls_only (is_in_table names) (condition x)) (list_all (λ p. calls_only (is_in_table names) (condition p)) xs) (policy_calls names n ts x mid d) (each_calls names n mid xs rest more)

pub conditions_call_the_table : ConditionsCallTheTable
conditions_call_the_table names zero ts ps d = absurd d
conditions_call_the_table names (suc n) ts ps d = each_calls names (suc n) ts ps [] d
