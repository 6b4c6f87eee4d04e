-- The unknowns of a question that a text states have no types, since a text names them by calls.
use Rattle.std.proofs.Common.{◌≡◌, Bool, true, false, ◌&&◌, cond, Option, Some, None, List, [], ◌∷◌, refl, subst}
use Rattle.std.specs.Option.{unwrap_or}
use lib.Chars.{codes}
use Rattle.cedar_language.specs.Uid as uid
use Rattle.cedar_language.specs.Uid.{Name}
use Rattle.cedar_language.specs.Tree.{ValueType, String, Operator, MakeRecord, Call, Tree, Lit, Var, Slot, Unknown, If, And, Or, Apply, Trees, no_trees, a_tree}
use Rattle.cedar_partial_evaluation.specs.Unknowns.{EachUnknown, EachUnknownOf}
use Rattle.cedar_grammar.specs.Calls.{calls_none_but, calls_only, all_call_only}
use Rattle.cedar_world.specs.Asking.{Part, Entries, NoContext, WithEntries, Question}
use Rattle.cedar_grammar.specs.UnknownCalls.{unknown_or, named_call, named, all_named}
use Rattle.cedar_world.specs.Bodies.{Fields, zipped, found, if_there, entries_of, question_with, question_fields, question_keys, are_among, ask_body}
use Rattle.cedar_grammar.specs.Functions.{is_the_unknown}
use Rattle.cedar_world.specs.Orders.{text_eq}
use Rattle.cedar_world.proofs.Parts.{same_some}
use Rattle.cedar_asking.specs.Keeping.{StatesNoTypes}
use Rattle.cedar_lemmas.proofs.Booleans.{and_first as and_left, and_second as and_right}

abbrev HasNoType : uid.Text → Option ValueType → Type 0
HasNoType n ty = ty ≡ None

unknown_untyped : (b : Bool) (f : Name) (t : Tree) (ts : Trees) → EachUnknownOf HasNoType (a_tree t ts) → EachUnknown HasNoType (unknown_or b f t ts)
unknown_untyped true f (Lit (String n)) no_trees h = refl
unknown_untyped _ f t ts h = h

call_untyped : (op : Operator) (ts : Trees) → EachUnknownOf HasNoType ts → EachUnknown HasNoType (named_call op ts)
call_untyped (Call f) (a_tree t ts) h = unknown_untyped (is_the_unknown f) f t ts h
call_untyped op ts h = h

module _ (passes : Name → Bool) where
  -- where no unknown stands
  mutual
    none_stands : (t : Tree) → calls_only passes t ≡ true → EachUnknown HasNoType t
    none_stands (Lit l) h = tt
    none_stands (Var v) h = tt
    none_stands (Slot s) h = tt
    none_stands (Unknown n ty) h = cc
    none_stands (If t y n) h =
        let rest = and_right (calls_only passes t) (calls_only passes y && calls_only passes n) h in
        (none_stands t (and_left _ _ h), none_stands y (and_left _ _ rest), none_stands n (and_right (calls_only passes y) _ rest))
    none_stands (And l r) h = (none_stands l (and_left _ _ h), none_stands r (and_right (calls_only passes l) _ h))
    none_stands (Or l r) h = (none_stands l (and_left _ _ h), none_stands r (and_right (calls_only passes l) _ h))
    none_stands (Apply op ts) h = none_stand ts (and_right (calls_none_but passes op) _ h)

    none_stand : (ts : Trees) → all_call_only passes ts ≡ true → EachUnknownOf HasNoType ts
    none_stand no_trees h = tt
    none_stand (a_tree t ts) h = (none_stands t (and_left _ _ h), none_stand ts (and_right (calls_only passes t) _ h))

  -- and where calls are read as unknowns
  mutual
    untyped : (t : Tree) → calls_only passes t ≡ true → EachUnknown HasNoType (named t)
    untyped (Apply op ts) h = call_untyped op (all_named ts) (all_untyped ts (and_right (calls_none_but passes op) _ h))
    untyped (Lit l) h = tt
    untyped (Var v) h = tt
    untyped (Slot s) h = tt
    untyped (Unknown n ty) h = cc
    untyped (If t y n) h = none_stands (If t y n) h
    untyped (And l r) h = none_stands (And l r) h
    untyped (Or l r) h = none_stands (Or l r) h

    all_untyped : (ts : Trees) → all_call_only passes ts ≡ true → EachUnknownOf HasNoType (all_named ts)
    all_untyped no_trees h = tt
    all_untyped (a_tree t ts) h = (untyped t (and_left _ _ h), all_untyped ts (and_right (calls_only passes t) _ h))

  -- ---- the context of a question

  one_of : (b : Bool) (u t : Tree) (rest : Option Tree) → cond b (Some u) rest ≡ Some t → calls_only passes u ≡ true → (rest ≡ Some t → calls_only passes t ≡ true) → calls_only passes t ≡ true
  one_of true u t rest is h later = let same : u ≡ t = cc in subst (λ x. calls_only passes x ≡ true) same h
  one_of false u t rest is h later = later is

  found_calls : (key : uid.Text) (ks : List uid.Text) (ts : Trees) (t : Tree) → found key (zipped ks ts) ≡ Some t → all_call_only passes ts ≡ true → calls_only passes t ≡ true
  found_calls key [] ts t is h = cc
  found_calls key (k ∷ ks) no_trees t is h = cc
  found_calls key (k ∷ ks) (a_tree u us) t is h =
      one_of (text_eq key k) u t (found key (zipped ks us)) is (and_left _ _ h) (λ later. found_calls key ks us t later (and_right (calls_only passes u) _ h))

  of_record : (t : Tree) (c : Option Entries) → if_there entries_of (Some t) ≡ Some c → calls_only passes t ≡ true → StatesNoTypes (unwrap_or c NoContext)
  of_record (Apply (MakeRecord ks) ts) c is h =
      let same : Some (WithEntries ks (all_named ts)) ≡ c = cc in
      subst (λ x. StatesNoTypes (unwrap_or x NoContext)) same (all_untyped ts (and_right (calls_none_but passes (MakeRecord ks)) _ h))
  of_record t c is h = cc

  of_optional : (o : Option Tree) (c : Option Entries) → if_there entries_of o ≡ Some c → ((t : Tree) → o ≡ Some t → calls_only passes t ≡ true) → StatesNoTypes (unwrap_or c NoContext)
  of_optional None c is h = let same : None ≡ c = cc in subst (λ x. StatesNoTypes (unwrap_or x NoContext)) same tt
  of_optional (Some t) c is h = of_record t c is (h t refl)

  of_parts : (p a r : Option Part) (c : Option (Option Entries)) (q : Question) → question_with p a r c ≡ Some q → ((e : Option Entries) → c ≡ Some e → StatesNoTypes (unwrap_or e NoContext)) → StatesNoTypes q.context
  of_parts (Some p) (Some a) (Some r) (Some c) q is h =
      subst (λ (x : Question). StatesNoTypes x.context) (same_some _ q is) (h c refl)
  of_parts (Some p) (Some a) (Some r) None q is h = cc
  of_parts (Some p) (Some a) None c q is h = cc
  of_parts (Some p) None r c q is h = cc
  of_parts None a r c q is h = cc

  of_fields : (fs : Fields) (q : Question) → question_fields fs ≡ Some q → ((key : uid.Text) (t : Tree) → found key fs ≡ Some t → calls_only passes t ≡ true) → StatesNoTypes q.context
  of_fields fs q is h = of_parts _ _ _ _ q is (λ e there. of_optional _ e there (h (codes "context")))

  if_among : (b : Bool) (fs : Fields) (q : Question) → cond b (question_fields fs) None ≡ Some q → question_fields fs ≡ Some q
  if_among true fs q h = h
  if_among false fs q h = cc

  pub question_untyped : (tree : Tree) (q : Question) → calls_only passes tree ≡ true → ask_body tree ≡ Some q → StatesNoTypes q.context
  question_untyped (Apply (MakeRecord ks) ts) q calls asks =
      of_fields (zipped ks ts) q (if_among (are_among question_keys (zipped ks ts)) (zipped ks ts) q asks)
      (λ key t there. found_calls key ks ts t there (and_right (calls_none_but passes (MakeRecord ks)) _ calls))
  question_untyped _ q calls asks = cc
