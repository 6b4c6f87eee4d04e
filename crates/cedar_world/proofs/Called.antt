-- What is called by a policy with its slots bound, by a tree in which no slot stands, and by the context of a question that a body asks.
use Rattle.std.proofs.Common.{◌≡◌, Bool, true, false, ◌&&◌, Option, Some, None, List, [], ◌∷◌, ◌++◌, inl, inr, refl, subst}
use Rattle.std.specs.List.{list_all}
use Rattle.cedar_language.specs.Uid.{Name, Uid}
use Rattle.cedar_language.specs.Tree.{String, SlotId, Operator, Call, Tree, Lit, Slot, If, And, Or, Apply, Trees, no_trees, a_tree}
use Rattle.cedar_language.specs.Slots.{Slots, tree_slots, trees_slots, bound_slot, bound_tree, bound_trees}
use Rattle.cedar_grammar.specs.Calls.{calls_none_but, calls_only, all_call_only}
use Rattle.cedar_world.specs.Asking.{Entries, Question}
use Rattle.cedar_grammar.specs.UnknownCalls.{unknown_or, named_call, named, all_named}
use Rattle.cedar_world.specs.Bodies.{ask_body}
use Rattle.cedar_grammar.specs.Functions.{is_the_unknown}
use Rattle.cedar_grammar.proofs.HeldSlots.{first_empty, second_empty}
use Rattle.cedar_world.specs.Lookups.{calls_among, all_call_among}
use Rattle.cedar_world.proofs.QuestionParts.{ContextPasses, question_passes}
use Rattle.std.proofs.lemmas.Bool.{and_parts, and_from}
use Rattle.cedar_world.proofs.Lists.{IsAmong}

pub of_each : {A : Type 0} (test : A → Bool) (xs : List A) → list_all test xs ≡ true → (x : A) → IsAmong x xs → test x ≡ true
of_each test [] h x among = absurd among
of_each test (y ∷ ys) h x (inl e) = subst (λ z. test z ≡ true) e (and_parts (test y) (list_all test ys) h).0
of_each test (y ∷ ys) h x (inr a) = of_each test ys (and_parts (test y) (list_all test ys) h).1 x a

-- ---- binding slots

module _ (passes : Name → Bool) (b : Slots) where
  slot_calls : (s : SlotId) (o : Option Uid) → calls_among true passes (bound_slot s o) ≡ true
  slot_calls s None = refl
  slot_calls s (Some u) = refl

  mutual
    -- a tree calls what it calls with its slots bound
    pub bound_calls : (t : Tree) → calls_among true passes (bound_tree b t) ≡ calls_among true passes t
    bound_calls (Slot s) = slot_calls s (b s)
    bound_calls (If t y n) = rw (bound_calls t, bound_calls y, bound_calls n) refl
    bound_calls (And l r) = rw (bound_calls l, bound_calls r) refl
    bound_calls (Or l r) = rw (bound_calls l, bound_calls r) refl
    bound_calls (Apply op ts) = rw (all_bound_call ts) refl
    bound_calls _ = refl

    all_bound_call : (ts : Trees) → all_call_among true passes (bound_trees b ts) ≡ all_call_among true passes ts
    all_bound_call no_trees = refl
    all_bound_call (a_tree t ts) = rw (bound_calls t, all_bound_call ts) refl

-- ---- texts

module _ (fewer passes : Name → Bool) (pass : (name : Name) → fewer name ≡ true → passes name ≡ true) where
  operator_passes : (op : Operator) → calls_none_but fewer op ≡ true → calls_none_but passes op ≡ true
  operator_passes (Call f) h = pass f h
  operator_passes _ h = refl

  mutual
    -- where fewer names pass
    pub fewer_pass : (t : Tree) → calls_only fewer t ≡ true → calls_among true passes t ≡ true
    fewer_pass (If t y n) h =
        let (ht, rest) = and_parts (calls_only fewer t) (calls_only fewer y && calls_only fewer n) h in
        let (hy, hn) = and_parts (calls_only fewer y) (calls_only fewer n) rest in
        and_from _ _ (fewer_pass t ht) (and_from _ _ (fewer_pass y hy) (fewer_pass n hn))
    fewer_pass (And l r) h = let (hl, hr) = and_parts (calls_only fewer l) (calls_only fewer r) h in and_from _ _ (fewer_pass l hl) (fewer_pass r hr)
    fewer_pass (Or l r) h = let (hl, hr) = and_parts (calls_only fewer l) (calls_only fewer r) h in and_from _ _ (fewer_pass l hl) (fewer_pass r hr)
    fewer_pass (Apply op ts) h = let (c, i) = and_parts (calls_none_but fewer op) (all_call_only fewer ts) h in and_from _ _ (operator_passes op c) (all_fewer_pass ts i)
    fewer_pass _ h = refl

    all_fewer_pass : (ts : Trees) → all_call_only fewer ts ≡ true → all_call_among true passes ts ≡ true
    all_fewer_pass no_trees h = refl
    all_fewer_pass (a_tree t ts) h = let (ht, hts) = and_parts (calls_only fewer t) (all_call_only fewer ts) h in and_from _ _ (fewer_pass t ht) (all_fewer_pass ts hts)

module _ (passes : Name → Bool) where
  mutual
    -- no slot stands in the tree
    pub without_slots : (t : Tree) → tree_slots t ≡ [] → calls_among true passes t ≡ true → calls_among false passes t ≡ true
    without_slots (Slot s) e h = absurd (cc e)
    without_slots (If t y n) e h =
        let (ht, rest) = and_parts (calls_among true passes t) (calls_among true passes y && calls_among true passes n) h in
        let (hy, hn) = and_parts (calls_among true passes y) (calls_among true passes n) rest in
        let more = second_empty (tree_slots t) (tree_slots y ++ tree_slots n) e in
        and_from _ _ (without_slots t (first_empty (tree_slots t) (tree_slots y ++ tree_slots n) e) ht)
        (and_from _ _ (without_slots y (first_empty (tree_slots y) (tree_slots n) more) hy) (without_slots n (second_empty (tree_slots y) (tree_slots n) more) hn))
    without_slots (And l r) e h =
        let (hl, hr) = and_parts (calls_among true passes l) (calls_among true passes r) h in
        and_from _ _ (without_slots l (first_empty (tree_slots l) (tree_slots r) e) hl) (without_slots r (second_empty (tree_slots l) (tree_slots r) e) hr)
    without_slots (Or l r) e h =
        let (hl, hr) = and_parts (calls_among true passes l) (calls_among true passes r) h in
        and_from _ _ (without_slots l (first_empty (tree_slots l) (tree_slots r) e) hl) (without_slots r (second_empty (tree_slots l) (tree_slots r) e) hr)
    without_slots (Apply op ts) e h = let (c, i) = and_parts (calls_none_but passes op) (all_call_among true passes ts) h in and_from _ _ c (all_without_slots ts e i)
    without_slots _ e h = refl

    all_without_slots : (ts : Trees) → trees_slots ts ≡ [] → all_call_among true passes ts ≡ true → all_call_among false passes ts ≡ true
    all_without_slots no_trees e h = refl
    all_without_slots (a_tree t ts) e h =
        let (ht, hts) = and_parts (calls_among true passes t) (all_call_among true passes ts) h in
        and_from _ _ (without_slots t (first_empty (tree_slots t) (trees_slots ts) e) ht) (all_without_slots ts (second_empty (tree_slots t) (trees_slots ts) e) hts)

-- ---- the context of a question

module _ (slots : Bool) (passes : Name → Bool) where
  -- a context calls what passes
  abbrev pub ContextCalls : Entries → Type 0
  ContextCalls = ContextPasses (λ ts. all_call_among slots passes ts ≡ true)

  unknown_passes : (b : Bool) (f : Name) (t : Tree) (ts : Trees) → calls_among slots passes (Apply (Call f) (a_tree t ts)) ≡ true → calls_among slots passes (unknown_or b f t ts) ≡ true
  unknown_passes true f (Lit (String n)) no_trees h = refl
  unknown_passes _ f t ts h = h

  call_passes : (op : Operator) (ts : Trees) → calls_among slots passes (Apply op ts) ≡ true → calls_among slots passes (named_call op ts) ≡ true
  call_passes (Call f) (a_tree t ts) h = unknown_passes (is_the_unknown f) f t ts h
  call_passes op ts h = h

  mutual
    named_passes : (t : Tree) → calls_among slots passes t ≡ true → calls_among slots passes (named t) ≡ true
    named_passes (Apply op ts) h =
        let (c, i) = and_parts (calls_none_but passes op) (all_call_among slots passes ts) h in
        call_passes op (all_named ts) (and_from _ _ c (all_named_pass ts i))
    named_passes t h = h

    all_named_pass : (ts : Trees) → all_call_among slots passes ts ≡ true → all_call_among slots passes (all_named ts) ≡ true
    all_named_pass no_trees h = refl
    all_named_pass (a_tree t ts) h = let (ht, hts) = and_parts (calls_among slots passes t) (all_call_among slots passes ts) h in and_from _ _ (named_passes t ht) (all_named_pass ts hts)

  -- the question of a body calls what passes
  pub question_calls : (tree : Tree) (q : Question) → calls_among slots passes tree ≡ true → ask_body tree ≡ Some q → ContextCalls q.context
  question_calls =
      question_passes (λ t. calls_among slots passes t ≡ true) (λ ts. all_call_among slots passes ts ≡ true)
      (λ t ts h. and_parts (calls_among slots passes t) (all_call_among slots passes ts) h) (λ ks ts h. h) all_named_pass
