-- What a tree doesn't mention has nothing to do with it.
use Rattle.std.proofs.Common.{◌≡◌, ap, Bool, true, false, Option, None, List, ◌∷◌, refl, ◌∙◌, sym}
use Rattle.std.specs.FinMap as finite
use Rattle.cedar_language.specs.Uid.{Text, Name, Uid}
use Rattle.cedar_language.specs.Tree.{Entity, Variable, Principal, Action, Resource, Context, SlotId, ValueType, Operator, GetAttr, HasAttr, MakeRecord, Tree, Lit, Var, Slot, Unknown, If, And, Or, Apply, Trees, no_trees, a_tree}
use Rattle.cedar_language.specs.Value.{Value, Plain, no_values, a_value, Outcome, Gives, Fails}
use Rattle.cedar_language.specs.Facts.{Facts}
use Rattle.cedar_language.specs.Operators.{applied}
use Rattle.cedar_language.specs.Meaning.{Slots, Request, slot_outcome, apply_of, meaning, meanings, Outcomes, GivesAll, and_of, or_of, if_of, more_of}
use Rattle.cedar_language.specs.Authorization as authorization
use Rattle.cedar_language.specs.Authorization.{request_at}
use Rattle.cedar_partial_evaluation.specs.Settling.{Settling, Open, Errs, Is, kindless, AllAre, and_more, apply_settled, LeafSettlings, or_entry, stated_in, type_known, or_type, settled_in, all_settled_in, types_in}
use Rattle.cedar_partial_evaluation.specs.Partial.{Answer, Evaluated, ResidualTree, Failed, answer_of, LeafAnswers, apply_answer, partial_in, all_partial_in}
use Rattle.cedar_partial_evaluation.specs.Question.{Part, Given, Missing, Entries, NoContext, WithEntries, Question, Told, part_settled, part_held, settled_names, held_names, context_settled, context_held, variable_settled, variable_held, settled_of, held_of}
use Rattle.cedar_partial_evaluation.specs.Filling.{names_told, FillsPart, FillsContext, IsFilling, IsGiven}
use Rattle.cedar_partial_evaluation.specs.Unknowns.{LeafTests, EachLeaf, EachLeafOf, of_unknowns}
use Rattle.cedar_partial_evaluation.specs.Mentions.{mentions_only, is_given, is_known_context, is_known, WithoutUnknowns, KnownTreesSettle, with_names, NamesDontMatter}
use Rattle.cedar_partial_evaluation.specs.Leaves.{is_left, AreKnown, AnswerAlike, SettleAlike, KnownIsNeverLeft, LeavesDontMatter, HasPart, HasContext, HasGiven, MentionedIsMeant}
use Rattle.cedar_partial_evaluation.proofs.Passing.{mentioned_alone, mentioned, all_mentioned, each_weaker}
use Rattle.cedar_partial_evaluation.proofs.Known.{settled_at, answered_at, kindless_all, and_is, or_is, if_is, more_is, applied_is, answers_of, and_answered, or_answered, if_answered, more_answered, apply_answered}
use Rattle.cedar_partial_evaluation.proofs.Sound.{never_open}

-- ---- where nothing is left of leaves, two trees have one outcome

abbrev AreOne : Answer → Answer → Type 0
AreOne p q = (o : Outcome) × (p ≡ answer_of o) × (q ≡ answer_of o)

are_one : (p q : Answer) → is_left p ≡ false → p ≡ q → AreOne p q
are_one (Evaluated v) q h e = (Gives v, refl, sym e)
are_one (ResidualTree r) q h e = cc
are_one (Failed k) q h e = (Fails k, refl, sym e)

outcome_known : (o : Outcome) → is_left (answer_of o) ≡ false
outcome_known (Gives v) = refl
outcome_known (Fails k) = refl

module _ (facts : Facts) where
  module _ (f : Variable → Bool) (slots : Bool) (a b : LeafAnswers) (known : AreKnown f slots a) (alike : AnswerAlike f slots a b) where
    mutual
      one_answer : (t : Tree) → EachLeaf (mentioned_alone f slots) t → AreOne (partial_in facts a t) (partial_in facts b t)
      one_answer (Lit l) h = (Gives (Plain l), refl, refl)
      one_answer (Var v) h = are_one (a.variable v) (b.variable v) (known.variable v h) (alike.variable v h)
      one_answer (Slot s) h = are_one (a.slot s) (b.slot s) (known.slot s h) (alike.slot s h)
      one_answer (Unknown n ty) h = absurd h
      one_answer (If t y n) (h, i, j) =
          let (o, e, e') = one_answer t h in
          let (p, f, f') = one_answer y i in
          let (q, g, g') = one_answer n j in
          (if_of o p q, rw (e, f, g) (if_answered facts o p q y n), rw (e', f', g') (if_answered facts o p q y n))
      one_answer (And l r) (h, i) =
          let (o, e, e') = one_answer l h in
          let (p, f, f') = one_answer r i in
          (and_of o p, rw (e, f) (and_answered facts o p r), rw (e', f') (and_answered facts o p r))
      one_answer (Or l r) (h, i) =
          let (o, e, e') = one_answer l h in
          let (p, f, f') = one_answer r i in
          (or_of o p, rw (e, f) (or_answered facts o p r), rw (e', f') (or_answered facts o p r))
      one_answer (Apply op ts) h =
          let (os, e, e') = all_one_answer ts h in
          (apply_of facts op os, ap (apply_answer facts a op) e ∙ apply_answered facts a op os, ap (apply_answer facts b op) e' ∙ apply_answered facts b op os)

      all_one_answer : (ts : Trees) → EachLeafOf (mentioned_alone f slots) ts →
          (os : Outcomes) × (all_partial_in facts a ts ≡ answers_of os) × (all_partial_in facts b ts ≡ answers_of os)
      all_one_answer no_trees h = (GivesAll no_values, refl, refl)
      all_one_answer (a_tree t ts) (h, i) =
          let (o, e, e') = one_answer t h in
          let (os, f, f') = all_one_answer ts i in
          (more_of o os, rw (e, f) (more_answered facts o os), rw (e', f') (more_answered facts o os))

  -- ---- what is settled

  module _ (f : Variable → Bool) (slots : Bool) (a b : LeafSettlings) (alike : SettleAlike f slots a b) where
    context_open : (op : Operator) (x : Settling) → apply_settled facts op (and_more x (AllAre no_values)) ≡ Open → x ≡ Open
    context_open op Open e = refl
    context_open op Errs e = cc
    context_open op (Is v) e = absurd (never_open (applied facts op (a_value v no_values)) e)

    entry_alike : (op : Operator) (ts : Trees) (x : Settling) → EachLeafOf (mentioned_alone f slots) ts → apply_settled facts op (all_settled_in facts a ts) ≡ x →
        or_entry a op ts x ≡ or_entry b op ts x
    entry_alike (GetAttr n) (a_tree (Var Context) no_trees) Open (h, _) e = alike.in_context h (context_open (GetAttr n) (a.variable Context) e) n
    entry_alike (HasAttr n) (a_tree (Var Context) no_trees) Open (h, _) e = alike.has_in_context h (context_open (HasAttr n) (a.variable Context) e) n
    entry_alike op ts x h e = refl

    variable_typed : (v : Variable) (x : Settling) → f v ≡ true → a.variable v ≡ x → type_known x (a.variable_type v) ≡ type_known x (b.variable_type v)
    variable_typed v Open h e = alike.variable_type v h e
    variable_typed v Errs h e = refl
    variable_typed v (Is w) h e = refl

    one_type : (t : Tree) → EachLeaf (mentioned_alone f slots) t → settled_in facts a t ≡ settled_in facts b t →
        type_known (settled_in facts a t) (stated_in a t) ≡ type_known (settled_in facts b t) (stated_in b t)
    one_type (Unknown n ty) h e = absurd h
    one_type (Var v) h e = variable_typed v (a.variable v) h refl ∙ ap (λ x. type_known x (b.variable_type v)) e
    one_type (Lit l) h e = refl
    one_type (Slot s) h e = ap (λ x. type_known x None) e
    one_type (If t y n) h e = ap (λ x. type_known x None) e
    one_type (And l r) h e = ap (λ x. type_known x None) e
    one_type (Or l r) h e = ap (λ x. type_known x None) e
    one_type (Apply op ts) h e = ap (λ x. type_known x None) e

    mutual
      one_result : (t : Tree) → EachLeaf (mentioned_alone f slots) t → settled_in facts a t ≡ settled_in facts b t
      one_result (Lit l) h = refl
      one_result (Var v) h = alike.variable v h
      one_result (Slot s) h = alike.slot s h
      one_result (Unknown n ty) h = absurd h
      one_result (If t y n) (h, i, j) = rw (one_result t h, one_result y i, one_result n j) refl
      one_result (And l r) (h, i) = rw (one_result l h, one_result r i) refl
      one_result (Or l r) (h, i) = rw (one_result l h, one_result r i) refl
      one_result (Apply op ts) h =
          ap (or_type op (types_in facts a ts)) (entry_alike op ts (apply_settled facts op (all_settled_in facts a ts)) h refl ∙ ap (λ xs. or_entry b op ts (apply_settled facts op xs)) (all_one_result ts h))
          ∙ ap (λ (os : List (Option Name)). or_type op os (or_entry b op ts (apply_settled facts op (all_settled_in facts b ts)))) (all_one_type ts h)

      all_one_result : (ts : Trees) → EachLeafOf (mentioned_alone f slots) ts → all_settled_in facts a ts ≡ all_settled_in facts b ts
      all_one_result no_trees h = refl
      all_one_result (a_tree t ts) (h, i) = rw (one_result t h, all_one_result ts i) refl

      all_one_type : (ts : Trees) → EachLeafOf (mentioned_alone f slots) ts → types_in facts a ts ≡ types_in facts b ts
      all_one_type no_trees h = refl
      all_one_type (a_tree t ts) (h, i) =
          ap (λ (o : Option Name). o ∷ types_in facts a ts) (one_type t h (one_result t h))
          ∙ ap (λ (os : List (Option Name)). type_known (settled_in facts b t) (stated_in b t) ∷ os) (all_one_type ts i)

  -- ---- what is meant

  module _ (test : LeafTests) (a b : Request) (variable : (v : Variable) → test.variable v → a.variable v ≡ b.variable v)
      (slot : (s : SlotId) → test.slot s → a.slots s ≡ b.slots s) (unknown : (n : Text) (ty : Option ValueType) → test.unknown n ty → a.unknown n ty ≡ b.unknown n ty) where
    mutual
      pub one_meaning : (t : Tree) → EachLeaf test t → meaning facts a t ≡ meaning facts b t
      one_meaning (Lit l) h = refl
      one_meaning (Var v) h = ap (λ x. Gives x) (variable v h)
      one_meaning (Slot s) h = ap slot_outcome (slot s h)
      one_meaning (Unknown n ty) h = unknown n ty h
      one_meaning (If t y n) (h, i, j) = rw (one_meaning t h, one_meaning y i, one_meaning n j) refl
      one_meaning (And l r) (h, i) = rw (one_meaning l h, one_meaning r i) refl
      one_meaning (Or l r) (h, i) = rw (one_meaning l h, one_meaning r i) refl
      one_meaning (Apply op ts) h = ap (apply_of facts op) (all_one_meaning ts h)

      all_one_meaning : (ts : Trees) → EachLeafOf test ts → meanings facts a ts ≡ meanings facts b ts
      all_one_meaning no_trees h = refl
      all_one_meaning (a_tree t ts) (h, i) = rw (one_meaning t h, all_one_meaning ts i) refl

pub known_is_never_left : KnownIsNeverLeft
known_is_never_left facts f slots holds known t h =
    let (o, e, _) = one_answer facts f slots holds holds known (record { variable = λ v k. refl; slot = λ s k. refl }) t (mentioned f slots t h) in
    rw e (outcome_known o)

pub leaves_dont_matter : LeavesDontMatter
leaves_dont_matter = record {
  answers = λ facts f slots a b known alike t h. (let (o, e, e') = one_answer facts f slots a b known alike t (mentioned f slots t h) in e ∙ sym e');
  settles = λ facts f slots a b alike t h. one_result facts f slots a b alike t (mentioned f slots t h);
  means = λ facts f slots a b alike t h. one_meaning facts (mentioned_alone f slots) a b alike.variable alike.slot (λ n ty k. absurd k) t (mentioned f slots t h);
}

-- ---- a context without unknown names

abbrev of_nothing : LeafTests
of_nothing = mentioned_alone (λ v. false) false

module _ (facts : Facts) (told : Told) (t : Tree) (h : mentions_only (λ v. false) false t ≡ true) where
  nothing_open : EachLeaf of_nothing t
  nothing_open = mentioned (λ v. false) false t h

  named_alike : (other : Told) → meaning facts (names_told told) t ≡ meaning facts (names_told other) t
  named_alike other = one_meaning facts of_nothing (names_told told) (names_told other) (λ v k. refl) (λ s k. refl) (λ n ty k. absurd k) t nothing_open

  named_answer : partial_in facts (held_names told) t ≡ answer_of (meaning facts (names_told finite.empty) t)
  named_answer = answered_at facts (names_told finite.empty) (held_names told) of_nothing (λ v k. cc) (λ n ty k. absurd k) (λ s k. cc) t nothing_open

  named_settles : settled_in facts (settled_names told) t ≡ kindless (meaning facts (names_told finite.empty) t)
  named_settles = settled_at facts (names_told finite.empty) (settled_names told) of_nothing (λ v k. cc) (λ n ty k. absurd k) (λ s k. cc) t nothing_open

-- ---- where each leaf that passes is settled, the tree is

abbrev IsSettled : Settling → Type 0
IsSettled x = (o : Outcome) × (x ≡ kindless o)

module _ (facts : Facts) (around : LeafSettlings) (test : LeafTests) (variable : (v : Variable) → test.variable v → IsSettled (around.variable v))
    (slot : (s : SlotId) → test.slot s → IsSettled (around.slot s)) (unknown : (n : Text) (ty : Option ValueType) → test.unknown n ty → IsSettled (around.unknown n ty)) where
  mutual
    closed_at : (t : Tree) → EachLeaf test t → IsSettled (settled_in facts around t)
    closed_at (Lit l) h = (Gives (Plain l), refl)
    closed_at (Var v) h = variable v h
    closed_at (Slot s) h = slot s h
    closed_at (Unknown n ty) h = unknown n ty h
    closed_at (If t y n) (h, i, j) =
        let (a, e) = closed_at t h in
        let (b, f) = closed_at y i in
        let (c, g) = closed_at n j in
        (if_of a b c, rw (e, f, g) (if_is a b c))
    closed_at (And l r) (h, i) = let (a, e) = closed_at l h in let (b, f) = closed_at r i in (and_of a b, rw (e, f) (and_is a b))
    closed_at (Or l r) (h, i) = let (a, e) = closed_at l h in let (b, f) = closed_at r i in (or_of a b, rw (e, f) (or_is a b))
    closed_at (Apply op ts) h = let (os, e) = all_closed_at ts h in (apply_of facts op os, applied_is facts around op ts os e)

    all_closed_at : (ts : Trees) → EachLeafOf test ts → (os : Outcomes) × (all_settled_in facts around ts ≡ kindless_all os)
    all_closed_at no_trees h = (GivesAll no_values, refl)
    all_closed_at (a_tree t ts) (h, i) = let (o, e) = closed_at t h in let (os, f) = all_closed_at ts i in (more_of o os, rw (e, f) (more_is o os))

-- ---- a question

part_filled : (p : Part) (o : Option Value) (w : Uid) → FillsPart p o w → HasPart p w
part_filled (Given u) o w h = h
part_filled (Missing ty) o w h = tt

context_filled : (facts : Facts) (c : Entries) (filling : Told) (w : Value) → FillsContext facts c filling w → HasContext facts c w
context_filled facts NoContext filling w h = tt
context_filled facts (WithEntries ks ts) filling w (restricted, given, e) = λ h. named_alike facts finite.empty (Apply (MakeRecord ks) ts) h filling ∙ e

filling_given : (facts : Facts) (q : Question) (filling : Told) (known : authorization.Known) → IsFilling facts q filling known → HasGiven facts q known
filling_given facts q filling known fills = record {
  principal = part_filled q.principal _ known.principal fills.principal;
  action = part_filled q.action _ known.action fills.action;
  resource = part_filled q.resource _ known.resource fills.resource;
  context = context_filled facts q.context filling known.context fills.context;
}

part_known : (p : Part) (o : Option Value) (n : Text) (w : Uid) → HasPart p w → is_given p ≡ true →
    (part_held p o n ≡ Evaluated (Plain (Entity w))) × (part_settled p o ≡ Is (Plain (Entity w)))
part_known (Given u) o n w h k = (rw h refl, rw h refl)
part_known (Missing ty) o n w h k = cc

context_known : (facts : Facts) (told : Told) (c : Entries) (w : Value) → HasContext facts c w → is_known_context c ≡ true → (context_held facts told c ≡ Evaluated w) × (context_settled facts told c ≡ Is w)
context_known facts told NoContext w h k = cc
context_known facts told (WithEntries ks ts) w h k =
    (named_answer facts told (Apply (MakeRecord ks) ts) k ∙ ap answer_of (h k), named_settles facts told (Apply (MakeRecord ks) ts) k ∙ ap kindless (h k))

module _ (facts : Facts) (q : Question) (slots : Slots) (told : Told) (known : authorization.Known) (given : HasGiven facts q known) where
  variable_known : (v : Variable) → is_known q v ≡ true →
      (variable_held facts q told v ≡ Evaluated ((request_at known slots).variable v)) × (variable_settled facts q told v ≡ Is ((request_at known slots).variable v))
  variable_known Principal h = part_known q.principal _ _ known.principal given.principal h
  variable_known Action h = part_known q.action _ _ known.action given.action h
  variable_known Resource h = part_known q.resource _ _ known.resource given.resource h
  variable_known Context h = context_known facts told q.context known.context given.context h

  pub variable_result : (v : Variable) → is_known q v ≡ true → variable_settled facts q told v ≡ Is ((request_at known slots).variable v)
  variable_result v h = (variable_known v h).1

  mentioned_answers : (t : Tree) → mentions_only (is_known q) true t ≡ true → partial_in facts (held_of facts q slots told) t ≡ answer_of (meaning facts (request_at known slots) t)
  mentioned_answers t h =
      answered_at facts (request_at known slots) (held_of facts q slots told) (mentioned_alone (is_known q) true) (λ v k. (variable_known v k).0) (λ n ty k. absurd k) (λ s k. refl) t
      (mentioned (is_known q) true t h)

  mentioned_settles : (t : Tree) → mentions_only (is_known q) true t ≡ true → settled_in facts (settled_of facts q slots told) t ≡ kindless (meaning facts (request_at known slots) t)
  mentioned_settles t h =
      settled_at facts (request_at known slots) (settled_of facts q slots told) (mentioned_alone (is_known q) true) variable_result (λ n ty k. absurd k) (λ s k. refl) t
      (mentioned (is_known q) true t h)

pub mentioned_is_meant : MentionedIsMeant
mentioned_is_meant = record {
  fillings = filling_given;
  answers = mentioned_answers;
  settles = mentioned_settles;
}

-- ---- nothing is open

part_closed : (p : Part) (o : Option Value) → is_given p ≡ true → IsSettled (part_settled p o)
part_closed (Given u) o h = (Gives (Plain (Entity u)), refl)
part_closed (Missing ty) o h = cc

context_closed : (facts : Facts) (told : Told) (c : Entries) → is_known_context c ≡ true → IsSettled (context_settled facts told c)
context_closed facts told NoContext h = cc
context_closed facts told (WithEntries ks ts) h =
    closed_at facts (settled_names told) of_nothing (λ v k. cc) (λ s k. cc) (λ n ty k. absurd k) (Apply (MakeRecord ks) ts) (all_mentioned (λ v. false) false ts h)

variable_closed : (facts : Facts) (q : Question) (told : Told) (v : Variable) → is_known q v ≡ true → IsSettled (variable_settled facts q told v)
variable_closed facts q told Principal h = part_closed q.principal _ h
variable_closed facts q told Action h = part_closed q.action _ h
variable_closed facts q told Resource h = part_closed q.resource _ h
variable_closed facts q told Context h = context_closed facts told q.context h

pub known_trees_settle : KnownTreesSettle
known_trees_settle facts q slots told t h i =
    let (o, is) = closed_at facts (settled_of facts q slots told) (mentioned_alone (is_known q) true) (variable_closed facts q told) (λ s k. (slot_outcome (slots s), refl)) (λ n ty k. absurd k) t (mentioned (is_known q) true t h) in
    never_open o (sym is ∙ i)

pub names_dont_matter : NamesDontMatter
names_dont_matter facts request names t h =
    one_meaning facts (mentioned_alone (λ v. true) true) request (with_names names request) (λ v k. refl) (λ s k. refl) (λ n ty k. absurd k) t (mentioned (λ v. true) true t h)

pub without_unknowns : WithoutUnknowns
without_unknowns told f slots t h = each_weaker (mentioned_alone f slots) (of_unknowns (IsGiven told)) (λ v k. tt) (λ s k. tt) (λ n ty k. absurd k) t (mentioned f slots t h)
