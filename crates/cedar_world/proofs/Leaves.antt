-- What is settled of a question when it is asked is what each known question says that fills it.
use Rattle.std.proofs.Common.{◌≡◌, Bool, true, false, ◌&&◌, Option, Some, None, List, refl, sym, ◌∙◌, ap, subst, codes, true≢false}
use Rattle.std.proofs.lemmas.Bool.{and_from, and_parts, or_parts}
use Rattle.std.specs.FinMap as map
use Rattle.std.specs.Cmp.Lexicographic.{pointwise_decides, bytes_decides}
use Rattle.cedar_language.specs.Uid.{Text, Name, Uid}
use Rattle.cedar_language.specs.Tree.{Entity, Variable, Principal, Action, Resource, Context, GetAttr, HasAttr, MakeRecord, Tree, Lit, Unknown, Apply, Trees, no_trees, a_tree}
use Rattle.cedar_language.specs.Value.{Value, Plain, RecordOf, Values, no_values, a_value, RecordAttrDoesNotExist}
use Rattle.cedar_language.specs.Facts.{Facts}
use Rattle.cedar_language.specs.Operators.{found, applied, or_fails, is_there}
use Rattle.cedar_language.specs.Authorization.{Known, request_at}
use Rattle.cedar_partial_evaluation.specs.Settling.{Settling, Is, Settlings, SomeOpen, SomeErrs, AllAre, kindless, Below, apply_settled, LeafSettlings, settled_in, all_settled_in, leaf_settlings_of}
use Rattle.cedar_partial_evaluation.specs.Fair.{IsOfType}
use Rattle.cedar_partial_evaluation.specs.Partial.{found_tree}
use Rattle.cedar_partial_evaluation.specs.Question.{settled_names, only_value, entry_settled, has_settled, are_simple, context_settled, in_context, has_in_context, part_settled, part_type, variable_settled, variable_type, settled_of}
use Rattle.cedar_partial_evaluation.specs.Mentions.{mentions_only, all_mention_only, is_given, is_known_context, is_known}
use Rattle.cedar_partial_evaluation.specs.Filling.{names_told, FillsPart, FillsContext, IsFilling}
use Rattle.cedar_partial_evaluation.specs.Linking.{no_slots}
use Rattle.cedar_partial_evaluation.proofs.Passing.{mentioned, data_in}
use Rattle.cedar_partial_evaluation.proofs.Known.{meaning_is_settled}
use Rattle.cedar_partial_evaluation.proofs.Sound.{found_is_at, not_found_is_at}
use Rattle.cedar_partial_evaluation.proofs.Carried.{below_trans, below_is}
use Rattle.cedar_partial_evaluation.proofs.Question.{settled_mono}
use Rattle.cedar_grammar.specs.Syntax.{PolicySyntax, condition}
use Rattle.cedar_world.specs.Orders.{text_eq}
use Rattle.cedar_world.specs.Asking.{Part, Given, Missing, Entries, NoContext, WithEntries, Question, Told}
use Rattle.cedar_world.specs.Question.{is_missing, has_name, IsKnown}
use Rattle.cedar_world.specs.Bodies.{is_restricted, are_restricted, some_name, some_name_of}
use Rattle.cedar_world.specs.Setting.{means}
use Rattle.cedar_world.specs.First.{IsData}
use Rattle.cedar_world.proofs.Maps.{itself}
use Rattle.cedar_world.proofs.Agreeing.{LeavesAgree, tree_agrees}

part_agrees : (p : Part) (o told : Option Value) (u : Uid) → told ≡ None → FillsPart p o u → Below (part_settled p told) (Is (Plain (Entity u)))
part_agrees (Given v) o told u e h = rw h refl
part_agrees (Missing ty) o told u e h = rw e tt

part_typed : (p : Part) (o told : Option Value) (u : Uid) (ty : Name) → FillsPart p o u → part_type p told ≡ Some ty → u.type_name ≡ ty
part_typed (Missing (Some y)) o None u ty (is, fit) e = let same : y ≡ ty = cc in (pointwise_decides bytes_decides u.type_name y).0 fit ∙ same
part_typed (Missing y) o (Some v) u ty h e = cc
part_typed _ o _ u ty h e = cc

-- ---- entries of a context

only_below : (x y : Settling) → Below x y → Below (only_value x) y
only_below (Is v) y h = h
only_below _ y h = tt

record_is : (facts : Facts) (ks : List Text) (xs : Settlings) (w : Value) → apply_settled facts (MakeRecord ks) xs ≡ Is w → (vs : Values) × (xs ≡ AllAre vs) × (w ≡ RecordOf ks vs)
record_is facts ks SomeOpen w h = cc
record_is facts ks SomeErrs w h = cc
record_is facts ks (AllAre vs) w h = (vs, refl, cc)

module _ (facts : Facts) (told : Told) (untold : (n : Text) → map.get told n ≡ None) (filling : Told) where
  -- once its names have their values
  abbrev closed : LeafSettlings
  closed = leaf_settlings_of (names_told filling)

  data_agrees : (t : Tree) → Below (settled_in facts (settled_names told) t) (settled_in facts closed t)
  data_agrees t = settled_mono facts (settled_names told) closed (λ v. tt) (λ n ty. rw (untold n) tt) (λ s. tt) (λ n. refl) (λ n. refl) (λ v. refl) (λ n. refl) t

  record_meant : (ks : List Text) (ts : Trees) (w : Value) → FillsContext facts (WithEntries ks ts) filling w → settled_in facts closed (Apply (MakeRecord ks) ts) ≡ Is w
  record_meant ks ts w (restricted, given, means_it) = meaning_is_settled facts (names_told filling) (Apply (MakeRecord ks) ts) ∙ ap kindless means_it

  context_agrees : (c : Entries) (w : Value) → FillsContext facts c filling w → Below (context_settled facts told c) (Is w)
  context_agrees NoContext w h = rw (untold _) tt
  context_agrees (WithEntries ks ts) w h = subst (Below (context_settled facts told (WithEntries ks ts))) (record_meant ks ts w h) (data_agrees (Apply (MakeRecord ks) ts))

  module _ (ks : List Text) (ts : Trees) (vs : Values) (a : Text) (are : all_settled_in facts closed ts ≡ AllAre vs) where
    entry_agrees : (simple : Bool) (o : Option Tree) → found_tree ks ts a ≡ o → Below (entry_settled facts told simple o) (kindless (or_fails RecordAttrDoesNotExist (found ks vs a)))
    entry_agrees simple None e = rw (not_found_is_at facts closed ks ts vs a are e) refl
    entry_agrees false (Some t) e = tt
    entry_agrees true (Some t) e =
        let (v, f, is) = found_is_at facts closed ks ts vs a t are e in
        rw f (only_below (settled_in facts (settled_names told) t) (Is v) (below_trans _ (settled_in facts closed t) _ (data_agrees t) (below_is _ _ is)))

    key_agrees : (simple : Bool) (o : Option Tree) → found_tree ks ts a ≡ o → Below (has_settled simple o) (kindless (is_there (or_fails RecordAttrDoesNotExist (found ks vs a))))
    key_agrees true None e = rw (not_found_is_at facts closed ks ts vs a are e) refl
    key_agrees true (Some t) e = let (v, f, is) = found_is_at facts closed ks ts vs a t are e in rw f refl
    key_agrees false o e = tt

  in_context_agrees : (c : Entries) (w : Value) (a : Text) → FillsContext facts c filling w → Below (in_context facts told c a) (kindless (applied facts (GetAttr a) (a_value w no_values)))
  in_context_agrees NoContext w a h = tt
  in_context_agrees (WithEntries ks ts) w a h =
      let (vs, are, is) = record_is facts ks (all_settled_in facts closed ts) w (record_meant ks ts w h) in
      rw is (entry_agrees ks ts vs a are (are_simple facts told ts) (found_tree ks ts a) refl)

  has_in_context_agrees : (c : Entries) (w : Value) (a : Text) → FillsContext facts c filling w → Below (has_in_context facts told c a) (kindless (applied facts (HasAttr a) (a_value w no_values)))
  has_in_context_agrees NoContext w a h = tt
  has_in_context_agrees (WithEntries ks ts) w a h =
      let (vs, are, is) = record_is facts ks (all_settled_in facts closed ts) w (record_meant ks ts w h) in
      rw is (key_agrees ks ts vs a are (are_simple facts told ts) (found_tree ks ts a) refl)

-- ---- the question

module _ (facts : Facts) (q : Question) (told : Told) (untold : (n : Text) → map.get told n ≡ None) (filling : Told) (request : Known) (fills : IsFilling facts q filling request) where
  variable_agrees : (v : Variable) → Below (variable_settled facts q told v) (Is ((request_at request no_slots).variable v))
  variable_agrees Principal = part_agrees q.principal _ _ request.principal (untold _) fills.principal
  variable_agrees Action = part_agrees q.action _ _ request.action (untold _) fills.action
  variable_agrees Resource = part_agrees q.resource _ _ request.resource (untold _) fills.resource
  variable_agrees Context = context_agrees facts told untold filling q.context request.context fills.context

  variable_typed : (v : Variable) (ty : Name) → variable_type q told v ≡ Some ty → IsOfType ty ((request_at request no_slots).variable v)
  variable_typed Principal ty h = (request.principal, refl, part_typed q.principal _ _ request.principal ty fills.principal h)
  variable_typed Action ty h = (request.action, refl, part_typed q.action _ _ request.action ty fills.action h)
  variable_typed Resource ty h = (request.resource, refl, part_typed q.resource _ _ request.resource ty fills.resource h)
  variable_typed Context ty h = cc

  leaves_agree : LeavesAgree facts (settled_of facts q no_slots told) (request_at request no_slots)
  leaves_agree = record {
    variable = variable_agrees;
    slot = λ s. refl;
    in_context = λ a. in_context_agrees facts told untold filling q.context request.context a fills.context;
    has_in_context = λ a. has_in_context_agrees facts told untold filling q.context request.context a fills.context;
    variable_type = variable_typed;
  }

  -- what is settled is what is meant once the question is filled
  pub condition_agrees : (t : Tree) → mentions_only (λ v. true) true t ≡ true → Below (settled_in facts (settled_of facts q no_slots told) t) (kindless (means facts request t))
  condition_agrees t h = tree_agrees facts (settled_of facts q no_slots told) (request_at request no_slots) leaves_agree t (mentioned (λ v. true) true t h)

-- ---- nothing is missing, and no name is unknown

part_there : (p : Part) (n : Text) → (is_missing p && text_eq n n) ≡ false → is_given p ≡ true
part_there (Given u) n h = refl
part_there (Missing ty) n h = absurd (true≢false (sym (itself n) ∙ h))

mutual
  named_nothing : (t : Tree) → is_restricted t ≡ true → ((n : Text) → some_name (text_eq n) t ≡ false) → mentions_only (λ v. false) false t ≡ true
  named_nothing (Lit l) r h = refl
  named_nothing (Unknown n ty) r h = absurd (true≢false (sym (itself n) ∙ h n))
  named_nothing (Apply op ts) r h = all_named_nothing ts (data_in op ts r).0 h
  named_nothing _ r h = cc

  all_named_nothing : (ts : Trees) → are_restricted ts ≡ true → ((n : Text) → some_name_of (text_eq n) ts ≡ false) → all_mention_only (λ v. false) false ts ≡ true
  all_named_nothing no_trees r h = refl
  all_named_nothing (a_tree t ts) r h =
      and_from (mentions_only (λ v. false) false t) (all_mention_only (λ v. false) false ts)
      (named_nothing t (and_parts (is_restricted t) _ r).0 (λ n. (or_parts (some_name (text_eq n) t) _ (h n)).0))
      (all_named_nothing ts (and_parts (is_restricted t) _ r).1 (λ n. (or_parts (some_name (text_eq n) t) _ (h n)).1))

context_known : (c : Entries) → IsData c → ((n : Text) → has_name c n ≡ false) → is_known_context c ≡ true
context_known NoContext r h = absurd (true≢false (sym (itself (codes "context")) ∙ h (codes "context")))
context_known (WithEntries ks ts) r h = all_named_nothing ts r h

pub all_known : (q : Question) → IsData q.context → IsKnown q → (v : Variable) → is_known q v ≡ true
all_known q r h Principal = part_there q.principal (codes "principal") (or_parts _ _ (h (codes "principal"))).0
all_known q r h Action = part_there q.action (codes "action") (or_parts _ _ (or_parts (is_missing q.principal && text_eq (codes "action") (codes "principal")) _ (h (codes "action"))).1).0
all_known q r h Resource =
    part_there q.resource (codes "resource")
    (or_parts _ _ (or_parts (is_missing q.action && text_eq (codes "resource") (codes "action")) _ (or_parts (is_missing q.principal && text_eq (codes "resource") (codes "principal")) _ (h (codes "resource"))).1).1).0
all_known q r h Context =
    context_known q.context r
    (λ n. (or_parts (is_missing q.resource && text_eq n (codes "resource")) _ (or_parts (is_missing q.action && text_eq n (codes "action")) _ (or_parts (is_missing q.principal && text_eq n (codes "principal")) _ (h n)).1).1).1)

-- what mentions no name mentions then nothing that is missing
pub mentions_known : (q : Question) → IsData q.context → IsKnown q → (s : PolicySyntax) → mentions_only (λ v. true) true (condition s) ≡ true → mentions_only (is_known q) true (condition s) ≡ true
mentions_known q of_data known s h =
    let same : is_known q ≡ (λ v. true) = λ i v. all_known q of_data known v i in
    ap (λ f. mentions_only f true (condition s)) same ∙ h
