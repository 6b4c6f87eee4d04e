-- The answers that the code gives of policies are those to the question.
use Rattle.std.proofs.Common.{◌≡◌, true, None, refl, sym, ◌∙◌, ap}
use Rattle.std.specs.FinMap as finite
use Rattle.cedar_language.specs.Tree.{Variable, SlotId, PrincipalSlot, ResourceSlot, Tree, Var}
use Rattle.cedar_language.specs.Facts.{Facts}
use Rattle.cedar_language.specs.Height.{height, LinkingKeepsHeight}
use Rattle.cedar_language.specs.Meaning.{Slots}
use Rattle.cedar_language.specs.Order.{text_cmp}
use Rattle.cedar_partial_evaluation.specs.Early.{standing_of_answer}
use Rattle.cedar_partial_evaluation.specs.Leaves.{MentionedIsMeant}
use Rattle.cedar_partial_evaluation.specs.LinkingEarly.{StandAlike, LinkingIsWritingEarly}
use Rattle.cedar_partial_evaluation.specs.Mentions.{mentions_only}
use Rattle.cedar_partial_evaluation.specs.Partial.{Answer, Evaluated, ResidualTree, Failed, partial_in}
use Rattle.cedar_partial_evaluation.specs.Question.{held_of}
use Rattle.cedar_grammar.specs.Laws.{LinkConditions}
use Rattle.cedar_grammar.specs.Calls.{calls_only}
use Rattle.cedar_world.specs.Asking.{Question}
use Rattle.cedar_world.specs.Heights.{Heights, grown, BoundTreesGrowAlike}
use Rattle.cedar_world.specs.Question.{IsKnown}
use Rattle.cedar_world.specs.Setting.{Setting, functions_alone}
use Rattle.cedar_grammar.specs.Syntax.{condition}
use Rattle.cedar_asking.proofs.Known.{all_known}
use Rattle.cedar_policy_parts.specs.Bindings.{Bindings, binding_of, unbound}
use Rattle.cedar_extensions.specs.Table.{Table}
use Rattle.cedar_requests.specs.Holding.{RequestParts}
use Rattle.cedar_evaluator.specs.Asking.{untold, request_held}
use Rattle.cedar_interpreter.specs.Holding.{is_evaluated}
use Rattle.cedar_interpreter.specs.Operating.{HasFunctions}
use Rattle.cedar_policy_set.specs.Entries.{Entry, static_policy, template, link}
use Rattle.cedar_evaluator.specs.Evaluations.{bindings_in, condition_in, is_given}
use Rattle.cedar_evaluator.proofs.AskedSo as inquiries
use Rattle.cedar_telling.specs.Requests.{HoldsQuestion, IsRequestOf}
use Rattle.cedar_asking.proofs.InForce.{written_entry}
use Rattle.cedar_asking.proofs.Naming.{no_unknown, is_other, bound_mentions}

-- ---- what is held of the request is what is held of the question

pub nothing_bound : (s : SlotId) → binding_of unbound s ≡ None
nothing_bound PrincipalSlot = refl
nothing_bound ResourceSlot = refl

stand_alike : (a b : Answer) → StandAlike a b → standing_of_answer a ≡ standing_of_answer b
stand_alike (Evaluated v) b h = sym (ap standing_of_answer h)
stand_alike (ResidualTree r) b (s, e) = sym (ap standing_of_answer e)
stand_alike (Failed k) b h = sym (ap standing_of_answer h)

abbrev pub no_slots : Slots
no_slots s = None

module _ (table : Table) (q : Question) (r : RequestParts) (holds : HoldsQuestion table q r) (facts : Facts) (served : HasFunctions table facts) where
  pub held_so : (slots : Bindings) → request_held (untold r) slots ≡ held_of facts q (binding_of slots) finite.empty
  held_so = inquiries.held_so facts q (untold r) finite.empty (holds facts served) (λ n. sym (finite.get-empty text_cmp n))

  unbound_held : request_held (untold r) unbound ≡ held_of facts q no_slots finite.empty
  unbound_held = held_so unbound ∙ (λ i. held_of facts q (λ s. nothing_bound s i) finite.empty)

  -- a policy is answered as it is written
  pub stands_as_written : LinkingIsWritingEarly → LinkConditions → (e : Entry) →
      standing_of_answer (partial_in facts (request_held (untold r) (bindings_in e)) (condition_in e)) ≡ standing_of_answer (partial_in facts (held_of facts q no_slots finite.empty) (condition (written_entry e)))
  stands_as_written early conditions (static_policy s) = ap (λ h. standing_of_answer (partial_in facts h (condition s))) unbound_held
  stands_as_written early conditions (template s) = ap (λ h. standing_of_answer (partial_in facts h (condition s))) unbound_held
  stands_as_written early conditions (link t s b) =
      ap (λ h. standing_of_answer (partial_in facts h (condition s))) (held_so b)
      ∙ stand_alike _ _ (early.answers facts q (binding_of b) finite.empty (condition s))
      ∙ ap (λ c. standing_of_answer (partial_in facts (held_of facts q no_slots finite.empty) c)) (sym (conditions (binding_of b) s))

-- ---- a known question

module _ (meant : MentionedIsMeant) (by : Setting) (table : Table) (q : Question) (r : RequestParts) (asked : IsRequestOf by table q r) (served : HasFunctions table (functions_alone by.functions)) (known : IsKnown q) where
  given : (v : Variable) → is_given (untold r) v ≡ true
  given v =
      let (request, fills) = asked.request known in
      ap is_evaluated (asked.holds (functions_alone by.functions) served v
      ∙ meant.answers (functions_alone by.functions) q no_slots finite.empty request (meant.fillings (functions_alone by.functions) q finite.empty request fills.fills) (Var v) (all_known q asked.is_data known v))

  pub all_given : (t : Tree) → mentions_only (λ v. true) true t ≡ true → mentions_only (is_given (untold r)) true t ≡ true
  all_given t h = let same : is_given (untold r) ≡ (λ v. true) = λ i v. given v i in ap (λ f. mentions_only f true t) same ∙ h

-- ---- policies as they are written

pub height_as_written : LinkConditions → LinkingKeepsHeight → (e : Entry) → height (condition (written_entry e)) ≡ height (condition_in e)
height_as_written conditions keeps (static_policy s) = refl
height_as_written conditions keeps (template s) = refl
height_as_written conditions keeps (link t s b) = ap height (conditions (binding_of b) s) ∙ keeps (binding_of b) (condition s)

pub grown_as_written : LinkConditions → BoundTreesGrowAlike → (h : Heights) (e : Entry) → grown h (condition (written_entry e)) ≡ grown h (condition_in e)
grown_as_written conditions alike h (static_policy s) = refl
grown_as_written conditions alike h (template s) = refl
grown_as_written conditions alike h (link t s b) = ap (grown h) (conditions (binding_of b) s) ∙ alike h (binding_of b) (condition s)

pub names_as_written : LinkConditions → (e : Entry) → calls_only is_other (condition_in e) ≡ true → mentions_only (λ v. true) true (condition (written_entry e)) ≡ true
names_as_written conditions (static_policy s) h = no_unknown is_other (condition s) h
names_as_written conditions (template s) h = no_unknown is_other (condition s) h
names_as_written conditions (link t s b) h =
    ap (mentions_only (λ v. true) true) (conditions (binding_of b) s) ∙ bound_mentions (λ v. true) (binding_of b) (condition s) ∙ no_unknown is_other (condition s) h
