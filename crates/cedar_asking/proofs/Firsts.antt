-- A response says a first answer to the question, and meets the limit at a known one only where a condition is higher.
use Rattle.std.proofs.Common.{◌≡◌, ◌<◌, ℕ, Bool, true, false, ◌&&◌, inl, inr, Option, Some, None, is_some, IsSome, List, [], ◌∷◌, map, All, Contains, refl, sym, ◌∙◌, ap, subst, arith}
use Rattle.std.proofs.lemmas.Bool.{cases_lt}
use Rattle.std.specs.FinMap as finite
use Rattle.std.proofs.lemmas.List.Elements.{All-nil, All-cons, All-head, All-tail}
use Rattle.cedar_language.specs.Uid.{Text}
use Rattle.cedar_language.specs.Value.{Kind}
use Rattle.cedar_language.specs.Facts.{Facts}
use Rattle.cedar_language.specs.Height.{LinkingKeepsHeight}
use Rattle.cedar_language.specs.Answering as answering
use Rattle.cedar_language.specs.Answering.{Judged, decision, in_must, in_may, ids_with}
use Rattle.cedar_partial_evaluation.specs.Early.{standing_of_answer}
use Rattle.cedar_partial_evaluation.specs.Leaves.{KnownIsNeverLeft, MentionedIsMeant}
use Rattle.cedar_partial_evaluation.specs.LinkingEarly.{LinkingIsWritingEarly}
use Rattle.cedar_partial_evaluation.specs.MadeAgain.{HoldsMade}
use Rattle.cedar_partial_evaluation.specs.Mentions.{mentions_only}
use Rattle.cedar_partial_evaluation.specs.Partial.{partial_in}
use Rattle.cedar_partial_evaluation.specs.Question.{held_of}
use Rattle.cedar_grammar.specs.Calls.{calls_only}
use Rattle.cedar_grammar.specs.Laws.{LinkConditions}
use Rattle.cedar_world.specs.Answer.{Answer, ids_of}
use Rattle.cedar_world.specs.Asking.{Question}
use Rattle.cedar_world.specs.First.{NamesNoUnknown, EarlyAnswersStand}
use Rattle.cedar_world.specs.Found.{SaysWhatIsFound}
use Rattle.cedar_world.specs.Heights.{grown, AreWithin, BoundTreesGrowAlike, AsksTooDeep}
use Rattle.cedar_world.specs.Setting.{Setting}
use Rattle.cedar_world.specs.Standing.{StandsEarly, IsJudged, Judges, ErrOnce, AnswersAreMade}
use Rattle.cedar_world.specs.Step.{IsFirstAnswer, SomeInForce}
use Rattle.cedar_grammar.specs.Syntax.{PolicySyntax, condition}
use Rattle.cedar_world.specs.World.{World, in_force_at}
use Rattle.cedar_world.specs.WorldFacts.{AreFactsOf, facts_of}
use Rattle.cedar_entities.specs.declared.store.Entities.{Entities}
use Rattle.cedar_extensions.specs.Table.{Table}
use Rattle.cedar_operators.specs.Store.{HasFacts}
use Rattle.cedar_requests.specs.Holding.{RequestParts}
use Rattle.cedar_evaluator.specs.Asking.{untold, request_held}
use Rattle.cedar_interpreter.proofs.Depths.{held_known, slot_known, known_depth}
use Rattle.cedar_policy_parts.specs.Bindings.{binding_of}
use Rattle.cedar_interpreter.specs.Operating.{HasFunctions, NamesNothing}
use Rattle.cedar_policy_set.specs.Entries.{Entry, static_policy, template, link, Entries, bound_at, IsWhole, policies_of}
use Rattle.cedar_policy_set.specs.Texts.{AreToldBySlots, syntax_in}
use Rattle.cedar_held.specs.PolicyWorlds.{policies_in, FindsAsWorlds}
use Rattle.cedar_replies.specs.Erring.{have_kinds, with_kinds}
use Rattle.cedar_replies.specs.declared.error_kind.ErrorKind.{ErrorKind}
use Rattle.cedar_evaluator.specs.Evaluations.{Kept, AreKept, IsServed, is_given, bindings_in, condition_in}
use Rattle.cedar_evaluator.specs.Responses.{errors_of, holding_of, judged_held}
use Rattle.cedar_evaluator.proofs.KeptOf.{kept_of, of_kept}
use Rattle.cedar_evaluator.proofs.Standings.{judged, is_settled, stands_as_found}
use Rattle.cedar_asking.specs.Answers.{IsSettingOf}
use Rattle.cedar_asking.specs.Erring.{with_failure, SomeAtLimit}
use Rattle.cedar_world.specs.Lookups.{ListsStanding}
use Rattle.cedar_world.proofs.OrdinaryAnswers.{rules_list}
use Rattle.cedar_asking.specs.Laws.{SaysHeld}
use Rattle.cedar_telling.specs.Requests.{IsRequestOf}
use Rattle.cedar_asking.proofs.Errors.{errors_listed, settled_listed, limit_kept}
use Rattle.cedar_asking.proofs.InForce.{written_entry, is_bound, is_there, is_in_force, some_in_force, written_by}
use Rattle.cedar_evaluator.proofs.Lists.{IsAmong, contained, contains, mapped, unmapped}
use Rattle.cedar_asking.proofs.Naming.{is_other, no_unknown, no_call}
use Rattle.cedar_asking.proofs.Sayings.{says_rules}
use Rattle.cedar_asking.proofs.Depths.{depth_grows}
use Rattle.cedar_world.proofs.Written.{held_is_within}
use Rattle.cedar_asking.proofs.Standings.{held_so, stands_as_written, all_given, height_as_written, grown_as_written, names_as_written}

-- each of the list, by its members
pub all_among : {X : Type 0} (P : X → Type 0) (xs : List X) → ((x : X) → IsAmong x xs → P x) → All P xs
all_among P [] h = All-nil P
all_among P (x ∷ xs) h = All-cons P x xs (h x (inl refl)) (all_among P xs (λ y a. h y (inr a)))

pub each_of : {X : Type 0} (P : X → Type 0) (xs : List X) → All P xs → (x : X) → IsAmong x xs → P x
each_of P [] h x a = absurd a
each_of P (y ∷ ys) h x (inl is) = subst P is (All-head P y ys h)
each_of P (y ∷ ys) h x (inr a) = each_of P ys (All-tail P y ys h) x a

pub some_value : {A : Type 0} (o : Option A) → is_some o ≡ true → (x : A) × (o ≡ Some x)
some_value (Some x) h = (x, refl)
some_value None h = cc

pub same_value : {A : Type 0} (x y : A) → Some x ≡ Some y → x ≡ y
same_value x y e = cc

pub same_kind : (k l : Kind) → answering.Erring k ≡ answering.Erring l → k ≡ l
same_kind k l e = cc

pub effect_as_written : (e : Entry) → (written_entry e).effect ≡ (syntax_in e).effect
effect_as_written (static_policy s) = refl
effect_as_written (template s) = refl
effect_as_written (link t s b) = refl

-- no condition of the set names an unknown
abbrev NamesNone : Entries → Type 0
NamesNone es = (id : Text) (e : Entry) → bound_at es id ≡ Some e → calls_only is_other (condition_in e) ≡ true

module _ (r : RequestParts) (store : Entities) (table : Table) (depth : ℕ) where
  module _ (early : LinkingIsWritingEarly) (conditions : LinkConditions) (es : Entries) (whole : IsWhole es) (slots : AreToldBySlots es) (names : NamesNone es) (finds : FindsAsWorlds)
      (ks : List Kept) (kept : AreKept (untold r) store table depth (policies_of es) ks)
      (by : Setting) (world : World) (held : world.policies ≡ policies_in es) (facts : Facts) (has : HasFacts store facts) (served : HasFunctions table facts) (q : Question) (asked : IsRequestOf by table q r) where
    names_nothing : (e : Entry) → calls_only is_other (condition_in e) ≡ true → NamesNothing table (condition_in e)
    names_nothing e h = by_table table.has_unknown _ (no_call (condition_in e) h)
      where
        by_table : (a b : Bool) → b ≡ false → (a && b) ≡ false
        by_table true b n = n
        by_table false b n = refl

    serves : (e : Entry) → calls_only is_other (condition_in e) ≡ true → IsServed (untold r) store table depth facts (condition_in e)
    serves e h = record { entities = has; functions = served; names_nothing = names_nothing e h }

    pub names_none : NamesNoUnknown world
    names_none id s force =
        let (e, at, is, policy) = written_by es whole slots finds world held id s force in
        ap (λ (x : PolicySyntax). mentions_only (λ v. true) true (condition x)) is ∙ names_as_written conditions e (names id e at)

    module _ (settled : (k : Kept) → IsAmong k ks → is_settled k.found ≡ true) where
      each_judged : (j : Judged) → IsAmong j (map judged ks) → IsJudged world (StandsEarly facts q finite.empty) j
      each_judged j a =
          let (k, among, is) = unmapped judged ks j a in
          let (e, in_set, of) = kept_of (untold r) store table depth (policies_of es) ks kept k among in
          let (at, policy) = is_bound es whole e in_set in
          subst (IsJudged world (StandsEarly facts q finite.empty)) is (record {
            syntax = written_entry e.1;
            in_force = ap (in_force_at world.policies) of.id ∙ is_in_force es whole slots finds world held e.0 e.1 at policy;
            effect = effect_as_written e.1 ∙ sym of.effect;
            standing = stands_as_found _ k.found (settled k among) (of.found facts (serves e.1 (names e.0 e.1 at))) ∙ stands_as_written table q r asked.holds facts served early conditions e.1;
          })

      every_judged : (id : Text) → IsSome (in_force_at world.policies id) → (j : Judged) × Contains (map judged ks) j × (j.id ≡ id)
      every_judged id some =
          let (s, force) = some_value (in_force_at world.policies id) some in
          let (e, at, is, policy) = written_by es whole slots finds world held id s force in
          let (k, among, of) = of_kept (untold r) store table depth (policies_of es) ks kept (id, e) (is_there es whole id e at policy) in
          (judged k, contains (map judged ks) (judged k) (mapped judged ks k among), of.id)

      pub judges : Judges world (StandsEarly facts q finite.empty) (map judged ks)
      judges = record { each = all_among _ (map judged ks) each_judged; every = every_judged }

      -- under one id one policy is in force, and it stands in one way
      pub once : ErrOnce (map judged ks)
      once id k l (a, in_a, id_a, errs_a) (b, in_b, id_b, errs_b) =
          let x = each_judged a (contained (map judged ks) a in_a) in
          let y = each_judged b (contained (map judged ks) b in_b) in
          let same : x.syntax ≡ y.syntax = same_value x.syntax y.syntax (sym x.in_force ∙ ap (in_force_at world.policies) (id_a ∙ sym id_b) ∙ y.in_force) in
          same_kind k l
          (sym errs_a ∙ x.standing ∙ ap (λ (s : PolicySyntax). standing_of_answer (partial_in facts (held_of facts q (λ s. None) finite.empty) (condition s))) same ∙ sym y.standing ∙ errs_b)

    -- what a response says lists the errors with which the policies stand, where no bound was met
    pub lists_first : AnswersAreMade → (listed : List (Text × ErrorKind)) (answer : Answer) → SaysHeld (holding_of ks) listed answer → ListsStanding world (StandsEarly facts q finite.empty) answer
    lists_first made listed answer says =
        let settled = settled_listed listed ks says.kinds says.errors in
        rules_list world (StandsEarly facts q finite.empty) (map judged ks) answer (judges settled)
        (says_rules ks made (once settled) answer says.decided says.must says.may (says.erring ∙ ap finite.from_entries (errors_listed listed ks says.errors)))

    -- it says what is found early of each policy in force
    pub says_found : AnswersAreMade → facts ≡ facts_of by world → (listed : List (Text × ErrorKind)) (answer : Answer) → SaysHeld (holding_of ks) listed answer → SaysWhatIsFound by world q answer
    says_found made are listed answer says =
        let settled = settled_listed listed ks says.kinds says.errors in
        let js = map judged ks in (
          js,
          subst (λ f. Judges world (StandsEarly f q finite.empty) js) are (judges settled),
          says_rules ks made (once settled) answer says.decided says.must says.may (says.erring ∙ ap finite.from_entries (errors_listed listed ks says.errors)),
        )

    -- and it is a first answer
    pub says_first : EarlyAnswersStand → AnswersAreMade → AreFactsOf by world facts → HoldsMade facts → (listed : List (Text × ErrorKind)) → have_kinds listed ≡ true → map with_failure listed ≡ errors_of ks → (answer : Answer)
        → answer.decision ≡ decision (judged_held (holding_of ks))
        → answer.must ≡ ids_of (ids_with (in_must (judged_held (holding_of ks))) (judged_held (holding_of ks)))
        → answer.may ≡ ids_of (ids_with (in_may (judged_held (holding_of ks))) (judged_held (holding_of ks)))
        → answer.erring ≡ finite.from_entries (with_kinds listed)
        → IsFirstAnswer by world q answer
    says_first law made are facts_made listed have errors answer decides must may erring =
        let settled = settled_listed listed ks have errors in
        law by world facts q (map judged ks) answer are facts_made names_none asked.is_data asked.request (asked.accepted facts served) (judges settled)
        (says_rules ks made (once settled) answer decides must may (erring ∙ ap finite.from_entries (errors_listed listed ks errors)))

    -- a limit is met by a policy that is in force
    pub meets_in_force : SomeAtLimit (errors_of ks) → SomeInForce world
    meets_in_force (id, c) =
        let (k, among, found) = limit_kept ks id c in
        let (e, in_set, of) = kept_of (untold r) store table depth (policies_of es) ks kept k among in
        some_in_force es whole slots finds world held e in_set

    -- and each evaluation that answers is too deep
    pub meets_limit : KnownIsNeverLeft → MentionedIsMeant → LinkingKeepsHeight → BoundTreesGrowAlike → IsSettingOf table depth by → AreFactsOf by world facts → SomeAtLimit (errors_of ks) → AsksTooDeep by world q
    meets_limit never meant keeps alike setting are (id, c) =
        let (k, among, found) = limit_kept ks id c in
        let (e, in_set, of) = kept_of (untold r) store table depth (policies_of es) ks kept k among in
        let (at, policy) = is_bound es whole e in_set in
        let calls = names e.0 e.1 at in
        let bs = bindings_in e.1 in
        let deep = of.limit found facts (serves e.1 calls) in
        let holds = request_held (untold r) bs in
        let force = is_in_force es whole slots finds world held e.0 e.1 at policy in
        let written = height_as_written conditions keeps e.1 in (
          λ h heights.
              let within : AreWithin h by.depth facts holds =
              subst (AreWithin h by.depth facts) (sym (held_so table q r asked.holds facts served bs)) (held_is_within by world facts q finite.empty finite.empty (binding_of bs) h are heights (λ n v is. is)) in
              let so : grown h (condition (written_entry e.1)) ≡ grown h (condition_in e.1) = grown_as_written conditions alike h e.1 in
              let above : by.depth < grown h (condition_in e.1) = elim (cases_lt by.depth (grown h (condition_in e.1))) [
                | inl high ↦ high
                | inr low ↦ absurd (omega (arith, deep, depth_grows h by.depth facts holds within (condition_in e.1) low, setting.depth_is))
              ] in
              (e.0, written_entry e.1, force, omega (arith, above, so)),
          λ known.
              let given = all_given meant by table q r asked setting.functions known (condition_in e.1) (no_unknown is_other (condition_in e.1) calls) in
              let low = known_depth never facts (is_given (untold r)) true holds (record { variable = λ v. held_known (holds.variable v); slot = λ s i. slot_known (binding_of bs s) }) (condition_in e.1) given in
              (e.0, written_entry e.1, force, omega (arith, deep, low, written, setting.depth_is)),
        )
