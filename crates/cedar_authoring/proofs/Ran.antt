-- Sessions that are given one more command, or further ones, and scripts of one more test.
use Rattle.std.proofs.Common.{◌≡◌, ◌↔◌, ℕ, suc, ◌+◌, ◌<◌, codes, Bool, true, false, not, cond, ◌&&◌, List, [], ◌∷◌, ◌++◌, map, length, take, get_or, string_bytes, count_by, All, refl, sym, ap, subst, ◌∙◌, append_assoc, arith}
use Rattle.std.proofs.lemmas.List.{append-nil, take_more, map-append, length-map}
use Rattle.std.proofs.lemmas.List.Elements.{All-append, All-cons}
use Rattle.std.proofs.lemmas.List.Sums.{sum_by-append}
use Rattle.std.specs.Fmt.{decimal}
use Rattle.std.specs.Int.{from_bool}
use Rattle.cedar_language.specs.Uid.{Text}
use Rattle.cedar_world.specs.Commands.{Reply}
use Rattle.cedar_world.specs.Session.{Command, Answers, no_command, a_command}
use Rattle.cedar_world.specs.Setting.{Setting}
use Rattle.cedar_world.specs.World.{World}
use Rattle.cedar_scripts.specs.declared.script.Script.{Script}
use Rattle.cedar_scripts.specs.declared.script.Step.{Step}
use Rattle.cedar_scripts.specs.declared.script.Test.{Test}
use Rattle.cedar_authoring.specs.Scripts.{AreAnswered, IsAnswered, IsFed, TellsScript, TellsTests, Went, answers_step, as_expected, command_of, failed_of, passed_of}

-- ---- replies

and_true : (a : Bool) → a && true ≡ a
and_true true = refl
and_true false = refl

and_assoc : (a b c : Bool) → (a && b) && c ≡ a && (b && c)
and_assoc true b c = refl
and_assoc false b c = refl

expected-append : (ss ts : List Step) (rs qs : List Reply) → length ss ≡ length rs → as_expected (ss ++ ts) (rs ++ qs) ≡ as_expected ss rs && as_expected ts qs
expected-append [] ts [] qs same = refl
expected-append [] ts (r ∷ rs) qs same = absurd (omega arith)
expected-append (s ∷ ss) ts [] qs same = absurd (omega arith)
expected-append (s ∷ ss) ts (r ∷ rs) qs same =
    let fewer : length ss ≡ length rs = omega arith in
    ap (λ b. answers_step s r && b) (expected-append ss ts rs qs fewer) ∙ sym (and_assoc (answers_step s r) (as_expected ss rs) (as_expected ts qs))

-- ---- one test

pub passed_one : (b : Bool) → from_bool b ≡ passed_of (b ∷ [])
passed_one true = refl
passed_one false = refl

pub failed_one : (b : Bool) → from_bool (not b) ≡ failed_of (b ∷ [])
failed_one true = refl
failed_one false = refl

pub one_each : (b : Bool) → from_bool b + from_bool (not b) ≡ 1
one_each true = refl
one_each false = refl

-- ---- sessions

module _ (by : Setting) where
  length-answers : {old new : World} (commands : List Command) (replies : List Reply) → Answers by old commands replies new → length commands ≡ length replies
  length-answers _ _ no_command = refl
  length-answers _ _ (a_command {commands = commands} {replies = replies} step others) = ap suc (length-answers commands replies others)

  pub Answers-append : {old mid new : World} {commands further : List Command} {replies more : List Reply}
      → Answers by old commands replies mid → Answers by mid further more new → Answers by old (commands ++ further) (replies ++ more) new
  Answers-append no_command later = later
  Answers-append (a_command step others) later = a_command step (Answers-append others later)

  no_reply : All IsFed []
  no_reply k d within = absurd (omega (arith, within))

  pub nothing_answered : (world : World) → AreAnswered by world [] world true
  nothing_answered world = record { replies = []; answered = no_command; expected = refl; fed = no_reply }

  -- first these commands, then those
  pub AreAnswered-append : (old mid new : World) (ss ts : List Step) (a b : Bool) → AreAnswered by old ss mid a → AreAnswered by mid ts new b → AreAnswered by old (ss ++ ts) new (a && b)
  AreAnswered-append old mid new ss ts a b first later =
      let P : List Command → Type 0 = λ commands. Answers by old commands (first.replies ++ later.replies) new in
      let long : length ss ≡ length first.replies = sym (length-map ss command_of) ∙ length-answers (map command_of ss) first.replies first.answered in
      record {
        replies = first.replies ++ later.replies;
        answered = subst P (sym (map-append command_of ss ts)) (Answers-append first.answered later.answered);
        expected = ap (λ x. x && b) first.expected ∙ (ap (λ y. as_expected ss first.replies && y) later.expected ∙ sym (expected-append ss ts first.replies later.replies long));
        fed = All-append IsFed first.replies later.replies first.fed later.fed;
      }

  one_answered : (old new : World) (s : Step) (b : Bool) → IsAnswered by old s new b → AreAnswered by old (s ∷ []) new b
  one_answered old new s b one = record {
    replies = one.0 ∷ [];
    answered = a_command one.1 no_command;
    expected = one.2 ∙ sym (and_true (answers_step s one.0));
    fed = All-cons IsFed one.0 [] one.3 no_reply;
  }

  -- one more of a list of commands
  pub AreAnswered-more : (old mid new : World) (ss : List Step) (i : ℕ) (s : Step) (a b : Bool) → i < length ss → s ≡ get_or ss i s
      → AreAnswered by old (take i ss) mid a → IsAnswered by mid s new b → AreAnswered by old (take (i + 1) ss) new (a && b)
  AreAnswered-more old mid new ss i s a b within is first one =
      let P : List Step → Type 0 = λ ts. AreAnswered by old ts new (a && b) in
      let taken : take i ss ++ s ∷ [] ≡ take (i + 1) ss = ap (λ y. take i ss ++ y ∷ []) is ∙ sym (take_more ss i s within) in
      subst P taken (AreAnswered-append old mid new (take i ss) (s ∷ []) a b first (one_answered mid new s b one))

  -- ---- scripts

  TellsTests-push : (set_up : List Step) (ts : List Test) (ps : List Bool) (t : Test) (p : Bool) (told more : Text)
      → TellsTests by set_up ts ps told → Went by set_up t p more → TellsTests by set_up (ts ++ t ∷ []) (ps ++ p ∷ []) (told ++ more)
  TellsTests-push set_up [] [] t p told more h went = (more, [], went, refl, ap (λ x. x ++ more) h ∙ sym (append-nil more))
  TellsTests-push set_up [] (q ∷ qs) t p told more h went = absurd h
  TellsTests-push set_up (u ∷ us) [] t p told more h went = absurd h
  TellsTests-push set_up (u ∷ us) (q ∷ qs) t p told more h went =
      (h.0, h.1 ++ more, h.2, TellsTests-push set_up us qs t p h.1 more h.3 went, ap (λ x. x ++ more) h.4 ∙ append_assoc h.0 h.1 more)

  -- so many tests passed and failed, and each is told of
  pub record Counted (set_up : List Step) (ts : List Test) (told : Text) (passed failed : ℕ) : Type 0 where
    pub results : List Bool
    pub tests : TellsTests by set_up ts results told
    pub passes : passed ≡ passed_of results
    pub fails : failed ≡ failed_of results

  count-push : (p : Bool → Bool) (ps : List Bool) (q : Bool) → count_by p (ps ++ q ∷ []) ≡ count_by p ps + count_by p (q ∷ [])
  count-push p ps q = sum_by-append (λ x. cond (p x) 1 0) ps (q ∷ [])

  -- the script of one more test
  pub Counted-more : (set_up : List Step) (ts : List Test) (i : ℕ) (t : Test) (p : Bool) (old more new : Text) (passed failed : ℕ) → i < length ts → t ≡ get_or ts i t
      → Counted set_up (take i ts) old passed failed → Went by set_up t p more → new ≡ old ++ more
      → Counted set_up (take (i + 1) ts) new (passed + passed_of (p ∷ [])) (failed + failed_of (p ∷ []))
  Counted-more set_up ts i t p old more new passed failed within is so_far went added =
      let P : List Test → Type 0 = λ us. TellsTests by set_up us (so_far.results ++ p ∷ []) new in
      let Q : Text → Type 0 = λ told. TellsTests by set_up (take i ts ++ t ∷ []) (so_far.results ++ p ∷ []) told in
      let taken : take i ts ++ t ∷ [] ≡ take (i + 1) ts = ap (λ y. take i ts ++ y ∷ []) is ∙ sym (take_more ts i t within) in
      record {
        results = so_far.results ++ p ∷ [];
        tests = subst P taken (subst Q (sym added) (TellsTests-push set_up (take i ts) so_far.results t p old more so_far.tests went));
        passes = ap (λ n. n + passed_of (p ∷ [])) so_far.passes ∙ sym (count-push (λ q. q) so_far.results p);
        fails = ap (λ n. n + failed_of (p ∷ [])) so_far.fails ∙ sym (count-push not so_far.results p);
      }

  -- what is told of all tests, and how many passed
  pub Counted-told : (script : Script) (told whole : Text) (passed failed status : ℕ) → Counted script.set_up.items script.tests.items told passed failed
      → whole ≡ told ++ (((decimal passed ++ codes " passed, ") ++ decimal failed) ++ codes " failed\n") → (status ≡ 0) ↔ ((0 < passed) × (failed ≡ 0)) → TellsScript by script status whole
  Counted-told script told whole passed failed status counted is fine =
      let P : ℕ → ℕ → Type 0 = λ p f. whole ≡ told ++ (((decimal p ++ codes " passed, ") ++ decimal f) ++ codes " failed\n") in
      let Q : ℕ → ℕ → Type 0 = λ p f. (status ≡ 0) ↔ ((0 < p) × (f ≡ 0)) in
      record {
        results = counted.results;
        lines = told;
        tests = counted.tests;
        whole = subst (λ (p : ℕ). P p (failed_of counted.results)) counted.passes (subst (λ (f : ℕ). P passed f) counted.fails is);
        fine = subst (λ (p : ℕ). Q p (failed_of counted.results)) counted.passes (subst (λ (f : ℕ). Q passed f) counted.fails fine);
      }
