-- Commands, tests and scripts with one line more.
use Rattle.std.proofs.Common.{◌≡◌, ℕ, ◌+◌, ◌-◌, List, [], ◌∷◌, ◌++◌, length, replicate, false, Option, Some, None, refl, sym, ap, subst, ◌∙◌, append_assoc, length-append, arith}
use Rattle.std.proofs.lemmas.List.{append-nil, replicate-append-replicate, length-replicate, flat_map_more}
use Rattle.std.specs.Str.{trim}
use Rattle.cedar_language.specs.Uid.{Text}
use Rattle.cedar_scripts.specs.ScriptLines.{Said, Nothing, Further, Title, Answer, Command, is_blank}
use Rattle.cedar_scripts.specs.ScriptTexts.{StepText, TestText, ScriptText, idle, further_lines, added, IsBody, IsAnswer, IsStep, AreSteps, IsTest, MakeScript, StepsGoOn, ScriptGoesOn}
use Rattle.cedar_scripts.proofs.Turns.{last_split, in_turn-more, in_turn-change}

-- ---- a command

idle-more : (count : ℕ) → idle count ++ Nothing ∷ [] ≡ idle (count + 1)
idle-more count = replicate-append-replicate count 1 Nothing

answer_idle : (behind : List Said) (expected : Option Text) → IsAnswer behind expected → IsAnswer (behind ++ Nothing ∷ []) expected
answer_idle behind None p = (p.0 + 1, ap (λ l. l ++ Nothing ∷ []) p.1 ∙ idle-more p.0)
answer_idle behind (Some w) p =
    let tail = ap (λ l. idle p.0 ++ Answer p.2 ∷ l) (idle-more p.1) in
    (p.0, p.1 + 1, p.2, ap (λ l. l ++ Nothing ∷ []) p.3 ∙ append_assoc (idle p.0) (Answer p.2 ∷ idle p.1) (Nothing ∷ []) ∙ tail, p.4, p.5)

behind_more : (n : ℕ) (own more : List Said) (s : StepText) (h : IsStep n own s)
    → own ++ more ≡ Command s.verb h.first ∷ (further_lines h.further ++ (h.behind ++ more))
behind_more n own more s h =
    ap (λ l. l ++ more) h.are ∙ ap (λ l. Command s.verb h.first ∷ l) (append_assoc (further_lines h.further) h.behind more)

pub step_idle : (n : ℕ) (own : List Said) (s : StepText) → IsStep n own s → IsStep n (own ++ Nothing ∷ []) s
step_idle n own s h = record {
  first = h.first;
  further = h.further;
  behind = h.behind ++ Nothing ∷ [];
  are = behind_more n own (Nothing ∷ []) s h;
  begins = h.begins;
  ends = h.ends;
  body = h.body;
  answer = answer_idle h.behind s.expected h.answer;
}

-- the answer of a command that has none
pub step_answer : (n : ℕ) (own : List Said) (s : StepText) (words : Text) → s.expected ≡ None → is_blank words ≡ false → IsStep n own s
    → IsStep n (own ++ Answer words ∷ []) (record s { expected = Some (trim words) })
step_answer n own s words none filled h =
    let before = subst (λ e. IsAnswer h.behind e) none h.answer in
    record {
      first = h.first;
      further = h.further;
      behind = h.behind ++ Answer words ∷ [];
      are = behind_more n own (Answer words ∷ []) s h;
      begins = h.begins;
      ends = h.ends;
      body = h.body;
      answer = (before.0, 0, words, ap (λ l. l ++ Answer words ∷ []) before.1, filled, refl);
    }

-- a further line of a body that stands in the script
further_more : (further : List (ℕ × Text)) (count : ℕ) (text : Text) → further_lines (further ++ (count, text) ∷ []) ≡ further_lines further ++ (idle count ++ Further text ∷ [])
further_more further count text = sym (flat_map_more (λ (p : ℕ × Text). idle p.0 ++ Further p.1 ∷ []) [] further (count, text))

added_more : (further : List (ℕ × Text)) (count : ℕ) (text : Text) → added (further ++ (count, text) ∷ []) ≡ added further ++ (replicate (count + 1) 10 ++ text)
added_more further count text = sym (flat_map_more (λ (p : ℕ × Text). replicate (p.0 + 1) 10 ++ p.1) [] further (count, text))

pub step_further : (number n : ℕ) (own : List Said) (s : StepText) (text : Text) → number ≡ n + length own → s.expected ≡ None → s.file ≡ None → IsStep n own s
    → IsStep n (own ++ Further text ∷ []) (record s { body = (s.body ++ replicate (number - s.last_line) 10) ++ text; last_line = number })
step_further number n own s text e none inside h =
    let before = subst (λ x. IsAnswer h.behind x) none h.answer in
    let body = subst (λ f. IsBody h.first h.further s.body f) inside h.body in
    let whole = further_more h.further before.0 text in
    let lengths : length own ≡ (length (further_lines h.further) + before.0) + 1 = omega (
      arith,
      ap length h.are,
      length-append (further_lines h.further) h.behind,
      ap length before.1,
      length-replicate before.0 Nothing,
    ) in
    let feeds : number - s.last_line ≡ before.0 + 1 = omega (arith, e, h.ends, lengths) in
    let spelled : (s.body ++ replicate (number - s.last_line) 10) ++ text ≡ h.first ++ added (h.further ++ (before.0, text) ∷ []) =
    ap (λ k. (s.body ++ replicate k 10) ++ text) feeds ∙ append_assoc s.body (replicate (before.0 + 1) 10) text
    ∙ ap (λ l. l ++ (replicate (before.0 + 1) 10 ++ text)) body.1 ∙ append_assoc h.first (added h.further) (replicate (before.0 + 1) 10 ++ text)
    ∙ ap (λ l. h.first ++ l) (sym (added_more h.further before.0 text)) in
    record {
      first = h.first;
      further = h.further ++ (before.0, text) ∷ [];
      behind = [];
      are = behind_more n own (Further text ∷ []) s h ∙ ap (λ l. Command s.verb h.first ∷ (further_lines h.further ++ (l ++ Further text ∷ []))) before.1
          ∙ ap (λ l. Command s.verb h.first ∷ l) (sym whole ∙ sym (append-nil (further_lines (h.further ++ (before.0, text) ∷ []))));
      begins = h.begins;
      ends = omega (
        arith,
        e,
        lengths,
        ap length whole,
        length-append (further_lines h.further) (idle before.0 ++ Further text ∷ []),
        length-append (idle before.0) (Further text ∷ []),
        length-replicate before.0 Nothing,
      );
      body = subst (λ f. IsBody h.first (h.further ++ (before.0, text) ∷ []) ((s.body ++ replicate (number - s.last_line) 10) ++ text) f) (sym inside) (body.0, spelled);
      answer = subst (λ x. IsAnswer [] x) (sym none) (0, refl);
    }

-- ---- the commands of a test

pub goes_last : (number : ℕ) (said : Said) (front : List StepText) (s t : StepText)
    → ((n : ℕ) (own : List Said) → number ≡ n + length own → IsStep n own s → IsStep n (own ++ said ∷ []) t)
    → StepsGoOn number said (front ++ s ∷ []) (front ++ t ∷ [])
goes_last number said front s t change start lines e p =
    let far : number ≡ (start + p.0) + length p.1 = omega (arith, e, ap length p.2, length-append (idle p.0) p.1, length-replicate p.0 Nothing) in
    (p.0, p.1 ++ said ∷ [], ap (λ l. l ++ said ∷ []) p.2 ∙ append_assoc (idle p.0) p.1 (said ∷ []), in_turn-change IsStep (start + p.0) p.1 (said ∷ []) front s t number far change p.3)

pub goes_new : (number : ℕ) (said : Said) (steps : List StepText) (s : StepText) → IsStep number (said ∷ []) s → StepsGoOn number said steps (steps ++ s ∷ [])
goes_new number said steps s h start lines e p =
    let far : number ≡ (start + p.0) + length p.1 = omega (arith, e, ap length p.2, length-append (idle p.0) p.1, length-replicate p.0 Nothing) in
    let here = subst (λ k. IsStep k (said ∷ []) s) far h in
    (p.0, p.1 ++ said ∷ [], ap (λ l. l ++ said ∷ []) p.2 ∙ append_assoc (idle p.0) p.1 (said ∷ []), in_turn-more IsStep (start + p.0) p.1 (said ∷ []) steps s p.3 here)

goes_idle : (number : ℕ) (steps : List StepText) → StepsGoOn number Nothing steps steps
goes_idle number [] start lines e p =
    (p.0 + 1, [], ap (λ l. l ++ Nothing ∷ []) (p.2 ∙ ap (λ l. idle p.0 ++ l) p.3 ∙ append-nil (idle p.0)) ∙ idle-more p.0 ∙ sym (append-nil (idle (p.0 + 1))), refl)
goes_idle number (x ∷ xs) start lines e p =
    let r = last_split x xs in
    let same = goes_last number Nothing r.0 r.1 r.1 (λ n own _ h. step_idle n own r.1 h) start lines e (subst (λ l. AreSteps start lines l) r.2 p) in
    subst (λ l. AreSteps start (lines ++ Nothing ∷ []) l) (sym r.2) same

-- ---- tests and scripts

test_goes_on : (number n : ℕ) (said : Said) (own : List Said) (t : TestText) (steps : List StepText) → StepsGoOn number said t.steps steps → number ≡ n + length own → IsTest n own t
    → IsTest n (own ++ said ∷ []) (record t { steps = steps })
test_goes_on number n said own t steps go e h =
    let far : number ≡ (n + 1) + length h.own = omega (arith, e, ap length h.are) in
    record { own = h.own ++ said ∷ []; are = ap (λ l. l ++ said ∷ []) h.are; begins = h.begins; named = h.named; steps = go (n + 1) h.own far h.steps }

-- a line behind the last test
pub whole_in_test : (number : ℕ) (said : Said) (set_up : List StepText) (tests : List TestText) (t : TestText) (steps : List StepText) → StepsGoOn number said t.steps steps
    → ScriptGoesOn number said (record { set_up = set_up; tests = tests ++ t ∷ [] }) (record { set_up = set_up; tests = tests ++ record t { steps = steps } ∷ [] })
whole_in_test number said set_up tests t steps go lines e h =
    let far : number ≡ (1 + length h.own) + length h.more = omega (arith, e, ap length h.are, length-append h.own h.more) in
    record {
      own = h.own;
      more = h.more ++ said ∷ [];
      are = ap (λ l. l ++ said ∷ []) h.are ∙ append_assoc h.own h.more (said ∷ []);
      set_up = h.set_up;
      tests = in_turn-change IsTest (1 + length h.own) h.more (said ∷ []) tests t (record t { steps = steps }) number far (λ n own e k. test_goes_on number n said own t steps go e k) h.tests;
    }

-- a line before the first test
pub whole_in_set_up : (number : ℕ) (said : Said) (set_up steps : List StepText) → StepsGoOn number said set_up steps
    → ScriptGoesOn number said (record { set_up = set_up; tests = [] }) (record { set_up = steps; tests = [] })
whole_in_set_up number said set_up steps go lines e h =
    let all : lines ≡ h.own = h.are ∙ ap (λ l. h.own ++ l) h.tests ∙ append-nil h.own in
    let far : number ≡ 1 + length h.own = omega (arith, e, ap length all) in
    record {
      own = h.own ++ said ∷ [];
      more = [];
      are = ap (λ l. l ++ said ∷ []) all ∙ sym (append-nil (h.own ++ said ∷ []));
      set_up = go 1 h.own far h.set_up;
      tests = refl;
    }

-- a new test
pub whole_title : (number : ℕ) (name : Text) (set_up : List StepText) (tests : List TestText) → is_blank name ≡ false
    → ScriptGoesOn number (Title name) (record { set_up = set_up; tests = tests })
    (record { set_up = set_up; tests = tests ++ record { line = number; name = name; steps = [] } ∷ [] })
whole_title number name set_up tests filled lines e h =
    let far : number ≡ (1 + length h.own) + length h.more = omega (arith, e, ap length h.are, length-append h.own h.more) in
    let t : TestText = record { line = number; name = name; steps = [] } in
    let here : IsTest number (Title name ∷ []) t = record { own = []; are = refl; begins = refl; named = filled; steps = (0, [], refl, refl) } in
    record {
      own = h.own;
      more = h.more ++ Title name ∷ [];
      are = ap (λ l. l ++ Title name ∷ []) h.are ∙ append_assoc h.own h.more (Title name ∷ []);
      set_up = h.set_up;
      tests = in_turn-more IsTest (1 + length h.own) h.more (Title name ∷ []) tests t h.tests (subst (λ k. IsTest k (Title name ∷ []) t) far here);
    }

-- a line that says nothing
idle_at : (number : ℕ) (set_up : List StepText) (tests : List TestText) → ScriptGoesOn number Nothing (record { set_up = set_up; tests = tests }) (record { set_up = set_up; tests = tests })
idle_at number set_up [] lines e h = whole_in_set_up number Nothing set_up set_up (goes_idle number set_up) lines e h
idle_at number set_up (t ∷ ts) lines e h =
    let r = last_split t ts in
    let same = whole_in_test number Nothing set_up r.0 r.1 r.1.steps (goes_idle number r.1.steps) lines e (subst (λ l. MakeScript lines (record { set_up = set_up; tests = l })) r.2 h) in
    subst (λ l. MakeScript (lines ++ Nothing ∷ []) (record { set_up = set_up; tests = l })) (sym r.2) same

pub whole_idle : (number : ℕ) (script : ScriptText) → ScriptGoesOn number Nothing script script
whole_idle number script = idle_at number script.set_up script.tests
