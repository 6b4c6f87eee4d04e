-- A line that can't stand where it does is in no script, and is found in one way.
use Rattle.std.proofs.Common.{◌≡◌, ℕ, ◌+◌, ◌<◌, Bool, true, false, List, [], ◌∷◌, ◌++◌, length, Option, Some, None, MatchOption, option_map, Result, Ok, Err, IfErr, inl, inr, ⊎_elim, refl, sym, ap, subst, ◌∙◌, arith}
use Rattle.std.proofs.lemmas.Bool.{false≢true, cases_order}
use Rattle.std.proofs.lemmas.Grind.{common_steps}
use Rattle.std.specs.Result.{IsErr, MatchResult}
use Rattle.std.specs.Option.{IsSome, option_and_then}
use Rattle.std.specs.Str.Lines.{lines}
use Rattle.cedar_language.specs.Uid.{Text}
use Rattle.cedar_scripts.specs.declared.fault.ScriptError.{ScriptError}
use Rattle.cedar_scripts.specs.declared.fault.ScriptError.TheVariants.{Fault, Memory}
use Rattle.cedar_scripts.specs.declared.fault.ScriptFault.{ScriptFault}
use Rattle.cedar_scripts.specs.declared.fault.ScriptFault.TheVariants.{NoAnswer, SecondAnswer, BehindAnswer, BehindFile}
use Rattle.cedar_scripts.specs.ScriptLines.{Said, Nothing, Further, Title, Answer, Command, Says, SayInTurn, is_blank}
use Rattle.cedar_scripts.specs.ScriptTexts.{StepText, TestText, ScriptText, MakeScript, AreScript, IsScript}
use Rattle.cedar_scripts.specs.ScriptFaults.{CannotStand, IsFault, IsFirstFault, IsRefusal, last_of, last_step, steps_of_last}
use Rattle.cedar_scripts.specs.ScriptLaws.{LinesSayOneThing, TextsAreOneScript, FaultsAreInNoScript, FaultsAreOne}
use Rattle.cedar_scripts.proofs.Lending.{last_of-push, steps_of_last-push}
use Rattle.cedar_scripts.proofs.Runs.{run, run-both}
use Rattle.cedar_scripts.proofs.Single.{answer_of, file_from, further_of, new_step, on_last, step_taken, steps_taken}
use Rattle.cedar_scripts.proofs.SingleScript.{in_last, in_test, one_whole, title_taken, whole-read, whole_taken}
use Rattle.cedar_scripts.proofs.Turns.{last_split}

-- ---- a line says one thing

one_saying : LinesSayOneThing
one_saying line said other h k = grind (arith, common_steps)

same_sayings : (lines : List Text) (said other : List Said) → SayInTurn lines said → SayInTurn lines other → said ≡ other
same_sayings [] [] [] h k = refl
same_sayings (line ∷ lines) (x ∷ said) (y ∷ other) h k =
    let first = one_saying line x y h.0 k.0 in
    let rest = same_sayings lines said other h.1 k.1 in cc
same_sayings [] (x ∷ said) other h k = absurd h
same_sayings [] [] (y ∷ other) h k = absurd k
same_sayings (line ∷ lines) [] other h k = absurd h
same_sayings (line ∷ lines) (x ∷ said) [] h k = absurd k

pub texts_are_one_script : TextsAreOneScript
texts_are_one_script text script other h k =
    let same = same_sayings (lines text) h.0 k.0 h.1 k.1 in
    one_whole k.0 script other (subst (λ l. MakeScript l script) same h.2) k.2

-- ---- what can't stand there isn't taken

on_last-none : {A : Type 0} (f : A → Option A) (xs : List A) (x : A) → f x ≡ None → on_last f (xs ++ x ∷ []) ≡ None
on_last-none f [] x e = ap (option_map (λ z. z ∷ [])) e
on_last-none f (z ∷ []) x e = ap (λ o. option_map (λ l. z ∷ l) (option_map (λ z. z ∷ []) o)) e
on_last-none f (z ∷ w ∷ more) x e = ap (option_map (λ l. z ∷ l)) (on_last-none f (w ∷ more) x e)

further_none : (number : ℕ) (text : Text) (s : StepText) (expected file : Option Text) (fault : ScriptFault)
    → MatchOption expected ((fault ≡ BehindFile) × IsSome file) (λ _. fault ≡ BehindAnswer) → further_of number text s expected file ≡ None
further_none number text s None None fault h = absurd (false≢true h.1)
further_none number text s None (Some file) fault h = refl
further_none number text s (Some expected) None fault h = refl
further_none number text s (Some expected) (Some file) fault h = refl

answer_none : (words : Text) (s : StepText) (expected : Option Text) (blank : Bool) (fault : ScriptFault)
    → MatchOption expected ((fault ≡ NoAnswer) × (blank ≡ true)) (λ _. fault ≡ SecondAnswer) → answer_of words s expected blank ≡ None
answer_none words s None true fault h = refl
answer_none words s None false fault h = absurd (false≢true h.1)
answer_none words s (Some expected) true fault h = refl
answer_none words s (Some expected) false fault h = refl

-- of the last command
none_in_last : (number : ℕ) (said : Said) (steps : List StepText) (fault : ScriptFault) → CannotStand (last_of None steps) said fault
    → ((s : StepText) → CannotStand (Some s) said fault → step_taken number said s ≡ None) → on_last (step_taken number said) steps ≡ None
none_in_last number said [] fault h none = refl
none_in_last number said (x ∷ xs) fault h none =
    let r = last_split x xs in
    let last : last_of None (x ∷ xs) ≡ Some r.1 = ap (last_of None) r.2 ∙ last_of-push None r.0 r.1 in
    ap (on_last (step_taken number said)) r.2 ∙ on_last-none (step_taken number said) r.0 r.1 (none r.1 (subst (λ l. CannotStand l said fault) last h))

none_in_steps : (number : ℕ) (said : Said) (steps : List StepText) (fault : ScriptFault) → CannotStand (last_of None steps) said fault → steps_taken number said steps ≡ None
none_in_steps number Nothing steps fault h = absurd h
none_in_steps number (Title name) steps fault h = refl
none_in_steps number (Command verb first) steps fault h =
    ap (option_map (λ s. steps ++ s ∷ [])) (ap (new_step number verb) h.2 ∙ ap (file_from number verb h.1) h.3)
none_in_steps number (Further text) steps fault h =
    none_in_last number (Further text) steps fault h (λ s k. further_none number text s s.expected s.file fault k)
none_in_steps number (Answer words) steps fault h =
    none_in_last number (Answer words) steps fault h (λ s k. answer_none words s s.expected (is_blank words) fault k)

none_in_tests : (number : ℕ) (said : Said) (set_up : List StepText) (ts : List TestText) (fault : ScriptFault) → CannotStand (last_of None (steps_of_last set_up ts)) said fault
    → in_last number said set_up ts ≡ None
none_in_tests number said set_up [] fault h = ap (option_map (λ (l : List StepText). record { set_up = l; tests = [] })) (none_in_steps number said set_up fault h)
none_in_tests number said set_up (t ∷ ts) fault h =
    let r = last_split t ts in
    let last : steps_of_last set_up (t ∷ ts) ≡ r.1.steps = ap (steps_of_last set_up) r.2 ∙ steps_of_last-push set_up r.0 r.1 in
    let none = none_in_steps number said r.1.steps fault (subst (λ l. CannotStand (last_of None l) said fault) last h) in
    ap (λ l. option_map (λ (l : List TestText). record { set_up = set_up; tests = l }) (on_last (in_test number said) l)) r.2
    ∙ ap (option_map (λ (l : List TestText). record { set_up = set_up; tests = l }))
    (on_last-none (in_test number said) r.0 r.1 (ap (option_map (λ l. record r.1 { steps = l })) none))

none_in_whole : (number : ℕ) (said : Said) (script : ScriptText) (fault : ScriptFault) → CannotStand (last_step script) said fault → whole_taken number said script ≡ None
none_in_whole number Nothing script fault h = absurd h
none_in_whole number (Title name) script fault h = ap (title_taken number name script) h.1
none_in_whole number (Command verb first) script fault h = none_in_tests number (Command verb first) script.set_up script.tests fault h
none_in_whole number (Further text) script fault h = none_in_tests number (Further text) script.set_up script.tests fault h
none_in_whole number (Answer words) script fault h = none_in_tests number (Answer words) script.set_up script.tests fault h

-- ---- a fault is in no script

-- what lines say, cut at one of them
record SayAround (before : List Text) (line : Text) (said : List Said) : Type 0 where
  first : List Said
  here : Said
  rest : List Said
  are : said ≡ first ++ here ∷ rest
  before_say : SayInTurn before first
  says : Says line here

say-around : (before : List Text) (line : Text) (after : List Text) (said : List Said) → SayInTurn (before ++ line ∷ after) said → SayAround before line said
say-around [] line after (x ∷ said) h = record { first = []; here = x; rest = said; are = refl; before_say = tt; says = h.0 }
say-around [] line after [] h = absurd h
say-around (l ∷ before) line after (x ∷ said) h =
    let r = say-around before line after said h.1 in
    record { first = x ∷ r.first; here = r.here; rest = r.rest; are = ap (λ s. x ∷ s) r.are; before_say = (h.0, r.before_say); says = r.says }
say-around (l ∷ before) line after [] h = absurd h

-- what can't stand there, run into
run_into : (said rest : List Said) (here : Said) (script whole : ScriptText) (fault : ScriptFault) → MakeScript said script → CannotStand (last_step script) here fault
    → MakeScript (said ++ here ∷ rest) whole → ⊥
run_into said rest here script whole fault h cannot k =
    let read = run-both whole_taken 1 (1 + length said) said (here ∷ rest) (record { set_up = []; tests = [] }) script refl (whole-read said script h) in
    let stops : run whole_taken (1 + length said) (here ∷ rest) script ≡ None =
    ap (option_and_then (λ t. run whole_taken ((1 + length said) + 1) rest t)) (none_in_whole (1 + length said) here script fault cannot) in
    let wrong : Some whole ≡ None = sym (whole-read (said ++ here ∷ rest) whole k) ∙ read ∙ stops in cc

fault_excludes : (before after : List Text) (line : Text) (script whole : ScriptText) (fault : ScriptFault) → AreScript before script → IsFault (last_step script) line fault
    → AreScript (before ++ line ∷ after) whole → ⊥
fault_excludes before after line script whole fault h (inl unknown) k = unknown.1 (say-around before line after k.0 k.1).here (say-around before line after k.0 k.1).says
fault_excludes before after line script whole fault h (inr cannot) k =
    let r = say-around before line after k.0 k.1 in
    let same = same_sayings before h.0 r.first h.1 r.before_say in
    let is = one_saying line cannot.0 r.here cannot.1 r.says in
    run_into r.first r.rest r.here script whole fault (subst (λ l. MakeScript l script) same h.2) (subst (λ x. CannotStand (last_step script) x fault) is cannot.2)
    (subst (λ l. MakeScript l whole) r.are k.2)

pub faults_are_in_no_script : FaultsAreInNoScript
faults_are_in_no_script text number fault script f k =
    fault_excludes f.before f.after f.line f.script script fault f.reads f.why (subst (λ l. AreScript l script) f.are k)

-- what is refused and yet a script is refused for memory alone
pub refused_script : (text : Text) (error : ScriptError) (script : ScriptText) → IsRefusal text error → IsScript text script → error ≡ Memory
refused_script text Memory script refusal h = refl
refused_script text (Fault number fault) script refusal h = absurd (faults_are_in_no_script text number fault script refusal h)

pub complete_from : {A : Type 0} (P : A → Type 0) (text : Text) (script : ScriptText) (r : Result A ScriptError) → IsErr r → IfErr r (IsRefusal text) → IsScript text script
    → MatchResult r P (λ error. error ≡ Memory)
complete_from P text script (Ok x) err refusal h = absurd (false≢true err)
complete_from P text script (Err error) err refusal h = refused_script text error script refusal h

-- ---- a fault is found in one way

one_reason : (last : Option StepText) (said : Said) (fault other : ScriptFault) → CannotStand last said fault → CannotStand last said other → fault ≡ other
one_reason last Nothing fault other h k = absurd h
one_reason last (Title name) fault other h k = h.0 ∙ sym k.0
one_reason last (Command verb first) fault other h k = h.0 ∙ sym k.0
one_reason None (Further text) fault other h k = h ∙ sym k
one_reason None (Answer words) fault other h k = h ∙ sym k
one_reason (Some s) (Further text) fault other h k = one_of s.expected h k
  where
    one_of : (o : Option Text) → MatchOption o ((fault ≡ BehindFile) × IsSome s.file) (λ _. fault ≡ BehindAnswer) → MatchOption o ((other ≡ BehindFile) × IsSome s.file) (λ _. other ≡ BehindAnswer)
        → fault ≡ other
    one_of None h k = h.0 ∙ sym k.0
    one_of (Some w) h k = h ∙ sym k
one_reason (Some s) (Answer words) fault other h k = one_of s.expected h k
  where
    one_of : (o : Option Text) → MatchOption o ((fault ≡ NoAnswer) × (is_blank words ≡ true)) (λ _. fault ≡ SecondAnswer)
        → MatchOption o ((other ≡ NoAnswer) × (is_blank words ≡ true)) (λ _. other ≡ SecondAnswer) → fault ≡ other
    one_of None h k = h.0 ∙ sym k.0
    one_of (Some w) h k = h ∙ sym k

one_fault : (last : Option StepText) (line : Text) (fault other : ScriptFault) → IsFault last line fault → IsFault last line other → fault ≡ other
one_fault last line fault other (inl h) (inl k) = h.0 ∙ sym k.0
one_fault last line fault other (inl h) (inr k) = absurd (h.1 k.0 k.1)
one_fault last line fault other (inr h) (inl k) = absurd (k.1 h.0 h.1)
one_fault last line fault other (inr h) (inr k) =
    one_reason last k.0 fault other (subst (λ x. CannotStand last x fault) (one_saying line h.0 k.0 h.1 k.1) h.2) k.2

-- two lists that are one, cut at the same place or at two
level : {A : Type 0} (a b c d : List A) (x y : A) → length a ≡ length b → a ++ x ∷ c ≡ b ++ y ∷ d → (a ≡ b) × (x ≡ y)
level [] [] c d x y e same = let first : x ≡ y = cc in (refl, first)
level (z ∷ a) (w ∷ b) c d x y e same =
    let rest : a ++ x ∷ c ≡ b ++ y ∷ d = cc in
    let first : z ≡ w = cc in
    let r = level a b c d x y (omega arith) rest in
    let whole : z ∷ a ≡ w ∷ b = let tail = r.0 in cc in (whole, r.1)
level [] (w ∷ b) c d x y e same = absurd (omega arith)
level (z ∷ a) [] c d x y e same = absurd (omega arith)

longer : {A : Type 0} (a b c d : List A) (x y : A) → length a < length b → a ++ x ∷ c ≡ b ++ y ∷ d → (rest : List A) × (b ≡ a ++ x ∷ rest)
longer [] (w ∷ b) c d x y e same = let first : w ≡ x = cc in (b, ap (λ z. z ∷ b) first)
longer (z ∷ a) (w ∷ b) c d x y e same =
    let rest : a ++ x ∷ c ≡ b ++ y ∷ d = cc in
    let first : w ≡ z = cc in
    let r = longer a b c d x y (omega arith) rest in
    let tail = r.1 in
    let whole : w ∷ b ≡ z ∷ (a ++ x ∷ r.0) = cc in (r.0, whole)
longer [] [] c d x y e same = absurd (omega arith)
longer (z ∷ a) [] c d x y e same = absurd (omega arith)

-- no fault stands before another
not_before : (text : Text) (number number' : ℕ) (fault fault' : ScriptFault) (f : IsFirstFault text number fault) (g : IsFirstFault text number' fault') → length f.before < length g.before → ⊥
not_before text number number' fault fault' f g less =
    let r = longer f.before g.before f.after g.after f.line g.line less (sym f.are ∙ g.are) in
    fault_excludes f.before r.0 f.line f.script g.script fault f.reads f.why (subst (λ l. AreScript l g.script) r.1 g.reads)

at_once : (text : Text) (number number' : ℕ) (fault fault' : ScriptFault) (f : IsFirstFault text number fault) (g : IsFirstFault text number' fault') → length f.before ≡ length g.before
    → (number ≡ number') × (fault ≡ fault')
at_once text number number' fault fault' f g same =
    let r = level f.before g.before f.after g.after f.line g.line same (sym f.are ∙ g.are) in
    let here = same_sayings g.before f.reads.0 g.reads.0 (subst (λ l. SayInTurn l f.reads.0) r.0 f.reads.1) g.reads.1 in
    let script = one_whole g.reads.0 f.script g.script (subst (λ l. MakeScript l f.script) here f.reads.2) g.reads.2 in
    let why = subst (λ s. IsFault (last_step s) g.line fault) script (subst (λ l. IsFault (last_step f.script) l fault) r.1 f.why) in
    (omega (arith, f.counted, g.counted, same), one_fault (last_step g.script) g.line fault fault' why g.why)

pub faults_are_one : FaultsAreOne
faults_are_one text number number' fault fault' f g =
    ⊎_elim (λ same. at_once text number number' fault fault' f g same)
    (λ apart. absurd (⊎_elim (λ less. not_before text number number' fault fault' f g less) (λ more. not_before text number' number fault' fault g f more) apart))
    (cases_order (length f.before) (length g.before))
