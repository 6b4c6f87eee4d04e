-- What a run over an input in memory says of the text that is read back from its writer.
use Rattle.std.proofs.Common.{◌≡◌, ℕ, List, [], ◌++◌, Option, Some, inl, inr, ap, sym, ◌∙◌, subst, append-nil}
use Rattle.std.specs.Prelude.{◌⊎◌}
use Rattle.std.specs.Io.KnownBytes.{Appends, Consumes, IsAtEnd}
use Rattle.cedar_frames.specs.declared.fault.Fault as frames
use Rattle.cedar_frames.specs.declared.watched.Watched.{Watched}
use Rattle.cedar_frames.specs.Watching.{watched_inner}
use Rattle.cedar_world.specs.RunText.{RunText, Clean as Ended, Faulty}
use Rattle.cedar_world.specs.Setting.{Setting}
use Rattle.cedar_world.specs.World.{new_world}
use Rattle.cedar_session.specs.Programs as programs
use Rattle.cedar_session.specs.Programs.{KnowsAllWithin}
use Rattle.cedar_session.specs.declared.running.End.TheVariants.{Clean, Fault}
use Rattle.cedar_session.specs.InMemory.{AnswersAllWithin, AnswersToFaultWithin}

-- Of a reader that had the input and has the rest, and of a writer that held nothing and holds the text.
module _ (depth : ℕ) {R W : Type 0} (remaining : R → Option (List ℕ)) (contents : W → Option (List ℕ)) (reader reader' : Watched R) (writer writer' : Watched W) (input rest text : List ℕ)
    (given : remaining (watched_inner reader) ≡ Some input) (left : remaining (watched_inner reader') ≡ Some rest)
    (empty : contents (watched_inner writer) ≡ Some []) (held : contents (watched_inner writer') ≡ Some text) where
  read_of_input : (bytes : List ℕ) → Consumes (remaining (watched_inner reader)) (remaining (watched_inner reader')) bytes → input ≡ bytes ++ rest
  read_of_input bytes h = subst (λ before. Consumes before (Some rest) bytes) given (subst (λ after. Consumes (remaining (watched_inner reader)) after bytes) left h)

  nothing_left : IsAtEnd (remaining (watched_inner reader')) → rest ≡ []
  nothing_left h = subst IsAtEnd left h

  all_written : (said : List ℕ) → Appends (contents (watched_inner writer)) (contents (watched_inner writer')) said → said ≡ text
  all_written said h = sym (subst (λ before. Appends before (Some text) said) empty (subst (λ after. Appends (contents (watched_inner writer)) after said) held h))

  pub all_answered : (by : Setting) × KnowsAllWithin depth by × programs.Answers remaining contents by reader reader' writer writer' Clean → AnswersAllWithin depth input text
  all_answered h =
      let run = h.2.text in
      let whole = sym (read_of_input run.0 run.3 ∙ (ap (λ after. run.0 ++ after) (nothing_left h.2.ends) ∙ append-nil run.0)) in
      (h.0, run.2, h.1, subst (λ bytes. RunText h.0 bytes new_world text Ended run.2) whole (subst (λ said. RunText h.0 run.0 new_world said Ended run.2) (all_written run.1 run.4) run.5))

  pub answered_to_fault : (by : Setting) × (fault : frames.Fault) × KnowsAllWithin depth by × programs.Answers remaining contents by reader reader' writer writer' (Fault fault) → AnswersToFaultWithin depth input text
  answered_to_fault h =
      let run = h.3.text in
      record {
        fault = h.1;
        read = run.0;
        rest = rest;
        parts = read_of_input run.0 run.3;
        truncated = λ is. nothing_left (h.3.ends is);
        answers = (h.0, run.2, h.2, subst (λ said. RunText h.0 run.0 new_world said (Faulty h.1) run.2) (all_written run.1 run.4) run.5);
      }

-- what holds at the status 0, or what holds at 2
pub one_of_both : {P Q : Type 0} (status : ℕ) → (status ≡ 0) ⊎ (status ≡ 2) → (status ≡ 0 → P) → (status ≡ 2 → Q) → P ⊎ Q
one_of_both status (inl is) f g = inl (f is)
one_of_both status (inr is) f g = inr (g is)
