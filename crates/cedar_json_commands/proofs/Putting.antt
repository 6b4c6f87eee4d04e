-- What is put into a text, part by part, and what stands in an object.
use Rattle.std.proofs.Common.{◌≡◌, ℕ, Bool, cond, List, [], ◌∷◌, ◌++◌, length, None, ap, ◌∙◌, append_assoc, refl}
use Rattle.std.specs.Prelude.{codes, encode_utf8, encode_utf8_all}
use Rattle.json.specs.Find.{as_str}
use Rattle.json.specs.Json.{object}
use Rattle.json.specs.Value.{value_view, members_view}
use Rattle.cedar_grammar.specs.Names.{is_text}
use Rattle.cedar_json.proofs.Appending.{grown, pushed, Parts}
use Rattle.cedar_json.proofs.Taken.{Entry}
use Rattle.cedar_json_commands.specs.PartialQuestions.{type_alone}
use Rattle.cedar_json_commands.specs.PartialQuestionsWritten.{braced}

braced_is : (p q r s : List ℕ) → ((((123 ∷ p) ++ q) ++ r) ++ s) ++ 125 ∷ [] ≡ braced p q r s
braced_is p q r s =
    append_assoc (((123 ∷ p) ++ q) ++ r) s (125 ∷ []) ∙ append_assoc ((123 ∷ p) ++ q) r (s ++ 125 ∷ [])
    ∙ append_assoc (123 ∷ p) q (r ++ (s ++ 125 ∷ []))

pub braced_put : (a0 a1 a2 a3 a4 a5 a6 p q r s : List ℕ) → Parts a0 a1 a2 a3 a4 a5 p q r s → a6 ≡ a5 ++ encode_utf8 125
    → a6 ≡ a0 ++ encode_utf8_all (braced p q r s)
braced_put a0 a1 a2 a3 a4 a5 a6 p q r s parts last =
    let s2 = grown a0 a1 a2 (123 ∷ []) p (pushed a0 a1 123 parts.opened) parts.first in
    let s3 = grown a0 a2 a3 (123 ∷ p) q s2 parts.second in
    let s4 = grown a0 a3 a4 ((123 ∷ p) ++ q) r s3 parts.third in
    let s5 = grown a0 a4 a5 (((123 ∷ p) ++ q) ++ r) s s4 parts.fourth in
    grown a0 a5 a6 ((((123 ∷ p) ++ q) ++ r) ++ s) (125 ∷ []) s5 (pushed a5 a6 125 last) ∙ ap (λ cs. a0 ++ encode_utf8_all cs) (braced_is p q r s)

module _ {A : Type 0} where
  pub many_alone : (ms : List (Entry A)) → (length ms ≡ 1 → ⊥) → type_alone (object (members_view ms)) ≡ None
  many_alone [] other = refl
  many_alone (m ∷ []) other = absurd (other refl)
  many_alone (m ∷ n ∷ ms) other = refl

  pub one_alone : (ms : List (Entry A)) (m : Entry A) (b : Bool) → ms ≡ m ∷ [] → is_text m.0.now (codes "type") ≡ b
      → type_alone (object (members_view ms)) ≡ cond b (as_str (value_view m.1)) None
  one_alone ms m b e f = rw (e, f) refl
