-- A text that isn't read is loaded by no session.
use Rattle.std.proofs.Common.{◌≡◌, ℕ, List, Err, refl, inl, inr, sym, ap, subst, ◌∙◌, arith}
use Rattle.cedar_language.specs.Uid.{Name, Text}
use Rattle.cedar_grammar.specs.Functions.{policy_names}
use Rattle.cedar_grammar.specs.LooseReading.{read_policies}
use Rattle.cedar_grammar.specs.Names.{Names}
use Rattle.cedar_grammar.specs.Policies.{Reads}
use Rattle.cedar_policy_conversion.specs.Shows.{policies_show}
use Rattle.cedar_parser.specs.Errors.{Cause, outside_the_grammar, means_nothing, nested_too_deep, out_of_memory, cause_of}
use Rattle.cedar_parser.specs.Faults.{TellOnly, text_shows}
use Rattle.cedar_parser.specs.Strict.{IsRefused, ReadsSet}
use Rattle.cedar_parser.specs.declared.errors.ParseErrors.{ParseErrors}
use Rattle.cedar_world.specs.Commands.{Depth}
use Rattle.cedar_world.specs.Setting.{Setting, PoliciesNestWithin}
use Rattle.cedar_refusals.specs.Checks.{IsUnloaded, IsUnread, ReadsAlike, TellsFaults}

pub unloaded : (by : Setting) (text : Text) (cause : Cause) → (cause ≡ out_of_memory → ⊥)
    → IsRefused (λ m ss. Reads (policy_names by.functions) m text ss) by.depth text cause → IsUnloaded by text
unloaded by text outside_the_grammar told h old new ids step = let does = step.1 in h does.1.0 does.0 does.1.1
unloaded by text means_nothing told h old new ids step = let does = step.1 in h does.1.0 does.0 does.1.1
unloaded by text nested_too_deep told h old new ids step = step.0 Depth nests where
  nests : PoliciesNestWithin by by.depth text → ⊥
  nests (inl are) = h.0 are.0 are.1
  nests (inr places) = omega (arith, h.1, places.1)
unloaded by text out_of_memory told h old new ids step = told refl

-- ---- settings that read policies alike

pub alike_if_same : (by other : Setting) → by ≡ other → ReadsAlike by other
alike_if_same by other same =
    let functions = ap (λ (s : Setting). (policy_names s.functions).functions) same in
    let methods = ap (λ (s : Setting). (policy_names s.functions).methods) same in
    (functions, methods, ap (λ (s : Setting). s.depth) same)

pub alike_if_then : (by other third : Setting) → by ≡ other → ReadsAlike other third → ReadsAlike by third
alike_if_then by other third same alike = let first = alike_if_same by other same in (first.0 ∙ alike.0, first.1 ∙ alike.1, first.2 ∙ alike.2)

pub alike_back : (by other : Setting) → ReadsAlike by other → ReadsAlike other by
alike_back by other alike = (sym alike.0, sym alike.1, sym alike.2)

same_names : (by other : Setting) → ReadsAlike by other → policy_names by.functions ≡ policy_names other.functions
same_names by other alike =
    let make : List Name → List Text → Names = λ functions methods. record { functions = functions; methods = methods } in
    ap (λ functions. make functions (policy_names by.functions).methods) alike.0 ∙ ap (make (policy_names other.functions).functions) alike.1

pub unread_alike : (by other : Setting) (text : Text) (errors : ParseErrors) → ReadsAlike by other → IsUnread by text errors → IsUnread other text errors
unread_alike by other text errors alike unread =
    let P : Names → ℕ → Type 0 = λ names depth. ReadsSet names depth text (Err errors) in
    let Q : Names → ℕ → Type 0 = λ names depth. TellOnly errors (text_shows read_policies depth text (policies_show names)) in
    let names = same_names by other alike in
    record {
      refused = subst (P (policy_names other.functions)) alike.2 (subst (λ n. P n by.depth) names unread.refused);
      kinds = subst (Q (policy_names other.functions)) alike.2 (subst (λ n. Q n by.depth) names unread.kinds);
    }

pub told_alike : (by other : Setting) (name text told : Text) → ReadsAlike by other → TellsFaults by name text told → TellsFaults other name text told
told_alike by other name text told alike faults =
    let unread = unread_alike by other text faults.errors alike faults.unread in
    record {
      unloaded = unloaded other text (cause_of faults.errors.0.head) faults.fed unread.refused;
      errors = faults.errors;
      unread = unread;
      fed = faults.fed;
      lines = faults.lines;
    }
