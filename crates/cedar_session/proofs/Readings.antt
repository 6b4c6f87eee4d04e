-- Policies that a session loads.
use Rattle.std.proofs.Common.{inl, inr, ℕ, not, ◌&&◌, Result, Ok, Err, arith}
use Rattle.std.specs.Prelude.{IfOk}
use Rattle.cedar_language.specs.Uid.{Text}
use Rattle.cedar_grammar.specs.Names.{Names}
use Rattle.cedar_grammar.specs.Policies.{Reads}
use Rattle.cedar_parser.specs.Errors as cause
use Rattle.cedar_parser.specs.Errors.{Cause, cause_of}
use Rattle.cedar_parser.specs.declared.errors.ParseErrors.{ParseErrors}
use Rattle.cedar_parser.specs.Strict as strict
use Rattle.cedar_parser.specs.Strict.{IsRefused}
use Rattle.cedar_policy_set.specs.Entries.{Entries}
use Rattle.cedar_replies.specs.declared.refusal.Refusal.{Refusal}
use Rattle.cedar_replies.specs.declared.refusal.Refusal.TheVariants as refusal
use Rattle.cedar_grammar.specs.Functions.{is_the_unknown, policy_names}
use Rattle.cedar_world.specs.NameLaws.{CallsAreFound, is_answered}
use Rattle.cedar_world.specs.Setting.{Setting, PoliciesNestWithin}
use Rattle.cedar_session.specs.PolicyReading.{CallNoUnknown, ReadsPolicies, ReadsSet}
use Rattle.cedar_session.specs.Told.{refusal_for, text_refusal}
use Rattle.cedar_session.proofs.Callers.{right_of, conditions_still}

module _ (names : Names) (n : ℕ) (text : Text) where
  unread : (c : Cause) → IsRefused (λ m ss. Reads names m text ss) n text c → ReadsSet names n text (Err (refusal_for c))
  unread cause.outside_the_grammar none = none
  unread cause.means_nothing none = none
  unread cause.nested_too_deep deep = deep
  unread cause.out_of_memory none = tt

  -- a text without a set is refused for the same
  pub set_refused : (errors : ParseErrors) → strict.ReadsSet names n text (Err errors) → ReadsSet names n text (Err (text_refusal errors))
  set_refused errors none = unread (cause_of errors.0.head) none

module _ (by : Setting) (text : Text) where
  -- a text without a set is refused for the same
  policies_refused : (f : Refusal) → ReadsSet (policy_names by.functions) by.depth text (Err f) → ReadsPolicies by text (Err f)
  policies_refused refusal.Text none = λ ss are. none are.0 ss are.1
  policies_refused refusal.Depth deep = nests where
    nests : PoliciesNestWithin by by.depth text → ⊥
    nests (inl are) = deep.0 are.0 are.1
    nests (inr places) = omega (arith, deep.1, places.1)
  policies_refused refusal.Memory none = tt
  policies_refused other none = absurd none

  -- the policies of a session are those of the text with the names that policies may call
  pub policies_read : (result : Result Entries Refusal) → ReadsSet (policy_names by.functions) by.depth text result → ReadsPolicies by text result
  policies_read (Ok es) reads = reads
  policies_read (Err f) none = policies_refused f none

  -- and they don't call `unknown`
  pub names_read : CallsAreFound by → (result : Result Entries Refusal) → ReadsSet (policy_names by.functions) by.depth text result → IfOk result (λ es. CallNoUnknown es)
  names_read found (Ok es) reads = (
    reads.0,
    reads.2,
    conditions_still (λ name. is_answered by.functions name && not (is_the_unknown name)) (λ name. not (is_the_unknown name)) (λ name h. right_of (is_answered by.functions name) (not (is_the_unknown name)) h) reads.0
        (found.policies text reads.0 (by.depth, reads.1)),
  )
  names_read found (Err f) none = tt
