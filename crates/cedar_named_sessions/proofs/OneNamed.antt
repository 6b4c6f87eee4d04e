-- A text of one policy that is given a name.
use Rattle.std.proofs.Common.{◌≡◌, ◌≢◌, List, [], ◌∷◌, Some, Result, Ok, Err, length, refl, sym, ap, subst, ◌∙◌}
use Rattle.cedar_grammar.specs.Syntax.{PolicySyntax}
use Rattle.cedar_language.specs.Uid.{Text}
use Rattle.cedar_policy_set.specs.Entries.{Entries}
use Rattle.cedar_session.specs.PolicyReading.{ReadsPolicies}
use Rattle.cedar_world.specs.Setting.{Setting, ArePolicies}
use Rattle.cedar_world.specs.World.{World}
use Rattle.cedar_named_sessions.specs.Steps.{Named, LoadStep, LoadAsStep}
use Rattle.cedar_named_sessions.specs.declared.refusals.NamedRefusal.{NamedRefusal}
use Rattle.cedar_named_sessions.specs.declared.refusals.NamedRefusal.TheVariants.{IdConflict, NotOne, Unsaid, Long, Untold, Refused}
use Rattle.cedar_named_sessions.proofs.Given.{as_many}

one_of : (ss : List PolicySyntax) → length ss ≡ 1 → (s : PolicySyntax) × (ss ≡ s ∷ [])
one_of (s ∷ []) h = (s, refl)
one_of [] h = absurd (cc h)
one_of (s ∷ t ∷ ss) h = absurd (cc h)

module _ (by : Setting) (old new : Named) (name text : Text) where
  -- what was read before changed nothing
  pub stays : (r : Result (List Text) NamedRefusal) {before : Setting} {world : World} {id : Text} → before ≡ by → world ≡ old.world → id ≡ name
      → LoadStep before (record { world = world; names = old.names }) (λ s. Some id) text r new → LoadStep by old (λ s. Some name) text r new
  stays r {before} {world} {id} setting same is step =
      subst (λ n. LoadStep by old (λ s. Some n) text r new) is
      (subst (λ w. LoadStep by (record { world = w; names = old.names }) (λ s. Some id) text r new) same
      (subst (λ b. LoadStep b (record { world = world; names = old.names }) (λ s. Some id) text r new) setting step))

  pub refused_as : (e : NamedRefusal) → LoadStep by old (λ s. Some name) text (Err e) new → LoadAsStep by old name text (Err e) new
  refused_as NotOne h = absurd h
  refused_as (IdConflict other) h = h
  refused_as Unsaid h = absurd h
  refused_as Long h = absurd h
  refused_as Untold h = absurd h
  refused_as (Refused r) h = h

  module _ (es : Entries) (reads : ReadsPolicies by text (Ok es)) where
    pub loaded_as : length es ≡ 1 → (names : List Text) → LoadStep by old (λ s. Some name) text (Ok names) new → LoadAsStep by old name text (Ok tt) new
    loaded_as one names h =
        let s = one_of reads.0 (sym (ap length reads.2 ∙ as_many 0 reads.0) ∙ one) in
        ((s.0, subst (ArePolicies by text) s.1 (by.depth, reads.1)), (names, h))

    pub not_one : length es ≢ 1 → new ≡ old → LoadAsStep by old name text (Err NotOne) new
    not_one several same = (reads.0, (by.depth, reads.1), λ e. several (ap length reads.2 ∙ as_many 0 reads.0 ∙ e), same)
