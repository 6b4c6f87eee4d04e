-- A load whose policies have their names is the load of the text by names.
use Rattle.std.proofs.Common.{◌≡◌, List, [], ◌∷◌, Option, None, Ok, Err, map, length, refl, sym, ap, subst, ◌∙◌}
use Rattle.std.specs.Prelude.{Vec}
use Rattle.std.specs.Map.{keys_of}
use Rattle.std.specs.declared.alloc.Global.{Global}
use Rattle.cedar_grammar.specs.Syntax.{PolicySyntax}
use Rattle.cedar_held.specs.PolicyWorlds.{policies_in}
use Rattle.cedar_language.specs.Uid.{Text}
use Rattle.cedar_policy_parts.specs.declared.policy_id.PolicyID.{PolicyID}
use Rattle.cedar_policy_set.specs.Entries.{Entries}
use Rattle.cedar_replies.specs.declared.refusal.Refusal.TheVariants as refusal
use Rattle.cedar_session.specs.PolicyReading.{ReadsPolicies}
use Rattle.cedar_world.specs.Commands as commands
use Rattle.cedar_world.specs.Commands.{Load}
use Rattle.cedar_world.specs.Laws.{LoadsAreOne}
use Rattle.cedar_world.specs.PolicyEdits as edits
use Rattle.cedar_world.specs.Setting.{Setting}
use Rattle.cedar_world.specs.Step.{Step}
use Rattle.cedar_world.specs.World.{World}
use Rattle.cedar_named_sessions.specs.Loading.{LoadsPlaced}
use Rattle.cedar_named_sessions.specs.NameLists.{Names, name_of}
use Rattle.cedar_named_sessions.specs.Named.{Placed, placed, named}
use Rattle.cedar_named_sessions.specs.Placed.{ArePlaced, GivesAll}
use Rattle.cedar_named_sessions.specs.Steps.{Named, LoadStep}
use Rattle.cedar_named_sessions.specs.declared.refusals.NamedRefusal.{NamedRefusal}
use Rattle.cedar_named_sessions.specs.declared.refusals.NamedRefusal.TheVariants.{IdConflict, Refused}

told_keys : (f : Text → Text) (ps : Placed) → map (λ p. f p.0) ps ≡ map f (keys_of ps)
told_keys f [] = refl
told_keys f (p ∷ ps) = ap (λ ns. f p.0 ∷ ns) (told_keys f ps)

module _ (by : Setting) (old : Named) (given : PolicySyntax → Option Text) (text : Text) (held es : Entries) (ps : Placed)
    (reads : ReadsPolicies by text (Ok es)) (are : ArePlaced given held es ps) (lent : policies_in held ≡ old.world.policies) where
  abbrev ss : List PolicySyntax
  ss = reads.0

  ids_at : (ids : List Text) × edits.Names old.world.policies (length ss) 0 0 ss ids × (ps ≡ placed given ids ss) × (keys_of ps ≡ ids)
  ids_at = let a = are ss reads.2 in (a.0, subst (λ policies. edits.Names policies (length ss) 0 0 ss a.0) lent a.1, a.2, a.3)

  at : {R : Type 0} → (outcome : R) → (f : Placed → R) → f ps ≡ outcome → f (placed given ids_at.0 ss) ≡ outcome
  at outcome f h = ap f (sym ids_at.2) ∙ h

  pub done : LoadsAreOne → (names : Names) (told : Vec PolicyID Global) (new : World) → named (policies_in held) old.names ps ≡ Ok names
      → LoadsPlaced by old.world names text ps (Ok told) new → LoadStep by old given text (Ok told.items) (record { world = new; names = names })
  done one names told new gives loads =
      let other : World = record old.world { policies = edits.joined old.world.policies ss ids_at.0; asked = None } in
      let own : Step by old.world Load text (commands.Named ids_at.0) other = (loads.1.0, (ss, (by.depth, reads.1), (record { names = ids_at.1; policies = refl }, refl))) in
      let same : loads.0 ≡ ids_at.0 = (one by old.world new other text loads.0 ids_at.0 loads.1 own).0 in (
        ss,
        ids_at.0,
        ((by.depth, reads.1), ids_at.1),
        subst (λ ids. Step by old.world Load text (commands.Named ids) new) same loads.1,
        at (Ok names) (λ qs. named old.world.policies old.names qs) (ap (λ policies. named policies old.names ps) (sym lent) ∙ gives),
        loads.2 ∙ told_keys (name_of names) ps ∙ ap (map (name_of names)) ids_at.3,
      )

  pub stopped : (e : NamedRefusal) (new : Names) → GivesAll (policies_in held) old.names ps (Err e) new
      → LoadStep by old given text (Err e) (record { world = old.world; names = new })
  stopped (IdConflict name) new h = (
    ss,
    ids_at.0,
    ((by.depth, reads.1), ids_at.1),
    at (Err name) (λ qs. named old.world.policies old.names qs) (ap (λ policies. named policies old.names ps) (sym lent) ∙ h.0),
    ap (λ names. record { world = old.world; names = names }) h.1,
  )
  stopped (Refused refusal.Memory) new h = ((tt, refl), ap (λ names. record { world = old.world; names = names }) h)
  stopped e new h = absurd h
