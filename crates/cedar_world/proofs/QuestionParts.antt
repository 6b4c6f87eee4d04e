-- What passes of a body passes of the context of the question that it asks.
use Rattle.std.proofs.Common.{◌≡◌, Bool, true, false, cond, Option, Some, None, List, ◌∷◌, refl, subst}
use Rattle.std.specs.Option.{unwrap_or}
use lib.Chars.{codes}
use Rattle.cedar_language.specs.Uid.{Text}
use Rattle.cedar_language.specs.Tree.{MakeRecord, Tree, Apply, Trees, a_tree}
use Rattle.cedar_grammar.specs.UnknownCalls.{all_named}
use Rattle.cedar_world.specs.Asking.{Part, Entries, NoContext, WithEntries, Question}
use Rattle.cedar_world.specs.Bodies.{Fields, zipped, found, if_there, entries_of, question_with, question_fields, question_keys, are_among, ask_body}
use Rattle.cedar_world.specs.Orders.{text_eq}
use Rattle.cedar_world.proofs.Parts.{same_some}

-- a context passes, where its entries do
abbrev pub ContextPasses : (Trees → Type 0) → Entries → Type 0
ContextPasses AllPass NoContext = Unit {0}
ContextPasses AllPass (WithEntries ks ts) = AllPass ts

-- what passes of a list of trees passes of each, and once calls of `unknown` are read as unknowns
module _ (Passes : Tree → Type 0) (AllPass : Trees → Type 0) (parts : (t : Tree) (ts : Trees) → AllPass (a_tree t ts) → Passes t × AllPass ts)
    (of_record : (ks : List Text) (ts : Trees) → Passes (Apply (MakeRecord ks) ts) → AllPass ts) (naming : (ts : Trees) → AllPass ts → AllPass (all_named ts)) where
  abbrev OnePasses : Option Tree → Type 0
  OnePasses None = Unit {0}
  OnePasses (Some t) = Passes t

  one_passes : (b : Bool) (t : Tree) (o : Option Tree) → Passes t → OnePasses o → OnePasses (cond b (Some t) o)
  one_passes true t o h k = h
  one_passes false t o h k = k

  field_passes : (key : Text) (ks : List Text) (ts : Trees) → AllPass ts → OnePasses (found key (zipped ks ts))
  field_passes key (k ∷ ks) (a_tree t ts) h =
      let (ht, hts) = parts t ts h in
      one_passes (text_eq key k) t (found key (zipped ks ts)) ht (field_passes key ks ts hts)
  field_passes key _ _ h = tt

  optional_passes : (o : Option Tree) (c : Option Entries) → OnePasses o → if_there entries_of o ≡ Some c → ContextPasses AllPass (unwrap_or c NoContext)
  optional_passes None c h is = let same : None ≡ c = cc in subst (λ x. ContextPasses AllPass (unwrap_or x NoContext)) same tt
  optional_passes (Some (Apply (MakeRecord ks) ts)) c h is =
      let same : Some (WithEntries ks (all_named ts)) ≡ c = cc in
      subst (λ x. ContextPasses AllPass (unwrap_or x NoContext)) same (naming ts (of_record ks ts h))
  optional_passes (Some t) c h is = cc

  with_parts : (p a r : Option Part) (c : Option (Option Entries)) (q : Question) → question_with p a r c ≡ Some q
      → ((e : Option Entries) → c ≡ Some e → ContextPasses AllPass (unwrap_or e NoContext)) → ContextPasses AllPass q.context
  with_parts (Some p) (Some a) (Some r) (Some c) q is h = subst (λ (x : Question). ContextPasses AllPass x.context) (same_some _ q is) (h c refl)
  with_parts _ _ _ _ q is h = cc

  if_among : (b : Bool) (fs : Fields) (q : Question) → cond b (question_fields fs) None ≡ Some q → question_fields fs ≡ Some q
  if_among true fs q h = h
  if_among false fs q h = cc

  pub question_passes : (tree : Tree) (q : Question) → Passes tree → ask_body tree ≡ Some q → ContextPasses AllPass q.context
  question_passes (Apply (MakeRecord ks) ts) q h asks =
      with_parts _ _ _ _ q (if_among (are_among question_keys (zipped ks ts)) (zipped ks ts) q asks)
      (λ e there. optional_passes (found (codes "context") (zipped ks ts)) e (field_passes (codes "context") ks ts (of_record ks ts h)) there)
  question_passes _ q h asks = cc
