-- What is kept is kept of one of the policies, and of each of them something is.
use Rattle.std.proofs.Common.{ℕ, inl, inr, List, [], ◌∷◌, refl, subst}
use Rattle.cedar_language.specs.Uid.{Text}
use Rattle.cedar_entities.specs.declared.store.Entities.{Entities}
use Rattle.cedar_extensions.specs.Table.{Table}
use Rattle.cedar_evaluator.specs.Asking.{Inquiry}
use Rattle.cedar_policy_set.specs.Entries.{Entry, Entries}
use Rattle.cedar_evaluator.specs.Evaluations.{Kept, IsKept, AreKept}
use Rattle.cedar_evaluator.proofs.Lists.{IsAmong}

module _ (i : Inquiry) (store : Entities) (table : Table) (depth : ℕ) where
  pub kept_of : (es : Entries) (ks : List Kept) → AreKept i store table depth es ks → (k : Kept) → IsAmong k ks → (e : Text × Entry) × IsAmong e es × IsKept i store table depth e k
  kept_of [] [] h k a = absurd a
  kept_of [] (l ∷ ks) h k a = absurd h
  kept_of (e ∷ es) [] h k a = absurd h
  kept_of (e ∷ es) (l ∷ ks) (first, rest) k (inl is) = (e, inl refl, subst (IsKept i store table depth e) is first)
  kept_of (e ∷ es) (l ∷ ks) (first, rest) k (inr a) = let (f, among, kept) = kept_of es ks rest k a in (f, inr among, kept)

  pub of_kept : (es : Entries) (ks : List Kept) → AreKept i store table depth es ks → (e : Text × Entry) → IsAmong e es → (k : Kept) × IsAmong k ks × IsKept i store table depth e k
  of_kept [] [] h e a = absurd a
  of_kept [] (l ∷ ks) h e a = absurd h
  of_kept (f ∷ es) [] h e a = absurd h
  of_kept (f ∷ es) (l ∷ ks) (first, rest) e (inl is) = (l, inl refl, subst (λ (x : Text × Entry). IsKept i store table depth x l) is first)
  of_kept (f ∷ es) (l ∷ ks) (first, rest) e (inr a) = let (k, among, kept) = of_kept es ks rest e a in (k, inr among, kept)
