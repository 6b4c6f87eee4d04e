-- The policies of a text, put to those that are held.
use Rattle.std.proofs.Common.{◌≡◌, ◌∙◌, ℕ, suc, ◌^◌, ◌<◌, List, [], ◌∷◌, map, length, refl, sym, ap, subst, arith}
use Rattle.std.specs.Map.{keys_of}
use Rattle.cedar_language.specs.Uid.{Text}
use Rattle.cedar_grammar.specs.Syntax.{numbered, PolicySyntax}
use Rattle.cedar_world.specs.PolicyEdits.{own_ids, Loads}
use Rattle.cedar_policy_set.specs.Entries.{Entries, IsWhole}
use Rattle.cedar_policy_set.specs.Texts.{text_entries}
use Rattle.cedar_held.specs.PolicyWorlds.{policies_in}
use Rattle.cedar_held.specs.LoadWorlds.{LoadsAsWorlds}
use Rattle.cedar_store.specs.Merged.{joined}
use Rattle.cedar_store.specs.Renaming.{NewIds, IsRenaming, new_id}
use Rattle.cedar_held.specs.HoldingPolicies.{IsHeld, IsText}
use Rattle.cedar_held.proofs.Keeping.{held_joined}

own_numbers : (i : ℕ) (ss : List PolicySyntax) → keys_of (text_entries i ss) ≡ own_ids i ss
own_numbers i [] = refl
own_numbers i (s ∷ ss) = ap (λ ids. numbered i ∷ ids) (own_numbers (suc i) ss)

as_many : (i : ℕ) (ss : List PolicySyntax) → length (text_entries i ss) ≡ length ss
as_many i [] = refl
as_many i (s ∷ ss) = ap suc (as_many (suc i) ss)

module _ (mine theirs new : Entries) (r : NewIds) (ids : List Text) (is : IsRenaming mine theirs r) (join : new ≡ joined mine theirs r) where
  pub loaded : LoadsAsWorlds → IsWhole mine → IsHeld mine → length theirs < 2 ^ 63 → ids ≡ map (new_id r) (keys_of theirs) → (ss : List PolicySyntax) → theirs ≡ text_entries 0 ss → Loads (policies_in mine) ss ids (policies_in new)
  loaded law whole held few named ss are =
      let many : length theirs ≡ length ss = ap length are ∙ as_many 0 ss in
      let renaming = subst (λ es. IsRenaming mine es r) are is in
      let own : ids ≡ map (new_id r) (own_ids 0 ss) = named ∙ ap (λ es. map (new_id r) (keys_of es)) are ∙ ap (map (new_id r)) (own_numbers 0 ss) in
      let left : new ≡ joined mine (text_entries 0 ss) r = join ∙ ap (λ es. joined mine es r) are in
      subst (λ xs. Loads (policies_in mine) ss xs (policies_in new)) (sym own)
      (subst (λ es. Loads (policies_in mine) ss (map (new_id r) (own_ids 0 ss)) (policies_in es)) (sym left)
      (law mine ss r whole held.slots (omega arith) renaming))

  pub loaded_held : IsHeld mine → IsText theirs → IsHeld new
  loaded_held held text =
      subst IsHeld (sym (join ∙ ap (λ es. joined mine es r) text.are)) (held_joined mine text.policies r held text.names)
