-- The policies of a text by the ids that they get.
use Rattle.std.proofs.Common.{◌≡◌, ℕ, suc, ◌≤◌, ◌<◌, ◌^◌, arith, Result, Ok, Err, Bool, true, false, cond, List, [], ◌∷◌, Option, None, Some, is_some, map, length, refl, sym, ap, subst, ◌∙◌}
use Rattle.std.specs.FinMap as finite
use Rattle.std.specs.Prelude.{IfOk}
use Rattle.std.specs.Option.{option_map}
use Rattle.std.specs.Map.{keys_of}
use Rattle.cedar_grammar.specs.Bindings.{Bindings}
use Rattle.cedar_grammar.specs.Syntax.{PolicySyntax, numbered, is_template}
use Rattle.cedar_held.specs.LoadWorlds.{LoadsAsWorlds}
use Rattle.cedar_held.specs.PolicyWorlds.{policies_in, world_bound, FindsAsWorlds}
use Rattle.cedar_language.specs.Uid.{Text}
use Rattle.cedar_policy_set.specs.Bounds.{entry_by}
use Rattle.cedar_policy_set.specs.Entries.{Entry, static_policy, template, Entries, IsWhole, bound_at, is_bound}
use Rattle.cedar_policy_set.specs.Texts.{text_entry, text_entries, syntax_in, AreToldBySlots}
use Rattle.cedar_store.specs.Renaming.{NewIds, IsRenaming, new_id}
use Rattle.cedar_world.specs.PolicyEdits.{own_ids}
use Rattle.cedar_named_sessions.specs.Giving.{placed_in}
use Rattle.cedar_named_sessions.specs.NameLists.{Names, name_of}
use Rattle.cedar_named_sessions.specs.Named.{Placed, placed}
use Rattle.cedar_named_sessions.specs.Placed.{ArePlaced}

-- the syntax of a policy, be it a link's
pub entry_syntax : (l : Option Text) (t : Text) (s : PolicySyntax) (b : Bindings) → syntax_in (entry_by l t s b) ≡ s
entry_syntax None t s b = refl
entry_syntax (Some id) t s b = refl

-- what is bound in a set is held in its world
pub bound_in : FindsAsWorlds → (es : Entries) (id : Text) → is_bound es id ≡ is_some (finite.get (policies_in es) id)
bound_in finds es id = sym (ap is_some (finds es id) ∙ some_still (bound_at es id))
  where
    some_still : (e : Option Entry) → is_some (option_map world_bound e) ≡ is_some e
    some_still None = refl
    some_still (Some e) = refl

text_syntax : (b : Bool) (s : PolicySyntax) → syntax_in (cond b (template s) (static_policy s)) ≡ s
text_syntax true s = refl
text_syntax false s = refl

-- as many are bound as the text has
pub as_many : (i : ℕ) (ss : List PolicySyntax) → length (text_entries i ss) ≡ length ss
as_many i [] = refl
as_many i (s ∷ ss) = ap suc (as_many (suc i) ss)

module _ (r : NewIds) (given : PolicySyntax → Option Text) where
  text_placed : (i : ℕ) (ss : List PolicySyntax) → placed_in r given (text_entries i ss) ≡ placed given (map (new_id r) (own_ids i ss)) ss
  text_placed i [] = refl
  text_placed i (s ∷ ss) =
      let rest = text_placed (suc i) ss in
      let same = text_syntax (is_template s) s in
      λ j. (new_id r (numbered i), given (same j)) ∷ rest j

  ids_placed : (i : ℕ) (ss : List PolicySyntax) → keys_of (placed given (map (new_id r) (own_ids i ss)) ss) ≡ map (new_id r) (own_ids i ss)
  ids_placed i [] = refl
  ids_placed i (s ∷ ss) = ap (λ ids. new_id r (numbered i) ∷ ids) (ids_placed (suc i) ss)

  pub are_placed : (held policies : Entries) (ps : Placed) → LoadsAsWorlds → IsWhole held → AreToldBySlots held → length policies < 2 ^ 63 → IsRenaming held policies r
      → ps ≡ placed_in r given policies → ArePlaced given held policies ps
  are_placed held policies ps loads whole slots small renaming is ss are =
      let ids = map (new_id r) (own_ids 0 ss) in
      let stand = is ∙ ap (placed_in r given) are ∙ text_placed 0 ss in (
        ids,
        (loads held ss r whole slots (few (length ss) (subst (λ n. n < 2 ^ 63) (ap length are ∙ as_many 0 ss) small)) (subst (λ es. IsRenaming held es r) are renaming)).names,
        stand,
        ap keys_of stand ∙ ids_placed 0 ss,
      )
    where
      few : (n : ℕ) → n < 2 ^ 63 → n ≤ 2 ^ 64
      few n h = omega arith

-- what follows of each value follows of a result's
pub ok_more : {A E : Type 0} {P Q : A → Type 0} → ((a : A) → P a → Q a) → (r : Result A E) → IfOk r P → IfOk r Q
ok_more more (Ok a) h = more a h
ok_more more (Err e) h = tt
