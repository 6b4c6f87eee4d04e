-- What the edits of the map do to what contracts see of it.
use Rattle.std.proofs.Common.{◌≡◌, ◌≢◌, ℕ, true, false, List, [], ◌∷◌, ◌++◌, refl, sym, ap, subst, ◌∙◌, Option, None, Some, is_some}
use Rattle.std.specs.List.{IsDistinct}
use Rattle.std.specs.Option.{option_map}
use Rattle.std.specs.Map.{lookup, keys_of, values_of, remove_entry}
use Rattle.cedar_language.specs.Uid.{Text}
use Rattle.cedar_language.specs.Order.{same_text}
use Rattle.cedar_grammar.specs.Policy.{Policy}
use Rattle.cedar_grammar.specs.Syntax.{numbered}
use Rattle.cedar_policy_set.specs.declared.scope_index.index.ScopeIndex.{ScopeIndex}
use Rattle.cedar_policy_set.specs.Entries.{template, Entries, bound_at, without, HasItsTemplate, IsFull, IsWhole, has_links}
use Rattle.cedar_policy_set.specs.declared.bounds.BoundKind.{BoundKind}
use Rattle.cedar_policy_set.specs.Bounds.{entry_of, bound_id, entries_of, IsNamed, ListsSlots, ListTheirSlots, IsSound}
use Rattle.cedar_policy_set.specs.Numbers.{Counts, AreBound}
use Rattle.cedar_policy_set.specs.declared.numbers.Numbers.{Numbers}
use Rattle.cedar_policy_set.specs.Scopes.{Covers}
use Rattle.cedar_policy_set.proofs.Covering.{covers_more}
use Rattle.cedar_policy_set.proofs.Counting.{counts_more, counts_without}
use Rattle.cedar_policy_set.proofs.Views.{named_push, named_append, named_without, listed_push, listed_append, listed_without, found_entry, keys_of_entries, entries_append, entries_without}
use Rattle.cedar_policy_set.proofs.Wholes.{empty_is_whole, whole_push, whole_without}

pub sound_empty : (es : List (Text × BoundKind)) → es ≡ [] → IsSound es
sound_empty es e = subst IsSound (sym e) (record { named = refl; listed = tt; whole = empty_is_whole })

unmapped : (o : Option BoundKind) → option_map entry_of o ≡ None → o ≡ None
unmapped None h = refl
unmapped (Some b) h = absurd (true_is_false (ap is_some h))
  where
    true_is_false : true ≡ false → ⊥
    true_is_false e = cc

-- an id that isn't bound isn't in the map
pub absent : (es : List (Text × BoundKind)) (seen : Entries) → entries_of es ≡ seen → (id : Text) → bound_at seen id ≡ None → lookup (same_text id) es ≡ None
absent es seen view id free = unmapped (lookup (same_text id) es) (sym (found_entry es id) ∙ ap (λ xs. bound_at xs id) view ∙ free)

appended_is : (es more : List (Text × BoundKind)) (seen : Entries) → entries_of es ≡ seen → entries_of (es ++ more) ≡ seen ++ entries_of more
appended_is es more seen view = entries_append es more ∙ ap (λ xs. xs ++ entries_of more) view

-- and ids that come last in a whole set stand apart in the map
pub apart : (es more : List (Text × BoundKind)) (seen : Entries) → entries_of es ≡ seen → IsWhole (seen ++ entries_of more) → IsDistinct same_text (keys_of (es ++ more))
apart es more seen view whole = subst (IsDistinct same_text) (sym (ap keys_of (appended_is es more seen view)) ∙ keys_of_entries (es ++ more)) whole.distinct

module _ (es new : List (Text × BoundKind)) (seen : Entries) (view : entries_of es ≡ seen) (sound : IsSound es) where
  -- a new id is bound
  module _ (id : Text) (b : BoundKind) (free : bound_at seen id ≡ None) (is : new ≡ es ++ (id, b) ∷ []) where
    pub bind_is : entries_of new ≡ seen ++ (id, entry_of b) ∷ []
    bind_is = ap entries_of is ∙ entries_append es ((id, b) ∷ []) ∙ ap (λ xs. xs ++ (id, entry_of b) ∷ []) view

    pub counts_bind : (n : Numbers) → AreBound (entries_of es) n → AreBound (entries_of new) n
    counts_bind n h = subst (λ xs. AreBound xs n) (sym bind_is) (counts_more seen ((id, entry_of b) ∷ []) n (subst (λ xs. AreBound xs n) view h))

    pub covers_bind : (x : ScopeIndex) → Covers (entries_of es) x → Covers (entries_of new) x
    covers_bind x h = subst (λ xs. Covers xs x) (sym bind_is) (covers_more seen ((id, entry_of b) ∷ []) x (subst (λ xs. Covers xs x) view h))

    pub sound_bind : bound_id b ≡ id → ListsSlots b → HasItsTemplate seen (entry_of b) → IsFull (entry_of b) → IsSound new
    sound_bind named listed its full =
        record {
          named = subst IsNamed (sym is) (named_push es id b sound.named named);
          listed = subst (λ xs. ListTheirSlots (values_of xs)) (sym is) (listed_push es id b sound.listed listed);
          whole = subst IsWhole (sym bind_is) (whole_push seen id (entry_of b) free (subst IsWhole view sound.whole) its full);
        }

  -- ids that are new are bound
  module _ (more : List (Text × BoundKind)) (whole : IsWhole (seen ++ entries_of more)) (is : new ≡ es ++ more) where
    pub append_is : entries_of new ≡ seen ++ entries_of more
    append_is = ap entries_of is ∙ appended_is es more seen view

    pub counts_append : (n : Numbers) → AreBound (entries_of es) n → AreBound (entries_of new) n
    counts_append n h = subst (λ xs. AreBound xs n) (sym append_is) (counts_more seen (entries_of more) n (subst (λ xs. AreBound xs n) view h))

    pub covers_append : (x : ScopeIndex) → Covers (entries_of es) x → Covers (entries_of new) x
    covers_append x h = subst (λ xs. Covers xs x) (sym append_is) (covers_more seen (entries_of more) x (subst (λ xs. Covers xs x) view h))

    pub sound_append : IsNamed more → ListTheirSlots (values_of more) → IsSound new
    sound_append named listed =
        record {
          named = subst IsNamed (sym is) (named_append es more sound.named named);
          listed = subst (λ xs. ListTheirSlots (values_of xs)) (sym is) (listed_append es more sound.listed listed);
          whole = subst IsWhole (sym append_is) whole;
        }

  -- an id is taken away
  module _ (id : Text) (is : new ≡ remove_entry (same_text id) es) where
    pub without_is : entries_of new ≡ without id seen
    without_is = ap entries_of is ∙ entries_without id es ∙ ap (without id) view

    pub counts_gone : (old n : Numbers) → ((k : ℕ) → Counts n k → (id ≢ numbered k) × Counts old k) → AreBound (entries_of es) old → AreBound (entries_of new) n
    counts_gone old n others h = subst (λ xs. AreBound xs n) (sym (ap entries_of is ∙ entries_without id es)) (counts_without (entries_of es) id old n sound.whole others h)

    pub covers_gone : (x : ScopeIndex) → Covers (without id (entries_of es)) x → Covers (entries_of new) x
    covers_gone x h = subst (λ xs. Covers xs x) (sym (ap entries_of is ∙ entries_without id es)) h

    pub sound_without : IsDistinct same_text (keys_of new) → ((s : Policy) → bound_at seen id ≡ Some (template s) → has_links seen id ≡ false) → IsSound new
    sound_without distinct unlinked =
        record {
          named = subst IsNamed (sym is) (named_without (same_text id) es sound.named);
          listed = subst (λ xs. ListTheirSlots (values_of xs)) (sym is) (listed_without (same_text id) es sound.listed);
          whole = subst IsWhole (sym without_is)
              (whole_without seen id (subst IsWhole view sound.whole) unlinked (subst (IsDistinct same_text) (sym (keys_of_entries new) ∙ ap keys_of without_is) distinct));
        }
