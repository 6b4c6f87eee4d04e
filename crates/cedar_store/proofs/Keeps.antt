-- A merge keeps each policy of both sets, a link with its template.
use Rattle.std.proofs.Common.{◌≡◌, Bool, true, false, not, ◌||◌, cond, List, [], ◌∷◌, map, filter, refl, sym, ap, ◌∙◌, true≢false, is_some, Option, None, Some, unwrap_or}
use Rattle.std.specs.Prelude.{Result, Ok, Err, OnOk}
use Rattle.std.specs.List.{IsDistinct, AllByRecursion}
use Rattle.std.specs.Map.{keys_of, lookup}
use Rattle.std.specs.Set.{is_member}
use Rattle.std.specs.Option.{option_map_or}
use Rattle.std.proofs.lemmas.Map.Made.{is_some-lookup}
use Rattle.std.proofs.lemmas.Map.Keys.{IsDistinct-head, IsDistinct-tail}
use Rattle.std.proofs.lemmas.Bool.{or_left, or_right}
use Rattle.cedar_language.specs.Uid.{Text}
use Rattle.cedar_language.specs.Order.{same_text}
use Rattle.cedar_policy_set.specs.Entries.{Entry, static_policy, template, link, Entries, bound_at, is_bound, IsWhole}
use Rattle.cedar_policy_set.specs.EntryNodes.{same_entry, entries_decide}
use Rattle.cedar_policy_set.proofs.Finding.{same_id, id_itself, none_from, found_first, found_later}
use Rattle.cedar_store.specs.Renaming.{NewIds, conflicts, conflicting, IsRenaming, new_id, renamed}
use Rattle.cedar_store.specs.Merged.{renamed_entry, is_more, joining, joined, KeepsMine, KeepsTheirs}
use Rattle.cedar_store.proofs.RenamingLaws.{new_id_apart, numbers_keys}
use Rattle.cedar_store.proofs.Joins.{member_of_filter, more_are_free}
pub use Rattle.cedar_lemmas.proofs.Booleans.{not_is_false as not_false}
pub use Rattle.std.proofs.lemmas.Bool.{or_parts as or_none, false_from_ne_true as false_unless}

-- my policies stay
pub keeps_mine : (mine theirs : Entries) (renaming : NewIds) → KeepsMine mine (joined mine theirs renaming)
keeps_mine mine theirs renaming id e h = found_first mine (joining mine renaming theirs) id e h

module _ (mine theirs : Entries) (renaming : NewIds) (is : IsRenaming mine theirs renaming) where
  -- what theirs has more stands under its new id
  pub found_renamed : (es : Entries) → ((a : Text) → is_member same_text (keys_of es) a ≡ true → is_bound theirs a ≡ true)
      → (id : Text) (b : Entry) → bound_at es id ≡ Some b → is_more mine (id, b) ≡ true → bound_at (joining mine renaming es) (new_id renaming id) ≡ Some (renamed renaming b)
  found_renamed [] within id b h more = cc
  found_renamed (e ∷ es) within id b h more =
      by (same_text id e.0) refl h (is_more mine e) refl (found_renamed es (λ a m. within a (or_right (same_text a e.0) _ m)) id b)
    where
      here : is_bound theirs id ≡ true
      here = within id (sym (is_some-lookup (same_text id) (e ∷ es)) ∙ ap is_some h)

      there : is_bound theirs e.0 ≡ true
      there = within e.0 (or_left _ _ (id_itself e.0))

      by : (c : Bool) → same_text id e.0 ≡ c → cond c (Some e.1) (bound_at es id) ≡ Some b → (d : Bool) → is_more mine e ≡ d
          → (bound_at es id ≡ Some b → is_more mine (id, b) ≡ true → bound_at (joining mine renaming es) (new_id renaming id) ≡ Some (renamed renaming b))
          → bound_at (map (renamed_entry renaming) (cond d (e ∷ filter (is_more mine) es) (filter (is_more mine) es))) (new_id renaming id) ≡ Some (renamed renaming b)
      by true s g true m rest =
          let value : e.1 ≡ b = cc in
          let key = ap (same_text (new_id renaming id)) (sym (ap (new_id renaming) (same_id id e.0 s))) ∙ id_itself (new_id renaming id) in
          ap (λ t. cond t (Some (renamed renaming e.1)) (bound_at (joining mine renaming es) (new_id renaming id))) key ∙ ap (λ v. Some (renamed renaming v)) value
      by true s g false m rest =
          let value : e.1 ≡ b = cc in
          let key = same_id id e.0 s in
          absurd (true≢false (sym more ∙ (λ i. is_more mine (key i, sym value i)) ∙ m))
      by false s g true m rest =
          ap (λ t. cond t (Some (renamed renaming e.1)) (bound_at (joining mine renaming es) (new_id renaming id))) (new_id_apart mine theirs renaming is id e.0 here there s) ∙ rest g more
      by false s g false m rest = rest g more

pub absent_from_all : (k : Text) (ks : List Text) → AllByRecursion (λ y. same_text k y ≡ false) ks → is_member same_text ks k ≡ false
absent_from_all k [] h = refl
absent_from_all k (x ∷ xs) h = ap (λ b. b || is_member same_text xs k) h.0 ∙ absent_from_all k xs h.1

module _ (mine : Entries) where
  -- an entry that does not conflict is not listed
  no_conflict : (es : Entries) → IsDistinct same_text (keys_of es) → (id : Text) (b : Entry) → conflicts mine (id, b) ≡ false → bound_at es id ≡ Some b → is_member same_text (conflicting mine es) id ≡ false
  no_conflict [] d id b n h = refl
  no_conflict (e ∷ es) d id b n h =
      by (same_text id e.0) refl h (conflicts mine e) refl (no_conflict es (IsDistinct-tail same_text e.0 (keys_of es) d) id b n)
    where
      by : (c : Bool) → same_text id e.0 ≡ c → cond c (Some e.1) (bound_at es id) ≡ Some b → (f : Bool) → conflicts mine e ≡ f
          → (bound_at es id ≡ Some b → is_member same_text (conflicting mine es) id ≡ false)
          → is_member same_text (keys_of (cond f (e ∷ filter (conflicts mine) es) (filter (conflicts mine) es))) id ≡ false
      by true s g true k rest =
          let value : e.1 ≡ b = cc in
          let key = same_id id e.0 s in
          absurd (true≢false (sym k ∙ (λ i. conflicts mine (sym key i, value i)) ∙ n))
      by true s g false k rest =
          let key = same_id id e.0 s in
          let absent : is_member same_text (keys_of es) id ≡ false = ap (is_member same_text (keys_of es)) key ∙ absent_from_all e.0 (keys_of es) (IsDistinct-head same_text e.0 (keys_of es) d) in
          false_unless _ (λ m. true≢false (sym (member_of_filter (conflicts mine) id es m) ∙ absent))
      by false s g true k rest = ap (λ t. t || is_member same_text (conflicting mine es) id) s ∙ rest g
      by false s g false k rest = rest g

  -- what is bound alike does not conflict
  alike_stays : (id : Text) (e : Entry) → bound_at mine id ≡ Some e → conflicts mine (id, e) ≡ false
  alike_stays id e h = ap (λ (o : Option Entry). option_map_or (λ b. not (same_entry b e)) o false) h ∙ ap not ((entries_decide e e).1 refl)

module _ (mine theirs : Entries) (renaming : NewIds) (is : IsRenaming mine theirs renaming) (mine_whole : IsWhole mine) (whole : IsWhole theirs) where
  -- what does not conflict keeps its id
  pub not_renamed : (id : Text) (e : Entry) → bound_at theirs id ≡ Some e → conflicts mine (id, e) ≡ false → lookup (same_text id) renaming ≡ None
  not_renamed id e h n =
      none_from _
      (is_some-lookup (same_text id) renaming
      ∙ ap (λ ids. is_member same_text ids id) (numbers_keys mine theirs _ 0 renaming is)
      ∙ no_conflict mine theirs whole.distinct id e n h)

  -- what both sets bind alike is no other policy after the renaming
  shared_stays : (id : Text) (e : Entry) → bound_at mine id ≡ Some e → bound_at theirs id ≡ Some e → renamed renaming e ≡ e
  shared_stays id (static_policy s) g h = refl
  shared_stays id (template s) g h = refl
  shared_stays id (link t s b) g h =
      let there = whole.templates id (link t s b) h in
      let none = not_renamed t (template s) there (alike_stays mine t (template s) (mine_whole.templates id (link t s b) g)) in
      ap (λ (o : Option Text). link (unwrap_or o t) s b) none

  -- each policy of theirs stands under its id after the renaming
  pub keeps_theirs : KeepsTheirs theirs renaming (joined mine theirs renaming)
  keeps_theirs id e h = by (is_more mine (id, e)) refl
    where
      more : is_more mine (id, e) ≡ true → bound_at (joined mine theirs renaming) (new_id renaming id) ≡ Some (renamed renaming e)
      more m =
          let found = found_renamed mine theirs renaming is theirs (λ a k. is_some-lookup (same_text a) theirs ∙ k) id e h m in
          let listed = sym (is_some-lookup (same_text (new_id renaming id)) (joining mine renaming theirs)) ∙ ap is_some found in
          found_later mine (joining mine renaming theirs) (new_id renaming id) (more_are_free mine theirs renaming is theirs (λ a k. k) (new_id renaming id) listed) ∙ found

      shared : (o : Option Entry) → bound_at mine id ≡ o → not (is_some o) ≡ false → option_map_or (λ c. not (same_entry c e)) o false ≡ false
          → lookup (same_text id) renaming ≡ None → bound_at (joined mine theirs renaming) (new_id renaming id) ≡ Some (renamed renaming e)
      shared None f g n none = absurd (true≢false g)
      shared (Some c) f g n none =
          let same : c ≡ e = (entries_decide c e).0 (not_false _ n) in
          let here : bound_at mine id ≡ Some e = f ∙ ap Some same in
          ap (λ o. bound_at (joined mine theirs renaming) (unwrap_or o id)) none ∙ keeps_mine mine theirs renaming id e here ∙ ap Some (sym (shared_stays id e here h))

      by : (m : Bool) → is_more mine (id, e) ≡ m → bound_at (joined mine theirs renaming) (new_id renaming id) ≡ Some (renamed renaming e)
      by true m = more m
      by false m =
          let parts = or_none (not (is_bound mine id)) (conflicts mine (id, e)) m in
          shared (bound_at mine id) refl parts.0 parts.1 (not_renamed id e h parts.1)

-- what follows from a success's clause is one
pub carried : {A E P Q : Type 0} (r : Result A E) → (P → Q) → OnOk r P → OnOk r Q
carried (Ok a) f h = f h
carried (Err e) f h = tt
