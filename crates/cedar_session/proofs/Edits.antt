-- Steps of a session that edits its entities.
use Rattle.std.proofs.Common.{◌≡◌, inl, Bool, ◌<◌, ◌≤◌, false, true, List, Some, None, Ok, Err, refl, sym, ◌∙◌, subst, true≢false, arith}
use Rattle.std.specs.FinSet as set
use Rattle.cedar_language.specs.Uid as uid
use Rattle.cedar_language.specs.Uid.{Uid}
use Rattle.cedar_language.specs.Tree.{Tree}
use Rattle.cedar_language.specs.Height.{height}
use Rattle.cedar_world.specs.World.{World, Entities, IsCyclic}
use Rattle.cedar_world.specs.EntityEdits as edits
use Rattle.cedar_world.specs.EntityEdits.{Version, CanAdd, Puts, Adds, Removes}
use Rattle.cedar_world.specs.Bodies.{EntityBody, is_restricted, entity_bodies, uids_of}
use Rattle.cedar_world.specs.Setting.{Setting, IsBodyWithin, BodiesAreOne}
use Rattle.cedar_world.specs.Values.{versions}
use Rattle.cedar_world.specs.Commands as commands
use Rattle.cedar_world.specs.Commands.{Add, Put, Remove, Done, Refused, rank}
use Rattle.cedar_world.specs.Refusals.{Refuses, Stands, AddCases, PutCases, NoCases}
use Rattle.cedar_world.specs.Step.{Step}
use Rattle.cedar_world.proofs.Parts.{same_some}
use Rattle.cedar_world.proofs.BodyCommands.{not_below, no_text, not_restricted, misshapen, stands_not, stands_first}
use Rattle.cedar_replies.specs.declared.refusal.Refusal.{Refusal}
use Rattle.cedar_replies.specs.declared.refusal.Refusal.TheVariants.{Text, Depth, NotRestricted, Shape, Evaluation, NotAValue, Duplicate, Cycle, Memory}
use Rattle.cedar_replies.specs.Refusals.{refusal_of}
use Rattle.cedar_held.specs.EntityEdits.{AreFine, PutsBody, AddsBody, RemovesBody}
use Rattle.cedar_session.specs.TextReading.{ReadsBody}

pub not_both : (b : Bool) → b ≡ false → b ≡ true → ⊥
not_both b f t = true≢false (sym t ∙ f)

module _ (by : Setting) (old : World) (text : uid.Text) (once : BodiesAreOne by) where
  -- ---- bodies that aren't read

  pub add_unread : (r : Refusal) → ReadsBody by text (Err r) → Step by old Add text (Refused (refusal_of r)) old
  add_unread Text h = (no_text by old text entity_bodies (AddCases by old) (λ b x. x) h, refl)
  add_unread Depth h = (inl h, refl)
  add_unread NotRestricted h = (not_restricted by old text entity_bodies (AddCases by old) (λ b x. x) once h.0 h.1 h.2 h.3, refl)
  add_unread Memory h = (tt, refl)
  add_unread r h = absurd h

  pub put_unread : (r : Refusal) → ReadsBody by text (Err r) → Step by old Put text (Refused (refusal_of r)) old
  put_unread Text h = (no_text by old text entity_bodies (PutCases by old) (λ b x. x) h, refl)
  put_unread Depth h = (inl h, refl)
  put_unread NotRestricted h = (not_restricted by old text entity_bodies (PutCases by old) (λ b x. x) once h.0 h.1 h.2 h.3, refl)
  put_unread Memory h = (tt, refl)
  put_unread r h = absurd h

  pub remove_unread : (r : Refusal) → ReadsBody by text (Err r) → Step by old Remove text (Refused (refusal_of r)) old
  remove_unread Text h = (no_text by old text uids_of (NoCases by old) (λ b x. x) h, refl)
  remove_unread Depth h = (inl h, refl)
  remove_unread NotRestricted h = (not_restricted by old text uids_of (NoCases by old) (λ b x. x) once h.0 h.1 h.2 h.3, refl)
  remove_unread Memory h = (tt, refl)
  remove_unread r h = absurd h

  module _ (tree : Tree) (reads : IsBodyWithin by by.depth text tree) (low : height tree ≤ by.depth) (restricted : is_restricted tree ≡ true) where
    too_low : by.depth < height tree → ⊥
    too_low high = omega arith

    same_versions : (bs : List EntityBody) (vs ws : List Version) → versions by bs ≡ Some vs → versions by bs ≡ Some ws → vs ≡ ws
    same_versions bs vs ws p q = same_some vs ws (sym p ∙ q)

    -- ---- put

    module _ (bs : List EntityBody) (lists : entity_bodies tree ≡ Some bs) where
      put_first : (r : commands.Refusal) → 5 < rank r → PutCases by old bs r → ((s : commands.Refusal) → rank s < rank r → PutCases by old bs s → ⊥) → Refuses by old text Put r
      put_first commands.Depth late holds before = absurd holds
      put_first r late holds before = stands_first by old text entity_bodies (PutCases by old) (λ b x. x) once tree reads low restricted bs lists r late holds before

      put_taken : (vs : List Version) (new : Entities) → AreFine by bs → versions by bs ≡ Some vs → Puts old.entities vs new → Step by old Put text Done (record old { entities = new; asked = None })
      put_taken vs new fine are puts = (λ r h. refuses r h, (tree, bs, (by.depth, reads), lists, (vs, are, (puts, refl))))
        where
          cases : (r : commands.Refusal) → PutCases by old bs r → ⊥
          cases commands.Evaluation h = not_both _ fine.fine h
          cases commands.NotAValue h = not_both _ fine.known h
          cases commands.Cycle h = puts.1 (subst IsCyclic (sym puts.0) (subst (λ ws. IsCyclic (edits.put old.entities ws)) (same_versions bs h.0 vs h.1 are) h.2))
          cases r h = h

          stands : (r : commands.Refusal) → Stands by old text Put r → ⊥
          stands r h = stands_not by old text entity_bodies (PutCases by old) (λ b x. x) once tree reads low restricted bs lists r (cases r) h

          refuses : (r : commands.Refusal) → Refuses by old text Put r → ⊥
          refuses commands.Depth h = stands commands.Depth h
          refuses r h = stands r h.0

    pub put_done : (new : Entities) → PutsBody by by.depth tree old.entities (Ok tt) new → Step by old Put text Done (record old { entities = new; asked = None })
    put_done new h = put_taken h.0 h.1 h.2.1.0 new h.2.0 h.2.1.1 h.2.1.2

    put_fails : (r : Refusal) → PutsBody by by.depth tree old.entities (Err r) old.entities → Step by old Put text (Refused (refusal_of r)) old
    put_fails Shape h = (misshapen by old text entity_bodies (PutCases by old) (λ b x. x) once tree reads low restricted h.0, refl)
    put_fails Evaluation h = (put_first h.0.0 h.0.1 commands.Evaluation (omega arith) h.0.2 before, refl)
      where
        before : (s : commands.Refusal) → rank s < 6 → PutCases by old h.0.0 s → ⊥
        before commands.Evaluation lt x = not_below 6 lt
        before commands.NotAValue lt x = omega arith
        before commands.Cycle lt x = omega arith
        before s lt x = x
    put_fails NotAValue h = (put_first h.0.0 h.0.1 commands.NotAValue (omega arith) h.0.2.unknown before, refl)
      where
        before : (s : commands.Refusal) → rank s < 7 → PutCases by old h.0.0 s → ⊥
        before commands.Evaluation lt x = not_both _ h.0.2.fine x
        before commands.NotAValue lt x = not_below 7 lt
        before commands.Cycle lt x = omega arith
        before s lt x = x
    put_fails Cycle h = (put_first h.0.0 h.0.1 commands.Cycle (omega arith) (h.0.2.1.0, h.0.2.1.1, h.0.2.1.2) before, refl)
      where
        before : (s : commands.Refusal) → rank s < 10 → PutCases by old h.0.0 s → ⊥
        before commands.Evaluation lt x = not_both _ h.0.2.0.fine x
        before commands.NotAValue lt x = not_both _ h.0.2.0.known x
        before commands.Cycle lt x = not_below 10 lt
        before s lt x = x
    put_fails Depth h = absurd (too_low h.0)
    put_fails Memory h = (tt, refl)
    put_fails r h = absurd h

    pub put_refused : (r : Refusal) (new : Entities) → PutsBody by by.depth tree old.entities (Err r) new → new ≡ old.entities → Step by old Put text (Refused (refusal_of r)) (record old { entities = new })
    put_refused r new h same = subst (λ e. Step by old Put text (Refused (refusal_of r)) (record old { entities = e })) (sym same) (put_fails r (subst (λ e. PutsBody by by.depth tree old.entities (Err r) e) same h))

    pub put_changes_nothing : (r : Refusal) (new : Entities) → PutsBody by by.depth tree old.entities (Err r) new → new ≡ old.entities
    put_changes_nothing Shape new h = h.1
    put_changes_nothing Evaluation new h = h.1
    put_changes_nothing NotAValue new h = h.1
    put_changes_nothing Cycle new h = h.1
    put_changes_nothing Depth new h = h.1
    put_changes_nothing Memory new h = h
    put_changes_nothing r new h = absurd h

    -- ---- add

    module _ (bs : List EntityBody) (lists : entity_bodies tree ≡ Some bs) where
      add_first : (r : commands.Refusal) → 5 < rank r → AddCases by old bs r → ((s : commands.Refusal) → rank s < rank r → AddCases by old bs s → ⊥) → Refuses by old text Add r
      add_first commands.Depth late holds before = absurd holds
      add_first r late holds before = stands_first by old text entity_bodies (AddCases by old) (λ b x. x) once tree reads low restricted bs lists r late holds before

      add_taken : (vs : List Version) (new : Entities) → AreFine by bs → versions by bs ≡ Some vs → Adds old.entities vs new → Step by old Add text Done (record old { entities = new; asked = None })
      add_taken vs new fine are adds = (λ r h. refuses r h, (tree, bs, (by.depth, reads), lists, (vs, are, (adds, refl))))
        where
          cases : (r : commands.Refusal) → AddCases by old bs r → ⊥
          cases commands.Evaluation h = not_both _ fine.fine h
          cases commands.NotAValue h = not_both _ fine.known h
          cases commands.Duplicate h = h.2.2 (subst (CanAdd old.entities) (sym (same_versions bs h.0 vs h.1 are)) adds.0 h.2.0 h.2.1)
          cases commands.Cycle h = adds.2 (subst IsCyclic (sym adds.1) (subst (λ ws. IsCyclic (edits.add old.entities ws)) (same_versions bs h.0 vs h.1 are) h.2))
          cases r h = h

          stands : (r : commands.Refusal) → Stands by old text Add r → ⊥
          stands r h = stands_not by old text entity_bodies (AddCases by old) (λ b x. x) once tree reads low restricted bs lists r (cases r) h

          refuses : (r : commands.Refusal) → Refuses by old text Add r → ⊥
          refuses commands.Depth h = stands commands.Depth h
          refuses r h = stands r h.0

    pub add_done : (new : Entities) → AddsBody by by.depth tree old.entities (Ok tt) new → Step by old Add text Done (record old { entities = new; asked = None })
    add_done new h = add_taken h.0 h.1 h.2.1.0 new h.2.0 h.2.1.1 h.2.1.2

    add_fails : (r : Refusal) → AddsBody by by.depth tree old.entities (Err r) old.entities → Step by old Add text (Refused (refusal_of r)) old
    add_fails Shape h = (misshapen by old text entity_bodies (AddCases by old) (λ b x. x) once tree reads low restricted h.0, refl)
    add_fails Evaluation h = (add_first h.0.0 h.0.1 commands.Evaluation (omega arith) h.0.2 before, refl)
      where
        before : (s : commands.Refusal) → rank s < 6 → AddCases by old h.0.0 s → ⊥
        before commands.Evaluation lt x = not_below 6 lt
        before commands.NotAValue lt x = omega arith
        before commands.Duplicate lt x = omega arith
        before commands.Cycle lt x = omega arith
        before s lt x = x
    add_fails NotAValue h = (add_first h.0.0 h.0.1 commands.NotAValue (omega arith) h.0.2.unknown before, refl)
      where
        before : (s : commands.Refusal) → rank s < 7 → AddCases by old h.0.0 s → ⊥
        before commands.Evaluation lt x = not_both _ h.0.2.fine x
        before commands.NotAValue lt x = not_below 7 lt
        before commands.Duplicate lt x = omega arith
        before commands.Cycle lt x = omega arith
        before s lt x = x
    add_fails Duplicate h = (add_first h.0.0 h.0.1 commands.Duplicate (omega arith) (h.0.2.1.0, h.0.2.1.1, h.0.2.1.2) before, refl)
      where
        before : (s : commands.Refusal) → rank s < 9 → AddCases by old h.0.0 s → ⊥
        before commands.Evaluation lt x = not_both _ h.0.2.0.fine x
        before commands.NotAValue lt x = not_both _ h.0.2.0.known x
        before commands.Duplicate lt x = not_below 9 lt
        before commands.Cycle lt x = omega arith
        before s lt x = x
    add_fails Cycle h = (add_first h.0.0 h.0.1 commands.Cycle (omega arith) (h.0.2.1.0, h.0.2.1.1, h.0.2.1.2.1) before, refl)
      where
        before : (s : commands.Refusal) → rank s < 10 → AddCases by old h.0.0 s → ⊥
        before commands.Evaluation lt x = not_both _ h.0.2.0.fine x
        before commands.NotAValue lt x = not_both _ h.0.2.0.known x
        before commands.Duplicate lt x = x.2.2 (subst (CanAdd old.entities) (same_versions h.0.0 h.0.2.1.0 x.0 h.0.2.1.1 x.1) h.0.2.1.2.0 x.2.0 x.2.1)
        before commands.Cycle lt x = not_below 10 lt
        before s lt x = x
    add_fails Depth h = absurd (too_low h.0)
    add_fails Memory h = (tt, refl)
    add_fails r h = absurd h

    pub add_refused : (r : Refusal) (new : Entities) → AddsBody by by.depth tree old.entities (Err r) new → new ≡ old.entities → Step by old Add text (Refused (refusal_of r)) (record old { entities = new })
    add_refused r new h same = subst (λ e. Step by old Add text (Refused (refusal_of r)) (record old { entities = e })) (sym same) (add_fails r (subst (λ e. AddsBody by by.depth tree old.entities (Err r) e) same h))

    pub add_changes_nothing : (r : Refusal) (new : Entities) → AddsBody by by.depth tree old.entities (Err r) new → new ≡ old.entities
    add_changes_nothing Shape new h = h.1
    add_changes_nothing Evaluation new h = h.1
    add_changes_nothing NotAValue new h = h.1
    add_changes_nothing Duplicate new h = h.1
    add_changes_nothing Cycle new h = h.1
    add_changes_nothing Depth new h = h.1
    add_changes_nothing Memory new h = h
    add_changes_nothing r new h = absurd h

    -- ---- remove

    remove_taken : (uids : List Uid) (new : Entities) → uids_of tree ≡ Some uids → Removes old.entities (set.from_list uids) new → Step by old Remove text Done (record old { entities = new; asked = None })
    remove_taken uids new lists removes = (λ r h. refuses r h, (tree, uids, (by.depth, reads), lists, (removes, refl)))
      where
        stands : (r : commands.Refusal) → Stands by old text Remove r → ⊥
        stands r h = stands_not by old text uids_of (NoCases by old) (λ b x. x) once tree reads low restricted uids lists r (λ x. x) h

        refuses : (r : commands.Refusal) → Refuses by old text Remove r → ⊥
        refuses commands.Depth h = stands commands.Depth h
        refuses r h = stands r h.0

    pub remove_done : (new : Entities) → RemovesBody tree old.entities (Ok tt) new → Step by old Remove text Done (record old { entities = new; asked = None })
    remove_done new h = remove_taken h.0 new h.1 h.2

    remove_fails : (r : Refusal) → RemovesBody tree old.entities (Err r) old.entities → Step by old Remove text (Refused (refusal_of r)) old
    remove_fails Shape h = (misshapen by old text uids_of (NoCases by old) (λ b x. x) once tree reads low restricted h.0, refl)
    remove_fails Memory h = (tt, refl)
    remove_fails r h = absurd h

    pub remove_refused : (r : Refusal) (new : Entities) → RemovesBody tree old.entities (Err r) new → new ≡ old.entities → Step by old Remove text (Refused (refusal_of r)) (record old { entities = new })
    remove_refused r new h same = subst (λ e. Step by old Remove text (Refused (refusal_of r)) (record old { entities = e })) (sym same) (remove_fails r (subst (λ e. RemovesBody tree old.entities (Err r) e) same h))

    pub remove_changes_nothing : (r : Refusal) (new : Entities) → RemovesBody tree old.entities (Err r) new → new ≡ old.entities
    remove_changes_nothing Shape new h = h.1
    remove_changes_nothing Memory new h = h
    remove_changes_nothing r new h = absurd h
