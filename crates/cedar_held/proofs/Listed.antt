-- Bodies of which entities are made in turn, and the body that lists them.
use Rattle.std.proofs.Common.{◌≡◌, ◌∙◌, ◌<◌, ◌+◌, ℕ, refl, ap, sym, subst, Bool, true, false, ◌||◌, not, Some, None, List, [], ◌∷◌, ◌++◌, map, length, get_or, drop, drop-cons, add-one, Result, Ok, Err}
use Rattle.std.specs.Global.{Vec}
use Rattle.std.proofs.lemmas.List.{map-append}
use Rattle.std.proofs.lemmas.Bool.Decides.{Decides-ltb}
use Rattle.cedar_language.specs.Height.{height}
use Rattle.cedar_language.specs.Restricted.{is_restricted}
use Rattle.cedar_language.specs.Tree.{Tree}
use Rattle.cedar_grammar.specs.UnknownCalls.{holds_call}
use Rattle.cedar_world.specs.Bodies.{EntityBody, entity_bodies}
use Rattle.cedar_world.specs.EntityEdits.{Version}
use Rattle.cedar_world.specs.Setting.{Setting}
use Rattle.cedar_world.specs.Values.{some_entry, holds_unknown, errs_alone, versions}
use Rattle.cedar_extensions.specs.Table.{Table}
use Rattle.cedar_replies.specs.declared.refusal.Refusal.{Refusal}
use Rattle.cedar_replies.specs.declared.refusal.Refusal.TheVariants as refusal
use Rattle.cedar_entities.specs.Data.{EntityData}
use Rattle.cedar_held.specs.Shown.{as_entity, as_entities}
use Rattle.cedar_held.specs.declared.entities.EntityBody as code
use Rattle.cedar_held.specs.Entities.{written_of, named_body, written_bodies}
use Rattle.cedar_held.specs.Fields.{unrestricted, deeper, Serves}
use Rattle.cedar_held.specs.Making.{some_in, IsMade}
use Rattle.cedar_held.specs.Listing.{all_named, ShowVersions, AreVersions, AreMade, AreListed}
use Rattle.cedar_held.proofs.Built.{built_append}
use Rattle.cedar_held.proofs.Carrying.{or_true, false_back, Carries, at_first, next_value, next_open, all_fine, all_unknowns, all_given}
use Rattle.cedar_held.proofs.Parts.{bodies_fine, restricted_rises, calls_rise, heights_rise}
use Rattle.std.proofs.lemmas.Bool.{or_left as or_first}

-- what is made so far shows these versions
abbrev pub Shown : List EntityData → List Version → Type 0
Shown made vs = made ≡ as_entities vs

-- the bodies that are left at an index
pub left_at : (bs : List code.EntityBody) (i : ℕ) (b : code.EntityBody) → i < length bs → b ≡ get_or bs i b → map written_of (drop i bs) ≡ written_of b ∷ map written_of (drop (i + 1) bs)
left_at bs i b lt is = rw (add-one, drop-cons bs i b lt, ← is) refl

module _ (table : Table) where
  pub record IsUnderway (all rest : List EntityBody) (made : List EntityData) (flag : Bool) : Type 0 where
    pub inside : (test : Tree → Bool) → some_entry test rest ≡ true → some_entry test all ≡ true
    pub show_versions : flag ≡ false → ShowVersions made
    pub carries : (by : Setting) → Serves table by (some_entry holds_call all) →
        Carries (Shown made) (some_entry (errs_alone by) (all_named all)) (some_entry holds_unknown (all_named all)) (versions by (all_named all))
        flag (some_entry (errs_alone by) (all_named rest)) (some_entry holds_unknown (all_named rest)) (versions by (all_named rest))

  pub begins : (all : List EntityBody) → IsUnderway all all [] false
  begins all = record {
    inside = λ test h. h;
    show_versions = λ unset. ([], refl, tt);
    carries = λ by serves. at_first (Shown []) (some_entry (errs_alone by) (all_named all)) (some_entry holds_unknown (all_named all)) (versions by (all_named all)) refl;
  }

  module _ (all rest more : List EntityBody) (made : List EntityData) (flag : Bool) (b : EntityBody) (underway : IsUnderway all rest made flag) (step : rest ≡ b ∷ more) where
    here : (test : Tree → Bool) → (some_in test b || some_entry test more) ≡ true → some_entry test all ≡ true
    here test h = underway.inside test (ap (some_entry test) step ∙ h)

    -- what no entry of all passes, none of this body does
    pub none_here : (test : Tree → Bool) → some_entry test all ≡ false → some_in test b ≡ false
    none_here test h = false_back (some_in test b) _ (λ yes. here test (or_first (some_in test b) (some_entry test more) yes)) h

    serves_here : (by : Setting) → Serves table by (some_entry holds_call all) → Serves table by (some_in holds_call b)
    serves_here by serves = record { functions = serves.functions; held = λ unset. none_here holds_call (serves.held unset) }

    carried : (by : Setting) → Serves table by (some_entry holds_call all) →
        Carries (Shown made) (some_entry (errs_alone by) (all_named all)) (some_entry holds_unknown (all_named all)) (versions by (all_named all))
        flag (some_entry (errs_alone by) (all_named (b ∷ more))) (some_entry holds_unknown (all_named (b ∷ more))) (versions by (all_named (b ∷ more)))
    carried by serves = subst (λ (r : List EntityBody).
        Carries (Shown made) (some_entry (errs_alone by) (all_named all)) (some_entry holds_unknown (all_named all)) (versions by (all_named all))
        flag (some_entry (errs_alone by) (all_named r)) (some_entry holds_unknown (all_named r)) (versions by (all_named r))) step (underway.carries by serves)

    -- a body that is refused
    pub stops : (depth : ℕ) (r : Refusal) → IsMade table depth b (Err r) → AreMade table depth all (Err r)
    stops depth refusal.Evaluation h = λ by serves. (carried by serves).same_errs ∙ or_first (some_in (errs_alone by) (named_body b)) (some_entry (errs_alone by) (all_named more)) (h by (serves_here by serves))
    stops depth refusal.Depth h = here (deeper depth) (or_first (some_in (deeper depth) b) (some_entry (deeper depth) more) h)
    stops depth refusal.Memory h = tt
    stops depth r h = absurd h

    onward : (test : Tree → Bool) → some_entry test more ≡ true → some_entry test all ≡ true
    onward test h = here test (or_true (some_in test b) _ h)

    -- one more version is shown
    shown_after : (e : EntityData) (next : List EntityData) → next ≡ made ++ e ∷ [] → (v : Version) → e ≡ as_entity v → (done : List Version) → Shown made done → Shown next (done ++ v ∷ [])
    shown_after e next last v is done shown = last ∙ ap (λ es. es ++ e ∷ []) shown ∙ ap (λ x. as_entities done ++ x ∷ []) is ∙ sym (map-append as_entity done (v ∷ []))

    pub goes_on : (depth : ℕ) (e : EntityData) (next : List EntityData) → IsMade table depth b (Ok (Some e)) → next ≡ made ++ e ∷ [] → IsUnderway all more next flag
    goes_on depth e next is last = record {
      inside = onward;
      show_versions = λ unset.
          let before = underway.show_versions unset in
          (before.0 ++ is.shows_version.0 ∷ [], shown_after e next last is.shows_version.0 is.shows_version.1 before.0 before.1, built_append _ before.0 is.shows_version.0 before.2 is.shows_version.2);
      carries = λ by serves.
          let version = is.is_version by (serves_here by serves) in
          next_value (Shown made) (Shown next) _ _ _ flag flag (some_in (errs_alone by) (named_body b)) (some_entry (errs_alone by) (all_named more)) (some_in holds_unknown (named_body b)) (some_entry holds_unknown (all_named more)) _ (versions by (all_named more))
          (carried by serves) version.fine version.given version.known version.is
          (shown_after e next last version.given version.shown) refl;
    }

    pub waits_on : (depth : ℕ) → IsMade table depth b (Ok None) → IsUnderway all more made true
    waits_on depth is = record {
      inside = onward;
      show_versions = λ unset. cc;
      carries = λ by serves.
          let open_body = is by (serves_here by serves) in
          next_open (Shown made) (Shown made) _ _ _ flag true (some_in (errs_alone by) (named_body b)) (some_entry (errs_alone by) (all_named more)) (some_in holds_unknown (named_body b)) (some_entry holds_unknown (all_named more)) _ (versions by (all_named more))
          (carried by serves) open_body.fine open_body.unknown (sym (or_true flag true refl));
    }

  pub settled : (all rest : List EntityBody) (made : List EntityData) (flag b : Bool) → flag ≡ b → IsUnderway all rest made flag → IsUnderway all rest made b
  settled all rest made flag b same underway = subst (IsUnderway all rest made) same underway

  are_versions : (all rest : List EntityBody) (made : List EntityData) → IsUnderway all rest made false → rest ≡ [] → (by : Setting) → Serves table by (some_entry holds_call all) → AreVersions by (all_named all) made
  are_versions all rest made underway none by serves =
      let end = subst (λ (r : List EntityBody).
      Carries (Shown made) (some_entry (errs_alone by) (all_named all)) (some_entry holds_unknown (all_named all)) (versions by (all_named all))
      false (some_entry (errs_alone by) (all_named r)) (some_entry holds_unknown (all_named r)) (versions by (all_named r))) none (underway.carries by serves) in
      let given = all_given (Shown made) _ _ _ false end refl in
      record { given = given.0; are = given.2; shown = given.1; fine = all_fine (Shown made) _ _ _ false end; known = all_unknowns (Shown made) _ _ _ false end }

  pub all_made : (depth : ℕ) (all rest : List EntityBody) (made : Vec EntityData) → IsUnderway all rest made.items false → rest ≡ [] → AreMade table depth all (Ok (Some made))
  all_made depth all rest made underway none = record { show_versions = underway.show_versions refl; are_versions = are_versions all rest made.items underway none }

  pub some_wait : (depth : ℕ) (all rest : List EntityBody) (made : List EntityData) → IsUnderway all rest made true → rest ≡ [] → AreMade table depth all (Ok None)
  some_wait depth all rest made underway none by serves =
      let end = subst (λ (r : List EntityBody).
      Carries (Shown made) (some_entry (errs_alone by) (all_named all)) (some_entry holds_unknown (all_named all)) (versions by (all_named all))
      true (some_entry (errs_alone by) (all_named r)) (some_entry holds_unknown (all_named r)) (versions by (all_named r))) none (underway.carries by serves) in
      record { fine = all_fine (Shown made) _ _ _ true end; unknown = all_unknowns (Shown made) _ _ _ true end }

  -- ---- the body that lists them

  module _ (depth : ℕ) (t : Tree) (ws : List EntityBody) (written : Some ws ≡ written_bodies t) where
    pub all_restricted : is_restricted t ≡ true → some_entry unrestricted ws ≡ false
    all_restricted h = bodies_fine unrestricted restricted_rises t ws (ap not h) (sym written)

    serves_all : (by : Setting) → Serves table by (holds_call t) → Serves table by (some_entry holds_call ws)
    serves_all by serves = record { functions = serves.functions; held = λ unset. bodies_fine holds_call calls_rise t ws (serves.held unset) (sym written) }

    higher : some_entry (deeper depth) ws ≡ true → depth < height t
    higher h = (Decides-ltb depth (height t)).0 (by_test (deeper depth t) refl)
      where
        by_test : (b : Bool) → deeper depth t ≡ b → deeper depth t ≡ true
        by_test true is = is
        by_test false is = let none = bodies_fine (deeper depth) (heights_rise depth) t ws is (sym written) in cc

    module _ (bodies : Some (all_named ws) ≡ entity_bodies t) (by : Setting) (serves : Serves table by (holds_call t)) where
      pub listed : (es : Vec EntityData) → AreMade table depth ws (Ok (Some es)) → AreListed by depth t (Ok es)
      listed es h = (all_named ws, sym bodies, h.are_versions by (serves_all by serves))

      pub not_values : AreMade table depth ws (Ok None) → AreListed by depth t (Err refusal.NotAValue)
      not_values h = (all_named ws, sym bodies, h by (serves_all by serves))

      pub refused : (r : Refusal) → AreMade table depth ws (Err r) → AreListed by depth t (Err r)
      refused refusal.Evaluation h = (all_named ws, sym bodies, h by (serves_all by serves))
      refused refusal.Depth h = higher h
      refused refusal.Memory h = tt
      refused r h = absurd h

  -- the same of another way to write the tree
  pub along : (depth : ℕ) (s t : Tree) (r : Result (Vec EntityData) Refusal) (by : Setting) → s ≡ t → (Serves table by (holds_call s) → AreListed by depth s r) → Serves table by (holds_call t) → AreListed by depth t r
  along depth s t r by same f serves = subst (λ x. AreListed by depth x r) same (f (subst (λ x. Serves table by (holds_call x)) (sym same) serves))
