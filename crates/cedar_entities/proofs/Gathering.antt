-- Uids that an edit touches are gathered, and cut, in turn.
use Rattle.std.proofs.Common.{◌≡◌, Bool, true, false, ◌||◌, List, [], ◌∷◌, ◌++◌, Option, None, Some, cond, option_map, is_some, refl, sym, ap, subst, ◌∙◌, true≢false}
use Rattle.std.specs.Option.{option_map_or, IsSome}
use Rattle.std.specs.FinSet as set
use Rattle.std.specs.BTreeMap.{BTreeMap, WritesThrough}
use Rattle.std.specs.List.{All, list_any}
use Rattle.std.specs.Map.{keys_of}
use Rattle.std.proofs.lemmas.List.Folds.{list_any-append}
use Rattle.std.proofs.lemmas.List.Elements.{All-head, All-tail}
use Rattle.cedar_language.specs.Uid.{Uid}
use Rattle.cedar_language.specs.Order.{uid_cmp, same_uid}
use Rattle.cedar_literals.specs.Laws.{same_uid_equiv}
use Rattle.cedar_entities.specs.Data.{EntityData, UidSet, ancestors_of, without}
use Rattle.cedar_entities.specs.Kept.{Lookup, in_map, kept_at, Covers}
use Rattle.cedar_entities.proofs.UidLemmas.{uid_is, none_of_nothing, without_again}
use Rattle.cedar_entities.proofs.Ordered.{written_at, keys_stand}
use Rattle.cedar_entities.proofs.Sameness.{IsUnderway, goes_on}
use Rattle.cedar_entities.proofs.Untouched.{untouched_cut}
use Rattle.std.proofs.lemmas.Bool.{or_right as or_else}

-- ---- gathering

-- a uid that isn't listed keeps none of the edited as an ancestor
abbrev pub IsApart : Lookup → List Uid → List Uid → Uid → Type 0
IsApart found edited uids uid = list_any (same_uid uid) uids ≡ false → list_any (set.contains (kept_at found uid)) edited ≡ false

-- the edited are listed, and so are those walked over that keep one of them
pub record IsGathering (found : Lookup) (edited uids left : List Uid) : Type 0 where
  pub edited_in : (q : Uid) → list_any (same_uid q) uids ≡ false → list_any (same_uid q) edited ≡ false
  pub underway : IsUnderway found (IsApart found edited uids) left

nothing_kept : (found : Lookup) (edited : List Uid) (uid : Uid) (o : Option EntityData) → ¬ (IsSome o) → list_any (set.contains (option_map_or ancestors_of o set.empty)) edited ≡ false
nothing_kept found edited uid None h = none_of_nothing edited
nothing_kept found edited uid (Some e) h = absurd (h refl)

module _ (found : Lookup) (edited : List Uid) where
  pub gathering_begins : (uids keys : List Uid) → ((q : Uid) → list_any (same_uid q) uids ≡ list_any (same_uid q) edited) → ((q : Uid) → list_any (same_uid q) keys ≡ is_some (found q)) → IsGathering found edited uids keys
  gathering_begins uids keys are held = record {
    edited_in = λ q h. sym (are q) ∙ h;
    underway = record {
      holds = λ uid gone has. absurd (true≢false (sym has ∙ sym (held uid) ∙ gone));
      here = λ uid there. sym (held uid) ∙ there;
    };
  }

  more_listed : (uids more : List Uid) → ((q : Uid) → list_any (same_uid q) more ≡ false → list_any (same_uid q) uids ≡ false) → (left : List Uid) → IsGathering found edited uids left → IsGathering found edited more left
  more_listed uids more on left g = record {
    edited_in = λ q h. g.edited_in q (on q h);
    underway = record {
      holds = λ uid gone has h. g.underway.holds uid gone has (on uid h);
      here = g.underway.here;
    };
  }

  pushed : (uids : List Uid) (k q : Uid) → list_any (same_uid q) (uids ++ k ∷ []) ≡ false → list_any (same_uid q) uids ≡ false
  pushed uids k q h = left (list_any (same_uid q) uids) (list_any (same_uid q) (k ∷ [])) (sym (list_any-append (same_uid q) uids (k ∷ [])) ∙ h)
    where
      left : (a b : Bool) → (a || b) ≡ false → a ≡ false
      left true b e = e
      left false b e = refl

  pub gathers : (uids left more : List Uid) (k : Uid) → left ≡ k ∷ more → IsGathering found edited uids left → IsGathering found edited (uids ++ k ∷ []) more
  gathers uids left more k step g =
      let h = more_listed uids (uids ++ k ∷ []) (pushed uids k) left g in
      let listed : list_any (same_uid k) (uids ++ k ∷ []) ≡ true = list_any-append (same_uid k) uids (k ∷ []) ∙ or_else (list_any (same_uid k) uids) (list_any (same_uid k) (k ∷ [])) (ap (λ b. b || false) (same_uid_equiv.refl k)) in
      record {
        edited_in = h.edited_in;
        underway = goes_on found (IsApart found edited (uids ++ k ∷ [])) left more k h.underway step (λ e. absurd (true≢false (sym listed ∙ e)));
      }

  pub passes : (uids left more : List Uid) (k : Uid) → left ≡ k ∷ more → list_any (set.contains (kept_at found k)) edited ≡ false → IsGathering found edited uids left → IsGathering found edited uids more
  passes uids left more k step apart g = record {
    edited_in = g.edited_in;
    underway = goes_on found (IsApart found edited uids) left more k g.underway step (λ _. apart);
  }

  pub gathered : (uids left : List Uid) → left ≡ [] → IsGathering found edited uids left → Covers found edited uids
  gathered uids left none g uid h = record {
    stays = g.edited_in uid h;
    apart = by_test (is_some (found uid)) refl;
  }
    where
      by_test : (b : Bool) → is_some (found uid) ≡ b → list_any (set.contains (kept_at found uid)) edited ≡ false
      by_test true e = g.underway.holds uid (ap (λ us. list_any (same_uid uid) us) none) e h
      by_test false e = nothing_kept found edited uid (found uid) (λ has. true≢false (sym has ∙ e))

-- ---- walking over entries

-- these entries stand in the map
abbrev pub AreStanding : Lookup → List (Uid × EntityData) → Type 0
AreStanding found entries = All (λ (e : Uid × EntityData). found e.0 ≡ Some e.1) entries

-- the same, with the entries that are left
abbrev pub IsWalking : Lookup → List Uid → List Uid → List (Uid × EntityData) → Type 0
IsWalking found edited uids left = IsGathering found edited uids (keys_of left) × AreStanding found left

pub walk_begins : (m : BTreeMap Uid EntityData) (edited uids : List Uid) → ((q : Uid) → list_any (same_uid q) uids ≡ list_any (same_uid q) edited) → AreStanding (in_map m) m.entries → IsWalking (in_map m) edited uids m.entries
walk_begins m edited uids are standing = (gathering_begins (in_map m) edited uids (keys_of m.entries) are (keys_stand m), standing)

module _ (found : Lookup) (edited uids : List Uid) (left more : List (Uid × EntityData)) (k : Uid) (e : EntityData) (step : left ≡ (k, e) ∷ more) (walking : IsWalking found edited uids left) where
  standing : AreStanding found ((k, e) ∷ more)
  standing = subst (AreStanding found) step walking.1

  pub walks_on : IsWalking found edited (uids ++ k ∷ []) more
  walks_on = (gathers found edited uids (keys_of left) (keys_of more) k (ap keys_of step) walking.0, All-tail (λ (x : Uid × EntityData). found x.0 ≡ Some x.1) (k, e) more standing)

  pub walks_past : list_any (set.contains (ancestors_of e)) edited ≡ false → IsWalking found edited uids more
  walks_past apart =
      let here : found k ≡ Some e = All-head (λ (x : Uid × EntityData). found x.0 ≡ Some x.1) (k, e) more standing in (
        passes found edited uids (keys_of left) (keys_of more) k (ap keys_of step) (ap (λ o. list_any (set.contains (option_map_or ancestors_of o set.empty)) edited) here ∙ apart) walking.0,
        All-tail (λ (x : Uid × EntityData). found x.0 ≡ Some x.1) (k, e) more standing,
      )

pub walked : (found : Lookup) (edited uids : List Uid) (left : List (Uid × EntityData)) → left ≡ [] → IsWalking found edited uids left → Covers found edited uids
walked found edited uids left none walking = gathered found edited uids (keys_of left) (ap keys_of none) walking.0

-- ---- cutting

-- what stands at the uids passed lost the edited from its ancestors, and the others have none to lose
pub record IsCutting (before now : Lookup) (edited left : List Uid) : Type 0 where
  pub whole : (uid : Uid) → option_map (without (set.from_list edited)) (now uid) ≡ option_map (without (set.from_list edited)) (before uid)
  pub done : (uid : Uid) → list_any (same_uid uid) left ≡ false → now uid ≡ option_map (without (set.from_list edited)) (before uid)

module _ (before : Lookup) (edited : List Uid) where
  pub cutting_begins : (touched : List Uid) → Covers before edited touched → IsCutting before before edited touched
  cutting_begins touched covers = record {
    whole = λ uid. refl;
    done = λ uid h. sym (untouched_cut before edited uid (covers uid h));
  }

  cut_twice : (g : UidSet) (o : Option EntityData) → option_map (without g) (option_map (without g) o) ≡ option_map (without g) o
  cut_twice g None = refl
  cut_twice g (Some e) = ap Some (without_again g e)

  pub cutting_goes_on : (now next : Lookup) (left rest : List Uid) (k : Uid) → left ≡ k ∷ rest
      → ((uid : Uid) → next uid ≡ cond (same_uid k uid) (option_map (without (set.from_list edited)) (now uid)) (now uid))
      → IsCutting before now edited left → IsCutting before next edited rest
  cutting_goes_on now next left rest k step cuts c = record {
    whole = λ uid. ap (option_map (without (set.from_list edited))) (cuts uid) ∙ cut_whole uid (same_uid k uid) ∙ c.whole uid;
    done = λ uid h. cuts uid ∙ by_test uid (same_uid k uid) refl h;
  }
    where
      cut_whole : (uid : Uid) (b : Bool) → option_map (without (set.from_list edited)) (cond b (option_map (without (set.from_list edited)) (now uid)) (now uid)) ≡ option_map (without (set.from_list edited)) (now uid)
      cut_whole uid true = cut_twice (set.from_list edited) (now uid)
      cut_whole uid false = refl

      by_test : (uid : Uid) (b : Bool) → same_uid k uid ≡ b → list_any (same_uid uid) rest ≡ false → cond b (option_map (without (set.from_list edited)) (now uid)) (now uid) ≡ option_map (without (set.from_list edited)) (before uid)
      by_test uid true e h = c.whole uid
      by_test uid false e h = c.done uid (ap (λ us. list_any (same_uid uid) us) step ∙ ap (λ b. b || list_any (same_uid uid) rest) (same_uid_equiv.symm uid k ∙ e) ∙ h)

-- ---- the uids of entities

abbrev among : List EntityData → Uid → Bool
among es uid = list_any (λ e. same_uid uid e.uid) es

-- those gathered and those left are all
abbrev pub AreUnderway : List EntityData → List Uid → List EntityData → Type 0
AreUnderway all uids left = (q : Uid) → (list_any (same_uid q) uids || list_any (λ e. same_uid q e.uid) left) ≡ list_any (λ e. same_uid q e.uid) all

pub uid_added : (all left rest : List EntityData) (e : EntityData) (us vs : List Uid) (k : Uid) → left ≡ e ∷ rest → k ≡ e.uid
    → ((q : Uid) → list_any (same_uid q) vs ≡ cond (same_uid k q) true (list_any (same_uid q) us)) → AreUnderway all us left → AreUnderway all vs rest
uid_added all left rest e us vs k step is adds underway q =
    ap (λ b. b || among rest q) (adds q)
    ∙ moved (same_uid k q) (list_any (same_uid q) us) (among rest q)
    ∙ ap (λ b. list_any (same_uid q) us || (b || among rest q)) (same_uid_equiv.symm k q ∙ ap (same_uid q) is)
    ∙ ap (λ es. list_any (same_uid q) us || among es q) (sym step)
    ∙ underway q
  where
    moved : (a l r : Bool) → (cond a true l || r) ≡ (l || (a || r))
    moved true true r = refl
    moved true false r = refl
    moved false l r = refl

pub uids_added : (all left : List EntityData) (us : List Uid) → left ≡ [] → AreUnderway all us left → (q : Uid) → list_any (same_uid q) us ≡ list_any (λ e. same_uid q e.uid) all
uids_added all left us none underway q = sym (or_none (list_any (same_uid q) us)) ∙ ap (λ es. list_any (same_uid q) us || among es q) (sym none) ∙ underway q
  where
    or_none : (b : Bool) → (b || false) ≡ b
    or_none true = refl
    or_none false = refl

-- ---- one value of a map is changed

module _ (m n : BTreeMap Uid EntityData) (at : Uid) (change : EntityData → EntityData) where
  pub changed_there : (e w : EntityData) → WritesThrough uid_cmp (uid_cmp at) m w n → Some e ≡ in_map m at → w ≡ change e → (uid : Uid)
      → in_map n uid ≡ cond (same_uid at uid) (option_map change (in_map m uid)) (in_map m uid)
  changed_there e w is here changed uid = written_at m n at e w is here uid ∙ by_test (same_uid at uid) refl
    where
      by_test : (b : Bool) → same_uid at uid ≡ b → cond b (Some w) (in_map m uid) ≡ cond b (option_map change (in_map m uid)) (in_map m uid)
      by_test true t = ap Some changed ∙ ap (option_map change) (here ∙ ap (in_map m) (uid_is at uid t))
      by_test false t = refl

  pub changed_nowhere : n ≡ m → None ≡ in_map m at → (uid : Uid) → in_map n uid ≡ cond (same_uid at uid) (option_map change (in_map m uid)) (in_map m uid)
  changed_nowhere is here uid = ap (λ x. in_map x uid) is ∙ by_test (same_uid at uid) refl
    where
      by_test : (b : Bool) → same_uid at uid ≡ b → in_map m uid ≡ cond b (option_map change (in_map m uid)) (in_map m uid)
      by_test true t = let none = here ∙ ap (in_map m) (uid_is at uid t) in sym none ∙ ap (option_map change) none
      by_test false t = refl
