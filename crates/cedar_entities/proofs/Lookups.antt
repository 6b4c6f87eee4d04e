-- What edits of a store's entities leave of what is held.
use Rattle.std.proofs.Common.{◌≡◌, Bool, true, false, cond, List, [], ◌∷◌, Option, None, Some, option_map, refl, sym, ap, ◌∙◌}
use Rattle.std.specs.FinSet as set
use Rattle.cedar_language.specs.Uid.{Uid}
use Rattle.cedar_language.specs.Facts.{Reaches, edge, further}
use Rattle.cedar_language.specs.Order.{same_uid}
use Rattle.cedar_entities.specs.Data.{UidSet, EntityData, without}
use Rattle.cedar_entities.specs.Held.{Held, held_of, parents_of, IsAncestor}
use Rattle.cedar_entities.specs.Edits.{last_by, first_by, or_first, without_parents}
use Rattle.cedar_entities.specs.Kept.{Lookup, held_in, same, put_over, added_to, removed_from}

held-cond : (b : Bool) (e : EntityData) (o : Option EntityData) → option_map held_of (cond b (Some e) o) ≡ cond b (Some (held_of e)) (option_map held_of o)
held-cond true e o = refl
held-cond false e o = refl

pub held-last : (es : List EntityData) (uid : Uid) (o : Option EntityData) → option_map held_of (last_by same es uid o) ≡ last_by held_of es uid (option_map held_of o)
held-last [] uid o = refl
held-last (e ∷ es) uid o = held-last es uid (cond (same_uid e.uid uid) (Some e) o) ∙ ap (last_by held_of es uid) (held-cond (same_uid e.uid uid) e o)

pub held-first : (es : List EntityData) (uid : Uid) → option_map held_of (first_by same es uid) ≡ first_by held_of es uid
held-first [] uid = refl
held-first (e ∷ es) uid = held-cond (same_uid e.uid uid) e (first_by same es uid) ∙ ap (cond (same_uid e.uid uid) (Some (held_of e))) (held-first es uid)

held-or_first : (o p : Option EntityData) → option_map held_of (or_first o p) ≡ or_first (option_map held_of o) (option_map held_of p)
held-or_first (Some e) p = refl
held-or_first None p = refl

pub held-added : (found : Lookup) (es : List EntityData) (uid : Uid) → held_in (added_to found es) uid ≡ or_first (held_in found uid) (first_by held_of es uid)
held-added found es uid = held-or_first (found uid) (first_by same es uid) ∙ ap (or_first (held_in found uid)) (held-first es uid)

cut_or_gone : (uids : UidSet) (b : Bool) (o : Option EntityData) → option_map held_of (cond b None (option_map (without uids) o)) ≡ cond b None (option_map (without_parents uids) (option_map held_of o))
cut_or_gone uids true o = refl
cut_or_gone uids false None = refl
cut_or_gone uids false (Some e) = refl

pub held-removed : (found : Lookup) (uids : UidSet) (uid : Uid) → held_in (removed_from found uids) uid ≡ cond (set.contains uids uid) None (option_map (without_parents uids) (held_in found uid))
held-removed found uids uid = cut_or_gone uids (set.contains uids uid) (found uid)

-- one more entity is put, and those still to come leave what all of them do
pub puts_on : (before now next : Lookup) (all rest more : List EntityData) (e : EntityData) (k : Uid) → rest ≡ e ∷ more → k ≡ e.uid → ((uid : Uid) → next uid ≡ cond (same_uid k uid) (Some e) (now uid))
    → ((uid : Uid) → put_over now rest uid ≡ put_over before all uid) → (uid : Uid) → put_over next more uid ≡ put_over before all uid
puts_on before now next all rest more e k step is puts p uid =
    ap (last_by same more uid) (puts uid ∙ ap (λ u. cond (same_uid u uid) (Some e) (now uid)) is)
    ∙ ap (λ es. put_over now es uid) (sym step)
    ∙ p uid

-- ---- paths

pub reaches_along : {K : Type 0} {P Q : K → K → Type 0} → ((a b : K) → P a b → Q a b) → {a b : K} → Reaches P a b → Reaches Q a b
reaches_along on (edge {a = a} {b = b} h) = edge (on a b h)
reaches_along on (further {a = a} {b = c} h r) = further (on a c h) (reaches_along on r)

-- the same holdings have the same ancestors
pub ancestors_same : (f g : Uid → Option Held) → ((uid : Uid) → f uid ≡ g uid) → {a b : Uid} → IsAncestor f a b → IsAncestor g a b
ancestors_same f g is r = reaches_along (λ x y h. ap (λ o. set.contains (parents_of o) y) (sym (is x)) ∙ h) r
