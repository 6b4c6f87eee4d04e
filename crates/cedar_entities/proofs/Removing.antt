-- Entities are taken away in turn.
use Rattle.std.proofs.Common.{◌≡◌, Bool, true, false, ◌||◌, cond, List, [], ◌∷◌, Option, None, refl, sym, ap, ◌∙◌}
use Rattle.std.specs.FinSet as set
use Rattle.std.specs.List.{list_any}
use Rattle.cedar_language.specs.Uid.{Uid}
use Rattle.cedar_language.specs.Order.{same_uid, uid_cmp}
use Rattle.cedar_literals.specs.Laws.{same_uid_equiv}
use Rattle.cedar_entities.specs.Data.{EntityData}
use Rattle.cedar_entities.specs.Kept.{Lookup}
use Rattle.cedar_entities.proofs.UidLemmas.{contains-listed}

-- without those still to come there is what there was without all of them
abbrev pub IsDropping : Lookup → Lookup → List Uid → List Uid → Type 0
IsDropping before now all rest = (uid : Uid) → cond (list_any (same_uid uid) rest) None (now uid) ≡ cond (list_any (same_uid uid) all) None (before uid)

both : (a r : Bool) (o : Option EntityData) → cond r None (cond a None o) ≡ cond (a || r) None o
both true true o = refl
both true false o = refl
both false r o = refl

pub drops_on : (before now next : Lookup) (all rest more : List Uid) (k : Uid) → rest ≡ k ∷ more → ((q : Uid) → next q ≡ cond (same_uid k q) None (now q)) → IsDropping before now all rest → IsDropping before next all more
drops_on before now next all rest more k step drops p uid =
    ap (cond (list_any (same_uid uid) more) None) (drops uid)
    ∙ both (same_uid k uid) (list_any (same_uid uid) more) (now uid)
    ∙ ap (λ b. cond (b || list_any (same_uid uid) more) None (now uid)) (same_uid_equiv.symm k uid)
    ∙ ap (λ us. cond (list_any (same_uid uid) us) None (now uid)) (sym step)
    ∙ p uid

pub all_dropped : (before now : Lookup) (all rest : List Uid) → rest ≡ [] → IsDropping before now all rest → (uid : Uid) → now uid ≡ cond (set.contains (set.from_list {R = uid_cmp} all) uid) None (before uid)
all_dropped before now all rest none p uid =
    sym (ap (λ us. cond (list_any (same_uid uid) us) None (now uid)) none)
    ∙ p uid
    ∙ ap (λ b. cond b None (before uid)) (sym (contains-listed all uid))
