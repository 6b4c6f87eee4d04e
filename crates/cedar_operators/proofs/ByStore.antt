-- What a store that has facts tells of them.
use Rattle.std.proofs.Common.{◌≡◌, true, false, true≢false, ◌||◌, Option, None, Some, refl, sym, ap, ◌∙◌, subst}
use Rattle.std.specs.Borrow.{Bor}
use Rattle.std.specs.Option.{option_copied, option_map_or}
use Rattle.std.specs.FinSet as set
use Rattle.std.proofs.lemmas.Bool.Decides.{same_from_decides}
use Rattle.cedar_language.specs.Uid.{Uid}
use Rattle.cedar_language.specs.Order.{same_uid, uid_cmp}
use Rattle.cedar_language.specs.Operators.{is_within}
use Rattle.cedar_language.specs.Facts as language
use Rattle.cedar_language.specs.Facts.{Facts, Reaches, edge, further}
use Rattle.cedar_entities.specs.Data.{EntityData, ancestors_of}
use Rattle.cedar_entities.specs.Held.{Held, parents_of, IsParent}
use Rattle.cedar_entities.specs.Store.{held_at}
use Rattle.cedar_entities.specs.declared.store.Entities.{Entities}
use Rattle.cedar_operators.specs.Store.{HasFacts, IsShown, AreAttributes, IsFound}
use Rattle.cedar_operators.specs.Hierarchy.{is_within_entity}

-- ---- entities

-- the facts have the entity, with these attributes and tags
pub record IsKnown (h : Held) (o : Option language.Held) : Type 0 where
  pub shown : language.Held
  pub is : o ≡ Some shown
  pub attributes : AreAttributes h.attributes shown.attribute
  pub tags : AreAttributes h.tags shown.tag

known : (h : Held) (o : Option language.Held) → IsShown (Some h) o → IsKnown h o
known h None s = absurd s
known h (Some shown) s = record { shown = shown; is = refl; attributes = s.0; tags = s.1 }

unknown : (o : Option language.Held) → IsShown None o → o ≡ None
unknown None s = refl
unknown (Some shown) s = absurd s

pub held_known : (s : Entities) (facts : Facts) → HasFacts s facts → (uid : Uid) (h : Held) → held_at s uid ≡ Some h → IsKnown h (facts.entity uid)
held_known s facts f uid h e = known h (facts.entity uid) (subst (λ o. IsShown o (facts.entity uid)) e (f.entities uid))

pub none_known : (s : Entities) (facts : Facts) → HasFacts s facts → (uid : Uid) → held_at s uid ≡ None → facts.entity uid ≡ None
none_known s facts f uid e = unknown (facts.entity uid) (subst (λ o. IsShown o (facts.entity uid)) e (f.entities uid))

-- ---- ancestors

no_parent : (o : Option Held) (b : Uid) → o ≡ None → set.contains (parents_of o) b ≡ true → ⊥
no_parent o b e h = true≢false (sym h ∙ ap (λ p. set.contains (parents_of p) b) e ∙ set.contains-empty uid_cmp b)

-- what isn't held reaches nothing
no_ancestor : (held : Uid → Option Held) (a b : Uid) → held a ≡ None → Reaches (IsParent held) a b → ⊥
no_ancestor held a b e (edge h) = no_parent (held a) b e h
no_ancestor held a b e (further {b = c} h r) = no_parent (held a) c e h

reached : (s : Entities) (facts : Facts) → HasFacts s facts → (a : Uid) (o : Option (Bor EntityData)) → IsFound s a o → (b : Uid) → option_map_or (λ e. set.contains (ancestors_of e) b) (option_copied o) false ≡ facts.reaches a b
reached s facts f a None h b = same_from_decides false (facts.reaches a b) (λ e. absurd (true≢false (sym e)), λ r. absurd (no_ancestor (held_at s) a b h r)) (f.reaches a b)
reached s facts f a (Some e) h b = same_from_decides (set.contains (ancestors_of e.now) b) (facts.reaches a b) (h.2 f.closed b) (f.reaches a b)

pub within_is : (s : Entities) (facts : Facts) → HasFacts s facts → (a : Uid) (o : Option (Bor EntityData)) → IsFound s a o → (b : Uid) → is_within_entity a (option_copied o) b ≡ is_within facts a b
within_is s facts f a o h b = ap (λ x. same_uid a b || x) (reached s facts f a o h b)
