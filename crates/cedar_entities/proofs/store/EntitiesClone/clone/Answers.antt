-- The entries of a copy are those of the map.
use Rattle.std.proofs.Common.{◌≡◌, refl, sym, ap, subst, ◌∙◌}
use Rattle.std.specs.Map.{lookup}
use Rattle.std.proofs.lemmas.Map.Entries.{entries_from_clone}
use Rattle.std.specs.BTreeMap.{is_at}
use Rattle.cedar_language.specs.Order.{uid_cmp}
use Rattle.cedar_entities.specs.Kept.{IsWhole}
use Rattle.cedar_entities.proofs.store.EntitiesClone.clone.Goals as goal

pub invariant_of-result : goal.invariant_of-result
invariant_of-result c =
    let m = c.args.self.now.entities in
    let n = c.in_ok-clone.field-0 in
    let same : n.entries ≡ m.entries = entries_from_clone _ _ (λ x y e. e) (λ v w e. e) m.entries n.entries c.in_ok-clone.ensures.cases in
    record {
      by_uid = λ uid e h. c.args.self.now.by_uid uid e (sym (ap (lookup (is_at (uid_cmp uid))) same) ∙ h);
      closed = λ known. subst IsWhole (λ i uid. lookup (is_at (uid_cmp uid)) (sym same i)) (c.args.self.now.closed known);
      known = tt;
    }

pub returns : goal.returns
returns c =
    let m = c.args.self.now.entities in
    let n = c.in_ok-clone.field-0 in
    let same : n.entries ≡ m.entries = entries_from_clone _ _ (λ x y e. e) (λ v w e. e) m.entries n.entries c.in_ok-clone.ensures.cases in
    record { cases = record { found = λ uid. ap (lookup (is_at (uid_cmp uid))) same; partial = refl } }
