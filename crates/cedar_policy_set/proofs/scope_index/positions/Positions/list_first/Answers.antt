-- The place stands alone under the id, under which there are none (Listing).
use Rattle.std.proofs.Common.{◌≢◌, cond, [], ◌∷◌, ◌++◌, Some, ap, sym, subst, ◌∙◌}
use Rattle.std.specs.BTreeMap.{get, is_at}
use Rattle.std.specs.Option.{option_map_or}
use Rattle.cedar_language.specs.Order.{text_cmp}
use Rattle.cedar_policy_set.proofs.ListedPlaces.{alike_there, put_at, listed_first, said_of, still_some, same_some, listed_full, either_way}
use Rattle.cedar_policy_set.proofs.scope_index.positions.Positions.list_first.Goals as goal

pub invariant_of-self : goal.invariant_of-self
invariant_of-self c =
    let m = c.args.self.now.by_id in
    let id = c.eid.result.now in
    let full : c.push.new.self.items ≢ [] = subst (λ ps. ps ≢ []) (sym c.in_ok-push.ensures.items) (listed_full c.in_ok-places.places.items c.args.place) in
    record {
      listing = either_way c.insert.result c.insert.ensures.updates c.insert.ensures.err
          (λ updates. still_some (get text_cmp m) (get text_cmp c.insert.new.self) c.push.new.self id c.args.self.now.listing full
          (λ t. updates.0 t ∙ (λ i. cond (is_at (text_cmp (c.in_ok-id.ensures i)) t) (Some c.push.new.self) (get text_cmp m t))))
          (same_some m c.insert.new.self c.args.self.now.listing);
    }

pub returns-clause-listed : goal.returns-clause-listed
returns-clause-listed c =
    let m = c.args.self.now.by_id in
    let id = c.eid.result.now in
    said_of (λ v. v.items) (get text_cmp m) (get text_cmp c.insert.new.self) id c.args.uid.now.id c.args.place c.eid.ensures
    (listed_first (λ v. v.items) (get text_cmp m) (get text_cmp c.insert.new.self) id c.push.new.self c.push.new.self c.args.place
    (λ t. put_at _ c.push.new.self (get text_cmp m t) id t (c.in_ok-insert.ensures.updates.0 t ∙ (λ i. cond (is_at (text_cmp (c.in_ok-id.ensures i)) t) (Some c.push.new.self) (get text_cmp m t))))
    (λ t same. ap (λ o. option_map_or (λ v. v.items) o []) (sym (alike_there m id t same) ∙ ap (get text_cmp m) c.eid.ensures) ∙ c.requires)
    (c.in_ok-push.ensures.items ∙ ap (λ ps. ps ++ c.args.place ∷ []) c.in_ok-places.ensures.items))
