-- The entities of the items before a place, and the one of the item there, are those before the next place.
use Rattle.std.proofs.Common.{◌≡◌, inl, inr, ◌+◌, Some, Vec, Global, [], ◌∷◌, ◌++◌, map, take, sym, ap, ◌∙◌}
use Rattle.std.proofs.lemmas.List.{map-append, take_more}
use Rattle.cedar_language.specs.Uid.{Uid}
use Rattle.cedar_grammar.specs.Steps.{◌>>=◌}
use Rattle.cedar_grammar.specs.Loose as loose
use Rattle.cedar_grammar.specs.Converting.{each}
use Rattle.cedar_cst.specs.View.{shown_expr}
use Rattle.cedar_faults.proofs.Telling.{at_item}
use Rattle.cedar_policy_conversion.specs.Entities.{entity}
use Rattle.cedar_policy_conversion.specs.PartsShow.{entity_shows, entities_show}
use Rattle.cedar_policy_conversion.proofs.Finding.{same_as}
use Rattle.cedar_policy_conversion.proofs.Acting.{each_last}
use Rattle.cedar_policy_conversion.proofs.Showing.{both_show}
use Rattle.cedar_policy_conversion.proofs.entities.to_entities.Goals as goal

pub items-preserved : goal.items-preserved
items-preserved g c =
    let xs = c.deref-item-items.result.now in
    let i = c.items.item-index in
    let x = c.item-item.result in
    let cut : take (i + 1) xs ≡ take i xs ++ x ∷ [] = take_more xs i x c.items-test.true ∙ ap (λ y. take i xs ++ y ∷ []) (sym c.item-item.is) in
    record {
      entities = same_as (λ (us : Vec Uid Global). us.items) c.pushed-uids.result (each entity (map shown_expr (take i xs)) >>= λ us. entity (shown_expr x) >>= λ u. Some (us ++ u ∷ [])) _
          (ap (λ ys. each entity (map shown_expr ys)) cut ∙ ap (each entity) (map-append shown_expr (take i xs) (x ∷ [])) ∙ each_last (map shown_expr (take i xs)) (shown_expr x))
          (c.pushed-uids.ensures.pushed _ _ c.items.invariant.entities c.to_entity-next.ensures.entity);
      shown = both_show c.items.uids c.to_entity-next.result (λ k. entities_show (loose.exprs (map shown_expr xs)) k) (entity_shows (shown_expr x)) (λ k. entities_show (loose.exprs (map shown_expr xs)) k) c.pushed-uids.result c.pushed-uids.ensures.told c.items.invariant.shown c.to_entity-next.ensures.shown
          (λ k s. s) (λ k s. at_item (λ ys. entities_show (loose.exprs (map shown_expr ys)) k) (λ y ys later. inr later) xs i x c.items-test.true c.item-item.is (inl s));
    }
