use Rattle.std.proofs.Common.{◌∷◌, [], map, ap, sym, ◌∙◌, is_some}
use Rattle.std.specs.Prelude.{string_bytes}
use Rattle.std.specs.BTreeMap.{get}
use Rattle.std.proofs.lemmas.List.{map-append}
use Rattle.cedar_language.specs.Order.{text_cmp}
use Rattle.cedar_authorization_calls.proofs.Listing.{alike_there, put_at, listed_behind}
use Rattle.cedar_authorization_calls.proofs.names.Names.list.Goals as goal

pub returns-in_ok-push-in-Some : goal.returns-in_ok-push-in-Some
returns-in_ok-push-in-Some c =
    let m = c.args.self.now.by_id in
    let id = c.args.id.now in
    let v = c.in-Some.names.now in
    let w = c.push.new.self in
    listed_behind (λ ns. map string_bytes ns.items) (get text_cmp m) (get text_cmp (c.get_mut.follows.lender w)) id w (string_bytes c.args.name)
    (λ t. put_at _ w (get text_cmp m t) id t (((c.get_mut.follows.holds w).3 (ap is_some (sym c.in-Some.ensures.value))).0 t))
    v (λ t same. sym (alike_there m id t same) ∙ sym c.in-Some.ensures.value)
    (ap (map string_bytes) c.in_ok-push-in-Some.ensures.items ∙ map-append string_bytes v.items (c.args.name ∷ []))
