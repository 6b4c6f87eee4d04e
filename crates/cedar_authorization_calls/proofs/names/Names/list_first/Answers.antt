use Rattle.std.proofs.Common.{cond, ◌∷◌, ◌++◌, [], Some, map, ap, sym, ◌∙◌}
use Rattle.std.specs.Prelude.{string_bytes}
use Rattle.std.specs.BTreeMap.{get, is_at}
use Rattle.std.specs.Option.{option_map_or}
use Rattle.cedar_language.specs.Order.{text_cmp}
use Rattle.cedar_authorization_calls.proofs.Listing.{alike_there, put_at, listed_first}
use Rattle.cedar_authorization_calls.proofs.names.Names.list_first.Goals as goal

pub returns : goal.returns
returns c =
    let m = c.args.self.now.by_id in
    let id = c.args.id.now in
    let w = c.push.new.self in
    listed_first (λ ns. map string_bytes ns.items) (get text_cmp m) (get text_cmp c.insert.new.self) id w (string_bytes c.args.name)
    (λ t. put_at _ w (get text_cmp m t) id t (c.in_ok-insert.ensures.updates.0 t ∙ ap (λ k. cond (is_at (text_cmp k) t) (Some w) (get text_cmp m t)) (c.in_ok-key.ensures ∙ c.as_str.ensures)))
    (λ t same. ap (λ o. option_map_or (λ ns. map string_bytes ns.items) o []) (sym (alike_there m id t same)) ∙ c.requires)
    (ap (map string_bytes) c.in_ok-push.ensures.items ∙ ap (λ ns. map string_bytes (ns ++ c.args.name ∷ [])) c.new-names.ensures.items)
