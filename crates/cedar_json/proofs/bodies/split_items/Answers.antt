use Rattle.std.proofs.Common.{◌≡◌, [], ◌∷◌, ◌++◌, drop, map, ap, sym, ◌∙◌, subst, arith}
use Rattle.std.specs.Prelude.{string_bytes}
use Rattle.std.proofs.lemmas.List.{map-append}
use Rattle.json.specs.Value.{items_view}
use Rattle.cedar_json.proofs.Appending.{none_left}
use Rattle.cedar_json.proofs.Splitting.{IsSoFar, so_far_more, so_far_all, too_long}
use Rattle.cedar_json.proofs.bodies.split_items.Goals as goal

pub returns-in-Err-clause-long : goal.returns-in-Err-clause-long
returns-in-Err-clause-long c = too_long c.args.limit c.bodies.from c.args.items.now.items c.in-Err.error c.in-Err.ensures.long

pub bodies-preserved : goal.bodies-preserved
bodies-preserved c =
    let xs = c.args.items.now.items in
    let texts = c.bodies.texts.items in
    let text = c.in-Ok.next.0 in
    let pushed : c.push.new.self.items ≡ texts ++ text ∷ [] = c.in_ok-push.ensures.items in
    subst (λ ts. IsSoFar c.args.limit ts (items_view xs) (items_view (drop c.in-Ok.next.1 xs)))
    (sym (ap (map string_bytes) pushed ∙ map-append string_bytes texts (text ∷ [])))
    (so_far_more c.args.limit (map string_bytes texts) (items_view xs) (items_view (drop c.bodies.from xs)) (items_view (drop c.in-Ok.next.1 xs))
    (string_bytes text) c.bodies.invariant c.in-Ok.ensures.body)

pub returns-clause-bodies : goal.returns-clause-bodies
returns-clause-bodies c =
    let xs = c.args.items.now.items in
    let none : drop c.bodies.from xs ≡ [] = none_left xs c.bodies.from (omega arith) in
    so_far_all c.args.limit (map string_bytes c.bodies.texts.items) (items_view xs) (items_view (drop c.bodies.from xs)) c.bodies.invariant
    (ap items_view none)
