-- One value is written, or taken away (Ordered).
use Rattle.std.proofs.Common.{None, cond, sym, ap, ◌∙◌}
use Rattle.cedar_language.specs.Order.{same_uid}
use Rattle.cedar_entities.specs.Kept.{in_map}
use Rattle.cedar_entities.proofs.Ordered.{changed_at, written_at}
use Rattle.cedar_entities.proofs.taking_back.put_back.Goals as goal

pub returns-in-Some-get_mut : goal.returns-in-Some-get_mut
returns-in-Some-get_mut c = λ there q.
    let m = c.args.map.now in
    let w = c.in-Some.entity in
    written_at m (c.get_mut.follows.lender w) c.args.uid c.in-Some-get_mut.held.now w (c.get_mut.follows.holds w) c.in-Some-get_mut.ensures.value q
    ∙ ap (λ o. cond (same_uid c.args.uid q) o (in_map m q)) (sym c.in-Some.is)

pub returns : goal.returns
returns c = λ there q.
    let m = c.args.map.now in
    changed_at m c.remove.new.self c.args.uid None c.remove.ensures.updates q
    ∙ ap (λ o. cond (same_uid c.args.uid q) o (in_map m q)) (sym c.in-None.is)
