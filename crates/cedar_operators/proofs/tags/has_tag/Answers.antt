-- The entity that is held has the tags that the facts have.
use Rattle.std.proofs.Common.{◌≡◌, false, ap, sym, subst, ◌∙◌, rules}
use Rattle.std.specs.FinMap as finite
use Rattle.std.specs.Rc.{rc_str_bytes}
use Rattle.cedar_language.specs.Tree.{Boolean}
use Rattle.cedar_language.specs.Value.{Plain, Gives}
use Rattle.cedar_language.specs.Operators.{is_there, tag_held}
use Rattle.cedar_entities.specs.Held.{held_of}
use Rattle.cedar_operators.specs.Store.{IsFound}
use Rattle.cedar_operators.proofs.ByStore.{held_known, none_known}
use Rattle.cedar_operators.proofs.ByTag.{tag_is}
use Rattle.cedar_operators.proofs.Passing.{passed}
use Rattle.cedar_operators.proofs.tags.has_tag.Goals as goal

pub returns-in_err-entity : goal.returns-in_err-entity
returns-in_err-entity c = λ facts f.
    passed (λ v. _) c.in_err-entity.field-0.0 c.from_residual-in_err-entity.result (λ k h. absurd h) c.from_residual-in_err-entity.ensures (c.in_err-entity.ensures facts f)

pub returns-in-Some : goal.returns-in-Some
returns-in-Some c = λ facts f.
    let made : c.from.result ≡ Plain (Boolean c.is_held.result) = search rules in
    let uid = c.in_ok-uid.uid.now.value in
    let tag = rc_str_bytes c.in_ok-tag.tag.now in
    let h = subst (IsFound c.args.entities.now uid) c.in-Some.is (c.in_ok-entity.ensures facts f) in
    let k = held_known c.args.entities.now facts f uid (held_of c.in-Some.entity.now) h.0 in
    ap is_there (tag_is facts c.args.arg1.now c.args.arg2.now uid tag c.in_ok-uid.ensures c.in_ok-tag.ensures ∙ ap (tag_held tag) k.is)
    ∙ c.is_held.ensures (k.shown.tag tag) (ap (finite.get c.in-Some.entity.now.tags) c.as_str.ensures.value ∙ k.tags tag) ∙ ap Gives (sym made)

pub returns-in-None : goal.returns-in-None
returns-in-None c = λ facts f.
    let made : c.from-in-None.result ≡ Plain (Boolean false) = search rules in
    let uid = c.in_ok-uid.uid.now.value in
    let tag = rc_str_bytes c.in_ok-tag.tag.now in
    let h = subst (IsFound c.args.entities.now uid) c.in-None.is (c.in_ok-entity.ensures facts f) in
    ap is_there (tag_is facts c.args.arg1.now c.args.arg2.now uid tag c.in_ok-uid.ensures c.in_ok-tag.ensures ∙ ap (tag_held tag) (none_known c.args.entities.now facts f uid h)) ∙ ap Gives (sym made)
