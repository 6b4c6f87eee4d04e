-- What ties with the literal is the literal.
use Rattle.std.proofs.Common.{◌≡◌, ◌∙◌, sym, ap}
use Rattle.std.proofs.lemmas.Option.{MatchOption-at_some}
use Rattle.std.specs.Ordering.{is_eq}
use Rattle.cedar_language.specs.OrderLaws.{same_is}
use Rattle.cedar_values.specs.Kinds.{plain_of}
use Rattle.cedar_values.proofs.values.lookups.stands_at.Goals as goal

pub returns-in-Some : goal.returns-in-Some
returns-in-Some c = λ t.
    let item = MatchOption-at_some _ _ c.in-Some.member c.in-Some.is c.get.ensures.lookup.3 in
    let same : c.in-Some.member.now ≡ plain_of c.args.literal.now = same_is _ _ (sym (c.is_eq.ensures ∙ ap is_eq c.cmp_literal.ensures) ∙ t) in
    (c.args.position, item.0, sym (item.1 (plain_of c.args.literal.now)) ∙ same)
