-- What a type mentions is what its parts mention.
use Rattle.std.proofs.Common.{◌≡◌, ◌<◌, ◌≤◌, length, get_or, arith, subst}
use Rattle.std.proofs.lemmas.List.{take_all}
use Rattle.std.proofs.lemmas.Result.{on_ok_weaker}
use Rattle.cedar_schema_syntax.specs.View as syntax
use Rattle.cedar_schema_resolution.specs.Mentions.{IsMentionedIn}
use Rattle.cedar_schema_resolution.proofs.Mentioning.{mentioned_named, mentioned_record, one_mentioned}
use Rattle.cedar_schema_resolution.proofs.numbers.CommonNumbers.+mentions.Goals as goal

pub add_mentioned-returns-in-Named : goal.add_mentioned-returns-in-Named
add_mentioned-returns-in-Named t c =
    on_ok_weaker c.add_named.result
    (λ e. mentioned_named c.args.self.now c.args.namespace.now c.args.written.now c.args.mentioned.now.items c.add_named.new.mentioned.items
    c.in-Named.path c.in-Named.is e)
    c.add_named.ensures

pub add_mentioned-returns-in-Record : goal.add_mentioned-returns-in-Record
add_mentioned-returns-in-Record t c =
    let old = c.args.mentioned.now.items in
    let new = c.add_mentioned_in.new.mentioned.items in
    on_ok_weaker c.add_mentioned_in.result
    (λ e. mentioned_record c.args.self.now c.args.namespace.now c.args.written.now old new c.in-Record.attributes c.in-Record.is
    (subst (λ xs. IsMentionedIn c.args.self.now c.args.namespace.now (syntax.attributes_view xs) old new) c.deref-in-Record.ensures.value e))
    c.add_mentioned_in.ensures

pub add_mentioned_in-loop-attribute-preserved : goal.add_mentioned_in-loop-attribute-preserved
add_mentioned_in-loop-attribute-preserved t c =
    let low : c.loop-attribute.attribute-index < length c.args.attributes.now = omega arith in
    let here : c.attribute-item.result ≡ get_or c.args.attributes.now c.loop-attribute.attribute-index c.attribute-item.result = cc in
    record {
      far = one_mentioned c.args.self.now c.args.namespace.now c.args.attributes.now c.loop-attribute.attribute-index c.attribute-item.result
          c.args.mentioned.now.items c.loop-attribute.mentioned.items c.add_mentioned.new.mentioned.items low here c.loop-attribute.invariant.far
          c.in_ok-add_mentioned.ensures;
    }

pub add_mentioned_in-returns : goal.add_mentioned_in-returns
add_mentioned_in-returns t c =
    let past : length c.args.attributes.now ≤ c.loop-attribute.attribute-index = omega arith in
    subst (λ xs. IsMentionedIn c.args.self.now c.args.namespace.now (syntax.attributes_view xs) c.args.mentioned.now.items c.loop-attribute.mentioned.items)
    (take_all c.loop-attribute.attribute-index c.args.attributes.now past) c.loop-attribute.invariant.far
