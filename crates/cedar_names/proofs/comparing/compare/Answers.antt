-- Where one text is over and no byte differed, the lengths decide.
use Rattle.std.proofs.Common.{◌≡◌, length, min, sym, ap, ◌∙◌, arith}
use Rattle.cedar_language.specs.Order.{text_cmp}
use Rattle.cedar_names.proofs.TextBytes.{cmp-ended}
use Rattle.cedar_names.proofs.comparing.compare.Goals as goal

pub returns : goal.returns
returns c =
    let bytes = c.as_bytes-bytes.result.now in
    let others = c.as_bytes-others.result.now in
    let at : c.loop-at.at ≡ min (length bytes) (length others) = omega (arith, c.min-both.ensures, c.min-at-end.ensures) in
    c.cmp-2.ensures
    ∙ sym (c.loop-at.invariant ∙ cmp-ended bytes others c.loop-at.at at)
    ∙ ap (λ l. text_cmp l others) c.as_bytes-bytes.ensures.value
    ∙ ap (text_cmp c.args.left.now) c.as_bytes-others.ensures.value
