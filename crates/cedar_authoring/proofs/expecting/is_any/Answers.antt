-- As many policies are listed as err (Errs).
use Rattle.std.proofs.Common.{not, ◌==◌, length, ap, sym, ◌∙◌}
use Rattle.cedar_authoring.proofs.Errs.{as_many}
use Rattle.cedar_authoring.proofs.expecting.is_any.Goals as goal

pub returns : goal.returns
returns c =
    ap not (c.is_empty.ensures ∙ ap (λ n. n == 0) (sym (as_many c.as_slice.result.now c.as_slice.ensures.kinds) ∙ ap length c.as_slice.ensures.entries))
