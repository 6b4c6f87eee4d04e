-- Of two lists in turn the first entry of an id is kept, so what erred before keeps its kind.
use Rattle.std.proofs.Common.{◌∙◌, ◌++◌, ap}
use Rattle.std.proofs.lemmas.Result.{IfOk-weaker}
use Rattle.cedar_telling.proofs.JoinedIds.{first_kept}
use Rattle.cedar_telling.proofs.joining.all_erring.Goals as goal

pub returns : goal.returns
returns c = IfOk-weaker c.new.result _ _ (λ all is.
    first_kept c.args.last.now c.args.new.now all c.as_slice.result.now c.as_slice-2.result.now _ c.as_slice.ensures.entries c.as_slice-2.ensures.entries
    (c.in_ok-push_all-2.ensures ∙ ap (λ l. l ++ c.as_slice-2.result.now) (c.in_ok-push_all.ensures ∙ ap (λ l. l ++ c.as_slice.result.now) c.new-entries.ensures.items)) is) c.new.ensures
