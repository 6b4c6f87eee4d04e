-- The keys of a map's entries rise (WrittenEntries), and the copies have the same keys.
use Rattle.std.proofs.Common.{◌≡◌, ◌∙◌, ap, sym, ◌++◌}
use Rattle.std.proofs.lemmas.List.{append-nil}
use Rattle.cedar_trees.specs.Bare.{bare_entries}
use Rattle.cedar_restricted.specs.Views.{restricted_entries}
use Rattle.cedar_requests.proofs.WrittenEntries.{entries_rise}
use Rattle.cedar_requests.proofs.iteration.owned.Goals as goal

pub returns-clause-rising : goal.returns-clause-rising
returns-clause-rising c =
    let copied = restricted_entries c.loop-key.copies.items in
    let all : restricted_entries c.loop-key.copies.items ≡ bare_entries c.args.entries.now.entries =
    sym (append-nil copied) ∙ ap (λ es. copied ++ bare_entries es) (sym c.in-None.ensures.steps.0) ∙ c.loop-key.invariant.2 in
    entries_rise c.args.entries.now.entries copied c.into_iter-key-iterator.ensures.into_iter_gives.5 all
