-- Entries decide the records that are made of them (EqualEntries); at first all of them are left.
use Rattle.std.proofs.Common.{◌∙◌, ap, sym}
use Rattle.std.specs.Cmp.Lexicographic.{pointwise}
use Rattle.cedar_trees.specs.Bare.{bare_entries}
use Rattle.cedar_requests.specs.Sameness.{same_entry}
use Rattle.cedar_requests.proofs.EqualEntries.{records_same}
use Rattle.cedar_requests.proofs.sameness.are_same_exprs.Goals as goal

pub loop-key-init : goal.loop-key-init
loop-key-init c = (
  tt,
  tt,
  records_same (bare_entries c.args.a.now.entries) (bare_entries c.args.b.now.entries)
      ∙ ap (λ es. pointwise same_entry (bare_entries es) (bare_entries c.args.b.now.entries)) (sym c.into_iter-key-iterator.ensures.into_iter_gives.0)
      ∙ ap (λ es. pointwise same_entry (bare_entries c.into_iter-key-iterator.result) (bare_entries es)) (sym c.iter-others.ensures.rest),
)
