-- Where nothing may be renamed, an empty renaming says that nothing conflicts.
use Rattle.std.proofs.Common.{◌≡◌, false, [], sym, ◌∙◌, true≢false}
use Rattle.cedar_store.specs.Renaming.{conflicting}
use Rattle.cedar_store.proofs.RenamingLaws.{numbers_keys}
use Rattle.cedar_store.proofs.merging.PolicySetMerging.merge_policyset.Goals.{then-not-rename_duplicates+in_ok-refuse_any, else-not-rename_duplicates}
use Rattle.cedar_store.proofs.merging.PolicySetMerging.merge_policyset.Goals as goal

pub returns-clause-may_rename : goal.returns-clause-may_rename
returns-clause-may_rename c =
    elim c.if-not-rename_duplicates.branch as (λ _. c.args.rename_duplicates ≡ false → conflicting c.args.self.now c.args.other.now ≡ []) [
      | then-not-rename_duplicates+in_ok-refuse_any w ↦ λ h. sym (numbers_keys c.args.self.now c.args.other.now _ 0 _ c.in_ok-renaming.ensures) ∙ w.in_ok-refuse_any.ensures
      | else-not-rename_duplicates w ↦ λ h. absurd (true≢false (sym w.if-not-rename_duplicates.false ∙ h))
    ]
