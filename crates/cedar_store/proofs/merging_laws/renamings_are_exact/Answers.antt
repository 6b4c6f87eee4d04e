-- Each law follows from the numbers that a renaming gives in turn.
use Rattle.std.proofs.Common.{◌∙◌, ap}
use Rattle.cedar_store.specs.Renaming.{is_taken}
use Rattle.cedar_store.proofs.RenamingLaws.{one_renaming, numbers_keys, numbers_free, new_id_apart}
use Rattle.cedar_store.proofs.merging_laws.renamings_are_exact.Goals as goal

pub returns : goal.returns
returns c =
    record {
      one = λ mine theirs r q h k. one_renaming mine theirs _ 0 r q h k;
      conflicts = λ mine theirs r h. numbers_keys mine theirs _ 0 r h;
      free = λ mine theirs r h old new e. let free = numbers_free mine theirs _ 0 r h old new e in ap (is_taken mine theirs) free.is ∙ free.free;
      apart = λ mine theirs r h. new_id_apart mine theirs r h;
    }
