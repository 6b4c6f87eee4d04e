-- What is put is said by what is held (InPlace).
use Rattle.cedar_entities.specs.Edits.{put}
use Rattle.cedar_entities.specs.Kept.{put_over}
use Rattle.cedar_entities.specs.Store.{found_in, held_at}
use Rattle.cedar_entities.proofs.InPlace.{edit_leaves}
use Rattle.cedar_entities.proofs.Lookups.{held-last}
use Rattle.cedar_entities.proofs.store.Entities.put_gaining.Goals as goal

pub returns-clause-put : goal.returns-clause-put
returns-clause-put c =
    let found = found_in c.args.self.now in
    let es = c.args.entities.items in
    edit_leaves (put_over found es) (put (held_at c.args.self.now) es) (λ uid. held-last es uid (found uid)) _ c.gain.result c.gain.ensures.edited
    c.gain.ensures.refused
