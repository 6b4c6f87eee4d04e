-- The renamed rest is apart from what is bound, so the joined set is whole and keeps both.
use Rattle.std.proofs.Common.{◌++◌, sym, ap, subst, ◌∙◌}
use Rattle.cedar_policy_set.specs.Entries.{IsWhole}
use Rattle.cedar_store.specs.Merged.{KeepsMine, KeepsTheirs}
use Rattle.cedar_store.proofs.Keeps.{keeps_mine, keeps_theirs, carried}
use Rattle.cedar_store.proofs.Wholes.{whole_joined}
use Rattle.cedar_store.proofs.merging.PolicySetMerging.join.Goals as goal

pub append-requires-clause-whole : goal.append-requires-clause-whole
append-requires-clause-whole c =
    let mine = c.args.self.now in
    let theirs = c.args.other.now in
    let r = c.args.renaming.now in
    subst (λ es. IsWhole (mine ++ es)) (sym c.in_ok-more.ensures.more) (whole_joined mine theirs r c.requires c.len-mine.ensures.whole c.len-theirs.ensures.whole)

pub returns-clause-mine : goal.returns-clause-mine
returns-clause-mine c =
    let mine = c.args.self.now in
    let theirs = c.args.other.now in
    let r = c.args.renaming.now in
    carried c.append.result (λ is. subst (KeepsMine mine) (sym (is ∙ ap (λ es. mine ++ es) c.in_ok-more.ensures.more)) (keeps_mine mine theirs r)) c.append.ensures.appended

pub returns-clause-theirs : goal.returns-clause-theirs
returns-clause-theirs c =
    let mine = c.args.self.now in
    let theirs = c.args.other.now in
    let r = c.args.renaming.now in
    carried c.append.result
    (λ is. subst (KeepsTheirs theirs r) (sym (is ∙ ap (λ es. mine ++ es) c.in_ok-more.ensures.more)) (keeps_theirs mine theirs r c.requires c.len-mine.ensures.whole c.len-theirs.ensures.whole))
    c.append.ensures.appended
