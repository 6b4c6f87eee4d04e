-- A binary search parts a list that rises, and finds what it has (Inserted, Listed).
use Rattle.std.proofs.Common.{◌≡◌, ◌||◌, if◌then◌else◌, sym, ap, subst, ◌∙◌, arith}
use Rattle.std.specs.List.{list_any, insert}
use Rattle.std.specs.Result.{is_ok}
use Rattle.cedar_language.specs.Uid.{Uid}
use Rattle.cedar_language.specs.Order.{same_uid}
use Rattle.cedar_entities.specs.Lists.{AreRising}
use Rattle.cedar_entities.proofs.Inserted.{inserted_rises, inserted_any, there_already}
use Rattle.cedar_entities.proofs.Listed.{searched, parted}
use Rattle.cedar_entities.proofs.uid_lists.insert_in_turn.Goals as goal

pub returns-in_default-clause-added : goal.returns-in_default-clause-added
returns-in_default-clause-added c =
    let xs = c.as_slice.result.now in
    let u = c.args.uid in
    let value = c.as_slice.ensures.value in
    let rises = subst AreRising (sym value) c.requires.rising in
    let found = sym (searched xs u rises c.binary_search.result c.binary_search.ensures.bound c.binary_search.ensures.position) ∙ ap is_ok c.in_default.is in
    subst (λ ys. (q : Uid) → list_any (same_uid q) ys ≡ (same_uid q u || list_any (same_uid q) ys)) value (there_already xs u found)

pub returns-clause-rising : goal.returns-clause-rising
returns-clause-rising c =
    let xs = c.as_slice.result.now in
    let u = c.args.uid in
    let i = c.in-Err.place in
    let old = c.args.list.now.items in
    let value = c.as_slice.ensures.value in
    let rises = subst AreRising (sym value) c.requires.rising in
    let split = parted xs u i rises c.in-Err.ensures.position in
    let items = c.insert-inserted.ensures.items ∙ ap (λ b. if b then insert old i u else old) (c.insert-inserted.ensures.succeeds c.requires.room) in
    subst AreRising (sym items) (subst (λ ys. AreRising (insert ys i u)) value (inserted_rises xs u i rises c.in-Err.ensures.bound
    (λ k d l. split.0 k d (omega arith) l) (λ k d l m. split.1 k d l m)))

pub returns-clause-added : goal.returns-clause-added
returns-clause-added c = λ q.
    let u = c.args.uid in
    let i = c.in-Err.place in
    let old = c.args.list.now.items in
    let items = c.insert-inserted.ensures.items ∙ ap (λ b. if b then insert old i u else old) (c.insert-inserted.ensures.succeeds c.requires.room) in
    ap (λ us. list_any (same_uid q) us) items ∙ inserted_any old u i q
