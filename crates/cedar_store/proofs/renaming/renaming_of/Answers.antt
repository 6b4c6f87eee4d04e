-- One more conflict takes the next free number, so the numbers go on in the order of the other set.
use Rattle.std.proofs.Common.{◌≡◌, ◌+◌, ◌++◌, [], ◌∷◌, sym, ap, subst, ◌∙◌}
use Rattle.std.specs.Map.{lookup}
use Rattle.cedar_language.specs.Uid.{Text}
use Rattle.cedar_language.specs.Order.{same_text}
use Rattle.cedar_grammar.specs.Syntax.{numbered}
use Rattle.cedar_policy_set.specs.Entries.{Entry}
use Rattle.cedar_policy_set.specs.Bounds.{bound_id, entry_of, seen}
use Rattle.cedar_store.proofs.Numbering.{IsNumbered, number_room, number_new, number_one, number_all}
use Rattle.cedar_store.proofs.renaming.renaming_of.Goals as goal

pub next_free-requires : goal.next_free-requires
next_free-requires c =
    let e : Text × Entry = (bound_id c.in-Some.bound.now, entry_of c.in-Some.bound.now) in
    number_room c.args.mine.now c.args.theirs.now e _ c.loop-bound.from c.loop-bound.renaming
    (sym c.conflicts.ensures ∙ c.if-conflicts.true)
    (subst (λ es. IsNumbered c.args.mine.now c.args.theirs.now es c.loop-bound.from c.loop-bound.renaming) (ap seen c.in-Some.ensures.steps) c.loop-bound.invariant)

pub push-requires : goal.push-requires
push-requires c =
    let e : Text × Entry = (bound_id c.in-Some.bound.now, entry_of c.in-Some.bound.now) in
    ap (λ k. lookup (same_text k) c.loop-bound.renaming) (c.in_ok-copied.ensures ∙ c.id.ensures)
    ∙ number_new c.args.mine.now c.args.theirs.now e _ c.loop-bound.from c.loop-bound.renaming
    (sym c.conflicts.ensures ∙ c.if-conflicts.true)
    (subst (λ es. IsNumbered c.args.mine.now c.args.theirs.now es c.loop-bound.from c.loop-bound.renaming) (ap seen c.in-Some.ensures.steps) c.loop-bound.invariant)

pub loop-bound-preserved-then-conflicts : goal.loop-bound-preserved-then-conflicts
loop-bound-preserved-then-conflicts c =
    let mine = c.args.mine.now in
    let theirs = c.args.theirs.now in
    let r = c.loop-bound.renaming in
    let e : Text × Entry = (bound_id c.in-Some.bound.now, entry_of c.in-Some.bound.now) in
    let n = c.in_ok-number.number in
    let held = subst (λ es. IsNumbered mine theirs es c.loop-bound.from r) (ap seen c.in-Some.ensures.steps) c.loop-bound.invariant in
    let old = c.in_ok-copied.ensures ∙ c.id.ensures in
    let entries : c.push.new.self ≡ r ++ (e.0, numbered n) ∷ [] = c.in_ok-push.ensures.pushed ∙ (λ i. r ++ (old i, c.in_ok-number.ensures.id i) ∷ []) in
    subst (IsNumbered mine theirs (seen c.next.new.self) (n + 1)) (sym entries)
    (number_one mine theirs e _ c.loop-bound.from r (sym c.conflicts.ensures ∙ c.if-conflicts.true) held n c.in_ok-number.ensures.free)

pub returns : goal.returns
returns c =
    number_all c.args.mine.now c.args.theirs.now c.loop-bound.from c.loop-bound.renaming
    (subst (λ es. IsNumbered c.args.mine.now c.args.theirs.now es c.loop-bound.from c.loop-bound.renaming) (ap seen c.in-None.ensures.steps.0) c.loop-bound.invariant)
