-- Each turn keeps whether a match can be found, and at the text's end nothing but wildcards matches.
use Rattle.std.proofs.Common.{inl, inr, sym, ◌∙◌}
use Rattle.cedar_literals.proofs.Turns.{at_text_end, wildcards_left}
use Rattle.cedar_literals.proofs.matching.wildcard_match.Goals as goal

pub look-init : goal.look-init
look-init c = (tt, (λ m. inl m, λ m. elim m [ inl k ↦ k | inr l ↦ absurd l ]))

pub turn-requires-clause-come : goal.turn-requires-clause-come
turn-requires-clause-come c = c.look.invariant.0

pub look-preserved : goal.look-preserved
look-preserved c =
    let same = c.look.invariant.1 in
    let turned = c.in-Some-turn.ensures in
    (turned.1, (λ m. turned.0.0 (same.0 m), λ m. same.1 (turned.0.1 m)))

pub returns-in_default-turn : goal.returns-in_default-turn
returns-in_default-turn c = (λ h. absurd (cc), λ m. absurd (c.in_default-turn.ensures (c.look.invariant.1.0 m)))

pub returns : goal.returns
returns c =
    let same = c.look.invariant.1 in
    let left = at_text_end c.look.search.start c.look.search.at c.in_default.ensures c.look.invariant.0 in
    let test = wildcards_left c.look.search.at.elems.now in
    (λ h. same.1 (left.1 (test.0 (sym c.are_wildcards.ensures ∙ h))), λ m. c.are_wildcards.ensures ∙ test.1 (left.0 (same.0 m)))
