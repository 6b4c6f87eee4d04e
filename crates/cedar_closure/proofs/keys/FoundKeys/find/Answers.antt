-- A key has its number at its digest, where it has one.
use Rattle.std.proofs.Common.{◌<◌, [], length, nat_eq, ap, sym, ◌∙◌, refl, subst}
use Rattle.std.specs.Set.{is_member}
use Rattle.cedar_closure.specs.Keys.{digest, numbers_of}
use Rattle.cedar_closure.specs.Numbering.{is_numbered}
use Rattle.cedar_closure.proofs.KeysFound.{found_none, on_none, held_at_some, held_at_none}
use Rattle.cedar_closure.proofs.keys.FoundKeys.find.Goals as goal

pub find_among-requires : goal.find_among-requires
find_among-requires g c = λ i h.
    let held = held_at_some c.args.self.now.numbers c.args.at c.in-Some.numbers.now c.in-Some.ensures.value in
    subst (λ ks. i < length ks) (sym c.deref.ensures.value) (c.requires.found.below c.args.at i (ap (λ ns. is_member nat_eq ns i) (held ∙ sym c.deref-in-Some.ensures.value) ∙ h))

pub returns-in-Some-clause-none : goal.returns-in-Some-clause-none
returns-in-Some-clause-none g c =
    let eq = g.K.PartialEq.eq in
    let key = c.args.key.now in
    let numbers = c.args.self.now.numbers in
    let held = c.in-Some.numbers.now.items in
    let is = held_at_some numbers c.args.at c.in-Some.numbers.now c.in-Some.ensures.value in
    on_none c.find_among.result
    (λ none. found_none g.met.K.Eq.laws (λ x. digest (g.K.Hash.hash_input x)) (λ x y e. ap digest (g.met.K.Hash.respects_eq x y e)) c.args.self.now.keys.items numbers key c.requires.found held
    (ap (λ d. numbers_of numbers d) (sym c.requires.at) ∙ is)
    (ap (λ ks. is_numbered eq ks held key) (sym c.deref.ensures.value) ∙ ap (λ ns. is_numbered eq c.deref.result.now ns key) (sym c.deref-in-Some.ensures.value) ∙ none))
    c.find_among.ensures.none

pub returns-in-None-clause-none : goal.returns-in-None-clause-none
returns-in-None-clause-none g c =
    let numbers = c.args.self.now.numbers in
    found_none g.met.K.Eq.laws (λ x. digest (g.K.Hash.hash_input x)) (λ x y e. ap digest (g.met.K.Hash.respects_eq x y e)) c.args.self.now.keys.items numbers c.args.key.now c.requires.found []
    (ap (λ d. numbers_of numbers d) (sym c.requires.at) ∙ held_at_none numbers c.args.at c.in-None.ensures.value) refl
