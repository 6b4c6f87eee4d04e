-- Behind a wildcard a new search begins, and a character that both have is left out of both.
use Rattle.std.proofs.Common.{refl, ap, ◌∙◌}
use Rattle.std.specs.Str.{chars}
use Rattle.cedar_literals.specs.declared.patterns.PatternElem.TheVariants as kind
use Rattle.cedar_literals.proofs.Turns.{at_wildcard, at_char, first_wildcard, first_char}
use Rattle.cedar_literals.proofs.matching.Search.turn.Goals as goal

pub returns-in-Wildcard : goal.returns-in-Wildcard
returns-in-Wildcard c =
    at_wildcard c.args.self.start c.args.self.at (record { elems = c.in-Some.elems; rest = c.args.self.at.rest }) c.args.c (chars c.args.rest.now)
    (first_wildcard _ _ _ c.in-Some.ensures.cases.0 c.in-Wildcard.is) refl c.requires.next c.requires.come

pub returns-in-Char : goal.returns-in-Char
returns-in-Char c =
    at_char c.args.self.start c.args.self.at (record { elems = c.in-Some.elems; rest = c.args.rest }) c.args.c
    (first_char _ _ _ c.args.c c.in-Some.ensures.cases.0 (c.in-Char.is ∙ ap kind.Char c.if-expected-c.true)) c.requires.next c.requires.come
