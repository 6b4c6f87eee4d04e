-- A second colon makes one mark of both.
use Rattle.std.proofs.Common.{◌≡◌, List, [], ◌∷◌, ℕ, refl}
use Rattle.std.specs.Prelude.{◌==◌}
use Rattle.std.specs.Str.{chars}
use Rattle.cedar_grammar.specs.Tokens.{colon, Stops}
use Rattle.cedar_schema_grammar.specs.Tokens.{Colon, mark, colons_read}
use Rattle.cedar_tokens.proofs.Rests.{rest_past, rest_all}
use Rattle.cedar_schema_text.proofs.marks.split_colons.Goals as goal

one_colon : (cs : List ℕ) → Stops (λ d. d == colon) cs → (mark Colon, cs) ≡ colons_read cs
one_colon [] h = refl
one_colon (c ∷ cs) h = rw h refl

pub returns-in-Some-clause-mark : goal.returns-in-Some-clause-mark
returns-in-Some-clause-mark c = rw c.in-Some.ensures.characters refl

pub returns-in-Some-clause-rest : goal.returns-in-Some-clause-rest
returns-in-Some-clause-rest c = rest_past c.args.text.now c.args.text.now c.in-Some.rest.now 58 (rest_all c.args.text.now c.utf8.text) c.in-Some.ensures

pub returns-in-None-clause-mark : goal.returns-in-None-clause-mark
returns-in-None-clause-mark c = one_colon (chars c.args.text.now) c.in-None.ensures

pub returns-in-None-clause-rest : goal.returns-in-None-clause-rest
returns-in-None-clause-rest c = rest_all c.args.text.now c.utf8.text
