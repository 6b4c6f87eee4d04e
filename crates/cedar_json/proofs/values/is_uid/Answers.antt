use Rattle.std.proofs.Common.{◌≡◌, true, false, is_some, ap, sym, ◌∙◌, arith}
use Rattle.std.specs.Prelude.{codes}
use Rattle.cedar_grammar.specs.Names.{is_text}
use Rattle.cedar_json.specs.Values.{uid_in}
use Rattle.cedar_json.proofs.Sound.{type_first, id_first, neither_first}
use Rattle.cedar_json.proofs.values.is_uid.Goals as goal

pub returns-then-eq : goal.returns-then-eq
returns-then-eq c =
    let p = c.in-Some.pair in
    let same : is_text p.first.0.now (codes "type") ≡ true = grind arith in
    c.is_named_under.ensures ∙ sym (ap (λ j. is_some (uid_in j)) c.in-Some.ensures ∙ type_first p.first.0.now p.first.1.now p.second.0.now p.second.1.now same)

pub returns-then-eq-2 : goal.returns-then-eq-2
returns-then-eq-2 c =
    let p = c.in-Some.pair in
    let same : is_text p.first.0.now (codes "id") ≡ true = grind arith in
    c.is_named_under-then-eq-2.ensures
    ∙ sym (ap (λ j. is_some (uid_in j)) c.in-Some.ensures ∙ id_first p.first.0.now p.first.1.now p.second.0.now p.second.1.now same)

pub returns : goal.returns
returns c =
    let p = c.in-Some.pair in
    let other : is_text p.first.0.now (codes "type") ≡ false = grind arith in
    let third : is_text p.first.0.now (codes "id") ≡ false = grind arith in
    sym (ap (λ j. is_some (uid_in j)) c.in-Some.ensures ∙ neither_first p.first.0.now p.first.1.now p.second.0.now p.second.1.now other third)
