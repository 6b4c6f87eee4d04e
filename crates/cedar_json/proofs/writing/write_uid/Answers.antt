use Rattle.std.proofs.Common.{◌≡◌, true, false, cond, ap, sym, ◌∙◌, arith}
use Rattle.std.specs.Prelude.{codes, string_bytes}
use Rattle.json.specs.Value.{value_view}
use Rattle.cedar_grammar.specs.Names.{is_text}
use Rattle.cedar_json.specs.Written.{uid_text, uid_written}
use Rattle.cedar_json.proofs.Appending.{on_same}
use Rattle.cedar_json.proofs.writing.write_uid.Goals as goal

pub returns-then-eq : goal.returns-then-eq
returns-then-eq c =
    let p = c.in-Some.pair in
    let one = uid_text p.first.1.now p.second.1.now in
    let other = uid_text p.second.1.now p.first.1.now in
    let same : is_text p.first.0.now (codes "type") ≡ true = grind arith in
    on_same c.write_reference.result (string_bytes c.args.out.now) (string_bytes c.write_reference.new.out) one (uid_written (value_view c.args.value.now))
    (sym (ap uid_written c.in-Some.ensures ∙ ap (λ b. cond b one other) same)) c.write_reference.ensures

pub returns : goal.returns
returns c =
    let p = c.in-Some.pair in
    let one = uid_text p.first.1.now p.second.1.now in
    let other = uid_text p.second.1.now p.first.1.now in
    let not_same : is_text p.first.0.now (codes "type") ≡ false = grind arith in
    on_same c.write_reference-2.result (string_bytes c.args.out.now) (string_bytes c.write_reference-2.new.out) other
    (uid_written (value_view c.args.value.now))
    (sym (ap uid_written c.in-Some.ensures ∙ ap (λ b. cond b one other) not_same)) c.write_reference-2.ensures
