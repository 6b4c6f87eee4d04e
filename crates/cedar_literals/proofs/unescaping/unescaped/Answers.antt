use Rattle.std.proofs.Common.{◌≡◌, ◌==◌, length, sym, ap, ◌∙◌, string_bytes, rules}
use Rattle.std.proofs.lemmas.Bool.{eqb-true, false≢true}
use Rattle.std.proofs.lemmas.Str.{IsUtf8-had}
use Rattle.cedar_literals.proofs.ReadingBack.{none_read, more_read, all_read, nothing_read, no_length}
use Rattle.cedar_literals.proofs.unescaping.unescaped.Goals as goal

pub characters-init : goal.characters-init
characters-init c = (c.utf8.escaped, none_read c.args.escaped.now (string_bytes c.new-text.result) c.new-text.ensures.bytes)

pub returns-in_default : goal.returns-in_default
returns-in_default c = nothing_read _ _ _ c.characters.invariant.1 c.in_default.ensures (λ e. false≢true (sym c.characters-test.true ∙ c.is_empty.ensures ∙ ap (λ bs. length bs == 0) e))

pub characters-smaller : goal.characters-smaller
characters-smaller c = c.in-Some.ensures.shorter

pub characters-preserved : goal.characters-preserved
characters-preserved c = (search rules, more_read _ _ _ c.in-Some.after.now c.in-Some.c _ c.characters.invariant.1 c.in-Some.ensures.whole c.in_ok-push.ensures.bytes)

pub returns : goal.returns
returns c =
    let none : length c.characters.rest.now ≡ 0 = eqb-true (length c.characters.rest.now) 0 (sym c.is_empty.ensures ∙ c.characters-test.false) in
    all_read _ _ _ _ c.characters.invariant.1 (no_length c.characters.rest.now none) (IsUtf8-had _ c.characters.text.ok) c.in_ok-from_string.ensures.ok
