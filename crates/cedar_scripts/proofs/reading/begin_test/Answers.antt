use Rattle.std.proofs.Common.{◌≡◌, ◌==◌, ◌++◌, ◌∷◌, [], map, false, length, sym, ap, subst, ◌∙◌}
use Rattle.std.proofs.lemmas.List.{map-append}
use Rattle.cedar_scripts.specs.ScriptLines.{Title, is_blank}
use Rattle.cedar_scripts.specs.ScriptTexts.{TestText, ScriptGoesOn, script_text, step_text, test_text}
use Rattle.cedar_scripts.proofs.Adding.{whole_title}
use Rattle.cedar_scripts.proofs.reading.begin_test.Goals as goal

pub returns-clause-taken : goal.returns-clause-taken
returns-clause-taken c =
    let old = c.args.script.now in
    let name = c.args.name.now in
    let filled : is_blank name ≡ false = ap (λ t. length t == 0) (sym c.trim.ensures.trim) ∙ sym c.if-is_empty.ensures in
    let titled : TestText = record { line = c.args.number; name = name; steps = [] } in
    let test = test_text (record { line = c.args.number; name = c.in_ok-from_str.field-0; steps = c.new.result }) in
    let is : test ≡ titled =
    ap (λ n. let t : TestText = record { line = c.args.number; name = n; steps = map step_text c.new.result.items } in t) c.in_ok-from_str.ensures.ok
    ∙ ap (λ l. let t : TestText = record { line = c.args.number; name = name; steps = map step_text l } in t) c.new.ensures.items in
    let new : map test_text c.push.new.self.items ≡ map test_text old.tests.items ++ titled ∷ [] =
    ap (map test_text) c.in_ok-push.ensures.items ∙ map-append test_text old.tests.items _ ∙ ap (λ t. map test_text old.tests.items ++ t ∷ []) is in
    subst (λ l. ScriptGoesOn c.args.number (Title name) (script_text old) (record { set_up = map step_text old.set_up.items; tests = l })) (sym new)
    (whole_title c.args.number name (map step_text old.set_up.items) (map test_text old.tests.items) filled)
