-- Its line begins with the id of the template.
use Rattle.std.proofs.Common.{◌≡◌, ◌++◌, ◌∷◌, [], ap, sym, subst, ◌∙◌, append_assoc, string_bytes, Bor, IfSome, OnOk, Option}
use Rattle.std.proofs.lemmas.List.{append-nil}
use Rattle.cedar_policies.specs.Templates.{template_id}
use Rattle.cedar_policies.specs.declared.templates.Template.{Template}
use Rattle.cedar_refusals.specs.Checks.{TellsPolicy}
use Rattle.cedar_messages.specs.Telling.{line_of, Adds, IsLine}
use Rattle.cedar_messages.proofs.Told.{told_on_ok}
use Rattle.cedar_authoring.proofs.held.Held.tell_template.Goals as goal

pub returns-clause-some : goal.returns-clause-some
returns-clause-some c =
    let name = c.args.origin.name.now in
    let place = c.place-place.result in
    let own = template_id c.in-Some.template.now in
    let id = c.as_str-2.result.now in
    let what = c.as_str-3.result.now in
    let message = c.as_str-4.result.now in
    let old = string_bytes c.args.told.now in
    let new = string_bytes c.tell_line.new.told in
    let named : id ≡ own = c.as_str-2.ensures ∙ c.id-2.ensures in
    let joined : id ++ (32 ∷ what) ≡ (own ++ 32 ∷ []) ++ what = sym (append_assoc id (32 ∷ []) what) ∙ ap (λ i. (i ++ 32 ∷ []) ++ what) named in
    let is : message ≡ (own ++ 32 ∷ []) ++ what = c.as_str-4.ensures.value ∙ (c.in_ok-line.ensures.ok ∙ joined) in
    let line : IsLine what = subst IsLine (sym c.as_str-3.ensures.value) c.in_ok-what-3.ensures in
    let P : Option (Bor Template) → Type 0 = λ o. IfSome o (λ t. OnOk c.tell_line.result (Adds (TellsPolicy name (template_id t.now)) old new)) in
    subst P (sym c.in-Some.is) (told_on_ok c.tell_line.result (TellsPolicy name own) old new (line_of name place message ++ [])
    (place, what, line, append-nil (line_of name place message) ∙ ap (λ m. line_of name place m) is) c.tell_line.ensures)
