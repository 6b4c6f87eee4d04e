-- A name gives its words and those accessed, a string without accesses its text, and all else nothing.
use Rattle.std.proofs.Common.{◌≡◌, ◌<◌, length, [], ◌∷◌, map, sym, ap, ◌∙◌, subst, Some, None}
use Rattle.std.specs.Prelude.{◌==◌, IfErr}
use Rattle.cedar_grammar.specs.Loose as loose
use Rattle.cedar_grammar.specs.Converting.{member_fields, primary_text}
use Rattle.cedar_grammar.specs.Steps.{◌>>=◌}
use Rattle.cedar_cst.specs.LeafView.{shown_name}
use Rattle.cedar_cst.specs.declared.cst.Member.{out-Member}
use Rattle.cedar_cst.specs.View.{view_member, shown_member, shown_primary, shown_mem_access}
use Rattle.cedar_cst.proofs.Views.{seen, view_member_out}
use Rattle.cedar_conversion.specs.Fields.{path_texts}
use Rattle.cedar_faults.specs.Converts.{Finds}
use Rattle.cedar_faults.specs.Telling.{TellsOnly}
use Rattle.cedar_conversion.specs.Shown.{string_shows, member_attributes_show}
use Rattle.cedar_faults.proofs.Telling.{tells_more, told_more}
use Rattle.cedar_conversion.specs.Alone.{only_name}
use Rattle.cedar_conversion.proofs.Steps.{name_is, by_name, by_text, by_nothing, text_shown, nothing_shown, some_more, none_more, lacking}
use Rattle.cedar_conversion.proofs.primaries.member_to_fields.Goals as goal

pub returns-in-Some-only_name-clause-fields : goal.returns-in-Some-only_name-clause-fields
returns-in-Some-only_name-clause-fields g c =
    let t = c.in-Some.member in
    let p = shown_primary (out-Member t).item.value in
    let xs = loose.accesses (map shown_mem_access (out-Member t).access.items) in
    let is : only_name p ≡ Some (shown_name c.in-Some-only_name.name.now) = ap (λ q. only_name (shown_primary q)) (sym c.deref.ensures) ∙ sym c.in-Some-only_name.ensures in
    subst (λ w. Finds path_texts c.words_to_fields.result w) (sym (ap member_fields (seen loose.missing_member view_member c.args.node.now t c.in-Some.is ∙ view_member_out t) ∙ by_name p (shown_name c.in-Some-only_name.name.now) xs is)) c.words_to_fields.ensures.fields

pub returns-then-is_empty-clause-fields : goal.returns-then-is_empty-clause-fields
returns-then-is_empty-clause-fields g c =
    let t = c.in-Some.member in
    let p = shown_primary (out-Member t).item.value in
    let v = (out-Member t).access in
    let none : v.items ≡ [] = none_more v.items (ap (λ n. n == 0) (sym v.ok.0) ∙ sym c.is_empty.ensures ∙ c.if-is_empty.true) in
    let is : only_name p ≡ None = ap (λ q. only_name (shown_primary q)) (sym c.deref.ensures) ∙ sym c.in-None-only_name.ensures in
    subst (λ w. Finds path_texts c.text_to_field.result w) (sym (ap member_fields (seen loose.missing_member view_member c.args.node.now t c.in-Some.is ∙ view_member_out t ∙ ap (λ ys. loose.member p (loose.accesses (map shown_mem_access ys))) none) ∙ by_text p is ∙ ap (λ q. primary_text (shown_primary q) >>= λ s. Some (s ∷ [])) (sym c.deref-then-is_empty.ensures))) c.text_to_field.ensures.fields

pub returns-else-is_empty-clause-fields : goal.returns-else-is_empty-clause-fields
returns-else-is_empty-clause-fields g c =
    let t = c.in-Some.member in
    let p = shown_primary (out-Member t).item.value in
    let v = (out-Member t).access in
    let some : 0 < length v.items = some_more v.items (ap (λ n. n == 0) (sym v.ok.0) ∙ sym c.is_empty.ensures ∙ c.if-is_empty.false) in
    let is : only_name p ≡ None = ap (λ q. only_name (shown_primary q)) (sym c.deref.ensures) ∙ sym c.in-None-only_name.ensures in
    lacking c.no_fields-else-is_empty.result _ c.no_fields-else-is_empty.ensures.fault (ap member_fields (seen loose.missing_member view_member c.args.node.now t c.in-Some.is ∙ view_member_out t) ∙ by_nothing p shown_mem_access v.items is some)

pub returns-in-Some-only_name-clause-shown : goal.returns-in-Some-only_name-clause-shown
returns-in-Some-only_name-clause-shown g c =
    let t = c.in-Some.member in
    let p = shown_primary (out-Member t).item.value in
    let n = shown_name c.in-Some-only_name.name.now in
    let xs = loose.accesses (map shown_mem_access (out-Member t).access.items) in
    let is : only_name p ≡ Some n = ap (λ q. only_name (shown_primary q)) (sym c.deref.ensures) ∙ sym c.in-Some-only_name.ensures in
    let at : shown_member c.args.node.now ≡ loose.member (loose.named n) xs = seen loose.missing_member view_member c.args.node.now t c.in-Some.is ∙ view_member_out t ∙ ap (λ q. loose.member q xs) (name_is p n is) in
    subst (λ m. IfErr c.words_to_fields.result (λ e. TellsOnly e (member_attributes_show m))) (sym at) (told_more c.words_to_fields.result _ _ (λ k s. s) c.words_to_fields.ensures.shown)

pub returns-then-is_empty-clause-shown : goal.returns-then-is_empty-clause-shown
returns-then-is_empty-clause-shown g c =
    let t = c.in-Some.member in
    let p = shown_primary (out-Member t).item.value in
    let v = (out-Member t).access in
    let none : v.items ≡ [] = none_more v.items (ap (λ n. n == 0) (sym v.ok.0) ∙ sym c.is_empty.ensures ∙ c.if-is_empty.true) in
    let is : only_name p ≡ None = ap (λ q. only_name (shown_primary q)) (sym c.deref.ensures) ∙ sym c.in-None-only_name.ensures in
    let at : shown_member c.args.node.now ≡ loose.member p loose.no_accesses = seen loose.missing_member view_member c.args.node.now t c.in-Some.is ∙ view_member_out t ∙ ap (λ ys. loose.member p (loose.accesses (map shown_mem_access ys))) none in
    subst (λ m. IfErr c.text_to_field.result (λ e. TellsOnly e (member_attributes_show m))) (sym at)
    (told_more c.text_to_field.result _ _ (λ k s. text_shown p is k (subst (λ q. string_shows (shown_primary q) k) c.deref-then-is_empty.ensures s)) c.text_to_field.ensures.shown)

pub returns-else-is_empty-clause-shown : goal.returns-else-is_empty-clause-shown
returns-else-is_empty-clause-shown g c =
    let t = c.in-Some.member in
    let p = shown_primary (out-Member t).item.value in
    let v = (out-Member t).access in
    let some : 0 < length v.items = some_more v.items (ap (λ n. n == 0) (sym v.ok.0) ∙ sym c.is_empty.ensures ∙ c.if-is_empty.false) in
    let is : only_name p ≡ None = ap (λ q. only_name (shown_primary q)) (sym c.deref.ensures) ∙ sym c.in-None-only_name.ensures in
    subst (λ m. TellsOnly c.no_fields-else-is_empty.result (member_attributes_show m)) (sym (seen loose.missing_member view_member c.args.node.now t c.in-Some.is ∙ view_member_out t))
    (tells_more c.no_fields-else-is_empty.result _ _ (nothing_shown p shown_mem_access v.items is some) c.no_fields-else-is_empty.ensures.kind)
