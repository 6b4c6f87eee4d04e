-- Key, value and place are those of the node, and the maker was called with the latter two.
use Rattle.std.proofs.Common.{◌≡◌, inl, inr, sym, subst, rules}
use Rattle.std.specs.Prelude.{IfErr}
use Rattle.std.specs.Option.{option_map}
use Rattle.std.specs.Rc.{rc_str_bytes}
use Rattle.cedar_grammar.specs.Converting.{ident_spelling}
use Rattle.cedar_grammar.specs.Loose as loose
use Rattle.cedar_cst.specs.LeafView.{shown_ident, shown_str}
use Rattle.cedar_cst.specs.View.{view_annotation}
use Rattle.cedar_cst.proofs.Views.{seen}
use Rattle.cedar_faults.specs.Telling.{TellsOnly}
use Rattle.cedar_conversion.specs.Shown.{ident_shows}
use Rattle.cedar_faults.proofs.Telling.{flat_shows, handed_on}
use Rattle.cedar_policy_conversion.specs.Notes.{written_value}
use Rattle.cedar_policy_conversion.specs.PartsShow.{note_key_shows, note_text_shows, annotation_shows}
use Rattle.cedar_policy_conversion.proofs.Finding.{found, two_found}
use Rattle.cedar_policy_conversion.proofs.Making.{made_note}
use Rattle.cedar_policy_conversion.proofs.Showing.{lacking_tells}
use Rattle.cedar_policy_conversion.proofs.annotations.to_made.Goals as goal

pub returns-clause-made : goal.returns-clause-made
returns-clause-made g c =
    let a = c.in-Some.annotation in
    let parts = two_found c.to_any_ident-key.result c.to_value-value.result (c.in_ok-key.key, c.in_ok-key.value) c.in_ok-key.ensures in
    let key = found (λ id. id) c.to_any_ident-key.result (ident_spelling (shown_ident a.key)) c.in_ok-key.key c.to_any_ident-key.ensures.id parts.0 in
    let value = found (option_map rc_str_bytes) c.to_value-value.result (written_value (option_map shown_str a.value)) c.in_ok-key.value c.to_value-value.ensures.value parts.1 in
    let place : c.in_ok-loc.loc ≡ c.args.node.now.loc = search rules in
    made_note _ c.args.node.now a c.in_ok-key.key c.in_ok-key.value c.in_ok-loc.loc c.in_ok-made.made c.in-Some.is place key value c.in_ok-made.ensures

pub returns-in_err-key-clause-shown : goal.returns-in_err-key-clause-shown
returns-in_err-key-clause-shown g c =
    let a = c.in-Some.annotation in
    let i = shown_ident a.key in
    let key = lacking_tells (λ id. id) c.to_any_ident-key.result (ident_spelling i) (ident_shows i) c.to_any_ident-key.ensures.id c.to_any_ident-key.ensures.shown in
    subst (λ x. IfErr c.from_residual.result (λ e. TellsOnly e (annotation_shows x))) (sym (seen loose.missing_annotation view_annotation c.args.node.now a c.in-Some.is))
    (handed_on c.from_residual.result _ _ c.from_residual.ensures
    (flat_shows c.to_any_ident-key.result c.to_value-value.result _ (note_key_shows i) (note_text_shows (option_map shown_str a.value)) _ c.in_err-key.ensures key c.to_value-value.ensures.shown (λ k s. inl s) (λ k s. inr s)))
