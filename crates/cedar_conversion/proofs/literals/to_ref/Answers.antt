-- An entity shows what its name and its string show.
use Rattle.std.proofs.Common.{◌≡◌, inl, inr, sym, subst, rules}
use Rattle.std.specs.Prelude.{IfErr}
use Rattle.cedar_grammar.specs.Loose as loose
use Rattle.cedar_cst.specs.LeafView.{shown_name, shown_str, shown_ref}
use Rattle.cedar_faults.specs.Telling.{TellsOnly}
use Rattle.cedar_conversion.specs.Shown.{name_shows, str_shows, ref_shows}
use Rattle.cedar_faults.proofs.Telling.{handed_on, flat_shows}
use Rattle.cedar_conversion.proofs.literals.to_ref.Goals as goal

pub returns-in_err-name-in-Some-Uid-clause-shown : goal.returns-in_err-name-in-Some-Uid-clause-shown
returns-in_err-name-in-Some-Uid-clause-shown g c =
    let at : shown_ref c.args.node.now ≡ loose.uid (shown_name c.in-Some-Uid.path) (shown_str c.in-Some-Uid.eid) = search rules in
    subst (λ x. IfErr c.from_residual.result (λ e. TellsOnly e (ref_shows x))) (sym at)
    (handed_on c.from_residual.result _ _ c.from_residual.ensures (flat_shows c.to_name-name.result c.to_text-text.result _ (name_shows (shown_name c.in-Some-Uid.path)) (str_shows (shown_str c.in-Some-Uid.eid)) _ c.in_err-name-in-Some-Uid.ensures c.to_name-name.ensures.shown c.to_text-text.ensures.shown (λ k s. inl s) (λ k s. inr s)))
