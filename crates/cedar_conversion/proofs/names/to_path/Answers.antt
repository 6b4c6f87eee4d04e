-- What a word shows all words show, since it is one of them.
use Rattle.std.proofs.Common.{map, inl, inr, subst}
use Rattle.cedar_cst.specs.LeafView.{shown_ident}
use Rattle.cedar_faults.specs.declared.errors.ConversionError.TheVariants as error
use Rattle.cedar_conversion.specs.Shown.{idents_show}
use Rattle.cedar_faults.proofs.Telling.{handed_on, tells_more, at_item}
use Rattle.cedar_conversion.proofs.names.to_path.Goals as goal

pub returns-in_err-id-clause-shown : goal.returns-in_err-id-clause-shown
returns-in_err-id-clause-shown g c =
    handed_on c.from_residual.result _ _ c.from_residual.ensures
    (tells_more _ _ _ (λ k s. subst (λ ys. idents_show (map shown_ident ys) k) c.deref-word-items.ensures.value (at_item (λ ys. idents_show (map shown_ident ys) k) (λ x xs later. inr later) c.deref-word-items.result.now c.words.word-index c.word-item.result c.words-test.true c.word-item.is (inl s))) c.in_err-id.ensures.shown)

pub returns-in_err-push-clause-shown : goal.returns-in_err-push-clause-shown
returns-in_err-push-clause-shown g c =
    handed_on c.from_residual-in_err-push.result error.Memory _ c.from_residual-in_err-push.ensures record { each = λ k told. absurd told }
