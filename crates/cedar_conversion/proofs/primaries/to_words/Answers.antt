-- What an access shows all accesses show, since it is one of them.
use Rattle.std.proofs.Common.{map, inl, inr, subst}
use Rattle.cedar_grammar.specs.Loose as loose
use Rattle.cedar_cst.specs.View.{shown_mem_access}
use Rattle.cedar_conversion.specs.Shown.{fields_show}
use Rattle.cedar_faults.proofs.Telling.{handed_on, tells_more, at_item}
use Rattle.cedar_conversion.proofs.primaries.to_words.Goals as goal

pub returns-in_err-access_to_word-clause-shown : goal.returns-in_err-access_to_word-clause-shown
returns-in_err-access_to_word-clause-shown g c =
    handed_on c.from_residual.result _ _ c.from_residual.ensures
    (tells_more _ _ _ (λ k s. subst (λ ys. fields_show (loose.accesses (map shown_mem_access ys)) k) c.deref-access-items.ensures.value (at_item (λ ys. fields_show (loose.accesses (map shown_mem_access ys)) k) (λ x xs later. inr later) c.deref-access-items.result.now c.accesses.access-index c.access-item.result c.accesses-test.true c.access-item.is (inl s))) c.in_err-access_to_word.ensures.shown)
