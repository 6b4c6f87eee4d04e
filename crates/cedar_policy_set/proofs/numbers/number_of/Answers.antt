-- What follows the word is the number as it is written, which is read back.
use Rattle.std.proofs.Common.{◌∙◌, sym, ap, codes, decimal}
use Rattle.std.specs.Result.{result_ok}
use Rattle.std.proofs.lemmas.Fmt.{parse-decimal}
use Rattle.std.proofs.lemmas.List.{append_cancel_left}
use Rattle.cedar_policy_set.proofs.numbers.number_of.Goals as goal

pub returns : goal.returns
returns c = λ k fits is.
    let found = c.in_ok-digits.ensures.cases in
    let digits = append_cancel_left (codes "policy") _ (decimal k) (sym found.1.1 ∙ c.as_str.ensures ∙ is) in
    c.ok.ensures.value ∙ ap result_ok (parse-decimal 64 k _ _ fits fits (found.2 ∙ digits) c.parse.ensures.value.0)
