-- Digits without a sign are parsed as what they write.
use Rattle.std.proofs.Common.{◌∙◌, sym, ap, subst}
use Rattle.std.specs.Str.Parse.{digits_value}
use Rattle.cedar_grammar.specs.Token.{number}
use Rattle.cedar_data.specs.Takes.{Takes}
use Rattle.cedar_data.proofs.Tokens.{no_plus}
use Rattle.cedar_data.proofs.reader.Reader.number.Goals as goal

pub returns-in-Ok : goal.returns-in-Ok
returns-in-Ok c =
    subst (λ n. Takes (number n) c.args.self.now c.digits.new.self) (sym (c.in-Ok.ensures.value.0.1 ∙ ap (digits_value 10) (no_plus c.in_ok-digits.digits.now c.in_ok-digits.ensures.digits))) c.in_ok-digits.ensures.taken
