-- The text has an identifier in the grammar just where it is a normal one that isn't reserved.
use Rattle.std.proofs.Common.{◌≡◌, true, sym, ap, ◌∙◌, Some}
use Rattle.cedar_conversion.proofs.Words.{written_is, written_not}
use Rattle.cedar_conversion.proofs.names.unreserved.Goals as goal

pub returns-then-not-is_normalized_ident : goal.returns-then-not-is_normalized_ident
returns-then-not-is_normalized_ident c =
    sym (written_not c.args.text.now (λ h. let is : c.is_normalized_ident.result ≡ true = c.is_normalized_ident.ensures.1 h in absurd (cc (is, c.if-not-is_normalized_ident.true))))

pub returns : goal.returns
returns c =
    ap Some (c.in-Ok.ensures.0 ∙ c.new_unchecked-id.ensures ∙ c.in_ok-from_str.ensures.ok)
    ∙ sym (written_is c.args.text.now (c.is_normalized_ident.ensures.0 c.if-not-is_normalized_ident.false))
