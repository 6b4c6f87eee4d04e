-- Behind the token that is next stand the others.
use Rattle.std.proofs.Common.{List, ap, ◌∙◌}
use Rattle.cedar_grammar.specs.Token.{Token}
use Rattle.cedar_tokens.specs.Unread.{Unread, behind_first}
use Rattle.cedar_tokens.proofs.Unread.{others_left}
use Rattle.cedar_tokens.proofs.reader.Tokens.behind.Goals as goal

pub returns : goal.returns
returns c =
    let s = c.self.inside in
    let others = others_left s.text.now s.next s.rest.now c.self.invariant in
    let unread : List Token → Unread = λ ts. record { text = s.text.now; left = ts } in
    c.of.ensures ∙ ap unread others ∙ ap behind_first c.self.view_is
