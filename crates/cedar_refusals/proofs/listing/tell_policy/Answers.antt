-- Its line begins with the id.
use Rattle.std.proofs.Common.{◌≡◌, ◌++◌, ◌∷◌, [], ap, sym, subst, ◌∙◌, append_assoc}
use Rattle.std.proofs.lemmas.List.{append-nil}
use Rattle.cedar_messages.specs.Telling.{line_of, IsLine}
use Rattle.cedar_refusals.proofs.listing.tell_policy.Goals as goal

pub returns : goal.returns
returns c =
    let name = c.args.name.now in
    let place = c.place_of-place.result in
    let id = c.as_str.result.now in
    let message = c.as_str-3.result.now in
    let more = c.as_str-2.result.now in
    let joined : id ++ (32 ∷ more) ≡ (c.args.id.now ++ 32 ∷ []) ++ more = sym (append_assoc id (32 ∷ []) more) ∙ ap (λ i. (i ++ 32 ∷ []) ++ more) c.as_str.ensures in
    let is : message ≡ (c.args.id.now ++ 32 ∷ []) ++ more = c.as_str-3.ensures.value ∙ (c.in_ok-line.ensures.ok ∙ joined) in
    let line : IsLine more = subst IsLine (sym c.as_str-2.ensures.value) c.in_ok-what.ensures in
    (line_of name place message ++ [], (place, more, line, append-nil (line_of name place message) ∙ ap (λ m. line_of name place m) is), c.in_ok-tell_line.ensures)
