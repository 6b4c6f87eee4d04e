-- Its line begins with the id, and ends with how it stands.
use Rattle.std.proofs.Common.{◌≡◌, ◌++◌, ◌∷◌, [], ap, sym, subst, ◌∙◌, append_assoc, string_bytes}
use Rattle.cedar_policies.specs.Policies.{policy_id}
use Rattle.cedar_authoring.specs.Standing.{standing_words, TellsStanding}
use Rattle.cedar_messages.specs.Telling.{line_of, AreBelow, IsLine}
use Rattle.cedar_messages.proofs.Told.{told_on_ok}
use Rattle.cedar_authoring.proofs.standing.tell_standing.Goals as goal

pub returns : goal.returns
returns c = λ response words_are.
    let name = c.args.origin.name.now in
    let place = c.place-place.result in
    let own = policy_id c.args.policy.now in
    let id = c.as_str.result.now in
    let what = c.as_str-2.result.now in
    let words = c.words.result.now in
    let message = c.as_str-3.result.now in
    let below = c.as_str-4.result.now in
    let named : id ≡ own = c.as_str.ensures ∙ c.id.ensures in
    let joined : id ++ (32 ∷ (what ++ words)) ≡ ((own ++ 32 ∷ []) ++ what) ++ standing_words response own =
    sym (append_assoc id (32 ∷ []) (what ++ words)) ∙ (sym (append_assoc (id ++ 32 ∷ []) what words)
    ∙ (ap (λ i. ((i ++ 32 ∷ []) ++ what) ++ words) named ∙ ap (λ w. ((own ++ 32 ∷ []) ++ what) ++ w) (c.words.ensures ∙ words_are))) in
    let is : message ≡ ((own ++ 32 ∷ []) ++ what) ++ standing_words response own = c.as_str-3.ensures.value ∙ (c.in_ok-line.ensures.ok ∙ joined) in
    let line : IsLine what = subst IsLine (sym c.as_str-2.ensures.value) c.in_ok-what.ensures in
    let are_below : AreBelow below = subst AreBelow (sym c.as_str-4.ensures.value) c.in_ok-below.ensures in
    told_on_ok c.tell_line.result (TellsStanding name response own) (string_bytes c.args.told.now) (string_bytes c.tell_line.new.told) (line_of name place message ++ below)
    (place, what, below, line, are_below, ap (λ m. line_of name place m ++ below) is) c.tell_line.ensures
