-- A list that rises strictly and has the members of another is the language's set of these.
use Rattle.std.proofs.Common.{◌≡◌}
use Rattle.std.proofs.lemmas.Result.{IfOk-weaker}
use Rattle.cedar_values.proofs.Sets.{is_rising}
use Rattle.cedar_values.proofs.values.Set.new.Goals as goal

pub returns-clause-members : goal.returns-clause-members
returns-clause-members c =
    IfOk-weaker c.of_rising.result (λ set. set ≡ c.in_ok-each_once.field-0.items) _ (λ set e v. rw e (c.in_ok-each_once.ensures.members v)) c.of_rising.ensures

pub returns-clause-language : goal.returns-clause-language
returns-clause-language c =
    IfOk-weaker c.of_rising.result (λ set. set ≡ c.in_ok-each_once.field-0.items) _
    (λ set e. rw e (is_rising c.sets_are_finite.ensures _ _ c.in_ok-each_once.ensures.rising (λ v. c.in_ok-each_once.ensures.members v)))
    c.of_rising.ensures
