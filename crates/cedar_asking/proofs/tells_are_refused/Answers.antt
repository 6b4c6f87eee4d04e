-- By what is told, which is in no conflict with the request, and by the parts of the context; and by what was left of policies.
use Rattle.cedar_asking.proofs.LaterTells.{is_refused, limits_high}
use Rattle.cedar_asking.proofs.MetAgain.{met_again}
use Rattle.cedar_asking.proofs.tells_are_refused.Goals as goal

pub returns-clause-context : goal.returns-clause-context
returns-clause-context c by world q first old told es s table depth last e gives keeps now are refused =
    is_refused
    (record {
      exist = c.worlds_have_facts.ensures;
      finds = c.policy_sets_are_worlds.ensures.finds;
      apart = c.leaves_dont_matter.ensures;
      stay = c.contexts_stay.ensures;
      plain = c.plain_answers.ensures;
      parts = c.contexts_err_in_parts.ensures;
      tell = c.told_contexts_are_evaluated.ensures;
    })
    by world q first keeps.response told are es s table gives depth now c.known_is_never_left.ensures c.written_values_are_restricted.ensures.written c.written_values_are_restricted.ensures.ground e refused

pub returns-clause-limit : goal.returns-clause-limit
returns-clause-limit c by world q first again old told es s table depth last gives keeps now are taken some = (
  met_again c.policy_sets_are_worlds.ensures.finds by world q first keeps.response told s table depth again taken some,
  limits_high
      (record {
        exist = c.worlds_have_facts.ensures;
        finds = c.policy_sets_are_worlds.ensures.finds;
        apart = c.leaves_dont_matter.ensures;
        stay = c.contexts_stay.ensures;
        plain = c.plain_answers.ensures;
        parts = c.contexts_err_in_parts.ensures;
        tell = c.told_contexts_are_evaluated.ensures;
      })
      by world q first keeps.response told are es s table gives depth now again taken c.linking_binds_the_condition.ensures c.answers_stay_within.ensures.bound some,
)
