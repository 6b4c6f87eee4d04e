-- By what was left of the policies, of which each is taken up as what was found of it.
use Rattle.cedar_asking.proofs.LaterTells.{is_answered}
use Rattle.cedar_asking.proofs.tells_are_answered.Goals as goal

pub returns : goal.returns
returns c by world q first again old told es s table depth listed last new answer gives keeps now are extends made says joined =
    is_answered
    (record {
      exist = c.worlds_have_facts.ensures;
      finds = c.policy_sets_are_worlds.ensures.finds;
      apart = c.leaves_dont_matter.ensures;
      stay = c.contexts_stay.ensures;
      plain = c.plain_answers.ensures;
      parts = c.contexts_err_in_parts.ensures;
      tell = c.told_contexts_are_evaluated.ensures;
    })
    by world q first keeps.response told are es s table gives depth now
    (record {
      conditions = c.linking_binds_the_condition.ensures;
      made = c.answers_are_made.ensures;
      nothing = c.unsatisfied_say_nothing.ensures;
      prompt = c.answers_are_prompt.ensures;
      again = c.again_is_sound.ensures;
      later = c.later_answers_stand.ensures;
      waits = c.what_is_left_waits.ensures;
    })
    again made listed new says old last answer keeps extends joined
