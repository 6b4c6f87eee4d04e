-- By early answers: each policy kept stands as the evaluation of what is written of it says.
use Rattle.cedar_asking.proofs.Firsts.{says_first, says_found, lists_first, meets_in_force, meets_limit}
use Rattle.cedar_asking.proofs.responses_answer_questions.Goals as goal

pub returns : goal.returns
returns c by world facts es s table depth q r ks held asked kept = record {
  first = λ made listed answer says.
      says_first r s table depth c.linking_is_writing_early.ensures c.linking_binds_the_condition.ensures es held.whole held.slots held.names c.policy_sets_are_worlds.ensures.finds ks kept by world held.policies facts held.store held.functions q asked
      c.early_answers_stand.ensures c.answers_are_made.ensures held.are_facts made listed says.kinds says.errors answer says.decided says.must says.may says.erring;
  found = λ are listed answer says.
      says_found r s table depth c.linking_is_writing_early.ensures c.linking_binds_the_condition.ensures es held.whole held.slots held.names c.policy_sets_are_worlds.ensures.finds ks kept by world held.policies facts held.store held.functions q asked
      c.answers_are_made.ensures are listed answer says;
  errors = λ listed answer says.
      lists_first r s table depth c.linking_is_writing_early.ensures c.linking_binds_the_condition.ensures es held.whole held.slots held.names c.policy_sets_are_worlds.ensures.finds ks kept by world held.policies facts held.store held.functions q asked
      c.answers_are_made.ensures listed answer says;
  in_force = λ some.
      meets_in_force r s table depth c.linking_is_writing_early.ensures c.linking_binds_the_condition.ensures es held.whole held.slots held.names
      c.policy_sets_are_worlds.ensures.finds ks kept by world held.policies facts held.store held.functions q asked some;
  limit = λ setting some.
      meets_limit r s table depth c.linking_is_writing_early.ensures c.linking_binds_the_condition.ensures es held.whole held.slots held.names c.policy_sets_are_worlds.ensures.finds ks kept by world held.policies facts held.store held.functions q asked
      c.known_is_never_left.ensures c.mentioned_is_meant.ensures c.linking_keeps_height.ensures c.answers_stay_within.ensures.bound setting held.are_facts some;
}
