use Rattle.cedar_world.proofs.OrdinaryAnswers.{answers_err_ordinarily as law}
use Rattle.cedar_world.proofs.telling.answers_err_ordinarily.Goals as goal

pub returns : goal.returns
returns c = law c.policies_in_force_err_ordinarily.ensures c.worlds_have_facts.ensures
