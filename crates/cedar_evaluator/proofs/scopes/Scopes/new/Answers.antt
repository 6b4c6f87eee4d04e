-- Each variable's entity, as the evaluator gives it.
use Rattle.cedar_evaluator.specs.Asking.{variable_asked}
use Rattle.cedar_evaluator.proofs.scopes.Scopes.new.Goals as goal

pub returns-then-is_partial : goal.returns-then-is_partial
returns-then-is_partial g c = λ i store table depth is. record { principal = tt; action = tt; resource = tt }

pub returns : goal.returns
returns g c = λ i store table depth is. record {
  principal = c.given_entity.ensures.seen (variable_asked i.request) i.told store table depth is;
  action = c.given_entity-2.ensures.seen (variable_asked i.request) i.told store table depth is;
  resource = c.given_entity-3.ensures.seen (variable_asked i.request) i.told store table depth is;
}
