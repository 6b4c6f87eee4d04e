-- What a response says doesn't rest on the policies that aren't satisfied.
use Rattle.std.proofs.Common.{◌∙◌, sym, ap, List}
use Rattle.cedar_language.specs.Uid.{Text}
use Rattle.cedar_world.specs.Answer.{Answer, ids_of}
use Rattle.cedar_replies.specs.declared.error_kind.ErrorKind.{ErrorKind}
use Rattle.cedar_evaluator.specs.Responses.{Holding, without_false}
use Rattle.cedar_evaluator.proofs.Deciding.{decided_held, must_held, may_held}
use Rattle.cedar_asking.specs.Laws.{SaysHeld}

pub says_with_all : (h : Holding) (listed : List (Text × ErrorKind)) (answer : Answer) → SaysHeld (without_false h) listed answer → SaysHeld h listed answer
says_with_all h listed answer says = record {
  kinds = says.kinds;
  errors = says.errors;
  decided = says.decided ∙ decided_held (without_false h) ∙ sym (decided_held h);
  must = says.must ∙ ap ids_of (must_held (without_false h) ∙ sym (must_held h));
  may = says.may ∙ ap ids_of (may_held (without_false h) ∙ sym (may_held h));
  erring = says.erring;
}
