-- Each key is told by its spelling, and a text that is none of these is no key.
use Rattle.std.proofs.Common.{◌≢◌, codes}
use Rattle.std.specs.Cmp.Lexicographic.{same_text, other_text}
use Rattle.cedar_language.specs.Uid.{Text}
use Rattle.cedar_telling.specs.Questions.{key_spelled}
use Rattle.cedar_telling.specs.declared.questions.QuestionKey.{QuestionKey}
use Rattle.cedar_telling.specs.declared.questions.QuestionKey.TheVariants.{Principal, PrincipalType, Action, Resource, ResourceType, Context}
use Rattle.cedar_telling.proofs.questions.question_key.Goals as goal

pub returns-then-is_same-clause-spelled : goal.returns-then-is_same-clause-spelled
returns-then-is_same-clause-spelled c = same_text c.args.text.now (codes "principal") c.if-is_same.ensures

pub returns-then-is_same-2-clause-spelled : goal.returns-then-is_same-2-clause-spelled
returns-then-is_same-2-clause-spelled c = same_text c.args.text.now (codes "action") c.if-is_same-2.ensures

pub returns-then-is_same-3-clause-spelled : goal.returns-then-is_same-3-clause-spelled
returns-then-is_same-3-clause-spelled c = same_text c.args.text.now (codes "resource") c.if-is_same-3.ensures

pub returns-then-is_same-4-clause-spelled : goal.returns-then-is_same-4-clause-spelled
returns-then-is_same-4-clause-spelled c = same_text c.args.text.now (codes "context") c.if-is_same-4.ensures

pub returns-then-is_same-5-clause-spelled : goal.returns-then-is_same-5-clause-spelled
returns-then-is_same-5-clause-spelled c = same_text c.args.text.now (codes "principal_type") c.if-is_same-5.ensures

pub returns-then-is_same-6-clause-spelled : goal.returns-then-is_same-6-clause-spelled
returns-then-is_same-6-clause-spelled c = same_text c.args.text.now (codes "resource_type") c.if-is_same-6.ensures

none_of : (text : Text) → text ≢ codes "principal" → text ≢ codes "principal_type" → text ≢ codes "action" → text ≢ codes "resource" → text ≢ codes "resource_type" → text ≢ codes "context" → (key : QuestionKey) → text ≢ key_spelled key
none_of text p pt a r rt c Principal = p
none_of text p pt a r rt c PrincipalType = pt
none_of text p pt a r rt c Action = a
none_of text p pt a r rt c Resource = r
none_of text p pt a r rt c ResourceType = rt
none_of text p pt a r rt c Context = c

pub returns-else-is_same-6-clause-other : goal.returns-else-is_same-6-clause-other
returns-else-is_same-6-clause-other c =
    none_of c.args.text.now (other_text c.args.text.now (codes "principal") c.if-is_same.ensures)
    (other_text c.args.text.now (codes "principal_type") c.if-is_same-5.ensures)
    (other_text c.args.text.now (codes "action") c.if-is_same-2.ensures)
    (other_text c.args.text.now (codes "resource") c.if-is_same-3.ensures)
    (other_text c.args.text.now (codes "resource_type") c.if-is_same-6.ensures)
    (other_text c.args.text.now (codes "context") c.if-is_same-4.ensures)
