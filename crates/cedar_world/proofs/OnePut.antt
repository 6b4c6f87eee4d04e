-- Edit by edit, or all at once: what is held answers the same.
use Rattle.std.proofs.Common.{◌≡◌, ◌∙◌, sym, ap}
use Rattle.std.specs.FinMap as finite
use Rattle.cedar_language.specs.Uid.{Text}
use Rattle.cedar_world.specs.Commands.{Put, Done}
use Rattle.cedar_world.specs.EditLaws.{PutMakesAgain}
use Rattle.cedar_world.specs.EntityEdits.{put}
use Rattle.cedar_world.specs.Setting.{Setting}
use Rattle.cedar_world.specs.Step.{Step}
use Rattle.cedar_world.specs.World.{World, in_force_at}
use Rattle.cedar_world.specs.InForce.{AreAlike, AnswersReadWhatIsInForce}
use Rattle.cedar_world.specs.OnePut.{Lists, OnePutAnswersAlike}

module _ (again : PutMakesAgain) (reads : AnswersReadWhatIsInForce) where
  put_alike : (by : Setting) (world before after : World) (text : Text) →
      before.entities ≡ finite.empty → ((id : Text) → in_force_at before.policies id ≡ in_force_at world.policies id) →
      Lists by text world.entities → Step by before Put text Done after → AreAlike world after
  put_alike by world before after text none policies lists step =
      let (tree, bs, is, read, says) = step.1 in
      let (vs, made, changes) = says in
      let (puts, whole) = changes in
      let all : put finite.empty vs ≡ world.entities = again world.entities vs (lists tree bs vs is read made) in
      let held : after.entities ≡ world.entities = puts.0 ∙ ap (λ es. put es vs) none ∙ all in
      record {
        entities = sym held;
        policies = λ id. sym (policies id) ∙ ap (λ (w : World). in_force_at w.policies id) (sym whole);
      }

  pub one_put_answers_alike : OnePutAnswersAlike
  one_put_answers_alike by world before after text none policies lists step = reads.alike by world after (put_alike by world before after text none policies lists step)
