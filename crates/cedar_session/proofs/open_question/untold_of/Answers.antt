-- A question of which all is given wants no value.
use Rattle.std.proofs.Common.{ℕ, List, Bor, ap, map, subst, sym}
use Rattle.cedar_telling.specs.AskedNames.{AreUntoldOf}
use Rattle.cedar_telling.specs.Tells.{told_in}
use Rattle.cedar_session.specs.Asking.{body_tree}
use Rattle.cedar_session.proofs.Given.{nothing_untold}
use Rattle.cedar_session.proofs.open_question.untold_of.Goals as goal

pub returns-in-Given : goal.returns-in-Given
returns-in-Given c =
    let told = told_in c.args.asked.now.told.entries in
    let names = map (λ (n : Bor (List ℕ)). n.now) c.new.result.items in
    subst (λ b. AreUntoldOf (body_tree b) told names) (sym c.in-Given.is) (nothing_untold c.in-Given.field-0 told names (ap (map (λ (n : Bor (List ℕ)). n.now)) c.new.ensures.items))
