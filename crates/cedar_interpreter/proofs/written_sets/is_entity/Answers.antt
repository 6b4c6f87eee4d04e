-- Two entities are one where their uids are.
use Rattle.std.proofs.Common.{◌∙◌, ap, sym}
use Rattle.cedar_language.specs.Order.{same, same_uid}
use Rattle.cedar_language.specs.Tree.{Entity}
use Rattle.cedar_language.specs.Value.{Plain}
use Rattle.cedar_literals.specs.Literals.{literal_of}
use Rattle.cedar_interpreter.proofs.Glanced.{uids_tie}
use Rattle.cedar_interpreter.proofs.written_sets.is_entity.Goals as goal

pub returns-in-EntityUID : goal.returns-in-EntityUID
returns-in-EntityUID c =
    let u = c.args.value.now in
    ap (λ l. same (Plain (literal_of l)) (Plain (Entity u))) c.in-EntityUID.is ∙ uids_tie c.in-EntityUID.written.value u
    ∙ ap (λ w. same_uid w u) (sym c.deref.ensures) ∙ sym c.is_same_uid.ensures
