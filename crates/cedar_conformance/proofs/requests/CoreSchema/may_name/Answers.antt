-- What may be named may be whatever the extension functions are.
use Rattle.std.proofs.Common.{◌∙◌, ap, Option, None}
use Rattle.cedar_language.specs.Uid.{Name, Uid}
use Rattle.cedar_typing.specs.Schema.{Signature}
use Rattle.cedar_conformance.specs.Requests.{may_name_in}
use Rattle.cedar_conformance.proofs.requests.CoreSchema.may_name.Goals as goal

pub returns : goal.returns
returns c =
    let none : Name → Option Signature = λ n. None in
    c.may_name.ensures none ∙ ap (λ (u : Uid). may_name_in c.args.self.now.schema.now u) c.in_ok-uid.ensures
