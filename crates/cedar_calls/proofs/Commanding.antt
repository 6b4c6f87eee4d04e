-- Objects of one member, and the commands that they give.
use Rattle.std.proofs.Common.{◌≡◌, ◌≤◌, Some, List, [], ◌∷◌, length, inr, refl, ap, ◌∙◌, subst, arith}
use Rattle.json.specs.Json.{Json, object, document, max_depth}
use Rattle.json.specs.Print.{print}
use Rattle.json.specs.Tree.{json_tokens, depth, HasNumbers}
use Rattle.json.specs.Value.{members_view}
use Rattle.json.proofs.Printed.Trees.{document-print}
use Rattle.cedar_json.proofs.Taken.{Entry}
use Rattle.cedar_json_commands.specs.declared.verbs.JsonVerb.{JsonVerb}
use Rattle.cedar_language.specs.Uid.{Text}
use Rattle.cedar_world.specs.Setting.{Setting}
use Rattle.cedar_world.specs.World.{World}
use Rattle.cedar_calls.specs.declared.answering.JsonReply.{JsonReply}
use Rattle.cedar_calls.specs.Lines.{name_of, single, IsNotSingle, CommandStep}
use Rattle.cedar_calls.specs.Steps.{ValueStep}

module _ {A : Type 0} where
  pub not_one : (ms : List (Entry A)) → (length ms ≡ 1 → ⊥) → IsNotSingle (object (members_view ms))
  not_one [] other name body e = absurd (cc e)
  not_one (m ∷ []) other name body e = absurd (other refl)
  not_one (m ∷ n ∷ ms) other name body e = absurd (cc e)

-- what is answered of the value of a body is answered of the text that it is printed as
pub command_step : (by : Setting) (old : World) (line : Text) (reply : JsonReply) (new : World) (v : JsonVerb) (j body : Json) → document line ≡ Some j
    → j ≡ single (name_of v) body → HasNumbers j → depth j ≤ max_depth → ValueStep by old v body reply new → CommandStep by old line reply new
command_step by old line reply new v j body d e numbers deep step =
    let numbered = subst (λ i. HasNumbers i) e numbers in
    let within : depth body ≤ max_depth = omega (arith, subst (λ i. depth i ≤ max_depth) e deep) in
    let printed = document-print body numbered.0 within in
    inr (v, body, print (json_tokens body), d ∙ ap (λ i. Some i) e, printed, step (print (json_tokens body)) printed)
