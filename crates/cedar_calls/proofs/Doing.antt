-- The body that the session read is the one that the JSON says.
use Rattle.std.proofs.Common.{◌≡◌, Option, Some, sym, ap, ◌∙◌, subst}
use Rattle.cedar_grammar.specs.Functions.{body_names}
use Rattle.cedar_json.specs.Values.{IsTextOf}
use Rattle.cedar_language.specs.Height.{height}
use Rattle.cedar_language.specs.Tree.{Tree}
use Rattle.cedar_language.specs.Uid.{Text}
use Rattle.cedar_world.specs.Setting.{Setting, BodiesAreOne}
use Rattle.cedar_world.specs.Bodies.{string_of, uids_of, link_body, entity_bodies, ask_body, tell_body}
use Rattle.cedar_world.specs.Step.{Body, LinkSays, TakeAwaySays, AddSays, PutSays, RemoveSays, AskSays, TellSays}
use Rattle.cedar_world.specs.World.{World}
use Rattle.cedar_calls.specs.Laws.{KnowsCalls, JsonCommandsDoWhatIsSaid}

same_some : {A : Type 0} {x y : A} → Some x ≡ Some y → x ≡ y
same_some e = cc

module _ (by : Setting) (once : BodiesAreOne by) (old new : World) (json text : Text) where
  read_as : {B : Type 0} (read : Tree → Option B) (Says : B → Type 0) (b : B) (t : Tree) → Body by old text new read Says → IsTextOf text t → read t ≡ Some b
      → KnowsCalls by t → Says b
  read_as read Says b t body is reads knows =
      let same : body.0 ≡ t = once text body.0 t body.2 (height t, is (body_names by.functions) knows) in
      subst Says (same_some (sym body.3 ∙ ap read same ∙ reads)) body.4

  pub commands_do : JsonCommandsDoWhatIsSaid by old new json text
  commands_do = record {
    link = λ said step knows. read_as link_body (LinkSays by old text new) said.0 said.2 step.1 said.3 said.4 knows;
    unlink = λ said step knows. read_as string_of (TakeAwaySays by old text new) said.0 said.2 step.1 said.3 said.4 knows;
    remove_static = λ said step knows. read_as string_of (TakeAwaySays by old text new) said.0 said.2 step.1 said.3 said.4 knows;
    remove_template = λ said step knows. read_as string_of (TakeAwaySays by old text new) said.0 said.2 step.1 said.3 said.4 knows;
    add = λ said step knows. read_as entity_bodies (AddSays by old text new) said.0 said.2 step.1 said.3 said.4 knows;
    put = λ said step knows. read_as entity_bodies (PutSays by old text new) said.0 said.2 step.1 said.3 said.4 knows;
    remove = λ said step knows. read_as uids_of (RemoveSays by old text new) said.0 said.2 step.1 said.3 said.4 knows;
    ask = λ answer said step knows. read_as ask_body (AskSays by old text new answer) said.0 said.2 step.1 said.3 said.4 knows;
    ask_partial = λ answer said step knows. read_as ask_body (AskSays by old text new answer) said.0 said.2 step.1 said.3 said.4 knows;
    tell = λ answer said step knows. read_as tell_body (TellSays by old text new answer) said.0 said.2 step.1 said.3 said.4 knows;
  }
