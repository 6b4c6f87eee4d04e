-- The question that a text asks, and its request, or why it is refused.
use Rattle.std.specs.Prelude.{◌≡◌, ◌⊎◌, ◌≤◌, true, List, [], ◌∷◌, codes, Some, Result, Ok, Err}
use Rattle.either.specs.declared.Either.TheVariants.{Left}
use Rattle.cedar_data.specs.Questions.{question_tree}
use Rattle.cedar_data.specs.Simple.{tree_of, record_value}
use Rattle.cedar_data.specs.declared.given.GivenQuestion.{GivenQuestion}
use Rattle.cedar_extensions.specs.Table.{Table}
use Rattle.cedar_grammar.specs.Build.{Keyed}
use Rattle.cedar_grammar.specs.UnknownCalls.{holds_call}
use Rattle.cedar_held.specs.Fields.{Serves}
use Rattle.cedar_language.specs.Height.{height}
use Rattle.cedar_language.specs.Restricted.{is_restricted}
use Rattle.cedar_language.specs.Tree.{Tree, Lit, Entity}
use Rattle.cedar_language.specs.Uid as uid
use Rattle.cedar_partial_evaluation.specs.Question as question
use Rattle.cedar_replies.specs.declared.refusal.Refusal.{Refusal}
use Rattle.cedar_requests.specs.Holding.{RequestParts}
use Rattle.cedar_requests.specs.declared.requests.Request.{Request}
use Rattle.cedar_restricted.specs.Views.{restricted_tree}
use Rattle.cedar_telling.specs.Bodies.{AsksBody}
use Rattle.cedar_world.specs.Setting.{Setting, IsBodyWithin}
use Rattle.cedar_session.specs.TextReading.{ReadsBody}
use Rattle.cedar_session.specs.declared.asked.AskedBody.{AskedBody}
use Rattle.cedar_session.specs.declared.asked.AskedBody.TheVariants.{Written, Given}

-- the body, as it is written
abbrev pub body_tree : AskedBody → Tree
body_tree (Written body) = restricted_tree body
body_tree (Given question) = question_tree question

-- the parts of the question where all is given
abbrev pub parts_asked : GivenQuestion → RequestParts
parts_asked q = record {
  principal = question.Given q.principal.value;
  action = question.Given q.action.value;
  resource = question.Given q.resource.value;
  context = Some (Left (record_value q.context.value.entries));
}

-- its entries in the order in which they are read, where all is given
abbrev pub entries_asked : GivenQuestion → List (Keyed Tree)
entries_asked q =
    (codes "principal", Lit (Entity q.principal.value)) ∷ (codes "action", Lit (Entity q.action.value))
    ∷ (codes "resource", Lit (Entity q.resource.value)) ∷ (codes "context", tree_of (record_value q.context.value.entries)) ∷ []

module _ (by : Setting) (table : Table) (text : uid.Text) where
  -- the text is the body of which what is asked is this
  pub record AsksAs (tree : Tree) (asked : Result Request Refusal) : Type 0 where
    pub read : IsBodyWithin by by.depth text tree
    pub low : height tree ≤ by.depth
    pub restricted : is_restricted tree ≡ true
    pub serves : Serves table by (holds_call tree)
    pub asks : AsksBody by table by.depth tree asked

  -- The text is a body and this its request; or it is none, or no request is made of it.
  abbrev pub AsksText : Result (AskedBody × Request) Refusal → Type 0
  AsksText (Ok asked) = AsksAs (body_tree asked.0) (Ok asked.1)
  AsksText (Err r) = ReadsBody by text (Err r) ⊎ ((tree : Tree) × AsksAs tree (Err r))
