-- Where a reader stands that gives the policies of a text one after the other.
use Rattle.std.specs.Prelude.{◌≡◌, ℕ, ◌-◌, List, [], ◌∷◌, ◌++◌, length, Option, Some, None, Result, Ok, Err}
use Rattle.cedar_language.specs.Uid.{Text}
use Rattle.cedar_grammar.specs.Token.{Token}
use Rattle.cedar_grammar.specs.Tokens.{IsTokens}
use Rattle.cedar_grammar.specs.Loose as loose
use Rattle.cedar_grammar.specs.Steps.{is_more}
use Rattle.cedar_grammar.specs.LooseReading.{each_of, policy_of, read_policies}
use Rattle.cedar_cst.specs.declared.node.Node.{Node}
use Rattle.cedar_cst.specs.declared.cst.Policy.{Policy}
use Rattle.cedar_cst.specs.View.{shown_policy}
use Rattle.cedar_loose.specs.declared.errors.LooseError.{LooseError}
use Rattle.cedar_loose.specs.declared.policy_reader.PolicyReader.{PolicyReader}
use Rattle.cedar_loose.specs.SoFar.{Each}
use Rattle.cedar_loose.specs.Texts.{IsRead, Refuses}

-- how many tokens are left
abbrev pub unread : PolicyReader → ℕ
unread reader = length reader.cursor

-- within this nesting the tokens of the text are the policies that were given and those that are left
pub record HasGiven (reader : PolicyReader) (depth : ℕ) (text : Text) (given : List loose.Policy) : Type 0 where
  pub tokens : List Token
  pub are : IsTokens text tokens
  pub within : reader.depth ≡ depth
  pub left : Each is_more (policy_of (depth - 1)) given reader.cursor (each_of is_more (policy_of (depth - 1)) tokens)

-- a call gives one more policy; none where the text is those that were given; or why the text is none
abbrev pub GivesNext : ℕ → Text → List loose.Policy → Result (Option (Node (Option Policy))) LooseError → PolicyReader → Type 0
GivesNext depth text given (Ok (Some policy)) reader = HasGiven reader depth text (given ++ shown_policy policy ∷ [])
GivesNext depth text given (Ok None) reader = IsRead read_policies depth text (loose.policies given)
GivesNext depth text given (Err error) reader = Refuses read_policies depth text error
