-- What a word names: a variable, or an identifier.
use Rattle.std.specs.Prelude.{cond, Option, Some, None}
use Rattle.cedar_language.specs.Uid.{Text}
use Rattle.cedar_language.specs.Tree.{Variable}
use Rattle.cedar_grammar.specs.Names.{variable_of}
use Rattle.cedar_grammar.specs.Loose as loose
use Rattle.cedar_grammar.specs.Converting.{ident_spelling}
use Rattle.cedar_grammar.specs.Steps.{◌>>=◌}
use Rattle.cedar_names.specs.Identifiers.{is_keyword}

abbrev pub ident_variable : loose.Ident → Option Variable
ident_variable (loose.ident w) = variable_of w
ident_variable i = None

-- the identifier that is no keyword; it may be the one that Cedar keeps for itself
abbrev pub valid_text : loose.Ident → Option Text
valid_text i = ident_spelling i >>= λ s. cond (is_keyword s) None (Some s)
