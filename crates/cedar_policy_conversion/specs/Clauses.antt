-- The clauses of a policy. (Cedar language reference, "Conditions".)
use Rattle.std.specs.Prelude.{List, Option, Some, None}
use Rattle.std.specs.Option.{option_map}
use Rattle.cedar_language.specs.Tree.{Tree}
use Rattle.cedar_grammar.specs.Token as token
use Rattle.cedar_grammar.specs.Token.{Word}
use Rattle.cedar_grammar.specs.Names.{Names}
use Rattle.cedar_grammar.specs.Build.{conjunction}
use Rattle.cedar_grammar.specs.Policies.{body_of}
use Rattle.cedar_grammar.specs.Loose as loose
use Rattle.cedar_grammar.specs.Converting.{each, clause, expr_tree}
use Rattle.cedar_policy_conversion.specs.declared.clauses.ClauseWord.{ClauseWord}
use Rattle.cedar_policy_conversion.specs.declared.clauses.ClauseWord.TheVariants.{When, Unless}

-- the word that a clause begins with
abbrev pub word_of : ClauseWord → Word
word_of When = token.When
word_of Unless = token.Unless

-- the same of any word
abbrev pub clause_word : loose.Ident → Option Word
clause_word (loose.ident token.When) = Some token.When
clause_word (loose.ident token.Unless) = Some token.Unless
clause_word i = None

-- what stands between the braces, where something does
abbrev pub condition_tree : Names → Option loose.Expr → Option Tree
condition_tree names None = None
condition_tree names (Some e) = expr_tree names e

-- what the clauses ask: their trees, joined from the left
abbrev pub clauses_of : Names → List loose.Cond → Option (Option Tree)
clauses_of names cs = option_map body_of (each (clause names) cs)

-- a clause behind those before it
abbrev pub one_more : Option Tree → Tree → Tree
one_more None t = t
one_more (Some a) t = conjunction a t
