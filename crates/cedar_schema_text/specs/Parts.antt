-- Parts of the grammar's reading that functions of the code read by themselves.
use Rattle.std.specs.Prelude.{ℕ, cond, List, [], ◌∷◌, Option, Some, None}
use Rattle.cedar_language.specs.Uid.{Text}
use Rattle.cedar_grammar.specs.Steps.{◌>>=◌}
use Rattle.cedar_schema_grammar.specs.Syntax.{Declaration, Namespace}
use Rattle.cedar_schema_grammar.specs.Tokens.{Token, mark, ColonColon, LeftParen, RightParen, LeftBrace, LeftBracket, RightBracket, eat}
use Rattle.cedar_schema_grammar.specs.Grammar.{goes_on, namespace_word}
use Rattle.cedar_schema_grammar.specs.Reading.{Read, mapped, any_word, id_read, string_read, name_read, path_at, several_at, items_at, annotations_at, key_at, type_at, enumeration_then, entity_then, action_then, type_then, declaration_at, declarations_at}
use Rattle.cedar_schema_syntax.specs.View.{Written}

-- behind `::`, where a word follows it
abbrev pub eat_separator : List Token → Option (List Token)
eat_separator ts = cond (goes_on ts) (eat (mark ColonColon) ts) None

-- behind the value of an annotation, if it has one
abbrev pub after_value : List Token → Option (List Token)
after_value ts = elim (eat (mark LeftParen) ts) as (λ _. Option (List Token)) [ None ↦ Some ts | Some us ↦ string_read us >>= λ s. eat (mark RightParen) s.1 ]

-- the key of an annotation, whose value means nothing
abbrev pub annotation_read : List Token → Read Text
annotation_read ts = any_word ts >>= λ w. after_value w.1 >>= λ us. Some (w.0, us)

-- an attribute, with its annotations
abbrev pub attribute_at : ℕ → List Token → Read Written
attribute_at n ts = key_at n ts >>= λ k. mapped (λ t. record { name = k.0.name; presence = k.0.presence; type = t }) (type_at n k.1)

-- the only text of a list
abbrev pub only : List Text → Option Text
only (s ∷ []) = Some s
only ss = None

-- ---- declarations, behind their first word

abbrev pub enumeration_at : ℕ → List Text → List Token → Read Declaration
enumeration_at n ns ts = eat (mark LeftBracket) ts >>= λ us. items_at RightBracket string_read n us >>= enumeration_then ns

abbrev pub entity_at : ℕ → List Token → Read Declaration
entity_at n ts = several_at id_read n ts >>= entity_then n

abbrev pub action_at : ℕ → List Token → Read Declaration
action_at n ts = several_at name_read n ts >>= action_then n

abbrev pub common_type_at : ℕ → List Token → Read Declaration
common_type_at n ts = id_read ts >>= type_then n

-- a declaration with its annotations
abbrev pub annotated_at : ℕ → List Token → Read Declaration
annotated_at n ts = annotations_at n ts >>= declaration_at n

abbrev pub namespace_at : ℕ → List Token → Read Namespace
namespace_at n ts =
    path_at n ts >>= λ p. eat (mark LeftBrace) p.1 >>= λ us. mapped (λ ds. record { path = p.0; declarations = ds }) (declarations_at n n us)

abbrev pub lone_at : ℕ → List Token → Read Namespace
lone_at n ts = mapped (λ d. record { path = []; declarations = d ∷ [] }) (declaration_at n ts)

abbrev pub unannotated_at : ℕ → List Token → Read Namespace
unannotated_at n ts = elim (eat namespace_word ts) as (λ _. Read Namespace) [ Some us ↦ namespace_at n us | None ↦ lone_at n ts ]

-- a namespace, or a declaration that stands in none, with its annotations
abbrev pub block_at : ℕ → List Token → Read Namespace
block_at n ts = annotations_at n ts >>= unannotated_at n
