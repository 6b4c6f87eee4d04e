-- A word that isn't named by the grammar, as a tree has it.
use Rattle.std.proofs.Common.{◌≡◌, [], ◌∷◌, refl, sym, ap, ◌∙◌}
use Rattle.std.specs.Prelude.{cond}
use Rattle.cedar_language.specs.Uid.{Text}
use Rattle.cedar_grammar.specs.Token.{word_of, Other}
use Rattle.cedar_names.specs.Identifiers.{is_identifier}
use Rattle.cedar_tokens.specs.Spelling.{is_word, IsOtherWord}
use Rattle.cedar_grammar.specs.Loose as loose
use Rattle.cedar_cst.specs.LeafView.{written_ident}

word_is_identifier : (s : Text) → is_word s ≡ is_identifier s
word_is_identifier [] = refl
word_is_identifier (c ∷ cs) = refl

pub other_written : (s : Text) → IsOtherWord s → written_ident s ≡ loose.ident (Other s)
other_written s h = ap (λ b. cond b (loose.ident (word_of s)) (loose.invalid_ident s)) (sym (word_is_identifier s) ∙ h.0) ∙ ap loose.ident h.1
