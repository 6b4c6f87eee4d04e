-- What spells a name.
use Rattle.std.proofs.Common.{◌≡◌, Bool, true, [], ◌∷◌, ◌++◌, sym, ◌∙◌, subst}
use Rattle.std.specs.Cmp.Lexicographic as bytes
use Rattle.std.specs.Cmp.Lexicographic.{pointwise_decides, bytes_decides}
use Rattle.cedar_language.specs.Order.{same_text, same_name}
use Rattle.cedar_language.specs.Uid.{Text, Name}

-- words that are a name's identifiers, one by one, spell it
pub name_spelled : (name path words : Name) (last basename : Text) → name ≡ path ++ last ∷ [] → true ≡ same_text last basename → (told : Bool) → told ≡ same_name path words → told ≡ true → name ≡ words ++ basename ∷ []
name_spelled name path words last basename is same told are so =
    subst (λ ws. name ≡ ws ++ basename ∷ []) ((pointwise_decides bytes_decides path words).0 (sym are ∙ so))
    (subst (λ t. name ≡ path ++ t ∷ []) (bytes.same_text last basename same) is)
