-- Texts on one line, and lines that stand below another.
use Rattle.std.proofs.Common.{◌≡◌, ◌∙◌, cond, [], ◌∷◌, ◌++◌, codes, refl, ap, sym, subst, append_assoc, arith}
use Rattle.std.proofs.lemmas.List.{append-nil}
use Rattle.std.proofs.lemmas.List.Elements.{All-append, All-cons, All-nil}
use Rattle.std.proofs.lemmas.List.Sums.{sum_by-append}
use Rattle.std.proofs.lemmas.Grind.{flat_map-append}
use Rattle.std.specs.List.{flat_map}
use Rattle.cedar_language.specs.Uid.{Text}
use Rattle.cedar_messages.specs.Telling.{below, hides, Adds, AreBelow, IsLine}

-- ---- one line

pub line_more : (a b : Text) → IsLine a → IsLine b → IsLine (a ++ b)
line_more a b first second = sum_by-append (λ c. cond (hides c) 1 0) a b ∙ omega (arith, first, second)

-- ---- lines below

pub nothing_below : AreBelow []
nothing_below = ([], All-nil IsLine, refl)

pub below_more : (a b : Text) → AreBelow a → AreBelow b → AreBelow (a ++ b)
below_more a b first second = (
  first.0 ++ second.0,
  All-append IsLine first.0 second.0 first.1 second.1,
  ap (λ t. t ++ b) first.2 ∙ (ap (λ t. flat_map below first.0 ++ t) second.2 ∙ sym (flat_map-append below first.0 second.0)),
)

-- ---- what is added

pub nothing_added : (P : Text → Type 0) (old : Text) → P [] → Adds P old old
nothing_added P old is = ([], is, sym (append-nil old))

-- all of a text, which was empty
pub from_nothing : (P : Text → Type 0) (old new : Text) → old ≡ [] → Adds P old new → P new
from_nothing P old new none adds = subst P (sym (adds.2 ∙ ap (λ t. t ++ adds.0) none)) adds.1

module _ (P : Text → Type 0) (joins : (a b : Text) → P a → P b → P (a ++ b)) where
  pub both_added : (a b c : Text) → Adds P a b → Adds P b c → Adds P a c
  both_added a b c first second =
      (first.0 ++ second.0, joins first.0 second.0 first.1 second.1, second.2 ∙ (ap (λ t. t ++ second.0) first.2 ∙ append_assoc a first.0 second.0))

pub appended : (P : Text → Type 0) (old text new : Text) → P text → new ≡ old ++ text → Adds P old new
appended P old text new is are = (text, is, are)

-- a line of two texts behind a space
pub headed : (old a b c new : Text) → a ≡ old ++ codes "  " → Adds IsLine a b → Adds IsLine b c → new ≡ c ++ codes "\n" → Adds AreBelow old new
headed old a b c new first head about last =
    let line = both_added IsLine line_more a b c head about in
    let own = codes " " ++ line.0 in
    let whole : new ≡ old ++ (below own ++ []) =
    last ∙ (ap (λ t. t ++ codes "\n") (line.2 ∙ ap (λ t. t ++ line.0) first)
    ∙ (ap (λ t. t ++ codes "\n") (append_assoc old (codes "  ") line.0) ∙ (append_assoc old (codes "  " ++ line.0) (codes "\n") ∙ ap (λ t. old ++ t) (sym (append-nil (below own)))))) in
    (below own ++ [], (own ∷ [], All-cons IsLine own [] (line_more (codes " ") line.0 refl line.1) (All-nil IsLine), refl), whole)

-- a line behind a space
pub indented : (old a b new : Text) → a ≡ old ++ codes "    " → Adds IsLine a b → new ≡ b ++ codes "\n" → Adds AreBelow old new
indented old a b new first line last =
    let own = codes "   " ++ line.0 in
    let whole : new ≡ old ++ (below own ++ []) =
    last ∙ (ap (λ t. t ++ codes "\n") (line.2 ∙ ap (λ t. t ++ line.0) first)
    ∙ (ap (λ t. t ++ codes "\n") (append_assoc old (codes "    ") line.0) ∙ (append_assoc old (codes "    " ++ line.0) (codes "\n") ∙ ap (λ t. old ++ t) (sym (append-nil (below own)))))) in
    (below own ++ [], (own ∷ [], All-cons IsLine own [] (line_more (codes "   ") line.0 refl line.1) (All-nil IsLine), refl), whole)
