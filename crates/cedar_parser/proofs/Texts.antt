-- What a text is, by what its loose tree is converted to.
use Rattle.std.proofs.Common.{◌≡◌, ◌↔◌, ◌∙◌, refl, sym, ap, subst, ℕ, ◌<◌, chars, List, Option, Some, None, Result, Ok, Err, arith}
use Rattle.cedar_language.specs.Uid.{Text}
use Rattle.cedar_grammar.specs.Laws.{OneList}
use Rattle.cedar_grammar.specs.Nesting.{loose_nesting}
use Rattle.cedar_grammar.specs.Token.{Token}
use Rattle.cedar_grammar.specs.Tokens.{IsTokens}
use Rattle.cedar_grammar.specs.Converting.{converted}
use Rattle.cedar_grammar.specs.LooseReading.{Fault, depth}
use Rattle.cedar_loose.specs.Texts as loosely
use Rattle.cedar_loose.specs.Texts.{IsRead, IsOutside}
use Rattle.cedar_parser.specs.Errors as cause
use Rattle.cedar_parser.specs.Errors.{Cause}
use Rattle.cedar_parser.specs.Strict.{IsRefused, IsNothing, WritesNot}

converted_some : {A B : Type 0} {y : B} (f : A → Option B) (r : Result A Fault) → converted f r ≡ Some y → (x : A) × (r ≡ Ok x) × (f x ≡ Some y)
converted_some f (Ok x) is = (x, refl, is)
converted_some f (Err e) is = absurd (cc is)

other_result : {A : Type 0} {x : A} {e : Fault} (r : Result A Fault) → r ≡ Ok x → r ≡ Err e → ⊥
other_result r ok err = cc (sym ok ∙ err)

none_is_some : {A : Type 0} {x : A} (o : Option A) → o ≡ Some x → o ≡ None → ⊥
none_is_some o some none = cc (sym some ∙ none)

-- the text's tokens are this
abbrev pub Means : {B : Type 0} → (ℕ → List Token → B → Type 0) → ℕ → Text → B → Type 0
Means {B} Is n text y = (ts : List Token) × IsTokens text ts × Is n ts y

-- where tokens are something exactly if what is read of them converts to it
module _ {A B : Type 0} (read : ℕ → List Token → Result A Fault) (f : A → Option B) (Is : ℕ → List Token → B → Type 0)
    (convert : (m : ℕ) (ts : List Token) (y : B) → Is m ts y ↔ (converted f (read m ts) ≡ Some y)) (n : ℕ) (text : Text) where
  -- what means something has its loose tree
  read_loosely : (m : ℕ) (y : B) → Means Is m text y → (x : A) × IsRead read m text x
  read_loosely m y means =
      let found = converted_some f (read m means.0) ((convert m means.0 y).0 means.2) in
      (found.0, (means.0, means.1, found.1))

  outside : loosely.IsRefused read n text cause.outside_the_grammar → (m : ℕ) (y : B) → Means Is m text y → ⊥
  outside none m y means = let found = read_loosely m y means in none m found.0 found.1

  too_deep : loosely.IsRefused read n text cause.nested_too_deep → ((y : B) → Means Is n text y → ⊥) × (n < loose_nesting text)
  too_deep deep = ((λ y means. let found = read_loosely n y means in deep.0 n found.0 (omega arith) found.1), deep.1)

  -- a text without a loose tree is refused for the same
  pub unread : (c : Cause) → loosely.IsRefused read n text c → IsRefused (λ m y. Means Is m text y) n text c
  unread cause.outside_the_grammar none = outside none
  unread cause.means_nothing none = absurd none
  unread cause.nested_too_deep deep = too_deep deep
  unread cause.out_of_memory none = tt

  -- where there is no limit
  pub unread_flat : (c : Cause) → IsOutside read text c → IsNothing (λ y. Means Is n text y) c
  unread_flat cause.outside_the_grammar none = λ y means. let found = read_loosely n y means in none n found.0 found.1
  unread_flat cause.means_nothing none = absurd none
  unread_flat cause.nested_too_deep none = absurd none
  unread_flat cause.out_of_memory none = tt

  module _ (x : A) (is_read : IsRead read n text x) where
    pub is_meant : (y : B) → f x ≡ Some y → Means Is n text y
    is_meant y is = (is_read.0, is_read.1, (convert n is_read.0 y).1 (ap (converted f) is_read.2 ∙ is))

    -- what is converted to nothing is nothing within any nesting
    nothing : OneList → ((k m : ℕ) (ts : List Token) (y : B) → (read k ts ≡ Err depth → ⊥) → Is m ts y → Is k ts y) → f x ≡ None → (m : ℕ) (y : B) → Means Is m text y → ⊥
    nothing one_list stand none m y other =
        let same : other.0 ≡ is_read.0 = one_list (chars text) other.0 is_read.0 other.1 is_read.1 in
        let wider : Is m is_read.0 y = subst (λ ts. Is m ts y) same other.2 in
        let within = stand n m is_read.0 y (other_result (read n is_read.0) is_read.2) wider in
        none_is_some (converted f (read n is_read.0)) ((convert n is_read.0 y).0 within) (ap (converted f) is_read.2 ∙ none)

    pub unmeant : OneList → ((k m : ℕ) (ts : List Token) (y : B) → (read k ts ≡ Err depth → ⊥) → Is m ts y → Is k ts y) → (c : Cause) → WritesNot c (f x) → IsRefused (λ m y. Means Is m text y) n text c
    unmeant one_list stand cause.outside_the_grammar writes = absurd writes
    unmeant one_list stand cause.means_nothing writes = nothing one_list stand writes
    unmeant one_list stand cause.nested_too_deep writes = absurd writes
    unmeant one_list stand cause.out_of_memory writes = tt

    pub unmeant_flat : OneList → ((k m : ℕ) (ts : List Token) (y : B) → Is m ts y → Is k ts y) → (c : Cause) → WritesNot c (f x) → IsNothing (λ y. Means Is n text y) c
    unmeant_flat one_list stand cause.outside_the_grammar writes = absurd writes
    unmeant_flat one_list stand cause.means_nothing writes = λ y other. nothing one_list (λ k m ts z read is. stand k m ts z is) writes n y other
    unmeant_flat one_list stand cause.nested_too_deep writes = absurd writes
    unmeant_flat one_list stand cause.out_of_memory writes = tt
