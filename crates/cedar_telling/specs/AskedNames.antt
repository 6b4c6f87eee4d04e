-- Names that are gathered in a list: those for which a question wants values.
use Rattle.std.specs.Prelude.{◌≡◌, Bool, not, is_some, ◌&&◌, ◌||◌, List, Some, Vec, map}
use Rattle.std.specs.Borrow.{Bor}
use Rattle.std.specs.declared.alloc.Global.{Global}
use Rattle.std.specs.BTreeSet.{BTreeSet, contains_by}
use Rattle.std.specs.FinMap as finite
use Rattle.std.specs.List.{list_any}
use Rattle.cedar_language.specs.Tree.{Tree}
use Rattle.cedar_language.specs.Uid.{Text}
use Rattle.cedar_world.specs.Asking.{Question, Told}
use Rattle.cedar_world.specs.Bodies.{ask_body}
use Rattle.cedar_world.specs.Orders.{text_cmp, text_eq}
use Rattle.cedar_world.specs.Question.{is_unknown}

abbrev pub has_name : List Text → Text → Bool
has_name names n = list_any (text_eq n) names

-- the same of names that are lent
abbrev pub names_it : Vec (Bor Text) Global → Text → Bool
names_it names t = has_name (map (λ n. n.now) names.items) t

-- the same of names in a set
abbrev pub is_listed : BTreeSet (Bor Text) → Text → Bool
is_listed names n = contains_by (λ k. text_cmp n k.now) names

-- names were appended: a test passes some name now if it passed one before, or passes one of these
abbrev pub AddsNames : ((Text → Bool) → Bool) → Vec (Bor Text) Global → Vec (Bor Text) Global → Type 0
AddsNames passes_some old new =
    (test : Text → Bool) → list_any test (map (λ n. n.now) new.items) ≡ (list_any test (map (λ n. n.now) old.items) || passes_some test)

-- the names are those for which the question of a body wants values
abbrev pub AreAskedBy : Tree → List Text → Type 0
AreAskedBy body names = (q : Question) → ask_body body ≡ Some q → (n : Text) → has_name names n ≡ is_unknown q n

-- the same of those for which none is told
abbrev pub AreUntoldOf : Tree → Told → List Text → Type 0
AreUntoldOf body told names = (q : Question) → ask_body body ≡ Some q → (n : Text) → has_name names n ≡ (not (is_some (finite.get told n)) && is_unknown q n)
