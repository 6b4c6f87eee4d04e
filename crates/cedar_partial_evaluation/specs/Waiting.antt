-- What is left of a tree waits for the names that stand in it: no value of another name changes that it is left.
use Rattle.std.specs.Prelude.{◌≡◌, true, None, List, map, All}
use Rattle.std.specs.FinMap as finite
use Rattle.cedar_language.specs.Tree.{Tree}
use Rattle.cedar_language.specs.Facts.{Facts}
use Rattle.cedar_language.specs.Meaning.{Slots}
use Rattle.cedar_language.specs.Answering.{IsAsSharp, ErringStay}
use Rattle.cedar_language.specs.Authorization.{Policy}
use Rattle.cedar_partial_evaluation.specs.Unknowns.{EachUnknown}
use Rattle.cedar_partial_evaluation.specs.MadeAgain.{HoldsMade}
use Rattle.cedar_partial_evaluation.specs.Partial.{ResidualTree, partial_in}
use Rattle.cedar_partial_evaluation.specs.Question.{Entries, NoContext, WithEntries, Question, Told, AreMadeTold, are_restricted, held_of}
use Rattle.cedar_partial_evaluation.specs.Early.{judged_early}
use Rattle.cedar_partial_evaluation.specs.Reauthorizing.{judged_again}

-- no name that stands in the tree has a value
abbrev pub IsUntoldIn : Told → Tree → Type 0
IsUntoldIn told t = EachUnknown (λ n ty. finite.get told n ≡ None) t

-- a given context is data alone: literals, unknown names, lists, records and calls
abbrev pub IsData : Entries → Type 0
IsData NoContext = Unit {0}
IsData (WithEntries ks ts) = are_restricted ts ≡ true

-- what is left of a tree is left again, whatever is told and bound, until a name that stands in it has a value
abbrev pub WhatIsLeftWaits : Type 0
WhatIsLeftWaits =
    (facts : Facts) → HoldsMade facts → (q : Question) → IsData q.context → (slots bound : Slots) (told later : Told) → AreMadeTold facts told →
    (t r : Tree) → partial_in facts (held_of facts q slots told) t ≡ ResidualTree r → IsUntoldIn later r →
    (again : Tree) × (partial_in facts (held_of facts q bound later) r ≡ ResidualTree again)

-- ---- policies

-- no name that stands in what is left of the policy has a value
abbrev pub WaitsStill : Facts → Question → Told → Told → Policy → Type 0
WaitsStill facts q told later p =
    (r : Tree) → partial_in facts (held_of facts q p.slots told) p.condition ≡ ResidualTree r → IsUntoldIn later r

-- where each policy that is open waits still, taking them up again says what was said: each answer is as sharp as the other, and
-- nothing errs that didn't
abbrev pub WaitingIsAnsweredAlike : Type 0
WaitingIsAnsweredAlike =
    (facts : Facts) → HoldsMade facts → (q : Question) → IsData q.context → (told later : Told) → AreMadeTold facts told →
    (ps : List Policy) → All (WaitsStill facts q told later) ps →
    IsAsSharp (map (judged_early facts q told) ps) (map (judged_again facts q told later) ps) ×
    IsAsSharp (map (judged_again facts q told later) ps) (map (judged_early facts q told) ps) ×
    ErringStay (map (judged_again facts q told later) ps) (map (judged_early facts q told) ps)
