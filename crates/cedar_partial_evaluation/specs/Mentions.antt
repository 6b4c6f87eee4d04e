-- A tree that mentions nothing unknown settles, whatever stands for what is missing.
use Rattle.std.specs.Prelude.{Option, ◌≡◌, ◌≢◌, Bool, true, false, ◌&&◌}
use Rattle.cedar_partial_evaluation.specs.Filling.{GivesEach}
use Rattle.cedar_language.specs.Uid.{Text}
use Rattle.cedar_language.specs.Tree.{Variable, Principal, Action, Resource, Context, Tree, Lit, Var, Slot, Unknown, If, And, Or, Apply, Trees, no_trees, a_tree, ValueType}
use Rattle.cedar_language.specs.Facts.{Facts}
use Rattle.cedar_language.specs.Value.{Outcome}
use Rattle.cedar_language.specs.Meaning.{Slots, Request, meaning}
use Rattle.cedar_partial_evaluation.specs.Settling.{Open, settled_in}
use Rattle.cedar_partial_evaluation.specs.Question.{Part, Given, Missing, Entries, NoContext, WithEntries, Question, Told, settled_of}

-- no unknown leaf, and only variables that pass the test; slots as well only where they are let
abbrev mutual
  pub mentions_only : (Variable → Bool) → Bool → Tree → Bool
  mentions_only f slots (Lit l) = true
  mentions_only f slots (Var v) = f v
  mentions_only f slots (Slot s) = slots
  mentions_only f slots (Unknown n ty) = false
  mentions_only f slots (If t y n) = mentions_only f slots t && (mentions_only f slots y && mentions_only f slots n)
  mentions_only f slots (And l r) = mentions_only f slots l && mentions_only f slots r
  mentions_only f slots (Or l r) = mentions_only f slots l && mentions_only f slots r
  mentions_only f slots (Apply op ts) = all_mention_only f slots ts

  pub all_mention_only : (Variable → Bool) → Bool → Trees → Bool
  all_mention_only f slots no_trees = true
  all_mention_only f slots (a_tree t ts) = mentions_only f slots t && all_mention_only f slots ts

abbrev pub is_given : Part → Bool
is_given (Given u) = true
is_given (Missing ty) = false

abbrev pub is_known_context : Entries → Bool
is_known_context NoContext = false
is_known_context (WithEntries ks ts) = all_mention_only (λ v. false) false ts

-- a variable that is given, and a context without unknown names
abbrev pub is_known : Question → Variable → Bool
is_known q Principal = is_given q.principal
is_known q Action = is_given q.action
is_known q Resource = is_given q.resource
is_known q Context = is_known_context q.context

abbrev pub KnownTreesSettle : Type 0
KnownTreesSettle =
    (facts : Facts) (q : Question) (slots : Slots) (told : Told) (t : Tree) → mentions_only (is_known q) true t ≡ true → settled_in facts (settled_of facts q slots told) t ≢ Open

abbrev pub with_names : (Text → Option ValueType → Outcome) → Request → Request
with_names names request = record { variable = request.variable; unknown = names; slots = request.slots }

-- of a tree without unknown leaves the meaning has nothing to do with what stands for them
abbrev pub NamesDontMatter : Type 0
NamesDontMatter =
    (facts : Facts) (request : Request) (names : Text → Option ValueType → Outcome) (t : Tree) → mentions_only (λ v. true) true t ≡ true →
    meaning facts request t ≡ meaning facts (with_names names request) t

-- where no unknown stands in a tree, any values give each of its unknowns one
abbrev pub WithoutUnknowns : Type 0
WithoutUnknowns = (told : Told) (f : Variable → Bool) (slots : Bool) (t : Tree) → mentions_only f slots t ≡ true → GivesEach told t
