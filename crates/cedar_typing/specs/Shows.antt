-- Which faults may be told of an expression: those of each part that is typed, under capabilities that it may be typed with.
use Rattle.std.specs.Prelude.{◌≡◌, ◌↔◌, [], ◌++◌}
use Rattle.cedar_language.specs.Tree.{Operator, Tree, If, And, Or, Apply, Trees, a_tree}
use Rattle.cedar_typing.specs.Types.{BoolType, AlwaysTrue, AlwaysFalse, Booleans}
use Rattle.cedar_typing.specs.Capabilities.{Capabilities}
use Rattle.cedar_typing.specs.Schema.{Environment}
use Rattle.cedar_typing.specs.Faults.{TypingFault}
use Rattle.cedar_typing.specs.Results.{HasType, Faulty}
use Rattle.cedar_typing.specs.Typing.{type_of}

-- what may come out true, and what may come out false
abbrev pub MayBeTrue : BoolType → Type 0
MayBeTrue AlwaysFalse = ⊥
MayBeTrue t = Unit {0}

abbrev pub MayBeFalse : BoolType → Type 0
MayBeFalse AlwaysTrue = ⊥
MayBeFalse t = Unit {0}

module _ (e : Environment) where
  mutual
    pub data Shows : Tree → Capabilities → TypingFault → Type 0 where
      -- the fault of the whole
      of_whole : {x : Tree} {c : Capabilities} {k : TypingFault} → type_of e x c ≡ Faulty k → Shows x c k
      in_and_left : {l r : Tree} {c : Capabilities} {k : TypingFault} → Shows l c k → Shows (And l r) c k
      -- the right operand of `&&` where the left one may be true, or has no type
      in_and_right : {l r : Tree} {c : Capabilities} (t : BoolType) (d : Capabilities) {k : TypingFault} → type_of e l c ≡ HasType (Booleans t) d →
          MayBeTrue t → Shows r (d ++ c) k → Shows (And l r) c k
      in_and_anyway : {l r : Tree} {c : Capabilities} (j : TypingFault) {k : TypingFault} → type_of e l c ≡ Faulty j → Shows r c k → Shows (And l r) c k
      in_or_left : {l r : Tree} {c : Capabilities} {k : TypingFault} → Shows l c k → Shows (Or l r) c k
      -- that of `||` where the left one may be false, or has no type
      in_or_right : {l r : Tree} {c : Capabilities} (t : BoolType) (d : Capabilities) {k : TypingFault} → type_of e l c ≡ HasType (Booleans t) d →
          MayBeFalse t → Shows r c k → Shows (Or l r) c k
      in_or_anyway : {l r : Tree} {c : Capabilities} (j : TypingFault) {k : TypingFault} → type_of e l c ≡ Faulty j → Shows r c k → Shows (Or l r) c k
      -- a part of `if` where the test may come out so, or has no type
      in_test : {t y n : Tree} {c : Capabilities} {k : TypingFault} → Shows t c k → Shows (If t y n) c k
      in_then : {t y n : Tree} {c : Capabilities} (u : BoolType) (d : Capabilities) {k : TypingFault} → type_of e t c ≡ HasType (Booleans u) d →
          MayBeTrue u → Shows y (d ++ c) k → Shows (If t y n) c k
      in_else : {t y n : Tree} {c : Capabilities} (u : BoolType) (d : Capabilities) {k : TypingFault} → type_of e t c ≡ HasType (Booleans u) d →
          MayBeFalse u → Shows n c k → Shows (If t y n) c k
      in_then_anyway : {t y n : Tree} {c : Capabilities} (j : TypingFault) {k : TypingFault} → type_of e t c ≡ Faulty j → Shows y c k → Shows (If t y n) c k
      in_else_anyway : {t y n : Tree} {c : Capabilities} (j : TypingFault) {k : TypingFault} → type_of e t c ≡ Faulty j → Shows n c k → Shows (If t y n) c k
      -- any operand of another operator
      in_operand : {op : Operator} {ts : Trees} {c : Capabilities} {k : TypingFault} → OneShows ts c k → Shows (Apply op ts) c k

    pub data OneShows : Trees → Capabilities → TypingFault → Type 0 where
      first_shows : {t : Tree} {ts : Trees} {c : Capabilities} {k : TypingFault} → Shows t c k → OneShows (a_tree t ts) c k
      later_shows : {t : Tree} {ts : Trees} {c : Capabilities} {k : TypingFault} → OneShows ts c k → OneShows (a_tree t ts) c k

abbrev pub IsFaulty : Environment → Tree → Capabilities → Type 0
IsFaulty e x c = (k : TypingFault) × (type_of e x c ≡ Faulty k)

-- some fault may be told exactly where there is no type
abbrev pub FaultsAreShown : Type 0
FaultsAreShown = (e : Environment) (x : Tree) (c : Capabilities) → ((k : TypingFault) × Shows e x c k) ↔ IsFaulty e x c

-- clauses aren't typed where the scope is never met: in such an environment any policy is valid, and never satisfied
abbrev pub ScopesNarrow : Type 0
ScopesNarrow =
    (e : Environment) (scope clauses : Tree) (d : Capabilities) → type_of e scope [] ≡ HasType (Booleans AlwaysFalse) d →
    type_of e (And scope clauses) [] ≡ HasType (Booleans AlwaysFalse) []
