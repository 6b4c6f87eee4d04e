-- Trees that are the same but for parts in which they may differ, and answers that are the same but for such trees.
use Rattle.std.specs.Prelude.{◌≡◌, Bool, true, false, List, [], ◌∷◌}
use Rattle.cedar_language.specs.Tree.{Operator, Tree, If, And, Or, Apply, Trees, no_trees, a_tree}
use Rattle.cedar_language.specs.Value.{Values, no_values}
use Rattle.cedar_language.specs.Facts.{Facts}
use Rattle.cedar_partial_evaluation.specs.MadeAgain.{tree_of, trees_of}
use Rattle.cedar_partial_evaluation.specs.Partial.{Answer, Evaluated, ResidualTree, Failed, Answers, AllEvaluated, SomeResiduals, SomeFailed, and_next, LeafAnswers, is_projectable, projected_in, partial_in}

-- `Differ s t`: the one may stand where the other does
module _ (Differ : Tree → Tree → Type 0) where
  mutual
    pub data AlikeBut : Tree → Tree → Type 0 where
      itself : {t : Tree} → AlikeBut t t
      differing : {s t : Tree} → Differ s t → AlikeBut s t
      if_alike : {t y n u z m : Tree} → AlikeBut t u → AlikeBut y z → AlikeBut n m → AlikeBut (If t y n) (If u z m)
      and_alike : {l r m s : Tree} → AlikeBut l m → AlikeBut r s → AlikeBut (And l r) (And m s)
      or_alike : {l r m s : Tree} → AlikeBut l m → AlikeBut r s → AlikeBut (Or l r) (Or m s)
      apply_alike : {op : Operator} {ts us : Trees} → AllAlikeBut ts us → AlikeBut (Apply op ts) (Apply op us)

    pub data AllAlikeBut : Trees → Trees → Type 0 where
      none_alike : AllAlikeBut no_trees no_trees
      more_alike : {t u : Tree} {ts us : Trees} → AlikeBut t u → AllAlikeBut ts us → AllAlikeBut (a_tree t ts) (a_tree u us)

  -- the first is what the second is: the same value, the same error, or trees that are alike
  abbrev pub SameBut : Answer → Answer → Type 0
  SameBut (Evaluated v) b = b ≡ Evaluated v
  SameBut (ResidualTree r) b = (t : Tree) × (b ≡ ResidualTree t) × AlikeBut r t
  SameBut (Failed k) b = b ≡ Failed k

  abbrev pub AllSameBut : Answers → Answers → Type 0
  AllSameBut (AllEvaluated vs) bs = bs ≡ AllEvaluated vs
  AllSameBut (SomeResiduals rs) bs = (ts : Trees) × (bs ≡ SomeResiduals ts) × AllAlikeBut rs ts
  AllSameBut (SomeFailed k) bs = bs ≡ SomeFailed k

-- projecting a tree is evaluating it again
abbrev pub ProjectingIsEvaluating : Type 0
ProjectingIsEvaluating = (facts : Facts) (holds : LeafAnswers) (t : Tree) → is_projectable t ≡ true → projected_in facts holds t ≡ partial_in facts holds t

-- ---- operands

-- the answers of operands one after another
abbrev pub gathered : Facts → List Answer → Answers
gathered facts [] = AllEvaluated no_values
gathered facts (p ∷ ps) = and_next facts p (gathered facts ps)

-- whether something is left of one of them
abbrev pub is_some_left : List Answer → Bool
is_some_left [] = false
is_some_left (ResidualTree r ∷ ps) = true
is_some_left (p ∷ ps) = is_some_left ps

-- a tree that writes a value, or what is left
abbrev pub Writes : Facts → Tree → Answer → Type 0
Writes facts u (Evaluated v) = u ≡ tree_of facts v
Writes facts u (ResidualTree r) = u ≡ r
Writes facts u (Failed k) = ⊥

abbrev pub WriteEach : Facts → Trees → List Answer → Type 0
WriteEach facts no_trees [] = Unit {0}
WriteEach facts (a_tree u us) (p ∷ ps) = Writes facts u p × WriteEach facts us ps
WriteEach facts no_trees (p ∷ ps) = ⊥
WriteEach facts (a_tree u us) [] = ⊥

-- what is split off operands of which none failed is what is gathered of them: trees, where something is left, and else values
pub record GatheredSplits (facts : Facts) : Type 0 where
  pub trees : (us : Trees) (ps : List Answer) → WriteEach facts us ps → is_some_left ps ≡ true → gathered facts ps ≡ SomeResiduals us
  pub values : (us : Trees) (ps : List Answer) → WriteEach facts us ps → is_some_left ps ≡ false →
      (vs : Values) × (gathered facts ps ≡ AllEvaluated vs) × (us ≡ trees_of facts vs)

abbrev pub GatheredAlwaysSplits : Type 0
GatheredAlwaysSplits = (facts : Facts) → GatheredSplits facts
