-- The answers of parts, one after another.
use Rattle.std.proofs.Common.{◌≡◌, ◌∙◌, refl, ap, suc, List, [], ◌∷◌, ◌++◌, length, map}
use Rattle.std.specs.List.{list_any}
use Rattle.std.specs.Prelude.{Bool}
use Rattle.either.specs.declared.Either.{Either}
use Rattle.either.specs.declared.Either.TheVariants.{Left, Right}
use Rattle.cedar_language.specs.Tree.{MakeSet, MakeRecord, Tree, Apply, Trees, no_trees, a_tree}
use Rattle.cedar_language.specs.Value.{Value, Plain, SetOf, RecordOf, ExtensionOf, Values, no_values, a_value, Kind}
use Rattle.cedar_language.specs.Facts.{Facts}
use Rattle.cedar_language.specs.Order.{all_of}
use Rattle.cedar_partial_evaluation.specs.Alike.{gathered, is_some_left, Writes, WriteEach}
use Rattle.cedar_partial_evaluation.specs.MadeAgain.{tree_of, trees_of}
use Rattle.cedar_partial_evaluation.specs.Partial.{Answer, Evaluated, AllEvaluated, SomeFailed, and_next, LeafAnswers}
use Rattle.cedar_grammar.specs.Build.{trees}
use Rattle.cedar_restricted.specs.Expressing.{Expresses, ExpressAll}
use Rattle.cedar_restricted.specs.PartialValues.{PartExpresses}
use Rattle.cedar_restricted.specs.Splitting.{ExpressEach, is_residual}
use Rattle.cedar_interpreter.specs.Meeting.{part_answer}
use Rattle.cedar_interpreter.specs.Naming.{naming_in, all_naming_in}

-- ---- what writes a value

module _ (facts : Facts) where
  mutual
    pub written : (v : Value) (t : Tree) → Expresses v t → t ≡ tree_of facts v
    written (Plain l) t h = h
    written (SetOf vs) t h = h.1 ∙ ap (Apply MakeSet) (all_written vs h.0 h.2)
    written (RecordOf ks vs) t h = h.1 ∙ ap (Apply (MakeRecord ks)) (all_written vs h.0 h.2)
    written (ExtensionOf e) t h = h

    all_written : (vs : Values) (ts : Trees) → ExpressAll vs ts → ts ≡ trees_of facts vs
    all_written no_values no_trees h = refl
    all_written no_values (a_tree t ts) h = absurd h
    all_written (a_value v vs) no_trees h = absurd h
    all_written (a_value v vs) (a_tree t ts) h = rw (written v t h.0, all_written vs ts h.1) refl

  -- what writes a part writes the answer that the part is
  part_writes : (p : Either Value Tree) (u : Tree) → PartExpresses p u → Writes facts u (part_answer p)
  part_writes (Left v) u w = written v u w
  part_writes (Right r) u w = w

  pub parts_write : (ps : List (Either Value Tree)) (us : List Tree) → ExpressEach ps us → WriteEach facts (trees us) (map part_answer ps)
  parts_write [] [] w = tt
  parts_write [] (u ∷ us) w = absurd w
  parts_write (p ∷ ps) [] w = absurd w
  parts_write (p ∷ ps) (u ∷ us) w = (part_writes p u w.0, parts_write ps us w.1)

  -- all of them are values
  pub all_values : (vs : List Value) → gathered facts (map part_answer (map Left vs)) ≡ AllEvaluated (all_of vs)
  all_values [] = refl
  all_values (v ∷ vs) = ap (and_next facts (Evaluated v)) (all_values vs)

  -- an error behind what is found stays the error
  later_fails : (p : Either Value Tree) (k : Kind) → and_next facts (part_answer p) (SomeFailed k) ≡ SomeFailed k
  later_fails (Left v) k = refl
  later_fails (Right r) k = refl

  pub fails_behind : (ps : List (Either Value Tree)) (bs : List Answer) (k : Kind) → gathered facts bs ≡ SomeFailed k → gathered facts (map part_answer ps ++ bs) ≡ SomeFailed k
  fails_behind [] bs k h = h
  fails_behind (p ∷ ps) bs k h = ap (and_next facts (part_answer p)) (fails_behind ps bs k h) ∙ later_fails p k

  pub gathered_all : (naming : Bool) (holds : LeafAnswers) (ts : List Tree) → gathered facts (map (naming_in naming facts holds) ts) ≡ all_naming_in naming facts holds (trees ts)
  gathered_all naming holds [] = refl
  gathered_all naming holds (t ∷ ts) = ap (and_next facts (naming_in naming facts holds t)) (gathered_all naming holds ts)

-- something is left where a part is a residual
pub some_left : (ps : List (Either Value Tree)) → is_some_left (map part_answer ps) ≡ list_any is_residual ps
some_left [] = refl
some_left (Left v ∷ ps) = some_left ps
some_left (Right r ∷ ps) = refl

pub expressed_length : (ps : List (Either Value Tree)) (us : List Tree) → ExpressEach ps us → length us ≡ length ps
expressed_length [] [] w = refl
expressed_length [] (u ∷ us) w = absurd w
expressed_length (p ∷ ps) [] w = absurd w
expressed_length (p ∷ ps) (u ∷ us) w = ap suc (expressed_length ps us w.1)
