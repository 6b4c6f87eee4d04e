-- What writes a value is one tree, so that all trees told for the same values are built alike.
use Rattle.std.proofs.Common.{◌≡◌, ◌∙◌, ap, sym, refl, List}
use Rattle.std.specs.Prelude.{Option, Some, None, Result, Ok, Err}
use Rattle.std.specs.declared.alloc.Global.{Global}
use Rattle.std.specs.declared.rc.RcStr.{RcStr}
use Rattle.cedar_language.specs.Uid.{Text}
use Rattle.cedar_language.specs.Tree.{ValueType, MakeSet, MakeRecord, Tree, Apply, Trees, no_trees, a_tree}
use Rattle.cedar_language.specs.Value.{Value, Plain, SetOf, RecordOf, ExtensionOf, Values, no_values, a_value}
use Rattle.cedar_restricted.specs.Expressing.{Expresses, ExpressAll}
use Rattle.cedar_builders.specs.Operations.{Operations, IsLawful, OnRefusal, Gives, made, built}
use Rattle.cedar_substitution.specs.Chains.{with_built}
use Rattle.cedar_substitution.specs.Laws.{SubstitutedValuesAreBuiltAlike}
use Rattle.cedar_substitution.specs.Told.{told_for}
use Rattle.cedar_substitution.specs.Typed.{StandsFor, Tells, SubstitutesValues, OnValuesRefused, GivesValues}
use Rattle.cedar_substitution.proofs.Again.{again}

mutual
  one_tree : (v : Value) (t u : Tree) → Expresses v t → Expresses v u → t ≡ u
  one_tree (Plain l) t u h k = h ∙ sym k
  one_tree (SetOf vs) t u h k = h.1 ∙ ap (Apply MakeSet) (one_list vs h.0 k.0 h.2 k.2) ∙ sym k.1
  one_tree (RecordOf ks vs) t u h k = h.1 ∙ ap (Apply (MakeRecord ks)) (one_list vs h.0 k.0 h.2 k.2) ∙ sym k.1
  one_tree (ExtensionOf e) t u h k = h ∙ sym k

  one_list : (vs : Values) (ts us : Trees) → ExpressAll vs ts → ExpressAll vs us → ts ≡ us
  one_list no_values no_trees no_trees h k = refl
  one_list no_values no_trees (a_tree u us) h k = absurd k
  one_list no_values (a_tree t ts) us h k = absurd h
  one_list (a_value v vs) no_trees us h k = absurd h
  one_list (a_value v vs) (a_tree t ts) no_trees h k = absurd k
  one_list (a_value v vs) (a_tree t ts) (a_tree u us) h k = ap (λ x. a_tree x ts) (one_tree v t u h.0 k.0) ∙ ap (a_tree u) (one_list vs ts us h.1 k.1)

one_stands : (v : Option Value) (name : Text) (ty : Option ValueType) (t u : Tree) → StandsFor v name ty t → StandsFor v name ty u → t ≡ u
one_stands None name ty t u h k = h ∙ sym k
one_stands (Some v) name ty t u h k = one_tree v t u h k

module _ {M R : Type 0} (o : Operations M R) (law : IsLawful o) (told : List (RcStr Global × Value)) (t substituted : Tree) (is : SubstitutesValues told t substituted) where
  alike : (trees : Text → Option ValueType → Tree) → Tells told trees → built o substituted ≡ made o (with_built o trees) t
  alike trees tells =
      let same : is.0 ≡ trees = λ i name ty. one_stands (told_for told name) name ty (is.0 name ty) (trees name ty) (is.1 name ty) (tells name ty) i in
      again o law is.0 t substituted is.2 ∙ ap (λ f. made o (with_built o f) t) same

  refused_so : (r : Option R) → OnValuesRefused o told t r → OnRefusal r (built o substituted)
  refused_so None h = tt
  refused_so (Some r) h = alike h.0 h.1 ∙ h.2

  refused_again : (r : Option R) → OnRefusal r (built o substituted) → OnValuesRefused o told t r
  refused_again None h = tt
  refused_again (Some r) h = (is.0, is.1, sym (alike is.0 is.1) ∙ h)

  module _ {E B : Type 0} (meaning : E → M) (refusal : B → Option R) where
    given_so : (result : Result E B) → GivesValues o meaning refusal told t result → Gives meaning refusal result (built o substituted)
    given_so (Ok e) h = alike h.0 h.1 ∙ h.3
    given_so (Err b) h = refused_so (refusal b) h

    given_again : (result : Result E B) → Gives meaning refusal result (built o substituted) → GivesValues o meaning refusal told t result
    given_again (Ok e) h = (is.0, is.1, is.2.rising, sym (alike is.0 is.1) ∙ h)
    given_again (Err b) h = refused_again (refusal b) h

pub values_alike : {E B M R : Type 0} (o : Operations M R) (meaning : E → M) (refusal : B → Option R) → IsLawful o → SubstitutedValuesAreBuiltAlike o meaning refusal
values_alike o meaning refusal law told t substituted result is =
    (given_so o law told t substituted is meaning refusal result, given_again o law told t substituted is meaning refusal result)
