-- Data with others in the places of its unknowns: what the own builder makes of it is a tree like it, part for part.
use Rattle.std.proofs.Common.{◌≡◌, ◌∙◌, sym, ap, refl, List, ◌∷◌}
use Rattle.std.specs.Prelude.{Bool, true, false, ◌&&◌, Option, Some, None, Result, Ok}
use Rattle.std.specs.declared.alloc.Global.{Global}
use Rattle.std.specs.declared.rc.RcStr.{RcStr}
use Rattle.cedar_language.specs.Uid.{Text}
use Rattle.cedar_language.specs.Tree.{ValueType, MakeSet, MakeRecord, Call, Tree, Lit, Var, Slot, Unknown, If, And, Or, Apply, Trees, no_trees, a_tree}
use Rattle.cedar_language.specs.Value.{Value}
use Rattle.cedar_language.specs.Restricted.{is_restricted, are_restricted}
use Rattle.cedar_grammar.specs.Build.{trees}
use Rattle.cedar_builders.specs.Operations.{◌>>=◌, operated, made, made_all, built}
use Rattle.cedar_builders.specs.Own.{own_operations}
use Rattle.cedar_restricted.specs.Laws.{WrittenValuesAreGround, GroundTreesAreRestricted}
use Rattle.cedar_substitution.specs.Chains.{with_built}
use Rattle.cedar_substitution.specs.Rising.{RiseWhere, AllRiseWhere, RecordsRise}
use Rattle.cedar_substitution.specs.Told.{told_for}
use Rattle.cedar_substitution.specs.Typed.{StandsFor, Tells, SubstitutesValues}
use Rattle.cedar_requests.proofs.Making.{ok_same, then_ok, record_kept, as_many}
use Rattle.cedar_requests.specs.Contexts.{is_record}

-- the tree with these in the places of its unknowns
module _ (f : Text → Option ValueType → Tree) where
  abbrev mutual
    pub put_in : Tree → Tree
    put_in (Unknown n ty) = f n ty
    put_in (Apply op ts) = Apply op (all_put_in ts)
    put_in t = t

    pub all_put_in : Trees → Trees
    all_put_in no_trees = no_trees
    all_put_in (a_tree t ts) = a_tree (put_in t) (all_put_in ts)

  pub put_record : (t : Tree) → is_record t ≡ true → is_record (put_in t) ≡ true
  put_record (Apply (MakeRecord ks) ts) h = refl
  put_record t h = cc

  -- of restricted trees it is restricted
  module _ (restricted : (n : Text) (ty : Option ValueType) → is_restricted (f n ty) ≡ true) where
    both_true : (a b c d : Bool) → (a && b) ≡ true → (a ≡ true → c ≡ true) → (b ≡ true → d ≡ true) → (c && d) ≡ true
    both_true true true c d h p q = ap (λ x. x && d) (p refl) ∙ q refl
    both_true true false c d h p q = cc
    both_true false b c d h p q = cc

    mutual
      pub put_restricted : (t : Tree) → is_restricted t ≡ true → is_restricted (put_in t) ≡ true
      put_restricted (Lit l) h = refl
      put_restricted (Unknown n ty) h = restricted n ty
      put_restricted (Apply MakeSet ts) h = all_put_restricted ts h
      put_restricted (Apply (MakeRecord ks) ts) h = all_put_restricted ts h
      put_restricted (Apply (Call g) ts) h = all_put_restricted ts h
      put_restricted t h = cc

      all_put_restricted : (ts : Trees) → are_restricted ts ≡ true → are_restricted (all_put_in ts) ≡ true
      all_put_restricted no_trees h = refl
      all_put_restricted (a_tree t ts) h = both_true (is_restricted t) (are_restricted ts) (is_restricted (put_in t)) (are_restricted (all_put_in ts)) h (put_restricted t) (all_put_restricted ts)

  -- what the own builder makes of data, where it makes these of the unknowns
  module _ (P : Text → Option ValueType → Type 0) (w : Text → Option ValueType → Result Tree Text) (agrees : (n : Text) (ty : Option ValueType) (s : Tree) → P n ty → w n ty ≡ Ok s → s ≡ f n ty) where
    and_first : (a b : Bool) → (a && b) ≡ true → a ≡ true
    and_first true b h = refl
    and_first false b h = cc

    and_second : (a b : Bool) → (a && b) ≡ true → b ≡ true
    and_second true b h = h
    and_second false b h = cc

    mutual
      unfolding made ◌>>=◌

      pub made_is : (t s : Tree) → is_restricted t ≡ true → RiseWhere P t → made own_operations w t ≡ Ok s → s ≡ put_in t
      made_is (Lit l) s d r h = sym (ok_same _ _ _ s h)
      made_is (Unknown n ty) s d r h = agrees n ty s r h
      made_is (Apply MakeSet ts) s d (k, r) h =
          let (ss, are, hs) = then_ok (made_all own_operations w ts) (operated own_operations MakeSet) s h in
          sym (ok_same _ _ _ s hs) ∙ ap (Apply MakeSet) (all_made_are ts ss d r are)
      made_is (Apply (MakeRecord ks) ts) s d (k, r) h =
          let (ss, are, hs) = then_ok (made_all own_operations w ts) (operated own_operations (MakeRecord ks)) s h in
          record_kept ks ss s k.0 (k.1 ∙ as_many w ts ss are) hs ∙ ap (Apply (MakeRecord ks)) (all_made_are ts ss d r are)
      made_is (Apply (Call g) ts) s d (k, r) h =
          let (ss, are, hs) = then_ok (made_all own_operations w ts) (operated own_operations (Call g)) s h in
          sym (ok_same _ _ _ s hs) ∙ ap (Apply (Call g)) (all_made_are ts ss d r are)
      made_is t s d r h = cc

      all_made_are : (ts : Trees) (ss : List Tree) → are_restricted ts ≡ true → AllRiseWhere P ts → made_all own_operations w ts ≡ Ok ss → trees ss ≡ all_put_in ts
      all_made_are no_trees ss d r h = ap trees (sym (ok_same _ _ _ ss h))
      all_made_are (a_tree t ts) ss d (rt, rts) h =
          let (t', is_t, ht) = then_ok (made own_operations w t) (λ x. made_all own_operations w ts >>= λ xs. Ok (x ∷ xs)) ss h in
          let (ts', are, hts) = then_ok (made_all own_operations w ts) (λ xs. Ok (t' ∷ xs)) ss ht in
          ap trees (sym (ok_same _ _ _ ss hts))
          ∙ ap (λ x. a_tree x (trees ts')) (made_is t t' (and_first _ _ d) rt is_t)
          ∙ ap (a_tree (put_in t)) (all_made_are ts ts' (and_second _ _ d) rts are)

-- each unknown in its own place
abbrev itself : Text → Option ValueType → Tree
itself n ty = Unknown n ty

mutual
  put_itself : (t : Tree) → put_in itself t ≡ t
  put_itself (Lit l) = refl
  put_itself (Var v) = refl
  put_itself (Slot s) = refl
  put_itself (Unknown n ty) = refl
  put_itself (If t y n) = refl
  put_itself (And l r) = refl
  put_itself (Or l r) = refl
  put_itself (Apply op ts) = ap (Apply op) (all_put_itself ts)

  all_put_itself : (ts : Trees) → all_put_in itself ts ≡ ts
  all_put_itself no_trees = refl
  all_put_itself (a_tree t ts) = ap (λ x. a_tree x (all_put_in itself ts)) (put_itself t) ∙ ap (a_tree t) (all_put_itself ts)

-- data is built again as it is
built_is : (t s : Tree) → is_restricted t ≡ true → RecordsRise t → built own_operations t ≡ Ok s → s ≡ t
built_is t s d r h =
    made_is itself (λ n ty. Unit {0}) (λ n ty. Ok (Unknown n ty)) (λ n ty x p e. sym (ok_same _ _ _ x e)) t s d r h ∙ put_itself t

module _ (written : WrittenValuesAreGround) (ground : GroundTreesAreRestricted) (told : List (RcStr Global × Value)) (f : Text → Option ValueType → Tree) (tells : Tells told f) where
  stands_restricted : (v : Option Value) (n : Text) (ty : Option ValueType) (t : Tree) → StandsFor v n ty t → is_restricted t ≡ true
  stands_restricted None n ty t h = ap is_restricted h
  stands_restricted (Some v) n ty t h = ground t (written v t h)

  pub told_restricted : (n : Text) (ty : Option ValueType) → is_restricted (f n ty) ≡ true
  told_restricted n ty = stands_restricted (told_for told n) n ty (f n ty) (tells n ty)

  -- data with values written in the places of its unknowns
  pub substituted_is : (t u : Tree) → is_restricted t ≡ true → RiseWhere (λ n ty. RecordsRise (f n ty)) t → made own_operations (with_built own_operations f) t ≡ Ok u → u ≡ put_in f t
  substituted_is t u d r h =
      made_is f (λ n ty. RecordsRise (f n ty)) (with_built own_operations f) (λ n ty s p e. built_is (f n ty) s (told_restricted n ty) p e) t u d r h

module _ (written : WrittenValuesAreGround) (ground : GroundTreesAreRestricted) (told : List (RcStr Global × Value)) (t u : Tree) (d : is_restricted t ≡ true) where
  pub stays_restricted : SubstitutesValues told t u → is_restricted u ≡ true
  stays_restricted (f, tells, is) =
      ap is_restricted (substituted_is written ground told f tells t u d is.rising is.made) ∙ put_restricted f (told_restricted written ground told f tells) t d

  pub stays_record : is_record t ≡ true → SubstitutesValues told t u → is_record u ≡ true
  stays_record h (f, tells, is) =
      ap is_record (substituted_is written ground told f tells t u d is.rising is.made) ∙ put_record f t h
