-- A context that doesn't fail once values are told is accepted.
use Rattle.std.proofs.Common.{◌≡◌, refl, Bool, true, false, Option, Some, None, codes}
use Rattle.std.specs.FinMap as finite
use Rattle.cedar_language.specs.Facts.{Facts}
use Rattle.cedar_language.specs.Tree.{MakeRecord, Apply, ValueType}
use Rattle.cedar_language.specs.Uid.{Text, Name}
use Rattle.cedar_language.specs.Value.{Value, Kind}
use Rattle.cedar_partial_evaluation.specs.Fair.{IsMadeAnswer, AreMadeLeaves}
use Rattle.cedar_partial_evaluation.specs.MadeAgain.{IsMadeAgain, HoldsMade}
use Rattle.cedar_partial_evaluation.specs.Partial.{Answer, Failed, partial_in}
use Rattle.cedar_partial_evaluation.specs.Prompt.{Meets, Shows, IsPrompt, without_kind}
use Rattle.cedar_partial_evaluation.specs.Question.{Entries, NoContext, WithEntries, Told, AreMadeTold, IsAccepted, value_settled, value_held, name_settled, name_held, settled_names, held_names, context_held}
use Rattle.cedar_partial_evaluation.specs.Settling.{Settling, Open, Errs, Is, Below, settled_in}
use Rattle.cedar_partial_evaluation.specs.Unknowns.{fits}

open_stays : Open ≡ Errs → ⊥
open_stays e = cc

value_shows : (b : Bool) (v : Value) → Below (value_settled b v) (without_kind (value_held b v))
value_shows true v = refl
value_shows false v = tt

name_shows : (o : Option Value) (n : Text) (ty : Option ValueType) → Below (name_settled o ty) (without_kind (name_held o n ty))
name_shows (Some v) n ty = value_shows (fits ty v) v
name_shows None n ty = tt

value_not : (b : Bool) (v : Value) → value_settled b v ≡ Errs → ⊥
value_not true v e = cc
value_not false v e = cc

name_not : (o : Option Value) (ty : Option ValueType) → name_settled o ty ≡ Errs → ⊥
name_not (Some v) ty e = value_not (fits ty v) v e
name_not None ty e = cc

names_shown : (facts : Facts) (told : Told) → Shows facts (settled_names told) (held_names told)
names_shown facts told = record {
  variable = λ v. tt;
  never_errs = λ v e. open_stays e;
  unknown = λ n ty. name_shows (finite.get told n) n ty;
  name_never_errs = λ n ty e. name_not (finite.get told n) ty e;
  slot = λ s. tt;
  in_context = λ a. tt;
  has_in_context = λ a. ((λ e. open_stays e), tt);
  variable_type = λ v ty h. (let k : ◌≡◌ {A = Option Name} None (Some ty) = h in cc);
  untold = λ n ty h. (let k : false ≡ true = h in cc);
}

value_made : (facts : Facts) (b : Bool) (v : Value) → IsMadeAgain facts v → IsMadeAnswer facts (value_held b v)
value_made facts true v h = h
value_made facts false v h = tt

name_made : (facts : Facts) (n : Text) (ty : Option ValueType) (o : Option Value) → ((v : Value) → o ≡ Some v → IsMadeAgain facts v) → IsMadeAnswer facts (name_held o n ty)
name_made facts n ty (Some v) f = value_made facts (fits ty v) v (f v refl)
name_made facts n ty None f = tt

names_made : (facts : Facts) (told : Told) → AreMadeTold facts told → AreMadeLeaves facts (held_names told)
names_made facts told h = record {
  variable = λ v. tt;
  unknown = λ n ty. name_made facts n ty (finite.get told n) (h n);
  slot = λ s. tt;
}

fails_settled : (x : Settling) (p : Answer) (errs_as : Kind → Type 0) → Meets errs_as x p → x ≡ Errs → ((k : Kind) → p ≡ Failed k → ⊥) → ⊥
fails_settled Errs p errs_as m e h = h m.0 m.1
fails_settled Open p errs_as m e h = cc
fails_settled (Is v) p errs_as m e h = cc

pub accepts_told : IsPrompt → (facts : Facts) → HoldsMade facts → (told : Told) → AreMadeTold facts told → (c : Entries) → ((k : Kind) → context_held facts told c ≡ Failed k → ⊥) → IsAccepted facts told c
accepts_told prompt facts good told made_told NoContext h = record { settled = λ e. name_not (finite.get told (codes "context")) None e; held = λ k e. h k e }
accepts_told prompt facts good told made_told (WithEntries ks ts) h = record {
  settled = λ e.
      fails_settled (settled_in facts (settled_names told) (Apply (MakeRecord ks) ts)) (partial_in facts (held_names told) (Apply (MakeRecord ks) ts)) _
      (prompt facts good (settled_names told) (held_names told) (names_shown facts told) (names_made facts told made_told) (Apply (MakeRecord ks) ts)) e h;
  held = λ k e. h k e;
}
