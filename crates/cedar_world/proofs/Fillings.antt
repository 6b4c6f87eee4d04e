-- A filling of a question whose context is data is one whatever entities are held, and nothing is told at first.
use Rattle.std.proofs.Common.{◌≡◌, ◌≢◌, true, Some, List, refl, sym, ◌∙◌, ap}
use Rattle.std.proofs.lemmas.Bool.{and_parts}
use Rattle.std.specs.FinMap as finite
use Rattle.cedar_language.specs.Uid.{Text, Name}
use Rattle.cedar_language.specs.Order.{text_cmp}
use Rattle.cedar_language.specs.Tree.{MakeSet, MakeRecord, Call, Tree, Lit, Unknown, Apply, Trees, no_trees, a_tree}
use Rattle.cedar_language.specs.Value.{Value}
use Rattle.cedar_language.specs.Facts.{Facts}
use Rattle.cedar_language.specs.Meaning.{Request, Outcomes, GivesAll, OneFails, apply_of, meaning, meanings}
use Rattle.cedar_language.specs.Authorization.{Known}
use Rattle.cedar_partial_evaluation.specs.Filling.{names_told, FillsContext, IsFilling}
use Rattle.cedar_partial_evaluation.specs.Question.{Entries, NoContext, WithEntries, Question, Told, is_restricted, are_restricted, Extends, AreMadeTold}
use Rattle.cedar_world.proofs.Parts.{not_none}

call_same : (facts others : Facts) → ((name : Name) → facts.function name ≡ others.function name) → (f : Name) (os : Outcomes) → apply_of facts (Call f) os ≡ apply_of others (Call f) os
call_same facts others same f (GivesAll vs) = rw (same f) refl
call_same facts others same f (OneFails k) = refl

made_same : (facts others : Facts) (os : Outcomes) → (apply_of facts MakeSet os ≡ apply_of others MakeSet os) × ((ks : List Text) → apply_of facts (MakeRecord ks) os ≡ apply_of others (MakeRecord ks) os)
made_same facts others (GivesAll vs) = (refl, λ ks. refl)
made_same facts others (OneFails k) = (refl, λ ks. refl)

-- data means the same whatever entities are held
module _ (facts others : Facts) (same : (name : Name) → facts.function name ≡ others.function name) (request : Request) where
  mutual
    pub data_same : (t : Tree) → is_restricted t ≡ true → meaning facts request t ≡ meaning others request t
    data_same (Lit l) h = refl
    data_same (Unknown n ty) h = refl
    data_same (Apply MakeSet ts) h = (made_same facts others (meanings facts request ts)).0 ∙ ap (apply_of others MakeSet) (all_data_same ts h)
    data_same (Apply (MakeRecord ks) ts) h = (made_same facts others (meanings facts request ts)).1 ks ∙ ap (apply_of others (MakeRecord ks)) (all_data_same ts h)
    data_same (Apply (Call f) ts) h = call_same facts others same f (meanings facts request ts) ∙ ap (apply_of others (Call f)) (all_data_same ts h)
    data_same _ h = cc

    all_data_same : (ts : Trees) → are_restricted ts ≡ true → meanings facts request ts ≡ meanings others request ts
    all_data_same no_trees h = refl
    all_data_same (a_tree t ts) h = let (ht, hts) = and_parts (is_restricted t) (are_restricted ts) h in rw (data_same t ht, all_data_same ts hts) refl

module _ (facts others : Facts) (same : (name : Name) → facts.function name ≡ others.function name) where
  context_there : (c : Entries) (filling : Told) (w : Value) → FillsContext others c filling w → FillsContext facts c filling w
  context_there NoContext filling w h = h
  context_there (WithEntries ks ts) filling w (restricted, given, means_it) =
      (restricted, given, data_same facts others same (names_told filling) (Apply (MakeRecord ks) ts) restricted ∙ means_it)

  pub filling_there : (q : Question) (filling : Told) (known : Known) → IsFilling others q filling known → IsFilling facts q filling known
  filling_there q filling known fills = record {
    principal = fills.principal;
    action = fills.action;
    resource = fills.resource;
    context = context_there q.context filling known.context fills.context;
  }

pub nothing_told : (n : Text) (v : Value) → finite.get {R = text_cmp} finite.empty n ≢ Some v
nothing_told n v h = not_none v (sym (finite.get-empty text_cmp n) ∙ h)

pub made_at_first : (facts : Facts) → AreMadeTold facts finite.empty
made_at_first facts n v h = absurd (nothing_told n v h)

pub extends_nothing : (told : Told) → Extends finite.empty told
extends_nothing told n v h = absurd (nothing_told n v h)
