-- Expressions that are evaluated in turn.
use Rattle.std.proofs.Common.{◌≡◌, ◌≤◌, Bool, true, false, cond, Option, None, Some, List, [], ◌∷◌, ◌++◌, append_assoc, map, refl, sym, ap, subst, ◌∙◌, ℕ, Global, MatchOption}
use Rattle.std.specs.Option.{IsSomeAnd}
use Rattle.std.specs.Ordering.{eq_by_cmp}
use Rattle.std.specs.FinMap as finite
use Rattle.std.specs.BTreeMap.{insert_entry}
use Rattle.std.specs.List.Sorted.{IsStrictlySortedBy}
use Rattle.std.specs.Rc.{rc_str_bytes}
use Rattle.std.specs.declared.rc.RcStr.{RcStr}
use Rattle.std.proofs.lemmas.List.{append-nil, map-append}
use Rattle.cedar_language.specs.Uid.{Text}
use Rattle.cedar_language.specs.Tree.{Tree}
use Rattle.cedar_language.specs.Height.{height}
use Rattle.cedar_language.specs.Order.{text_cmp}
use Rattle.cedar_language.specs.OrderLaws.{text_cmp_total}
use Rattle.cedar_extensions.specs.declared.evaluation_error.EvaluationError.{EvaluationError}
use Rattle.cedar_extensions.specs.Table.{Table}
use Rattle.cedar_restricted.specs.PartialValues.{partial_of}
use Rattle.cedar_restricted.specs.declared.partial_values.PartialValue.{PartialValue}
use Rattle.cedar_restricted.proofs.Rising.{key_cmp, texts, put_next, texts_next}
use Rattle.cedar_restricted.specs.Views.{restricted_tree, restricted_entries}
use Rattle.cedar_restricted.specs.declared.restricted.RestrictedExpr.{RestrictedExpr}
use Rattle.cedar_entities.specs.Attributes.{Attribute, Entries, seen_entries, attributes_of}
use Rattle.cedar_entity_evaluation.specs.Evaluated.{Expressions, IsGiven, AreGiven, AreWithin, HoldsWhatIsGiven}
use Rattle.cedar_entity_evaluation.specs.Refused.{IsError, HaveValues, IsFirstRefused}

abbrev pub Exprs : Type 0
Exprs = List (RcStr Global × RestrictedExpr)

module _ (table : Table) where
  given_next : (es : Expressions) (gs : List (Text × Attribute)) (k : Text) (t : Tree) (a : Attribute) → AreGiven table es gs → IsGiven table t a → AreGiven table (es ++ (k, t) ∷ []) (gs ++ (k, a) ∷ [])
  given_next [] [] k t a h g = (refl, g, tt)
  given_next [] (b ∷ gs) k t a h g = absurd h
  given_next (e ∷ es) [] k t a h g = absurd h
  given_next (e ∷ es) (b ∷ gs) k t a h g = (h.0, h.1, given_next es gs k t a h.2 g)

  pub have_values : (es : Expressions) (gs : List (Text × Attribute)) → AreGiven table es gs → HaveValues table es
  have_values [] gs h = tt
  have_values (e ∷ es) [] h = absurd h
  have_values (e ∷ es) (a ∷ gs) h = ((a.1, h.1), have_values es gs h.2)

  found_next : (b c : Bool) (t : Tree) (a : Attribute) (ts : Option Tree) (gs : Option Attribute) → c ≡ b → IsGiven table t a
      → MatchOption ts (gs ≡ None) (λ t. IsSomeAnd gs (IsGiven table t))
      → MatchOption (cond b (Some t) ts) (cond c (Some a) gs ≡ None) (λ t. IsSomeAnd (cond c (Some a) gs) (IsGiven table t))
  found_next true true t a ts gs is g rest = g
  found_next false false t a ts gs is g rest = rest
  found_next true false t a ts gs is g rest = let never : false ≡ true = is in cc
  found_next false true t a ts gs is g rest = let never : true ≡ false = is in cc

  found : (es : Expressions) (gs : List (Text × Attribute)) (q : Text) → AreGiven table es gs
      → MatchOption (finite.find text_cmp q es) (finite.find text_cmp q gs ≡ None) (λ t. IsSomeAnd (finite.find text_cmp q gs) (IsGiven table t))
  found [] [] q h = refl
  found [] (a ∷ gs) q h = absurd h
  found (e ∷ es) [] q h = absurd h
  found (e ∷ es) (a ∷ gs) q h =
      found_next (eq_by_cmp text_cmp q e.0) (eq_by_cmp text_cmp q a.0) e.1 a.1 (finite.find text_cmp q es) (finite.find text_cmp q gs) (ap (eq_by_cmp text_cmp q) h.0) h.1 (found es gs q h.2)

  -- what is given in turn stands at the names
  pub holds : (es : Expressions) (fs : Entries) → AreGiven table es (seen_entries fs) → HoldsWhatIsGiven table es (attributes_of fs)
  holds es fs h q =
      subst (λ o. MatchOption (finite.find text_cmp q es) (o ≡ None) (λ t. IsSomeAnd o (IsGiven table t))) (sym (finite.get-from_entries text_cmp_total (seen_entries fs) q)) (found es (seen_entries fs) q h)

  -- ---- the loop

  -- some of the expressions have given these, and the rest is left
  pub record IsUnderway (all rest : Exprs) (made : Entries) : Type 0 where
    pub done : Expressions
    pub cut : done ++ restricted_entries rest ≡ restricted_entries all
    pub given : AreGiven table done (seen_entries made)
    pub names : texts made ++ texts rest ≡ texts all

  pub at_first : (all : Exprs) → IsUnderway all all []
  at_first all = record { done = []; cut = refl; given = tt; names = refl }

  module _ (all rest more : Exprs) (made : Entries) (k : RcStr Global) (expr : RestrictedExpr) (underway : IsUnderway all rest made) (step : rest ≡ (k, expr) ∷ more) where
    abbrev here : Expressions
    here = (rc_str_bytes k, restricted_tree expr) ∷ []

    cut_next : underway.done ++ (rc_str_bytes k, restricted_tree expr) ∷ restricted_entries more ≡ restricted_entries all
    cut_next = ap (λ r. underway.done ++ restricted_entries r) (sym step) ∙ underway.cut

    pub goes_on : (next : Entries) (v : PartialValue) → IsStrictlySortedBy key_cmp (map (λ e. e.0) all) → next ≡ insert_entry key_cmp made k v → IsGiven table (restricted_tree expr) (partial_of v) → IsUnderway all more next
    goes_on next v ordered put is =
        let last : next ≡ made ++ (k, v) ∷ [] = put_next made next rest more all k k v expr put refl underway.names step ordered in
        record {
          done = underway.done ++ here;
          cut = append_assoc underway.done here (restricted_entries more) ∙ cut_next;
          given = subst (AreGiven table (underway.done ++ here)) (sym (ap seen_entries last ∙ map-append (λ (e : RcStr Global × PartialValue). (rc_str_bytes e.0, partial_of e.1)) made ((k, v) ∷ []))) (given_next underway.done (seen_entries made) (rc_str_bytes k) (restricted_tree expr) (partial_of v) underway.given is);
          names = texts_next made next rest more all k k v expr last refl underway.names step;
        }

    pub stops : (depth : ℕ) (e : EvaluationError) → IsError table depth (restricted_tree expr) e → IsFirstRefused table depth (restricted_entries all) (rc_str_bytes k) e
    stops depth e errs = record {
      before = underway.done;
      tree = restricted_tree expr;
      behind = restricted_entries more;
      listed = sym cut_next;
      others = have_values underway.done (seen_entries made) underway.given;
      errs = errs;
    }

  pub all_given : (all : Exprs) (made : Entries) → IsUnderway all [] made → AreGiven table (restricted_entries all) (seen_entries made)
  all_given all made underway = subst (λ es. AreGiven table es (seen_entries made)) (sym (append-nil underway.done) ∙ underway.cut) underway.given

pub within_next : (depth : ℕ) (all rest more : Exprs) (k : RcStr Global) (expr : RestrictedExpr) → rest ≡ (k, expr) ∷ more
    → (AreWithin depth (restricted_entries rest) → AreWithin depth (restricted_entries all)) → height (restricted_tree expr) ≤ depth
    → AreWithin depth (restricted_entries more) → AreWithin depth (restricted_entries all)
within_next depth all rest more k expr step goes first others = goes (subst (λ r. AreWithin depth (restricted_entries r)) (sym step) (first, others))
