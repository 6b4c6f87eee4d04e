-- What texts are, by what their loose trees are converted to, and why others are refused.
use Rattle.std.proofs.Common.{◌≡◌, ◌∙◌, refl, sym, ap, subst, ℕ, inl, inr, Option, Some, None, option_map, Result, Ok, Err}
use Rattle.cedar_language.specs.Tree.{Tree}
use Rattle.cedar_language.specs.Uid.{Text, Uid}
use Rattle.cedar_grammar.specs.Grammar.{IsExpr, IsEntity}
use Rattle.cedar_grammar.specs.Laws.{OneList}
use Rattle.cedar_grammar.specs.Names.{Names}
use Rattle.cedar_grammar.specs.Policies.{ArePolicies}
use Rattle.cedar_grammar.specs.Converting.{expr_tree, free_tree, policies_syntax, ref_entity}
use Rattle.cedar_grammar.specs.LooseLaws.{ExprsConvert, ExprsStand, PoliciesConvert, PoliciesStand, EntitiesConvert}
use Rattle.cedar_grammar.specs.Loose as loose
use Rattle.cedar_grammar.specs.LooseReading.{read_expr, read_policies, read_ref}
use Rattle.cedar_builders.specs.Own.{own_operations}
use Rattle.cedar_conversion.specs.Building.{IsBuilt}
use Rattle.cedar_conversion.specs.Laws.{TreesAreBuilt}
use Rattle.cedar_faults.specs.Reasons as reasons
use Rattle.cedar_faults.specs.Reasons.{Reason}
use Rattle.cedar_faults.specs.Converts.{Given, Lacks, Misses}
use Rattle.cedar_parser.specs.LooseTexts.{Refuses, RefusesFlat}
use Rattle.cedar_loose.specs.Texts.{IsRead, flat}
use Rattle.cedar_parser.specs.Errors as cause
use Rattle.cedar_parser.specs.Errors.{Cause, cause_of}
use Rattle.cedar_parser.specs.declared.errors.ParseErrors.{ParseErrors}
use Rattle.cedar_policy_set.specs.Entries.{Entries}
use Rattle.cedar_policy_set.specs.Texts.{text_entries}
use Rattle.cedar_trees.specs.Bare.{bare}
use Rattle.cedar_trees.specs.declared.expr.Expr.{Expr}
use Rattle.cedar_parser.specs.Strict.{IsToldAs, Writes, WritesNot, ReadsTree, ReadsSet, ReadsUid}
use Rattle.cedar_parser.proofs.Texts.{unread, unread_flat, is_meant, unmeant, unmeant_flat}

-- ---- what a conversion gives

-- what the own builder makes of a tree that a text writes is that tree
module _ (are_built : TreesAreBuilt) (names : Names) (e : loose.Expr) where
  pub built_is : (t : Tree) (x : Expr (Unit {0})) → expr_tree names e ≡ Some t → IsBuilt own_operations bare x t → t ≡ bare x
  built_is t x is built = cc (sym (are_built names e t is) ∙ built)

  pub expr_written : (x : Expr (Unit {0})) → Given (IsBuilt own_operations bare) x (expr_tree names e) → expr_tree names e ≡ Some (bare x)
  expr_written x given = given.is ∙ ap Some (built_is given.value x given.is given.stands)

-- ---- what a conversion is refused by

pub told_lacks : {E W : Type 0} (r : Reason E) (told : Cause) (want : Option W) → IsToldAs r told → Lacks r want → WritesNot told want
told_lacks reasons.means_nothing told want (inl same) none = subst (λ c. WritesNot c want) (sym same) none
told_lacks reasons.means_nothing told want (inr same) none = subst (λ c. WritesNot c want) (sym same) tt
told_lacks (reasons.refused e) told want same none = subst (λ c. WritesNot c want) (sym same) tt
told_lacks reasons.out_of_memory told want same none = subst (λ c. WritesNot c want) (sym same) tt

pub told_misses : {E R W : Type 0} (is_refused : W → Type 0) (refusal : E → Option R) (r : Reason E) (told : Cause) (want : Option W) → IsToldAs r told → Misses is_refused refusal r want → WritesNot told want
told_misses is_refused refusal reasons.means_nothing told want (inl same) none = subst (λ c. WritesNot c want) (sym same) none
told_misses is_refused refusal reasons.means_nothing told want (inr same) none = subst (λ c. WritesNot c want) (sym same) tt
told_misses is_refused refusal (reasons.refused e) told want same none = subst (λ c. WritesNot c want) (sym same) tt
told_misses is_refused refusal reasons.out_of_memory told want same none = subst (λ c. WritesNot c want) (sym same) tt

-- ---- expressions

module _ (convert : ExprsConvert) (names : Names) (n : ℕ) (text : Text) where
  pub tree_unread : (errors : ParseErrors) → Refuses read_expr n text errors → ReadsTree names n text (Err errors)
  tree_unread errors none = unread read_expr (free_tree names) (IsExpr names) (convert names) n text (cause_of errors.0.head) none

  pub tree_read : (x : loose.Expr) → IsRead read_expr n text x → OneList → ExprsStand → (r : Result (Expr (Unit {0})) ParseErrors) → Writes bare r (free_tree names x) → ReadsTree names n text r
  tree_read x is_read one_list stand (Ok e) writes = is_meant read_expr (free_tree names) (IsExpr names) (convert names) n text x is_read (bare e) writes
  tree_read x is_read one_list stand (Err errors) writes = unmeant read_expr (free_tree names) (IsExpr names) (convert names) n text x is_read one_list (stand names) (cause_of errors.0.head) writes

-- ---- policies

mapped_some : {A B : Type 0} {y : B} (g : A → B) (o : Option A) → option_map g o ≡ Some y → (x : A) × (o ≡ Some x) × (y ≡ g x)
mapped_some g (Some x) is = (x, refl, sym (some_is is)) where
  some_is : {B : Type 0} {a b : B} → Some a ≡ Some b → a ≡ b
  some_is e = cc e
mapped_some g None is = absurd (cc is)

-- what isn't written isn't there
unmapped : {A B : Type 0} (g : A → B) (o : Option A) (c : Cause) → WritesNot c (option_map g o) → WritesNot c o
unmapped g o cause.outside_the_grammar writes = absurd writes
unmapped g (Some x) cause.means_nothing writes = absurd (cc writes)
unmapped g None cause.means_nothing writes = refl
unmapped g o cause.nested_too_deep writes = absurd writes
unmapped g o cause.out_of_memory writes = tt

module _ (convert : PoliciesConvert) (names : Names) (n : ℕ) (text : Text) where
  pub set_unread : (errors : ParseErrors) → Refuses read_policies n text errors → ReadsSet names n text (Err errors)
  set_unread errors none = unread read_policies (policies_syntax names) (ArePolicies names) (convert names) n text (cause_of errors.0.head) none

  pub set_read : (x : loose.Policies) → IsRead read_policies n text x → OneList → PoliciesStand → (r : Result Entries ParseErrors) → Writes (λ set. set) r (option_map (text_entries 0) (policies_syntax names x)) → ReadsSet names n text r
  set_read x is_read one_list stand (Ok es) writes =
      let found = mapped_some (text_entries 0) (policies_syntax names x) writes in
      (found.0, is_meant read_policies (policies_syntax names) (ArePolicies names) (convert names) n text x is_read found.0 found.1, found.2)
  set_read x is_read one_list stand (Err errors) writes =
      unmeant read_policies (policies_syntax names) (ArePolicies names) (convert names) n text x is_read one_list (stand names) (cause_of errors.0.head)
      (unmapped (text_entries 0) (policies_syntax names x) (cause_of errors.0.head) writes)

-- ---- entities

module _ (convert : EntitiesConvert) (text : Text) where
  pub uid_unread : (errors : ParseErrors) → RefusesFlat (flat read_ref) text errors → ReadsUid text (Err errors)
  uid_unread errors none = unread_flat (flat read_ref) ref_entity (λ m ts u. IsEntity ts u) (λ m ts u. convert ts u) 0 text (cause_of errors.0.head) none

  pub uid_read : (x : loose.Ref) → IsRead (flat read_ref) 0 text x → OneList → (r : Result Uid ParseErrors) → Writes (λ u. u) r (ref_entity x) → ReadsUid text r
  uid_read x is_read one_list (Ok u) writes = is_meant (flat read_ref) ref_entity (λ m ts u. IsEntity ts u) (λ m ts u. convert ts u) 0 text x is_read u writes
  uid_read x is_read one_list (Err errors) writes = unmeant_flat (flat read_ref) ref_entity (λ m ts u. IsEntity ts u) (λ m ts u. convert ts u) 0 text x is_read one_list (λ k m ts u is. is) (cause_of errors.0.head) writes
