-- Calls that are validated in turn.
use Rattle.std.proofs.Common.{◌≡◌, ℕ, List, [], ◌∷◌, ◌++◌, Bool, true, false, cond, ◌&&◌, refl, ap, sym, ◌∙◌, subst, Option, None, Some, Result, Ok, Err, true≢false}
use Rattle.std.specs.List.{list_all}
use Rattle.std.specs.Option.{option_or}
use Rattle.std.proofs.lemmas.List.Folds.{list_all-append}
use Rattle.cedar_language.specs.Uid.{Name}
use Rattle.cedar_language.specs.Facts.{Function}
use Rattle.cedar_language.specs.Operators.{takes}
use Rattle.cedar_extensions.specs.Causes.{Cause, OtherCount}
use Rattle.cedar_extensions.specs.Table.{Table}
use Rattle.cedar_extensions.specs.Calls.{is_taken_by, call_fits, fault_of_count, fault_by, fault_of, first_fault}
use Rattle.cedar_extensions.specs.ValidationRefusals.{Refuses}
use Rattle.cedar_extensions.specs.declared.validation_errors.ExprValidationError.{ExprValidationError}
use Rattle.cedar_extensions.specs.declared.validation_errors.ExprValidationError.TheVariants.{FuncDoesNotExist, WrongNumArguments, Memory}
use Rattle.cedar_entity_evaluation.specs.Validated.{ValidatesCalls}
use Rattle.cedar_lemmas.proofs.Booleans.{and_first as left_true, and_second as right_true}

-- nothing is wrong with what fits
right_count : (n : Option ℕ) (c : Name × ℕ) → takes n c.1 ≡ true → fault_of_count n c ≡ None
right_count None c fits = refl
right_count (Some m) c fits = ap (λ b. cond b None (Some (OtherCount c.0 m c.1))) fits

right_by : (f : Option Function) (c : Name × ℕ) → is_taken_by f c.1 ≡ true → fault_by f c ≡ None
right_by None c fits = absurd (true≢false (sym fits))
right_by (Some f) c fits = right_count f.takes c fits

module _ (table : Table) where
  no_fault : (cs : List (Name × ℕ)) → list_all (call_fits table) cs ≡ true → first_fault table cs ≡ None
  no_fault [] fit = refl
  no_fault (c ∷ cs) fit =
      ap (λ f. option_or f (first_fault table cs)) (right_by (table.function c.0) c (left_true (call_fits table c) (list_all (call_fits table) cs) fit))
      ∙ no_fault cs (right_true (call_fits table c) (list_all (call_fits table) cs) fit)

  or_assoc : (o p q : Option Cause) → option_or (option_or o p) q ≡ option_or o (option_or p q)
  or_assoc None p q = refl
  or_assoc (Some w) p q = refl

  -- the first fault of two lists
  first_of_both : (cs ds : List (Name × ℕ)) → first_fault table (cs ++ ds) ≡ option_or (first_fault table cs) (first_fault table ds)
  first_of_both [] ds = refl
  first_of_both (c ∷ cs) ds = ap (option_or (fault_of table c)) (first_of_both cs ds) ∙ sym (or_assoc (fault_of table c) (first_fault table cs) (first_fault table ds))

  after : (cs ds : List (Name × ℕ)) → list_all (call_fits table) cs ≡ true → first_fault table (cs ++ ds) ≡ first_fault table ds
  after cs ds fit = first_of_both cs ds ∙ ap (λ o. option_or o (first_fault table ds)) (no_fault cs fit)

  -- where the first calls fit, the others decide
  pub goes_on : {A : Type 0} (cs ds : List (Name × ℕ)) → list_all (call_fits table) cs ≡ true → (r : Result A ExprValidationError) → ValidatesCalls table ds r → ValidatesCalls table (cs ++ ds) r
  goes_on cs ds fit (Ok a) h = list_all-append (call_fits table) cs ds ∙ ap (λ b. b && list_all (call_fits table) ds) fit ∙ h
  goes_on cs ds fit (Err e) h = subst (λ o. Refuses o e) (sym (after cs ds fit)) h

  told : (cs ds : List (Name × ℕ)) (w : Cause) → first_fault table cs ≡ Some w → first_fault table (cs ++ ds) ≡ Some w
  told cs ds w h = first_of_both cs ds ∙ ap (λ o. option_or o (first_fault table ds)) h

  -- what is wrong with the first calls is told
  pub stops : (cs ds : List (Name × ℕ)) (e : ExprValidationError) → Refuses (first_fault table cs) e → Refuses (first_fault table (cs ++ ds)) e
  stops cs ds (FuncDoesNotExist e) h = told cs ds _ h
  stops cs ds (WrongNumArguments e) h = told cs ds _ h
  stops cs ds (Memory e) h = h
