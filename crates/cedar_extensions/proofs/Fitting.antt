-- Calls that fit, one after another.
use Rattle.std.proofs.Common.{◌≡◌, ℕ, List, ◌∷◌, length, map, refl, ap, sym, ◌∙◌, subst, Vec, Global}
use Rattle.std.proofs.lemmas.List.{length-map}
use Rattle.std.specs.Prelude.{true, cond, ◌&&◌, Option, Some, None}
use Rattle.std.specs.Option.{option_or}
use Rattle.std.specs.List.{list_all, cons_option}
use Rattle.std.specs.declared.rc.Rc.{Rc}
use Rattle.cedar_language.specs.Uid.{Name}
use Rattle.cedar_language.specs.Tree.{Tree}
use Rattle.cedar_language.specs.Facts.{Function}
use Rattle.cedar_language.specs.Operators.{takes}
use Rattle.cedar_trees.specs.Bare.{bare, bare_kind}
use Rattle.cedar_trees.specs.declared.expr.Expr.{Expr}
use Rattle.cedar_trees.specs.declared.expr.ExprKind.TheVariants as kind
use Rattle.cedar_trees.proofs.Bares.{bare_is, bare-ExtensionFunctionApp}
use Rattle.cedar_shapes.proofs.Listing.{listed_trees}
use Rattle.cedar_extensions.specs.Causes.{Cause, OtherCount}
use Rattle.cedar_extensions.specs.Table.{Table}
use Rattle.cedar_extensions.specs.Calls.{call_in, calls_among, is_taken_by, call_fits, fault_of_count, fault_by, fault_of, first_fault}
use Rattle.cedar_extensions.specs.ValidationRefusals.{Refuses}
use Rattle.cedar_extensions.specs.declared.validation_errors.ExprValidationError.{ExprValidationError}
use Rattle.cedar_extensions.specs.declared.validation_errors.ExprValidationError.TheVariants.{FuncDoesNotExist, WrongNumArguments, Memory}

-- a call has as many arguments as are written
pub call_is : (T : Type 0) (e : Expr T) (f : Name) (v : Rc (Vec (Expr T) Global) Global) (n : ℕ) → e.expr_kind ≡ kind.ExtensionFunctionApp f v → n ≡ length v.value.items → call_in (bare e) ≡ Some (f, n)
call_is T e f v n is same =
    ap call_in (bare_is T e ∙ ap bare_kind is ∙ bare-ExtensionFunctionApp T f v)
    ∙ ap (λ k. Some (f, k)) (ap length (listed_trees (map bare v.value.items)) ∙ length-map v.value.items bare ∙ sym same)

-- nothing is wrong with what fits
right_count : (n : Option ℕ) (c : Name × ℕ) → takes n c.1 ≡ true → fault_of_count n c ≡ None
right_count None c fits = refl
right_count (Some m) c fits = ap (λ b. cond b None (Some (OtherCount c.0 m c.1))) fits

right_by : (f : Option Function) (c : Name × ℕ) → is_taken_by f c.1 ≡ true → fault_by f c ≡ None
right_by None c fits = absurd (cc fits)
right_by (Some f) c fits = right_count f.takes c fits

pub fits_right : (table : Table) (c : Name × ℕ) → call_fits table c ≡ true → fault_of table c ≡ None
fits_right table c fits = right_by (table.function c.0) c fits

-- these calls fit exactly where those do, and else the same is wrong with them
abbrev pub AreWrongAlike : Table → List (Name × ℕ) → List (Name × ℕ) → Type 0
AreWrongAlike table cs ds = (list_all (call_fits table) cs ≡ list_all (call_fits table) ds) × (first_fault table cs ≡ first_fault table ds)

-- what fits is passed over
pub fits_on : (table : Table) (cs ds : List (Name × ℕ)) (c : Name × ℕ) → call_fits table c ≡ true → AreWrongAlike table cs (c ∷ ds) → AreWrongAlike table cs ds
fits_on table cs ds c fits alike = (
  alike.0 ∙ ap (λ b. b && list_all (call_fits table) ds) fits,
  alike.1 ∙ ap (λ f. option_or f (first_fault table ds)) (fits_right table c fits),
)

-- and what is wrong with the first is told
pub wrong_now : (table : Table) (cs ds : List (Name × ℕ)) (c : Name × ℕ) (wrong : Cause) → fault_of table c ≡ Some wrong → AreWrongAlike table cs (c ∷ ds) → first_fault table cs ≡ Some wrong
wrong_now table cs ds c wrong told alike = alike.1 ∙ ap (λ f. option_or f (first_fault table ds)) told

-- a call that the walk comes to is the first of those that were to come
next_call : (ts us : List Tree) (t : Tree) (c : Name × ℕ) → ts ≡ t ∷ us → call_in t ≡ Some c → calls_among ts ≡ c ∷ calls_among us
next_call ts us t c comes is = ap calls_among comes ∙ ap (λ o. cons_option o (calls_among us)) is

-- what fits is passed over
pub passed_over : (table : Table) (cs : List (Name × ℕ)) (ts us : List Tree) (t : Tree) (c : Name × ℕ) → ts ≡ t ∷ us → call_in t ≡ Some c → call_fits table c ≡ true → AreWrongAlike table cs (calls_among ts) → AreWrongAlike table cs (calls_among us)
passed_over table cs ts us t c comes is fits alike = fits_on table cs (calls_among us) c fits (subst (AreWrongAlike table cs) (next_call ts us t c comes is) alike)

-- and what is wrong is told
pub wrong_there : (table : Table) (cs : List (Name × ℕ)) (ts us : List Tree) (t : Tree) (c : Name × ℕ) (e : ExprValidationError) → ts ≡ t ∷ us → call_in t ≡ Some c → Refuses (fault_of table c) e → AreWrongAlike table cs (calls_among ts) → Refuses (first_fault table cs) e
wrong_there table cs ts us t c (FuncDoesNotExist e) comes is wrong alike = wrong_now table cs (calls_among us) c _ wrong (subst (AreWrongAlike table cs) (next_call ts us t c comes is) alike)
wrong_there table cs ts us t c (WrongNumArguments e) comes is wrong alike = wrong_now table cs (calls_among us) c _ wrong (subst (AreWrongAlike table cs) (next_call ts us t c comes is) alike)
wrong_there table cs ts us t c (Memory e) comes is wrong alike = tt
