-- What is held of a question's request with what is told is what is held of the question then, and nothing told is in conflict with it.
use Rattle.std.proofs.Common.{◌≡◌, refl, ap, Bool, true, false, ◌&&◌, ◌||◌, Option, Some, None, List, codes}
use Rattle.std.specs.declared.alloc.Global.{Global}
use Rattle.std.specs.declared.rc.RcStr.{RcStr}
use Rattle.cedar_language.specs.Tree.{Boolean, Long, String, Entity, Tree, Lit, Var, Slot, Unknown, If, And, Or, Apply, Trees, no_trees, a_tree}
use Rattle.cedar_language.specs.Uid.{Text, Name}
use Rattle.cedar_language.specs.Value.{Value, Plain, SetOf, RecordOf, ExtensionOf}
use Rattle.cedar_partial_evaluation.specs.Question.{Part, Given, Missing, entity_type, part_held}
use Rattle.cedar_world.specs.Asking.{Entries, NoContext, WithEntries, Question}
use Rattle.cedar_grammar.specs.UnknownCalls.{hold_call}
use Rattle.cedar_world.specs.Bodies.{some_name, some_name_of, is_one_of}
use Rattle.cedar_world.specs.Orders.{text_eq}
use Rattle.cedar_world.specs.Question.{is_missing, has_name, fits_part, fits_context}
use Rattle.cedar_world.specs.Values.{variable_names, holds_bad_unknown}
use Rattle.cedar_substitution.specs.Told.{told_for}
use Rattle.cedar_evaluator.specs.Concretizing.{part_conflict, part_told}
use Rattle.cedar_asking.specs.Keeping.{IsNamed, AreTold}
use Rattle.cedar_asking.proofs.Plainness.{and_left, or_left}
use Rattle.std.proofs.lemmas.Bool.{or_right as or_true_right, or_left as or_true_left}

-- ---- parts

same_type : (o p : Option Name) → entity_type o ≡ entity_type p → o ≡ p
same_type None None e = refl
same_type (Some t) (Some u) e = let same : t ≡ u = cc in ap Some same
same_type None (Some u) e = cc
same_type (Some t) None e = cc

pub same_part : (p s : Part) (n : Text) → part_held p None n ≡ part_held s None n → p ≡ s
same_part (Given u) (Given w) n e = let same : u ≡ w = cc in ap Given same
same_part (Missing ty) (Missing tz) n e = let same : entity_type ty ≡ entity_type tz = cc in ap Missing (same_type ty tz same)
same_part (Given u) (Missing tz) n e = cc
same_part (Missing ty) (Given w) n e = cc

entity_again : (ty : Option Name) (v : Value) (n : Text) → fits_part (Missing ty) v ≡ true → part_held (part_told (Missing ty) (Some v)) None n ≡ part_held (Missing ty) (Some v) n
entity_again ty (Plain (Entity u)) n h = rw h refl
entity_again ty (Plain (Boolean b)) n h = cc
entity_again ty (Plain (Long k)) n h = cc
entity_again ty (Plain (String s)) n h = cc
entity_again ty (SetOf vs) n h = cc
entity_again ty (RecordOf ks vs) n h = cc
entity_again ty (ExtensionOf e) n h = cc

-- a value that fits a part stands for it
pub part_again : (p : Part) (o : Option Value) (n : Text) → ((v : Value) → o ≡ Some v → fits_part p v ≡ true) → part_held (part_told p o) None n ≡ part_held p o n
part_again (Given u) None n h = refl
part_again (Given u) (Some v) n h = refl
part_again (Missing ty) None n h = refl
part_again (Missing ty) (Some v) n h = entity_again ty v n (h v refl)

entity_fits : (ty : Option Name) (v : Value) → fits_part (Missing ty) v ≡ true → part_conflict (Missing ty) (Some v) ≡ None
entity_fits ty (Plain (Entity u)) h = rw h refl
entity_fits ty (Plain (Boolean b)) h = cc
entity_fits ty (Plain (Long k)) h = cc
entity_fits ty (Plain (String s)) h = cc
entity_fits ty (SetOf vs) h = cc
entity_fits ty (RecordOf ks vs) h = cc
entity_fits ty (ExtensionOf e) h = cc

-- nor is it in conflict with one that is missing
pub part_fits : (p : Part) (o : Option Value) → ((v : Value) → o ≡ Some v → fits_part p v ≡ true) → ((v : Value) → o ≡ Some v → is_missing p ≡ true) → part_conflict p o ≡ None
part_fits p None h m = refl
part_fits (Missing ty) (Some v) h m = entity_fits ty v (h v refl)
part_fits (Given u) (Some v) h m = let no : false ≡ true = m v refl in cc

-- ---- names of variables

module _ (f g : Text → Bool) (within : (m : Text) → f m ≡ true → g m ≡ true) where
  not_so : (a b : Bool) → (a ≡ true → b ≡ true) → b ≡ false → a ≡ false
  not_so false b h e = refl
  not_so true b h e = let t : b ≡ true = h refl in cc

  either_not : (a b c d : Bool) → (c ≡ false → a ≡ false) → (d ≡ false → b ≡ false) → (c || d) ≡ false → (a || b) ≡ false
  either_not a b false d h i e = rw (h refl, i e) refl
  either_not a b true d h i e = cc

  mutual
    absent : (t : Tree) → some_name g t ≡ false → some_name f t ≡ false
    absent (Lit l) h = refl
    absent (Var v) h = refl
    absent (Slot s) h = refl
    absent (Unknown n ty) h = not_so (f n) (g n) (within n) h
    absent (If t y n) h =
        either_not (some_name f t) (some_name f y || some_name f n) (some_name g t) (some_name g y || some_name g n) (absent t)
        (λ e. either_not (some_name f y) (some_name f n) (some_name g y) (some_name g n) (absent y) (absent n) e) h
    absent (And l r) h = either_not (some_name f l) (some_name f r) (some_name g l) (some_name g r) (absent l) (absent r) h
    absent (Or l r) h = either_not (some_name f l) (some_name f r) (some_name g l) (some_name g r) (absent l) (absent r) h
    absent (Apply op ts) h = all_absent ts h

    pub all_absent : (ts : Trees) → some_name_of g ts ≡ false → some_name_of f ts ≡ false
    all_absent no_trees h = refl
    all_absent (a_tree t ts) h = either_not (some_name f t) (some_name_of f ts) (some_name g t) (some_name_of g ts) (absent t) (all_absent ts) h

pub no_variable : (n : Text) → ((m : Text) → text_eq n m ≡ true → is_one_of variable_names m ≡ true) → (c : Entries) → holds_bad_unknown c ≡ false → text_eq n (codes "context") ≡ false → has_name c n ≡ false
no_variable n is NoContext h e = e
no_variable n is (WithEntries ks ts) h e = all_absent (text_eq n) (is_one_of variable_names) is ts (or_left (some_name_of (is_one_of variable_names) ts) (hold_call ts) h)

is_principal : (m : Text) → text_eq (codes "principal") m ≡ true → is_one_of variable_names m ≡ true
is_principal m h = rw h refl

is_action : (m : Text) → text_eq (codes "action") m ≡ true → is_one_of variable_names m ≡ true
is_action m h = or_true_right (text_eq (codes "principal") m) _ (or_true_left (text_eq (codes "action") m) _ h)

is_resource : (m : Text) → text_eq (codes "resource") m ≡ true → is_one_of variable_names m ≡ true
is_resource m h = or_true_right (text_eq (codes "principal") m) _ (or_true_right (text_eq (codes "action") m) _ (or_true_left (text_eq (codes "resource") m) _ h))

pub is_context : (m : Text) → text_eq (codes "context") m ≡ true → is_one_of variable_names m ≡ true
is_context m h = or_true_right (text_eq (codes "principal") m) _ (or_true_right (text_eq (codes "action") m) _ (or_true_right (text_eq (codes "resource") m) _ (or_true_left (text_eq (codes "context") m) false h)))

-- whether a variable is missing, by whether its name is an unknown one
missing_of : (p a r c : Bool) → c ≡ false → ((p && true) || ((a && false) || ((r && false) || c))) ≡ true → p ≡ true
missing_of true a r c e h = refl
missing_of false true true c e h = cc
missing_of false true false c e h = cc
missing_of false false true c e h = cc
missing_of false false false c e h = cc

missing_second : (p a r c : Bool) → c ≡ false → ((p && false) || ((a && true) || ((r && false) || c))) ≡ true → a ≡ true
missing_second p true r c e h = refl
missing_second true false true c e h = cc
missing_second true false false c e h = cc
missing_second false false true c e h = cc
missing_second false false false c e h = cc

missing_third : (p a r c : Bool) → c ≡ false → ((p && false) || ((a && false) || ((r && true) || c))) ≡ true → r ≡ true
missing_third p a true c e h = refl
missing_third true true false c e h = cc
missing_third true false false c e h = cc
missing_third false true false c e h = cc
missing_third false false false c e h = cc

named_context : (p a r c : Bool) → ((p && false) || ((a && false) || ((r && false) || c))) ≡ true → c ≡ true
named_context true true true c h = h
named_context true true false c h = h
named_context true false true c h = h
named_context true false false c h = h
named_context false true true c h = h
named_context false true false c h = h
named_context false false true c h = h
named_context false false false c h = h

module _ (q : Question) (named : IsNamed q.context) (told : List (RcStr Global × Value)) (are : AreTold q told) where
  pub principal_fits : (v : Value) → told_for told (codes "principal") ≡ Some v → fits_part q.principal v ≡ true
  principal_fits v e = and_left (fits_part q.principal v) _ (are.fit (codes "principal") v e)

  pub action_fits : (v : Value) → told_for told (codes "action") ≡ Some v → fits_part q.action v ≡ true
  action_fits v e = and_left (fits_part q.action v) _ (are.fit (codes "action") v e)

  pub resource_fits : (v : Value) → told_for told (codes "resource") ≡ Some v → fits_part q.resource v ≡ true
  resource_fits v e = and_left (fits_part q.resource v) _ (are.fit (codes "resource") v e)

  pub context_fits : (v : Value) → told_for told (codes "context") ≡ Some v → fits_context q.context v ≡ true
  context_fits v e = are.fit (codes "context") v e

  pub principal_missing : (v : Value) → told_for told (codes "principal") ≡ Some v → is_missing q.principal ≡ true
  principal_missing v e =
      missing_of (is_missing q.principal) (is_missing q.action) (is_missing q.resource) (has_name q.context (codes "principal")) (no_variable (codes "principal") is_principal q.context named.well refl) (are.named (codes "principal") v e)

  pub action_missing : (v : Value) → told_for told (codes "action") ≡ Some v → is_missing q.action ≡ true
  action_missing v e =
      missing_second (is_missing q.principal) (is_missing q.action) (is_missing q.resource) (has_name q.context (codes "action")) (no_variable (codes "action") is_action q.context named.well refl) (are.named (codes "action") v e)

  pub resource_missing : (v : Value) → told_for told (codes "resource") ≡ Some v → is_missing q.resource ≡ true
  resource_missing v e =
      missing_third (is_missing q.principal) (is_missing q.action) (is_missing q.resource) (has_name q.context (codes "resource")) (no_variable (codes "resource") is_resource q.context named.well refl) (are.named (codes "resource") v e)

  pub context_named : (v : Value) → told_for told (codes "context") ≡ Some v → has_name q.context (codes "context") ≡ true
  context_named v e = named_context (is_missing q.principal) (is_missing q.action) (is_missing q.resource) (has_name q.context (codes "context")) (are.named (codes "context") v e)
