-- Names that are gathered one after another.
use Rattle.std.proofs.Common.{◌≡◌, ◌∙◌, refl, sym, ap, Bool, true, false, not, is_some, cond, ◌&&◌, ◌||◌, List, [], ◌∷◌, Some}
use Rattle.std.proofs.lemmas.Map.Views.{any-filter_same}
use Rattle.std.proofs.lemmas.Cmp.{eq_by_cmp_equiv}
use Rattle.std.specs.Borrow.{Bor}
use Rattle.std.specs.BTreeSet.{BTreeSet, Updates}
use Rattle.std.specs.Cmp.Lexicographic.{nat_list_cmp_total}
use Rattle.std.specs.FinMap as finite
use Rattle.std.specs.List.{filter, list_any}
use Rattle.std.specs.Rc.{rc_str_bytes}
use Rattle.cedar_grammar.specs.Functions.{is_the_unknown}
use Rattle.cedar_language.specs.Tree.{Trees}
use Rattle.cedar_language.specs.Uid.{Name, Text}
use Rattle.cedar_trees.specs.Bare.{bare, bare_kind}
use Rattle.cedar_trees.specs.declared.expr.Expr.{Expr}
use Rattle.cedar_trees.specs.declared.expr.ExprKind.TheVariants as kind
use Rattle.cedar_trees.specs.declared.unknowns.Unknown.{Unknown}
use Rattle.cedar_trees.proofs.Bares.{bare_is, bare-Unknown}
use Rattle.cedar_world.specs.Asking.{Told}
use Rattle.cedar_world.specs.Bodies.{Fields}
use Rattle.cedar_world.specs.Orders.{text_cmp, text_eq}
use Rattle.cedar_world.specs.Refusals.{some_key}
use Rattle.cedar_telling.proofs.JoinedIds.{same_text}
use Rattle.cedar_telling.specs.AskedNames.{is_listed}
use Rattle.cedar_telling.specs.Unknowns.{name_given}
use Rattle.cedar_telling.specs.UnknownNames.{passes_or, stands_in, stands_in_call, stands_in_some}
use Rattle.cedar_lemmas.proofs.Booleans.{or_turned as turned}

-- a call that names an unknown has that name alone
pub by_call : (test : Text → Bool) (f : Name) (ts : Trees) (n : Text) → is_the_unknown f ≡ true → name_given ts ≡ Some n → stands_in_call test f ts ≡ test n
by_call test f ts n is given =
    ap (λ b. cond b (passes_or test (name_given ts) (stands_in_some test ts)) (stands_in_some test ts)) is
    ∙ ap (λ o. passes_or test o (stands_in_some test ts)) given

pub by_unknown : (test : Text → Bool) (e : Expr (Unit {0})) (u : Unknown) → e.expr_kind ≡ kind.Unknown u → stands_in test (bare e) ≡ test (rc_str_bytes u.name)
by_unknown test e u is = ap (stands_in test) (bare_is (Unit {0}) e ∙ ap bare_kind is ∙ bare-Unknown (Unit {0}) u)

-- the names that a question wants, one part after another
pub regrouped : (a b c d : Bool) → ((((false || a) || b) || c) || d) ≡ (a || (b || (c || d)))
regrouped true b c d = refl
regrouped false true c d = refl
regrouped false false true d = refl
regrouped false false false d = refl

-- Of names those for which nothing is told are the untold among them.
pub untold_among : (told : Told) (names : List Text) (n : Text) → list_any (text_eq n) (filter (λ m. not (is_some (finite.get told m))) names) ≡ (not (is_some (finite.get told n)) && list_any (text_eq n) names)
untold_among told names n =
    any-filter_same (text_eq n) (λ m. not (is_some (finite.get told m))) (not (is_some (finite.get told n)))
    (λ m same. ap (λ k. not (is_some (finite.get told k))) (sym (same_text n m same))) names

-- ---- names in a set

lent : Text → Bor Text
lent n = record { ref_ptr = (0, 0); now = n }

put_true : (a b : Bool) → cond a true b ≡ (a || b)
put_true true b = refl
put_true false b = refl

-- one name more is listed
pub listed_more : (old new : BTreeSet (Bor Text)) (name : Bor Text) (n : Text) → Updates (λ x y. text_cmp x.now y.now) old new name true → is_listed new n ≡ (is_listed old n || text_eq n name.now)
unfolding lent
listed_more old new name n put =
    put.0 (lent n) ∙ put_true (text_eq name.now n) (is_listed old n) ∙ turned (text_eq name.now n) (is_listed old n)
    ∙ ap (λ b. is_listed old n || b) ((eq_by_cmp_equiv nat_list_cmp_total).symm name.now n)

-- some key is none of the names exactly where it is none of those that pass the same test
pub same_test : (f g : Text → Bool) → ((n : Text) → f n ≡ g n) → (fs : Fields) → some_key (λ n. not (f n)) fs ≡ some_key (λ n. not (g n)) fs
same_test f g same [] = refl
same_test f g same (x ∷ xs) = ap (λ b. not b || some_key (λ n. not (f n)) xs) (same x.0) ∙ ap (λ b. not (g x.0) || b) (same_test f g same xs)
