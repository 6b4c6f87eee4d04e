-- What texts may call.
use Rattle.std.proofs.Common.{◌≡◌, ◌∙◌, refl, sym, ap, Bool, true, false, ◌&&◌, cond, Some, None, is_some, List, [], ◌∷◌, codes, true≢false}
use Rattle.std.specs.List.{list_all}
use Rattle.cedar_language.specs.Tree.{Operator, Call, Tree, Lit, Var, Slot, Unknown, If, And, Or, Apply, Trees, no_trees, a_tree}
use Rattle.cedar_language.specs.Uid.{Name}
use Rattle.cedar_grammar.specs.Calls.{calls_none_but, calls_only, all_call_only}
use Rattle.cedar_grammar.specs.Names.{is_among, is_function}
use Rattle.cedar_grammar.specs.Functions.{Functions, the_unknown, unknown_function, body_names, function_of}
use Rattle.cedar_world.specs.NameLaws.{NamesAreFound}
use Rattle.cedar_grammar.specs.Syntax.{PolicySyntax, condition}
use Rattle.cedar_parser.specs.Strict.{LacksUnknown}
pub use Rattle.cedar_lemmas.proofs.Booleans.{and_first as left_of, and_second as right_of}

-- where `unknown` isn't called
module _ (found : (functions : Functions) → NamesAreFound functions) (functions : Functions) (lacks : functions.has_unknown ≡ false) where
  not_found : is_some (function_of functions the_unknown) ≡ true → ⊥
  not_found h = true≢false (sym h ∙ ap (λ b. is_some (cond b (Some unknown_function) None)) lacks)

  not_true : (b : Bool) → (b ≡ true → ⊥) → b ≡ false
  not_true true h = absurd (h refl)
  not_true false h = refl

  pub lacks_unknown : LacksUnknown (body_names functions)
  lacks_unknown = (
    not_true (is_function (body_names functions) the_unknown) (λ h. not_found ((found functions).body_function the_unknown h)),
    not_true (is_among (codes "unknown") (body_names functions).methods) (λ h. not_found ((found functions).body_method (codes "unknown") h)),
  )

-- ---- calls that pass one test pass a weaker one

both_still : (a b c d : Bool) → (a ≡ true → c ≡ true) → (b ≡ true → d ≡ true) → (a && b) ≡ true → (c && d) ≡ true
both_still true b c d left right h = ap (λ x. x && d) (left refl) ∙ right h
both_still false b c d left right h = absurd (true≢false (sym h))

module _ (f g : Name → Bool) (more : (name : Name) → f name ≡ true → g name ≡ true) where
  operator_still : (op : Operator) → calls_none_but f op ≡ true → calls_none_but g op ≡ true
  operator_still (Call name) h = more name h
  operator_still op h = refl

  mutual
    calls_still : (t : Tree) → calls_only f t ≡ true → calls_only g t ≡ true
    calls_still (Lit l) h = refl
    calls_still (Var v) h = refl
    calls_still (Slot s) h = refl
    calls_still (Unknown n ty) h = h
    calls_still (If t y n) h =
        both_still (calls_only f t) _ (calls_only g t) _ (calls_still t)
        (both_still (calls_only f y) (calls_only f n) (calls_only g y) (calls_only g n) (calls_still y) (calls_still n)) h
    calls_still (And l r) h = both_still (calls_only f l) (calls_only f r) (calls_only g l) (calls_only g r) (calls_still l) (calls_still r) h
    calls_still (Or l r) h = both_still (calls_only f l) (calls_only f r) (calls_only g l) (calls_only g r) (calls_still l) (calls_still r) h
    calls_still (Apply op ts) h = both_still (calls_none_but f op) (all_call_only f ts) (calls_none_but g op) (all_call_only g ts) (operator_still op) (all_still ts) h

    all_still : (ts : Trees) → all_call_only f ts ≡ true → all_call_only g ts ≡ true
    all_still no_trees h = refl
    all_still (a_tree t ts) h = both_still (calls_only f t) (all_call_only f ts) (calls_only g t) (all_call_only g ts) (calls_still t) (all_still ts) h

  pub conditions_still : (ss : List PolicySyntax) → list_all (λ s. calls_only f (condition s)) ss ≡ true → list_all (λ s. calls_only g (condition s)) ss ≡ true
  conditions_still [] h = refl
  conditions_still (s ∷ ss) h =
      both_still (calls_only f (condition s)) (list_all (λ p. calls_only f (condition p)) ss) (calls_only g (condition s)) (list_all (λ p. calls_only g (condition p)) ss)
      (calls_still (condition s)) (conditions_still ss) h
