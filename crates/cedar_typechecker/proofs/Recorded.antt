-- The keys of a map differ, so each stands once in the record.
use Rattle.std.proofs.Common.{◌≡◌, ◌∙◌, refl, sym, ap, List, [], ◌∷◌, ◌++◌, length, map, suc, Global, Some, None, arith}
use Rattle.std.specs.Prelude.{cond, ◌||◌, false}
use Rattle.std.specs.Cmp.Lexicographic.{texts_ties}
use Rattle.std.specs.declared.cmp.Ordering.{Ordering}
use Rattle.std.specs.declared.cmp.Ordering.TheVariants.{Less}
use Rattle.std.specs.declared.rc.RcStr.{RcStr}
use Rattle.std.specs.List.{AllByRecursion}
use Rattle.std.specs.List.Sorted.{IsStrictlySortedBy}
use Rattle.std.specs.Ordering.{is_eq}
use Rattle.std.specs.Rc.{rc_str_bytes}
use Rattle.cedar_language.specs.Uid.{Text}
use Rattle.cedar_language.specs.Order.{text_cmp, same_text}
use Rattle.cedar_grammar.specs.Build.{keys, trees}
use Rattle.cedar_trees.specs.Bare.{bare, bare_entries}
use Rattle.cedar_trees.specs.declared.expr.Expr.{Expr}
use Rattle.cedar_typing.specs.Types.{Required, CedarType, and_field}
use Rattle.cedar_typing.specs.Containers.{is_key, fields_of}
use Rattle.cedar_schema.specs.Types.{listed}
use Rattle.cedar_typechecker.specs.Operators.{part_count}
use Rattle.cedar_typechecker.specs.Records.{texts, required}

abbrev pub key_cmp : RcStr Global → RcStr Global → Ordering
key_cmp k l = text_cmp (rc_str_bytes k) (rc_str_bytes l)

module _ {X : Type 0} where
  all_below : (k : RcStr Global) (es : List (RcStr Global × X)) → AllByRecursion (λ l. key_cmp k l ≡ Less) (map (λ e. e.0) es) → AllByRecursion (λ t. text_cmp (rc_str_bytes k) t ≡ Less) (texts es)
  all_below k [] h = tt
  all_below k (e ∷ es) h = (h.0, all_below k es h.1)

  -- the texts of rising keys rise
  pub texts_rise : (es : List (RcStr Global × X)) → IsStrictlySortedBy key_cmp (map (λ e. e.0) es) → IsStrictlySortedBy text_cmp (texts es)
  unfolding IsStrictlySortedBy
  texts_rise [] h = tt
  texts_rise (e ∷ es) h = (all_below e.0 es h.0, texts_rise es h.1)

apart : (k l : Text) → text_cmp k l ≡ Less → same_text k l ≡ false
apart k l h = texts_ties k l ∙ ap is_eq h

not_key : (k : Text) (ls : List Text) → AllByRecursion (λ t. text_cmp k t ≡ Less) ls → is_key k ls ≡ false
not_key k [] h = refl
not_key k (l ∷ ls) h = ap (λ b. b || is_key k ls) (apart k l h.0) ∙ not_key k ls h.1

all_required : (ks : List Text) (ts : List CedarType) → IsStrictlySortedBy text_cmp ks → length ts ≡ length ks → fields_of ks ts ≡ Some (listed (required ks ts))
unfolding IsStrictlySortedBy
all_required [] [] h e = refl
all_required [] (t ∷ ts) h e = cc
all_required (k ∷ ks) [] h e = cc
all_required (k ∷ ks) (t ∷ ts) h e =
    ap (λ b. cond b None (and_field k Required (Some t) (fields_of ks ts))) (not_key k ks h.0)
    ∙ ap (and_field k Required (Some t)) (all_required ks ts h.1 (omega arith))

keys_are : (es : List (RcStr Global × Expr (Unit {0}))) → keys (bare_entries es) ≡ texts es
keys_are [] = refl
keys_are (e ∷ es) = ap (λ ks. rc_str_bytes e.0 ∷ ks) (keys_are es)

length_texts : {X : Type 0} (es : List (RcStr Global × X)) → length (texts es) ≡ length es
length_texts [] = refl
length_texts (e ∷ es) = ap suc (length_texts es)

pub written_fields : (es : List (RcStr Global × Expr (Unit {0}))) (ts : List CedarType) → IsStrictlySortedBy text_cmp (texts es) → length ts ≡ length es
    → fields_of (keys (bare_entries es)) ts ≡ Some (listed (required (texts es) ts))
written_fields es ts h e = ap (λ ks. fields_of ks ts) (keys_are es) ∙ all_required (texts es) ts h (e ∙ sym (length_texts es))

-- a record has as many parts as entries
pub entry_count : (es : List (RcStr Global × Expr (Unit {0}))) → part_count (trees (map (λ e. e.1) (bare_entries es))) ≡ length es
entry_count [] = refl
entry_count (e ∷ es) = ap suc (entry_count es)
