-- Entries of a record, each an expression beside its key.
use Rattle.std.proofs.Common.{◌≡◌, ap, sym, subst, List, map}
use Rattle.std.specs.Prelude.{true}
use Rattle.std.specs.List.Sorted.{IsStrictlySortedBy}
use Rattle.std.specs.declared.alloc.Global.{Global}
use Rattle.std.specs.declared.rc.RcStr.{RcStr}
use Rattle.cedar_language.specs.Order.{text_cmp}
use Rattle.cedar_language.specs.Tree.{Tree}
use Rattle.cedar_grammar.specs.Build.{Keyed, keys}
use Rattle.cedar_trees.specs.Bare.{bare_entries}
use Rattle.cedar_trees.specs.declared.expr.Expr.{Expr}
use Rattle.cedar_restricted.specs.PartialValues.{PartExpresses}
use Rattle.cedar_restricted.proofs.Rising.{key_cmp, keys_are, texts_rise}
use Rattle.cedar_requests.specs.Contexts.{context_part, is_record}
use Rattle.cedar_requests.specs.declared.contexts.Context.{Context}
use Rattle.cedar_requests.specs.declared.contexts.Context.TheVariants as context

-- what a context is written as is a record
pub written_is_record : (c : Context) (t : Tree) → PartExpresses (context_part c) t → is_record t ≡ true
written_is_record (context.Value m) t (ts, is, each) = ap is_record is
written_is_record (context.RestrictedResidual r) t is = ap is_record is

-- the keys of a map's entries rise, and so do those of entries that are the same
pub entries_rise : (es : List (RcStr Global × Expr (Unit {0}))) (ks : List (Keyed Tree)) → IsStrictlySortedBy key_cmp (map (λ e. e.0) es) → ks ≡ bare_entries es → IsStrictlySortedBy text_cmp (keys ks)
entries_rise es ks h is =
    subst (λ fs. IsStrictlySortedBy text_cmp (keys fs)) (sym is)
    (subst (IsStrictlySortedBy text_cmp) (sym (keys_are es)) (texts_rise es h))
