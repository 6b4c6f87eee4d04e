-- Extension values beside what makes them: the value, and the call that writes it, as the language has them.
use Rattle.std.specs.Prelude.{List, [], ◌∷◌, map, Bool}
use Rattle.std.specs.declared.cmp.Ordering.{Ordering}
use Rattle.std.specs.Cmp.{IsTotalOrder, IsPartialOrder, IsPartialEquivalence, IsEquivalence, eq_by_cmp_equiv, partial_equiv_from_equiv, partial_order_from_total}
use Rattle.std.specs.Hash.{HashWrites, Alike, on_Alike}
use Rattle.std.specs.Ordering.{as_partial_cmp, eq_by_cmp, on}
use Rattle.std.specs.Rc.{rc_str_bytes}
use Rattle.std.proofs.lemmas.Cmp.{on_total}
use Rattle.cedar_language.specs.Uid.{Name}
use Rattle.cedar_language.specs.Tree.{Tree, Lit, Apply, Trees, no_trees, a_tree, MakeSet, MakeRecord, Call}
use Rattle.cedar_language.specs.Value.{Extension}
use Rattle.cedar_literals.specs.Literals.{literal_of}
use Rattle.cedar_values.specs.Extensions.{extension_cmp, extension_cmp_total, extension_hash, extension_hash_alike}
use Rattle.cedar_values.specs.declared.extension_values.Argument.{Argument, Argument-F, fold-Argument}
use Rattle.cedar_values.specs.declared.extension_values.RepresentableExtensionValue.{RepresentableExtensionValue, RepresentableExtensionValue-F, fold-RepresentableExtensionValue}

-- the value
abbrev pub extension_of : RepresentableExtensionValue → Extension
extension_of e = e.value

-- the function that makes it
abbrev pub function_of : RepresentableExtensionValue → Name
function_of e = e.func

abbrev pub trees_of : List Tree → Trees
trees_of [] = no_trees
trees_of (t ∷ ts) = a_tree t (trees_of ts)

-- one level, with what stands inside already written
abbrev pub argument_step : Argument-F Tree Tree → Tree
argument_step (Argument-F.Lit l) = Lit (literal_of l)
argument_step (Argument-F.Set v) = Apply MakeSet (trees_of v.value.items)
argument_step (Argument-F.Record m) = Apply (MakeRecord (map (λ e. rc_str_bytes e.0) m.value.entries)) (trees_of (map (λ e. e.1) m.value.entries))
argument_step (Argument-F.ExtensionValue e) = e.value

abbrev pub call_step : RepresentableExtensionValue-F Tree Tree → Tree
call_step e = Apply (Call e.func) (trees_of e.args.items)

-- an argument, as it is written
abbrev pub written : Argument → Tree
written = fold-Argument Tree Tree argument_step call_step

abbrev pub written_all : List Argument → Trees
written_all vs = trees_of (map written vs)

-- an extension value, as it is written: the call that makes it
abbrev pub written_call : RepresentableExtensionValue → Tree
written_call = fold-RepresentableExtensionValue Tree Tree argument_step call_step

-- equality, order and hash are those of the value
abbrev pub represented_cmp : RepresentableExtensionValue → RepresentableExtensionValue → Ordering
represented_cmp = on extension_of extension_cmp

abbrev pub same_represented : RepresentableExtensionValue → RepresentableExtensionValue → Bool
same_represented = eq_by_cmp represented_cmp

abbrev pub represented_hash : RepresentableExtensionValue → HashWrites
represented_hash e = extension_hash (extension_of e)

pub represented_cmp_total : IsTotalOrder represented_cmp
represented_cmp_total = on_total extension_of extension_cmp_total

pub represented_cmp_partial : IsPartialOrder same_represented (as_partial_cmp represented_cmp)
represented_cmp_partial = partial_order_from_total represented_cmp_total

pub same_represented_equiv : IsEquivalence same_represented
same_represented_equiv = eq_by_cmp_equiv represented_cmp_total

pub same_represented_partial : IsPartialEquivalence same_represented
same_represented_partial = partial_equiv_from_equiv same_represented_equiv

pub represented_hash_alike : Alike same_represented represented_hash
represented_hash_alike = on_Alike extension_of extension_hash_alike
