-- What is still to come of the entries of a context.
use Rattle.std.specs.Prelude.{List}
use Rattle.std.specs.Rc.{rc_str_bytes}
use Rattle.std.specs.Vec.Iter.{into_iter_items}
use Rattle.std.specs.declared.alloc.Global.{Global}
use Rattle.std.specs.declared.rc.RcStr.{RcStr}
use Rattle.cedar_language.specs.Tree.{Tree}
use Rattle.cedar_grammar.specs.Build.{Keyed}
use Rattle.cedar_restricted.specs.Views.{restricted_tree, restricted_entries}
use Rattle.cedar_restricted.specs.declared.restricted.RestrictedExpr.{RestrictedExpr}
use Rattle.cedar_requests.specs.declared.iteration.ContextEntries.{ContextEntries}

-- an entry, by its key's text
abbrev pub entry_tree : RcStr Global × RestrictedExpr → Keyed Tree
entry_tree e = (rc_str_bytes e.0, restricted_tree e.1)

-- those that are left, in their order
abbrev pub entries_left : ContextEntries → List (Keyed Tree)
entries_left it = restricted_entries (into_iter_items it.entries)
