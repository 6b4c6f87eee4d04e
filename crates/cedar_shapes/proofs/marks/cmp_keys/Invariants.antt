use Rattle.std.proofs.Common.{◌≡◌, map}
use Rattle.std.specs.Cmp.Lexicographic.{slice_cmp}
use Rattle.std.specs.Rc.{rc_str_bytes}
use Rattle.cedar_language.specs.Order.{text_cmp}
use Rattle.cedar_grammar.specs.Build.{keys}
use Rattle.cedar_trees.specs.Bare.{bare_entries}
use Rattle.cedar_shapes.proofs.marks.cmp_keys.Given as goal

abbrev pub invariant-loop-key : goal.invariant-loop-key
invariant-loop-key g l =
    (goal.iterator-loop-key g).can_next l.key-iterator ×
    (goal.iterator-loop-key g).is_finite l.key-iterator ×
    (slice_cmp text_cmp (keys (bare_entries l.a.entries)) (keys (bare_entries l.b.entries))
    ≡ slice_cmp text_cmp (map rc_str_bytes l.key-iterator) (map rc_str_bytes l.others))
