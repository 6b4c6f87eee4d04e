-- How values of the standard extension types are written: the calls that make them, each in one form.
use Rattle.std.specs.Prelude.{ℤ, [], ◌∷◌, codes}
use Rattle.cedar_language.specs.Uid.{Text}
use Rattle.cedar_language.specs.Tree.{Tree, Trees, no_trees, a_tree, Lit, String, Apply, Call}
use Rattle.cedar_scalars.specs.Decimals.{decimal_text}
use Rattle.cedar_scalars.specs.Durations.{duration_text}
use Rattle.cedar_scalars.specs.Ranges.{range_text}
use Rattle.cedar_scalars.specs.declared.ip_ranges.IpRange.{IpRange}

abbrev pub one_tree : Text → Trees
one_tree text = a_tree (Lit (String text)) no_trees

abbrev pub call_of_text : Text → Text → Tree
call_of_text name text = Apply (Call (name ∷ [])) (one_tree text)

abbrev pub decimal_call : ℤ → Tree
decimal_call n = call_of_text (codes "decimal") (decimal_text n)

abbrev pub duration_call : ℤ → Tree
duration_call n = call_of_text (codes "duration") (duration_text n)

abbrev pub range_call : IpRange → Tree
range_call r = call_of_text (codes "ip") (range_text r)

-- not each instant has a text: it is an offset from the beginning of 1970
abbrev pub epoch_call : Tree
epoch_call = call_of_text (codes "datetime") (codes "1970-01-01")

abbrev pub datetime_call : ℤ → Tree
datetime_call n = Apply (Call (codes "offset" ∷ [])) (a_tree epoch_call (a_tree (duration_call n) no_trees))
