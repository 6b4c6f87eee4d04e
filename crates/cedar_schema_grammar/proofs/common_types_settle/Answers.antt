-- A common type is found under its own name, and there are as many names as common types.
use Rattle.std.proofs.Common.{◌≡◌, true, false, [], length, arith, sym, ◌∙◌}
use Rattle.std.specs.Prelude.{map}
use Rattle.std.proofs.lemmas.List.{length-map}
use Rattle.cedar_language.specs.Uid.{Name}
use Rattle.cedar_schema_grammar.specs.Declared.{Library, Declared, type_name}
use Rattle.cedar_schema_grammar.specs.Written.{type_reaches}
use Rattle.cedar_schema_grammar.proofs.Reaching.{cycles_are_found}
use Rattle.cedar_schema_grammar.proofs.Unfolding.{Leads, settles}
use Rattle.cedar_schema_grammar.proofs.common_types_settle.Goals as goal

no_way_back : (d : Declared) (l : Library) → ((n : Name) → type_reaches d l n n ≡ false) → (n : Name) → Leads d l n n → ⊥
no_way_back d l apart n r = let there : type_reaches d l n n ≡ true = (cycles_are_found l d n n).1 r in cc (sym there ∙ apart n)

pub returns : goal.returns
returns c l d apart t e =
    let same : length (map type_name d.types) ≡ length d.types = length-map d.types type_name in
    settles d l (no_way_back d l apart) (length d.types) t e [] tt tt tt (omega arith)
