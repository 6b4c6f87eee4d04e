-- The identifiers so far and those of the words left are those of all words, and none so far is reserved.
use Rattle.std.proofs.Common.{◌≡◌, map, drop, Some, ◌++◌, false}
use Rattle.cedar_names.specs.Names.{is_reserved_name}
use Rattle.cedar_grammar.specs.Steps.{◌>>=◌}
use Rattle.cedar_grammar.specs.Converting.{ident_text, each}
use Rattle.cedar_cst.specs.LeafView.{shown_ident}
use Rattle.cedar_conversion.proofs.names.to_path.Given as goal

abbrev pub invariant-words : goal.invariant-words
invariant-words g l = record {
  same : each ident_text (map shown_ident l.word-items) ≡ (each ident_text (map shown_ident (drop l.word-index l.word-items)) >>= λ more. Some (l.path.items ++ more));
  unreserved : is_reserved_name l.path.items ≡ false;
}
