-- The words so far are a path of the text, and none is reserved.
use Rattle.std.proofs.Common.{◌++◌, [], ◌∷◌, false, length, map}
use denote.Text.{Utf8}
use denote.Shadow.{shadow}
use Rattle.std.specs.List.{All}
use Rattle.cedar_names.specs.Identifiers.{IsUnreservedId}
use Rattle.cedar_data.specs.Data.{ReadsPath}
use Rattle.cedar_data.proofs.reader.Reader.path.Given as goal

abbrev pub invariant-path : goal.invariant-path
invariant-path l = record {
  reads : ReadsPath l.first false l.initial.self (map (λ word. word.now) l.namespace.items ++ l.last ∷ []) l.self;
  namespace : All (λ word. IsUnreservedId word.now) l.namespace.items;
  basename : IsUnreservedId l.last;
  utf8 : shadow (Utf8 l.last);
}

abbrev pub decreases-path : goal.decreases-path
decreases-path l = length l.self
