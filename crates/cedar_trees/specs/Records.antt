-- What is made of the entries of a record: a key that stands twice is refused.
use Rattle.std.specs.Prelude.{◌≡◌, ⊤, List, [], ◌∷◌, true, false, cond, Option, Some, None, Result, Ok, Err}
use Rattle.std.specs.Rc.{rc_str_bytes}
use Rattle.cedar_language.specs.Uid.{Text}
use Rattle.cedar_language.specs.Tree.{Tree}
use Rattle.cedar_grammar.specs.Names.{is_among}
use Rattle.cedar_grammar.specs.Build.{Keyed, keys, put, by_key, record_of}
use Rattle.cedar_trees.specs.declared.errors.ExpressionConstructionError.{ExpressionConstructionError}
use Rattle.cedar_trees.specs.declared.errors.ExpressionConstructionError.TheVariants.{DuplicateKey, Memory}

-- the first of these texts that stands before it too, or among those seen before
abbrev pub repeated_after : List Text → List Text → Option Text
repeated_after seen [] = None
repeated_after seen (k ∷ ks) = cond (is_among k seen) (Some k) (repeated_after (k ∷ seen) ks)

-- the first text that stands before it too
abbrev pub repeated : List Text → Option Text
repeated ks = repeated_after [] ks

abbrev pub unless_repeated : {A : Type 0} → Option Text → A → Result A Text
unless_repeated None made = Ok made
unless_repeated (Some k) made = Err k

-- the record of these entries; refused for a key that stands twice
abbrev pub record_made : List (Keyed Tree) → Result Tree Text
record_made es = unless_repeated (repeated (keys es)) (record_of es)

-- the entries by their keys in rising order; refused likewise
abbrev pub entries_made : {A : Type 0} → List (Keyed A) → Result (List (Keyed A)) Text
entries_made es = unless_repeated (repeated (keys es)) (by_key es)

-- why nothing was made: a key that stands twice, or none for want of memory
abbrev pub refused_key : ExpressionConstructionError → Option Text
refused_key (DuplicateKey e) = Some (rc_str_bytes e.key)
refused_key (Memory e) = None

abbrev pub Makes : {E A : Type 0} → (E → A) → Result A Text → Result E ExpressionConstructionError → Type 0
Makes view meant (Ok e) = meant ≡ Ok (view e)
Makes view meant (Err (DuplicateKey e)) = meant ≡ Err (rc_str_bytes e.key)
Makes view meant (Err (Memory e)) = ⊤

-- what makes the record of these entries
abbrev pub MakesRecord : {E : Type 0} → (E → Tree) → List (Keyed Tree) → Result E ExpressionConstructionError → Type 0
MakesRecord view es result = Makes view (record_made es) result

-- what makes a map of these entries
abbrev pub MakesEntries : {E A : Type 0} → (E → List (Keyed A)) → List (Keyed A) → Result E ExpressionConstructionError → Type 0
MakesEntries view es result = Makes view (entries_made es) result

-- an entry of a new key is put among others
abbrev pub PutsNew : {A : Type 0} → Keyed A → List (Keyed A) → List (Keyed A) → Result Unit ExpressionConstructionError → Type 0
PutsNew e old new (Ok u) = (is_among e.0 (keys old) ≡ false) × (new ≡ put e old)
PutsNew e old new (Err (DuplicateKey d)) = (is_among e.0 (keys old) ≡ true) × (rc_str_bytes d.key ≡ e.0)
PutsNew e old new (Err (Memory m)) = ⊤
