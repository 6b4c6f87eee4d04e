-- Ranks, and what the functions on them answer.
use Rattle.std.specs.Prelude.{◌≡◌, ℕ, List, [], ◌∷◌, true, ◌&&◌, cond, Option, Some, None, option_map, codes, refl}
use Rattle.std.specs.Option.{option_and_then}
use Rattle.std.specs.Str.{bytes_eq}
use Rattle.std.proofs.Common.{subst}
use Rattle.std.proofs.lemmas.Bool.{ltb-true}
use Rattle.cedar_language.specs.Uid.{Text, Name}
use Rattle.cedar_language.specs.Value.{Extension, Value, ExtensionOf, Values, no_values, a_value}
use Rattle.cedar_language.specs.Order.{same_text, same_name}
use Rattle.cedar_values.specs.Readers.{text_in}
use Rattle.cedar_extensions.specs.Answering.{FunctionAnswers, IsBuilt}
use Rattle.cedar_layer_rows.specs.declared.ranks.Level.{Level}
use Rattle.cedar_layer_rows.specs.declared.ranks.Level.TheVariants.{Low, Mid, High}
use Rattle.cedar_layer_rows.specs.declared.ranks.Ranks.{Ranks}
use Rattle.cedar_layer_rows.specs.declared.ranks.Ranks.TheVariants.{Rank, Up}

-- ---- ranks

abbrev pub rank_type : Name
rank_type = codes "rank" ∷ []

abbrev pub key_of : Level → ℕ
key_of Low = 0
key_of Mid = 1
key_of High = 2

abbrev pub name_of : Level → Text
name_of Low = codes "low"
name_of Mid = codes "mid"
name_of High = codes "high"

-- the rank of a level: its type has an order
abbrev pub rank_of : Level → Value
rank_of level = ExtensionOf (record { type_name = rank_type; ordered = true; key = key_of level ∷ [] })

abbrev pub next_level : Level → Option Level
next_level Low = Some Mid
next_level Mid = Some High
next_level High = None

-- ---- the level of a rank

abbrev pub level_of_key : List ℕ → Option Level
level_of_key bs = cond (bytes_eq bs (0 ∷ [])) (Some Low) (cond (bytes_eq bs (1 ∷ [])) (Some Mid) (cond (bytes_eq bs (2 ∷ [])) (Some High) None))

abbrev pub level_of : Extension → Option Level
level_of e = cond (same_name e.type_name rank_type && e.ordered) (level_of_key e.key) None

abbrev pub level_in : Value → Option Level
level_in (ExtensionOf e) = level_of e
level_in v = None

-- ---- the level that a text names

abbrev pub level_named : Text → Option Level
level_named s = cond (same_text s (codes "low")) (Some Low) (cond (same_text s (codes "mid")) (Some Mid) (cond (same_text s (codes "high")) (Some High) None))

-- ---- the functions

-- the level of this name
abbrev pub rank_answer : Values → Option Level
rank_answer (a_value v no_values) = option_and_then level_named (text_in v)
rank_answer vs = None

-- the level above that of a rank
abbrev pub up_answer : Values → Option Level
up_answer (a_value v no_values) = option_and_then next_level (level_in v)
up_answer vs = None

abbrev pub value_given : Ranks → Values → Option Value
value_given Rank vs = option_map rank_of (rank_answer vs)
value_given Up vs = option_map rank_of (up_answer vs)

-- ranks are built
rank_built : (l : Level) → IsBuilt (rank_of l)
rank_built Low = (ltb-true 0 256 refl, tt)
rank_built Mid = (ltb-true 1 256 refl, tt)
rank_built High = (ltb-true 2 256 refl, tt)

same_value : (v w : Value) → Some v ≡ Some w → v ≡ w
same_value v w is = cc

ranks_built : (o : Option Level) (v : Value) → option_map rank_of o ≡ Some v → IsBuilt v
ranks_built None v is = cc
ranks_built (Some l) v is = subst IsBuilt (same_value (rank_of l) v is) (rank_built l)

pub values_built : (f : Ranks) (vs : Values) (v : Value) → value_given f vs ≡ Some v → IsBuilt v
values_built Rank vs v is = ranks_built (rank_answer vs) v is
values_built Up vs v is = ranks_built (up_answer vs) v is

abbrev pub answers_of : Ranks → FunctionAnswers
answers_of f = record { given = value_given f; built = values_built f }
