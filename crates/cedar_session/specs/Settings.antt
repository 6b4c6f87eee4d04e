-- What texts may call and how deep they may be, by a session's table and limit.
use Rattle.std.specs.Prelude.{ℕ}
use Rattle.cedar_world.specs.Setting.{Setting}
use Rattle.cedar_extensions.specs.Answering.{FunctionAnswers}
use Rattle.cedar_extensions.specs.declared.extensions.Extensions.{Extensions}
use Rattle.cedar_parser.specs.Settings.{functions_of}

abbrev pub setting_with : {F : Type 0} → (F → FunctionAnswers) → Extensions F → ℕ → Setting
setting_with answers extensions depth = record { functions = functions_of answers extensions; depth = depth }
