-- The setting in which questions are answered.
use Rattle.std.specs.Prelude.{◌≡◌, ℕ}
use Rattle.cedar_extensions.specs.Table.{Table}
use Rattle.cedar_interpreter.specs.Operating.{HasFunctions}
use Rattle.cedar_world.specs.Setting.{Setting, functions_alone}

-- the setting has the functions of this table, and this limit
pub record IsSettingOf (table : Table) (depth : ℕ) (by : Setting) : Type 0 where
  pub functions : HasFunctions table (functions_alone by.functions)
  pub depth_is : by.depth ≡ depth
