-- What a table of extension functions holds, and what it gives to an evaluation.
pub use Rattle.cedar_extensions.specs.declared.extensions.Extensions.{Extensions}
pub use Rattle.cedar_extensions.specs.Table.{Table, as_table}
pub use Rattle.cedar_extensions.specs.Tables.{functions_in, holds_unknown, function_called}
