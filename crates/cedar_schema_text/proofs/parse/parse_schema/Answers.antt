-- What all tokens of the text are read as is what the text says.
use Rattle.std.proofs.Common.{◌∙◌}
use Rattle.cedar_schema_text.proofs.Said.{said_by, fails_none}
use Rattle.cedar_schema_text.proofs.parse.parse_schema.Goals as goal

pub returns-in-Ok-schema-clause-syntax : goal.returns-in-Ok-schema-clause-syntax
returns-in-Ok-schema-clause-syntax c = said_by c.args.text.now c.in-Ok.tokens.items c.in-Ok.ensures.tokens ∙ c.in-Ok-schema.ensures

pub returns-in-Err-Syntax-clause-refused : goal.returns-in-Err-Syntax-clause-refused
returns-in-Err-Syntax-clause-refused c = said_by c.args.text.now c.in-Ok.tokens.items c.in-Ok.ensures.tokens ∙ fails_none c.in-Err-Syntax.field-0 c.in-Err-Syntax.fault c.in-Err-Syntax.place _ c.in-Err-Syntax.field-0-is c.in-Err-Syntax.ensures
