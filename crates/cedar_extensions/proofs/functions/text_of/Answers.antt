-- The text that `unknown` gives is the one that it is given.
use Rattle.std.proofs.Common.{◌≡◌, ◌∙◌, refl, ap, Option, Some, None, option_map}
use Rattle.std.specs.Option.{option_copied}
use Rattle.std.specs.Rc.{rc_str_bytes}
use Rattle.std.specs.declared.alloc.Global.{Global}
use Rattle.std.specs.declared.rc.RcStr.{RcStr}
use Rattle.cedar_language.specs.Tree.{String}
use Rattle.cedar_language.specs.Value.{Value, Plain, no_values, a_value}
use Rattle.cedar_grammar.specs.Functions.{one_string}
use Rattle.cedar_values.specs.Readers.{text_in}
use Rattle.cedar_extensions.specs.Functions.{string_value}
use Rattle.cedar_extensions.proofs.functions.text_of.Goals as goal

text_given : (v : Value) → one_string (a_value v no_values) ≡ option_map (λ s. Plain (String s)) (text_in v)
text_given (Plain (String s)) = refl
text_given v = refl

as_value : (o : Option (RcStr Global)) → option_map (λ s. Plain (String s)) (option_map rc_str_bytes o) ≡ option_map string_value o
as_value (Some s) = refl
as_value None = refl

pub returns : goal.returns
returns c = text_given c.args.value.now ∙ ap (option_map (λ s. Plain (String s))) c.as_string.ensures ∙ as_value (option_copied c.as_string.result)
