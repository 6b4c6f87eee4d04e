-- The values at the keys of the entries.
use Rattle.std.proofs.Common.{◌∙◌, ap, BTreeMap, Global}
use Rattle.std.specs.declared.rc.RcStr.{RcStr}
use Rattle.cedar_language.specs.Value.{Value, RecordOf}
use Rattle.cedar_values.specs.Kinds.{keys_of, values_of}
use Rattle.cedar_interpreter.proofs.Applied.{keyed_value}
use Rattle.cedar_interpreter.proofs.applying.record_of.Goals as goal

pub returns : goal.returns
returns c =
    c.record_arc.ensures
    ∙ ap (λ (m : BTreeMap (RcStr Global) Value). RecordOf (keys_of m.entries) (values_of m.entries)) c.in_ok-new.ensures.ok
    ∙ keyed_value c.args.entries.now.entries c.in_ok-fields.fields.entries c.args.values.items c.in_ok-fields.ensures.keys c.in_ok-fields.ensures.items
