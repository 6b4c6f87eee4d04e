-- What the map had at the key tells whether a value stands there, and it puts a new one in where it is to be.
use Rattle.std.proofs.Common.{◌≡◌, ◌∙◌, ap, sym}
use Rattle.std.specs.Prelude.{false, is_some}
use Rattle.std.specs.Rc.{rc_str_bytes}
use Rattle.cedar_grammar.specs.Names.{is_among}
use Rattle.cedar_grammar.specs.Build.{keys}
use Rattle.cedar_data.specs.Simple.{written_entries}
use Rattle.cedar_data.proofs.ReadAttributes.{insert_is_put, found_is_among}
use Rattle.cedar_data.proofs.attributes.put_new.Goals as goal

pub returns : goal.returns
returns c =
    let new : is_among (rc_str_bytes c.args.key) (keys (written_entries c.args.attributes.now.entries)) ≡ false
    = sym (found_is_among (rc_str_bytes c.args.key) c.args.attributes.now.entries) ∙ ap is_some (sym c.in_ok-replaced.ensures.old) ∙ sym c.is_some.ensures ∙ c.if-is_some.false in
    record { unused = new; is = ap written_entries c.in_ok-replaced.ensures.entries ∙ insert_is_put c.args.key c.args.value c.args.attributes.now.entries new }
