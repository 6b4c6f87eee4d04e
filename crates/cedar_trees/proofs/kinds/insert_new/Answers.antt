-- What the map had under the key tells whether the bare entries had it, and it puts a new one in where they do.
use Rattle.std.proofs.Common.{◌≡◌, ◌∙◌, ap, sym}
use Rattle.std.specs.Prelude.{false, is_some}
use Rattle.std.specs.Rc.{rc_str_bytes}
use Rattle.cedar_grammar.specs.Names.{is_among}
use Rattle.cedar_grammar.specs.Build.{keys}
use Rattle.cedar_trees.specs.Bare.{bare_entries}
use Rattle.cedar_trees.proofs.Records.{insert_is_put, found_is_among}
use Rattle.cedar_trees.proofs.kinds.insert_new.Goals as goal

pub returns-in-None : goal.returns-in-None
returns-in-None g c =
    let new : is_among (rc_str_bytes c.args.key) (keys (bare_entries c.args.map.now.entries)) ≡ false
    = sym (found_is_among (rc_str_bytes c.args.key) c.args.map.now.entries) ∙ ap is_some (sym c.in_ok-insert.ensures.old ∙ c.in-None.is) in
    (new, ap bare_entries c.in_ok-insert.ensures.entries ∙ insert_is_put c.args.key c.args.expr c.args.map.now.entries new)

pub returns-in-Some : goal.returns-in-Some
returns-in-Some g c = (
  sym (found_is_among (rc_str_bytes c.args.key) c.args.map.now.entries) ∙ ap is_some (sym c.in_ok-insert.ensures.old ∙ c.in-Some.is),
  ap rc_str_bytes c.new-error.ensures.key ∙ c.in_ok-name.ensures.cases,
)
