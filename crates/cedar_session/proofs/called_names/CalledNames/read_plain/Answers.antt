-- The names that bodies may call are those that are made; the types alone change.
use Rattle.std.proofs.Common.{subst, sym, ap, ◌∙◌}
use Rattle.std.specs.Prelude.{IfOk, IfSome}
use Rattle.std.specs.Option.{option_copied}
use Rattle.cedar_data.specs.Data.{IsDataText}
use Rattle.cedar_session.proofs.called_names.CalledNames.read_plain.Goals as goal

pub returns-clause-called : goal.returns-clause-called
returns-clause-called c = λ functions are. record { bodies = are.bodies; policies = are.policies }

pub returns-clause-data : goal.returns-clause-data
returns-clause-data c = λ functions are.
    let made = are.bodies c.unwrap-styles.result.now (sym c.as_ref.ensures.value ∙ ap option_copied c.unwrap-styles.ensures) in
    subst (λ names. IfOk c.read_data.result (λ found. IfSome found (IsDataText names c.args.depth c.args.text.now))) made c.read_data.ensures
