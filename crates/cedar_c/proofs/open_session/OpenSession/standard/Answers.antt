-- The table has the functions of the definition.
use Rattle.std.proofs.Common.{◌∙◌, ap, refl}
use Rattle.cedar_grammar.specs.Functions.{Functions}
use Rattle.cedar_world.specs.Setting.{Setting}
use Rattle.cedar_c.proofs.open_session.OpenSession.standard.Goals as goal

pub returns : goal.returns
returns c =
    let with : Functions → Setting = λ functions. record { functions = functions; depth = c.args.depth } in
    record { setting = c.new.ensures.setting ∙ ap with c.in_ok-extensions.ensures.defined; world = c.new.ensures.world; silent = refl }
