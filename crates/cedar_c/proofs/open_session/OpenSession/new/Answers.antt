-- The session knows what the table does that was made.
use Rattle.std.proofs.Common.{refl}
use Rattle.cedar_c.proofs.open_session.OpenSession.new.Goals as goal

pub returns : goal.returns
returns c = record { setting = (c.in_ok-extensions.extensions, c.in_ok-extensions.ensures.alone, c.new.ensures.setting); world = c.new.ensures.world; silent = refl }
