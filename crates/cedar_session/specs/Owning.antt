-- What a session holds that owns its table.
use Rattle.cedar_extensions.specs.declared.objects.ExtensionFunctionObject.{Ghosts}
use Rattle.cedar_session.specs.Sessions.{world_holding}
use Rattle.cedar_session.specs.Settings.{setting_with}
use Rattle.cedar_session.specs.declared.owned.OwnedSession.{OwnedSession}
use Rattle.cedar_world.specs.Setting.{Setting}
use Rattle.cedar_world.specs.World.{World}

abbrev pub owned_setting : {F : Type 0} {functions : Ghosts F} → OwnedSession F functions → Setting
owned_setting {functions = functions} session = setting_with functions.answers session.extensions session.depth

abbrev pub owned_world : {F : Type 0} {functions : Ghosts F} → OwnedSession F functions → World
owned_world session = world_holding session.held.policies session.held.entities session.held.asked
