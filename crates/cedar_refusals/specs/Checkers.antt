-- What a checker has loaded, and what its texts may call.
use Rattle.cedar_extensions.specs.declared.objects.ExtensionFunctionObject.{Ghosts}
use Rattle.cedar_session.specs.Sessions.{setting_of, world_of}
use Rattle.cedar_world.specs.Setting.{Setting}
use Rattle.cedar_world.specs.World.{World}
use Rattle.cedar_refusals.specs.declared.checking.Checker.{Checker}

abbrev pub setting_in : {F : Type 0} {functions : Ghosts F} → Checker F functions → Setting
setting_in checker = setting_of checker.session

abbrev pub world_in : {F : Type 0} {functions : Ghosts F} → Checker F functions → World
world_in checker = world_of checker.session
