-- Each name that was passed is listed.
use Rattle.std.proofs.Common.{◌≡◌, map, take}
use Rattle.cedar_language.specs.Uid.{Text}
use Rattle.cedar_telling.specs.AskedNames.{has_name, is_listed}
use Rattle.cedar_telling.proofs.asked_names.set_of.Given as goal

abbrev pub invariant-loop-name : goal.invariant-loop-name
invariant-loop-name l = (n : Text) → is_listed l.set n ≡ has_name (map (λ m. m.now) (take l.name-index l.names)) n
