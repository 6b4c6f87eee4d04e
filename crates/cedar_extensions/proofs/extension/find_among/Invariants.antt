use Rattle.std.proofs.Common.{◌≡◌, drop}
use Rattle.std.specs.List.{flat_map}
use Rattle.cedar_extensions.specs.Holding.{extension_functions, found_in}
use Rattle.cedar_extensions.proofs.extension.find_among.Given as goal

-- what is found is found among the extensions that are left
abbrev pub invariant-loop-extension : goal.invariant-loop-extension
invariant-loop-extension g l =
    found_in (flat_map extension_functions (drop l.extension-index l.extensions)) l.name
    ≡ found_in (flat_map extension_functions l.extensions) l.name
