-- What a string that stands for nothing is refused by.
use Rattle.std.specs.Prelude.{◌≡◌}
use Rattle.cedar_tokens.specs.declared.error.UnescapeError.{UnescapeError}
use Rattle.cedar_tokens.specs.declared.error.UnescapeError.TheVariants as unescape
use Rattle.cedar_faults.specs.declared.errors.ConversionError.{ConversionError}
use Rattle.cedar_faults.specs.Reasons.{IsFault, reason, out_of_memory}

abbrev pub Refuses : {B : Type 0} → UnescapeError → ConversionError B → Type 0
Refuses (unescape.Invalid place) e = IsFault e
Refuses unescape.Memory e = reason e ≡ out_of_memory
