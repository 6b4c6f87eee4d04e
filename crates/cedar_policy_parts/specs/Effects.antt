-- Effects, as the definitions name them, and how they are written.
use Rattle.std.specs.Prelude.{codes}
use Rattle.cedar_language.specs.Uid.{Text}
use Rattle.cedar_language.specs.Answering as answering
use Rattle.cedar_policy_parts.specs.declared.effect.Effect.{Effect}
use Rattle.cedar_policy_parts.specs.declared.effect.Effect.TheVariants.{Permit, Forbid}

abbrev pub effect_of : Effect → answering.Effect
effect_of Permit = answering.Permit
effect_of Forbid = answering.Forbid

abbrev pub effect_text : answering.Effect → Text
effect_text answering.Permit = codes "permit"
effect_text answering.Forbid = codes "forbid"
