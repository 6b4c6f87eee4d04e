-- A spelling that is neither `permit` nor `forbid` is that of no effect.
use Rattle.std.proofs.Common.{sym}
use Rattle.cedar_policy_conversion.proofs.Words.{no_effect}
use Rattle.cedar_policy_conversion.proofs.effects.effect_named.Goals as goal

pub returns-in_default : goal.returns-in_default
returns-in_default c = sym (no_effect c.args.text.now c.in_default.not-permit c.in_default.not-forbid)
