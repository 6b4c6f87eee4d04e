-- Both tests decide whether the text is one that the pattern stands for, so they agree.
use Rattle.std.specs.Str.{chars}
use Rattle.std.proofs.lemmas.Bool.Decides.{same_from_decides}
use Rattle.cedar_language.specs.Pattern.{matches}
use Rattle.cedar_value_operators.proofs.patterns.matches.Goals as goal

pub returns : goal.returns
returns c = same_from_decides c.wildcard_match.result (matches c.args.pattern.now (chars c.args.text.now)) c.wildcard_match.ensures (c.decides_matches.ensures c.args.pattern.now (chars c.args.text.now))
