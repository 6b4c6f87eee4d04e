use Rattle.std.proofs.Common.{◌≡◌, ◌^◌, ◌<◌, take, true}
use Rattle.std.specs.Str.{all_ascii_digits}
use Rattle.cedar_frames.specs.Heads.{number_of}
use Rattle.cedar_frames.proofs.head.numeral.Given as goal

abbrev pub invariant-loop-digit : goal.invariant-loop-digit
invariant-loop-digit l = record {
  digits : all_ascii_digits (take l.digit-index l.digits) ≡ true;
  value : l.value ≡ number_of (take l.digit-index l.digits);
  small : l.value < 10 ^ l.digit-index;
}
