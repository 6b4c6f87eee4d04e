use Rattle.std.proofs.Common.{[], refl, sym, ◌∙◌, arith}
use Rattle.std.proofs.lemmas.List.{append-nil}
use Rattle.cedar_scripts.proofs.sections.step_in_text.Goals as goal

pub returns : goal.returns
returns c = record {
  first = c.args.body.now;
  further = [];
  behind = [];
  are = refl;
  begins = refl;
  ends = omega arith;
  body = (c.requires.text, c.in_ok-from_str.ensures.ok ∙ sym (append-nil c.args.body.now));
  answer = (0, refl);
}
