-- One word more is looked at.
use Rattle.std.proofs.Common.{◌≡◌, ◌<◌, ◌≤◌, ◌||◌, length, get_or, arith, ap, ◌∙◌, subst}
use Rattle.std.specs.Prelude.{map}
use Rattle.std.specs.Rc.{rc_str_bytes}
use Rattle.std.specs.List.{list_any}
use Rattle.std.proofs.lemmas.List.{take_all}
use Rattle.cedar_schema_grammar.specs.Faults.{is_cedar}
use Rattle.cedar_schema_faults.proofs.Declaring.{any_more}
use Rattle.cedar_schema_faults.proofs.declarations.has_cedar.Goals as goal

pub loop-word-preserved : goal.loop-word-preserved
loop-word-preserved c =
    let low : c.loop-word.word-index < length c.args.words.now = omega arith in
    let here : c.word-item.result ≡ get_or c.args.words.now c.loop-word.word-index c.word-item.result = cc in
    record {
      far = any_more rc_str_bytes is_cedar c.args.words.now c.loop-word.word-index c.word-item.result c.loop-word.has _ low here c.loop-word.invariant.far
          (ap (λ b. c.loop-word.has || b) c.is_cedar-has.ensures);
    }

pub returns : goal.returns
returns c =
    let past : length c.args.words.now ≤ c.loop-word.word-index = omega arith in
    subst (λ ws. c.loop-word.has ≡ list_any is_cedar (map rc_str_bytes ws)) (take_all c.loop-word.word-index c.args.words.now past) c.loop-word.invariant.far
