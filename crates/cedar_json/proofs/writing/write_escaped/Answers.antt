-- What is written so far is the characters that were taken; at the end these are all.
use Rattle.std.proofs.Common.{◌≡◌, ◌++◌, ap, sym, ◌∙◌}
use Rattle.std.specs.Prelude.{string_bytes, encode_utf8_all}
use Rattle.std.specs.Str.{chars}
use Rattle.std.proofs.lemmas.List.{map-id}
use Rattle.std.proofs.lemmas.Iterator.{YieldsList-from_chars}
use Rattle.std.proofs.lemmas.Iterator.Consumers.{YieldsList-end}
use Rattle.cedar_json.specs.Written.{escaped, escaped_char}
use Rattle.cedar_json.proofs.Appending.{grown, escaped_more}
use Rattle.cedar_json.proofs.writing.write_escaped.Goals as goal

pub returns : goal.returns
returns c =
    let all = YieldsList-end (YieldsList-from_chars c.args.text.now c.utf8.text cc) c.characters.yielded _ c.characters.yielded_by _ _ c.in-None.is c.next.ensures.steps in
    let same : c.characters.yielded ≡ chars c.args.text.now = sym (map-id c.characters.yielded) ∙ all.0 in
    c.characters.invariant ∙ ap (λ cs. string_bytes c.args.out.now ++ encode_utf8_all (escaped cs)) same

pub characters-preserved : goal.characters-preserved
characters-preserved c =
    let a = string_bytes c.args.out.now in
    let d = string_bytes c.write_character.new.out in
    grown a (string_bytes c.characters.out) d (escaped c.characters.yielded)
    (escaped_char c.in-Some.c) c.characters.invariant c.in_ok-write_character.ensures
    ∙ ap (λ cs. a ++ encode_utf8_all cs) (sym (escaped_more c.characters.yielded c.in-Some.c))
