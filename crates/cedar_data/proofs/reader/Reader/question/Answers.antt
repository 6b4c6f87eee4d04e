-- All four parts are read, and the record of their entries is the body.
use Rattle.std.proofs.Common.{◌≡◌, suc, ◌-◌, arith, option_map}
use Rattle.cedar_language.specs.Tree.{Lit, Entity}
use Rattle.cedar_data.specs.Simple.{tree_of, record_value}
use Rattle.cedar_data.specs.Parts.{entries_with}
use Rattle.cedar_data.proofs.Asked.{question_read}
use Rattle.cedar_data.proofs.reader.Reader.question.Goals as goal

pub returns : goal.returns
returns c =
    let is : c.args.levels ≡ suc (suc (c.args.levels - 2)) = omega arith in
    question_read _ c.args.levels (c.args.levels - 2) c.args.self.now c.expect.new.self c.parts.new.self c.in_ok-parts.parts is
    (λ i. entries_with (option_map (λ u. Lit (Entity u.value)) (c.in-Some-action.is i))
    (option_map (λ m. tree_of (record_value m.value.entries)) (c.in-Some-context.is i)) (option_map (λ u. Lit (Entity u.value)) (c.in-Some.is i))
    (option_map (λ u. Lit (Entity u.value)) (c.in-Some-resource.is i)))
    c.in_ok-expect.ensures c.in_ok-parts.ensures
