-- Some element passes the test just where some text of the list does.
use Rattle.std.proofs.Common.{rules, tests, ◌∙◌}
use Rattle.std.specs.Str.{bytes_eq}
use Rattle.std.proofs.lemmas.Iterator.{YieldsList-from_slice}
use Rattle.std.proofs.lemmas.Iterator.Search.{any_from_yields_List}
use Rattle.cedar_tokens.proofs.Any.{any_of_map}
use Rattle.cedar_tokens.proofs.expected.is_listed.Goals as goal

pub returns : goal.returns
returns c =
    any_from_yields_List (λ k. bytes_eq k.now c.args.kind.now) _ _ _ c.any.ensures.ran (YieldsList-from_slice c.args.kinds.now cc) (λ x b q k. search (rules, tests))
    ∙ any_of_map (λ k. bytes_eq k c.args.kind.now) (λ k. k.now) c.args.kinds.now
