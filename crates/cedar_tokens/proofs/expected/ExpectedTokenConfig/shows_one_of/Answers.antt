-- Each kind is tested by its text, among the texts of all kinds that are expected.
use Rattle.std.proofs.Common.{rules, tests, ◌∙◌, map, string_bytes}
use Rattle.std.proofs.lemmas.Iterator.{YieldsList-from_slice}
use Rattle.std.proofs.lemmas.Iterator.Search.{any_from_yields_List}
use Rattle.cedar_tokens.specs.Shown.{is_shown}
use Rattle.cedar_tokens.proofs.Any.{any_of_map}
use Rattle.cedar_tokens.proofs.expected.ExpectedTokenConfig.shows_one_of.Goals as goal

pub returns : goal.returns
returns c =
    let expected = map string_bytes c.args.expected.now in
    any_from_yields_List (λ k. is_shown c.args.self.now expected (string_bytes k)) _ _ _ c.any.ensures.ran (YieldsList-from_slice c.args.expected.now cc) (λ x b q k. search (rules, tests))
    ∙ any_of_map (is_shown c.args.self.now expected) string_bytes c.args.expected.now
