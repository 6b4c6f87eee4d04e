-- A literal is looked up as one, what is no literal isn't among literals, and else the list tells.
use Rattle.std.proofs.Common.{◌≡◌, ◌∙◌, ap, sym, not, true, None}
use Rattle.std.specs.Option.{option_map, option_copied}
use Rattle.cedar_literals.specs.Literals.{literal_of}
use Rattle.cedar_values.specs.Kinds.{plain_of}
use Rattle.cedar_values.specs.LiteralSets.{are_literals}
use Rattle.cedar_values.specs.Readers.{literal_in}
use Rattle.cedar_values.proofs.LiteralSets.{plain_is, no_member}
use Rattle.cedar_values.proofs.Sets.{member_test, no_test}
use Rattle.cedar_values.proofs.values.Set.contains.Goals as goal

pub returns-in-Some-clause-language : goal.returns-in-Some-clause-language
returns-in-Some-clause-language c =
    let same : c.args.value.now ≡ plain_of c.in-Some.literal.now = plain_is _ _ (c.as_literal.ensures ∙ ap (λ o. option_map literal_of (option_copied o)) c.in-Some.is) in
    member_test c.args.self.now c.args.value.now c.contains_literal.result (rw same c.contains_literal.ensures)

pub returns-then-not-is_of_literals-clause-language : goal.returns-then-not-is_of_literals-clause-language
returns-then-not-is_of_literals-clause-language c =
    let all : c.deref-then-not-is_of_literals.result.now ≡ c.args.self.now =
    c.deref-then-not-is_of_literals.ensures.value ∙ ap (λ m. m.authoritative.items) c.deref.ensures ∙ c.self.view_is in
    member_test c.args.self.now c.args.value.now c.has_value.result (rw all at c.has_value.ensures)

pub returns-else-not-is_of_literals-clause-language : goal.returns-else-not-is_of_literals-clause-language
returns-else-not-is_of_literals-clause-language c =
    let literals : are_literals c.args.self.now ≡ true = sym c.is_of_literals.ensures ∙ c.if-not-is_of_literals.false in
    let none : literal_in c.args.value.now ≡ None = c.as_literal.ensures ∙ ap (λ o. option_map literal_of (option_copied o)) c.in-None.is in
    ap not c.if-not-is_of_literals.false ∙ sym (no_test c.args.self.now c.args.value.now (no_member c.args.self.now c.args.value.now literals none))
