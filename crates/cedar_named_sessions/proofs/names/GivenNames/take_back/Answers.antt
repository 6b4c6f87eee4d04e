-- What is taken out is taken out the other way round too.
use Rattle.std.proofs.Common.{ap, sym, subst, ◌∙◌}
use Rattle.std.specs.List.{IsDistinct}
use Rattle.std.specs.Map.{keys_of}
use Rattle.cedar_language.specs.Order.{same_text}
use Rattle.cedar_named_sessions.specs.NameLists.{swapped, without}
use Rattle.cedar_named_sessions.proofs.Swapping.{nothing_taken, swapped_without}
use Rattle.cedar_named_sessions.proofs.names.GivenNames.take_back.Goals as goal

pub invariant_of-self : goal.invariant_of-self
invariant_of-self c =
    let id = c.args.id.now in
    let names = c.self.inside.names in
    let distinct = subst (λ es. IsDistinct same_text (keys_of es)) c.self.invariant c.len-count.ensures.distinct in
    c.shift_remove-in-Some.ensures.entries ∙ ap (without c.in-Some.name) c.self.invariant
    ∙ sym (swapped_without id c.in-Some.name names distinct (sym c.in-Some.ensures.value)) ∙ ap swapped (sym c.shift_remove.ensures.entries)

pub invariant_of-self-in-None : goal.invariant_of-self-in-None
invariant_of-self-in-None c =
    c.self.invariant ∙ ap swapped (sym (c.shift_remove.ensures.entries ∙ nothing_taken c.args.id.now c.self.inside.names (sym c.in-None.ensures.value)))
