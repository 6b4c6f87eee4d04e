-- The name that was given last is taken back.
use Rattle.std.proofs.Common.{rules, ◌≡◌, [], ◌∷◌, ◌++◌, ap, sym, ◌∙◌}
use Rattle.cedar_named_sessions.specs.NameLists.{swapped, without}
use Rattle.cedar_named_sessions.proofs.Swapping.{last_taken}
use Rattle.cedar_named_sessions.proofs.names.GivenNames.give.Goals as goal

pub returns-in-Err-clause-err : goal.returns-in-Err-clause-err
returns-in-Err-clause-err c =
    let is : c.push.new.self ≡ c.args.self.now ++ (c.args.id.now, c.args.name.now) ∷ [] = search rules in
    c.shift_remove.ensures.entries ∙ ap (without c.args.id.now) is ∙ last_taken c.args.id.now c.args.name.now c.args.self.now c.requires.unnamed

pub invariant_of-self-in-Err : goal.invariant_of-self-in-Err
invariant_of-self-in-Err c =
    let is : c.push.new.self ≡ c.args.self.now ++ (c.args.id.now, c.args.name.now) ∷ [] = search rules in
    let back = c.shift_remove.ensures.entries ∙ ap (without c.args.id.now) is ∙ last_taken c.args.id.now c.args.name.now c.args.self.now c.requires.unnamed in
    c.in-Err.ensures.err ∙ c.self.invariant ∙ ap swapped (c.self.view_is ∙ sym back)
