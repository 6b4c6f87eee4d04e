-- One more key, and its number at its digest.
use Rattle.std.proofs.Common.{◌≡◌, length, slice_get, ap, ◌∙◌}
use Rattle.cedar_closure.specs.Keys.{digest}
use Rattle.cedar_closure.proofs.Numbered.{slice_get-behind}
use Rattle.cedar_closure.proofs.KeysFound.{found_added, held_then}
use Rattle.cedar_closure.proofs.keys.FoundKeys.add.Goals as goal

pub returns-clause-found : goal.returns-clause-found
returns-clause-found g c =
    let keys = c.args.self.now.keys in
    let old = c.args.self.now.numbers in
    let count : c.len-number.result ≡ length c.args.self.now.keys.items = c.len-number.ensures ∙ keys.ok.0 in
    found_added g.met.K.Eq.laws (λ x. digest (g.K.Hash.hash_input x)) (λ x y e. ap digest (g.met.K.Hash.respects_eq x y e)) keys.items c.push.new.self.items old c.add_number.new.numbers c.args.key c.args.at
    c.requires.found c.requires.at c.requires.absent (λ d i. c.in_ok-add_number.ensures d i ∙ ap (λ n. held_then old c.args.at n d i) count) c.in_ok-push.ensures.items

pub returns-clause-stands : goal.returns-clause-stands
returns-clause-stands g c =
    let keys = c.args.self.now.keys in
    let count : c.len-number.result ≡ length c.args.self.now.keys.items = c.len-number.ensures ∙ keys.ok.0 in
    ap (λ n. slice_get c.push.new.self.items n) count ∙ ap (λ xs. slice_get xs (length keys.items)) c.in_ok-push.ensures.items ∙ slice_get-behind keys.items c.args.key
