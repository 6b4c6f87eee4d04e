-- Where no member is left the places are those of all, and sorting keeps them.
use Rattle.std.proofs.Common.{◌≡◌, ◌≤◌, ◌∙◌, ◌++◌, length, append-nil, sym, ap, arith, rules}
use Rattle.std.proofs.Math.ListN.{drop_of_length-le}
use Rattle.std.proofs.lemmas.List.Sorted.{answers_always}
use Rattle.cedar_values.specs.Lookups.{places_from}
use Rattle.cedar_values.specs.declared.values.lookups.HashedPlace.{HashedPlace}
use Rattle.cedar_values.proofs.values.lookups.places_of.Goals as goal

pub returns : goal.returns
returns c =
    let ps = c.loop-member.places.items in
    let past : length c.args.members.now ≤ c.loop-member.member-index = omega arith in
    let none = ap (λ vs. ps ++ places_from (length ps) vs) (drop_of_length-le c.args.members.now past) in
    let all : ps ≡ places_from 0 c.args.members.now = sym (append-nil ps) ∙ sym none ∙ c.loop-member.invariant in
    record {
      each = rw all at c.sort_unstable_by_key.ensures.permutation;
      rising = c.sort_unstable_by_key.ensures.sorted (λ (p : HashedPlace). p.hash) (answers_always _ _ _ (λ f a r g called. search rules));
    }
