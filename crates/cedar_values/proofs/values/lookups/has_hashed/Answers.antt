-- Where no place has the hash of a literal, it is no member.
use Rattle.std.proofs.Common.{rules, true≢false, sym}
use Rattle.std.proofs.lemmas.List.Sorted.{answers_always}
use Rattle.cedar_values.specs.Kinds.{plain_of}
use Rattle.cedar_values.specs.declared.values.lookups.HashedPlace.{HashedPlace}
use Rattle.cedar_values.proofs.Lookups.{no_hash}
use Rattle.cedar_values.proofs.values.lookups.has_hashed.Goals as goal

pub returns-in-Err : goal.returns-in-Err
returns-in-Err c =
    let at = c.binary_search_by_key.ensures.position (λ (p : HashedPlace). p.hash) (answers_always _ _ _ (λ f a r g called. search rules)) in (
      λ h. absurd (true≢false (sym h)),
      λ m. absurd (no_hash c.args.places.now c.args.members.now (plain_of c.args.literal.now) c.in-Err.field-0 c.requires.places
          (rw (c.in-Err.is, c.hash_of_literal.ensures) at at) m),
    )
