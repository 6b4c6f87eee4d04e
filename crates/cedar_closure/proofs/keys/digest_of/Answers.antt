-- The two hashes, one above the other.
use Rattle.std.proofs.Common.{ap, ◌∙◌, ◌*◌, ◌+◌}
use Rattle.cedar_closure.specs.Keys.{salted, digest}
use Rattle.cedar_closure.proofs.keys.digest_of.Goals as goal

pub returns : goal.returns
unfolding digest
returns g c =
    ap (λ a. a * 18446744073709551616 + c.salted_hash-2.result) c.salted_hash.ensures
    ∙ ap (λ b. salted 1 (g.K.Hash.hash_input c.args.key.now) * 18446744073709551616 + b) c.salted_hash-2.ensures
