-- The number is written, and then the key.
use Rattle.std.proofs.Common.{ap, ◌∙◌, fold}
use Rattle.std.specs.Hash.DefaultHasher as sip
use Rattle.std.specs.Hash as fed
use Rattle.cedar_closure.specs.Keys.{salted}
use Rattle.cedar_closure.proofs.keys.salted_hash.Goals as goal

pub returns : goal.returns
unfolding salted
returns g c =
    c.finish.ensures ∙ ap sip.finish (c.hash.ensures ∙ ap (λ s. fold sip.write s (g.K.Hash.hash_input c.args.key.now)) (c.write_u64.ensures ∙ ap (λ s. fold sip.write s (fed.u64 c.args.salt)) c.new-state.ensures))
