-- A path is fed as its first attribute and then the list of the others, each attribute as its text.
use Rattle.std.proofs.Common.{ap, ◌∙◌}
use Rattle.std.specs.List.{fold}
use Rattle.std.proofs.lemmas.List.{length-map}
use Rattle.std.proofs.lemmas.List.Folds.{flat_map-map}
use Rattle.std.specs.Hash as fed
use Rattle.std.specs.Rc.{rc_str_bytes}
use Rattle.cedar_shapes.proofs.marks.feed_path.Goals as goal

pub returns : goal.returns
returns g c =
    let items = c.args.path.now.tail.items in
    rw (flat_map-map fed.str rc_str_bytes items, length-map items rc_str_bytes) (c.hash-2.ensures ∙ ap (λ s. fold g.H.Hasher.write s (fed.slice (λ x. fed.str (rc_str_bytes x)) items)) c.hash.ensures)
