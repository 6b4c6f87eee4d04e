-- The parts are pushed in the order in which they are written.
use Rattle.std.proofs.Common.{rules, ◌≡◌, ◌∷◌, [], map}
use Rattle.std.proofs.lemmas.Result.{IfOk-weaker}
use Rattle.cedar_language.specs.Tree.{Boolean, Entity, Lit}
use Rattle.cedar_trees.specs.Bare.{bare}
use Rattle.cedar_restricted.specs.Constructing.{long_tree}
use Rattle.cedar_restricted.proofs.Constructions.{entity_of, call_written}
use Rattle.cedar_restricted.proofs.constructing.construction.Goals as goal

pub returns : goal.returns
returns c =
    let first : bare c.val.result ≡ Lit (Entity (entity_of c.args.value.now.type_name)) = search rules in
    let second : bare c.val-2.result ≡ Lit (Boolean c.args.value.now.ordered) = search rules in
    let pushed : c.push-2.new.self.items ≡ c.val.result ∷ c.val-2.result ∷ [] = search rules in
    let parts : map bare c.push_longs.new.exprs.items ≡ Lit (Entity (entity_of c.args.value.now.type_name)) ∷ Lit (Boolean c.args.value.now.ordered) ∷ map long_tree c.args.value.now.key = search (rules, first, second, pushed) in
    IfOk-weaker c.call_extension_fn.result _ _ (λ expr is. call_written c.args.value.now _ _ _ is c.in_ok-constructor.ensures parts) c.call_extension_fn.ensures
