-- The place is listed under the principal, and then under the resource (Growing).
use Rattle.std.proofs.Common.{refl}
use Rattle.std.proofs.lemmas.Result.{on_ok_weaker}
use Rattle.cedar_policy_set.proofs.Growing.{keeps, holds, listed_there, on_ok_always}
use Rattle.cedar_policy_set.proofs.scope_index.index.ScopeIndex.list_pair.Goals as goal

pub returns-in_err-list-clause-kept : goal.returns-in_err-list-clause-kept
returns-in_err-list-clause-kept c =
    keeps c.args.self.now _ refl (record {
      others = λ p h. h;
      principals = λ u p h. h;
      actions = λ u p h. h;
      resources = λ u p h. h;
      paired_principals = holds c.list.result c.args.self.now.paired_principals c.list.new.self c.args.principal.now c.args.place c.list.ensures.listed c.list.ensures.err;
      paired_resources = λ u p h. h;
    })

pub returns-clause-principal : goal.returns-clause-principal
returns-clause-principal c =
    on_ok_always c.list-2.result (listed_there c.args.self.now.paired_principals c.list.new.self c.args.principal.now c.args.place c.in_ok-list.ensures.listed)

pub returns-clause-resource : goal.returns-clause-resource
returns-clause-resource c =
    on_ok_weaker c.list-2.result (listed_there c.args.self.now.paired_resources c.list-2.new.self c.args.resource.now c.args.place) c.list-2.ensures.listed

pub returns-clause-kept : goal.returns-clause-kept
returns-clause-kept c =
    keeps c.args.self.now _ refl (record {
      others = λ p h. h;
      principals = λ u p h. h;
      actions = λ u p h. h;
      resources = λ u p h. h;
      paired_principals = holds c.list.result c.args.self.now.paired_principals c.list.new.self c.args.principal.now c.args.place c.list.ensures.listed c.list.ensures.err;
      paired_resources = holds c.list-2.result c.args.self.now.paired_resources c.list-2.new.self c.args.resource.now c.args.place c.list-2.ensures.listed c.list-2.ensures.err;
    })
