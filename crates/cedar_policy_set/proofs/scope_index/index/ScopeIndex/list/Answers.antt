-- One more position is listed under the entity of the key, or among the others (Growing).
use Rattle.std.proofs.Common.{refl, ap, subst, ◌∙◌}
use Rattle.std.proofs.lemmas.Result.{on_ok_weaker}
use Rattle.cedar_policy_set.specs.ScopeFinding.{is_listed, by_nothing, by_principal, by_action, by_resource, by_pair}
use Rattle.cedar_policy_set.specs.ScopeKeys.{IsKey}
use Rattle.cedar_policy_set.proofs.Growing.{keeps, holds, on_ok_both, listed_there, last_listed, still}
use Rattle.cedar_policy_set.proofs.scope_index.index.ScopeIndex.list.Goals as goal

pub returns-in-Principal-clause-found : goal.returns-in-Principal-clause-found
returns-in-Principal-clause-found c =
    on_ok_weaker c.list.result
    (λ listed b s key. by_principal c.in-Principal.uid.now (subst (IsKey b s) c.in-Principal.is key) (listed_there c.args.self.now.principals c.list.new.self c.in-Principal.uid.now c.args.place listed))
    c.list.ensures.listed

pub returns-in-Principal-clause-kept : goal.returns-in-Principal-clause-kept
returns-in-Principal-clause-kept c =
    keeps c.args.self.now _ refl (record {
      others = λ p h. h;
      principals = holds c.list.result c.args.self.now.principals c.list.new.self c.in-Principal.uid.now c.args.place c.list.ensures.listed c.list.ensures.err;
      actions = λ u p h. h;
      resources = λ u p h. h;
      paired_principals = λ u p h. h;
      paired_resources = λ u p h. h;
    })

pub returns-in-Action-clause-found : goal.returns-in-Action-clause-found
returns-in-Action-clause-found c =
    on_ok_weaker c.list-in-Action.result
    (λ listed b s key.
    let named = subst (IsKey b s) c.in-Action.is key in
    by_action c.in-Action.uid.now named.0 named.1 (listed_there c.args.self.now.actions c.list-in-Action.new.self c.in-Action.uid.now c.args.place listed))
    c.list-in-Action.ensures.listed

pub returns-in-Action-clause-kept : goal.returns-in-Action-clause-kept
returns-in-Action-clause-kept c =
    keeps c.args.self.now _ refl (record {
      others = λ p h. h;
      principals = λ u p h. h;
      actions = holds c.list-in-Action.result c.args.self.now.actions c.list-in-Action.new.self c.in-Action.uid.now c.args.place c.list-in-Action.ensures.listed c.list-in-Action.ensures.err;
      resources = λ u p h. h;
      paired_principals = λ u p h. h;
      paired_resources = λ u p h. h;
    })

pub returns-in-Resource-clause-found : goal.returns-in-Resource-clause-found
returns-in-Resource-clause-found c =
    on_ok_weaker c.list-in-Resource.result
    (λ listed b s key.
    let named = subst (IsKey b s) c.in-Resource.is key in
    by_resource c.in-Resource.uid.now named.0 named.1 (listed_there c.args.self.now.resources c.list-in-Resource.new.self c.in-Resource.uid.now c.args.place listed))
    c.list-in-Resource.ensures.listed

pub returns-in-Resource-clause-kept : goal.returns-in-Resource-clause-kept
returns-in-Resource-clause-kept c =
    keeps c.args.self.now _ refl (record {
      others = λ p h. h;
      principals = λ u p h. h;
      actions = λ u p h. h;
      resources = holds c.list-in-Resource.result c.args.self.now.resources c.list-in-Resource.new.self c.in-Resource.uid.now c.args.place c.list-in-Resource.ensures.listed c.list-in-Resource.ensures.err;
      paired_principals = λ u p h. h;
      paired_resources = λ u p h. h;
    })

pub returns-in-Pair-clause-found : goal.returns-in-Pair-clause-found
returns-in-Pair-clause-found c =
    on_ok_both c.list_pair.result
    (λ principal resource b s key.
    let named = subst (IsKey b s) c.in-Pair.is key in
    by_pair c.in-Pair.principal.now c.in-Pair.resource.now named.0 named.1 named.2 principal resource)
    c.list_pair.ensures.principal c.list_pair.ensures.resource

pub returns-in-Nothing-clause-found : goal.returns-in-Nothing-clause-found
returns-in-Nothing-clause-found c =
    on_ok_weaker c.list_last.result
    (λ listed b s key. by_nothing (ap (λ ps. is_listed ps c.args.place) listed ∙ last_listed c.args.self.now.others.items c.args.place))
    c.list_last.ensures.listed

pub returns-in-Nothing-clause-kept : goal.returns-in-Nothing-clause-kept
returns-in-Nothing-clause-kept c =
    keeps c.args.self.now _ refl (record {
      others = still c.list_last.result c.args.self.now.others.items c.list_last.new.positions.items c.args.place c.list_last.ensures.listed c.list_last.ensures.err;
      principals = λ u p h. h;
      actions = λ u p h. h;
      resources = λ u p h. h;
      paired_principals = λ u p h. h;
      paired_resources = λ u p h. h;
    })
