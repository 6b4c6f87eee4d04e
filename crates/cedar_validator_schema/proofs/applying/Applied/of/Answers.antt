-- One entry more.
use Rattle.std.proofs.Common.{◌≡◌, ◌<◌, ◌≤◌, length, take, get_or, sym, ap, ◌∙◌, subst, arith}
use Rattle.std.specs.Prelude.{map}
use Rattle.std.proofs.lemmas.List.{take_all}
use Rattle.cedar_schema_grammar.specs.Faults.{principals_of, resources_of}
use Rattle.cedar_schema_syntax.specs.View.{entry_view}
use Rattle.cedar_validator_schema.specs.Applying.{types_named}
use Rattle.cedar_validator_schema.proofs.Cases.{higher}
use Rattle.cedar_validator_schema.proofs.Applied.{principals_on, resources_on, one_applied}
use Rattle.cedar_validator_schema.proofs.applying.Applied.of.Goals as goal

pub loop-entry-preserved : goal.loop-entry-preserved
loop-entry-preserved c =
    let low : c.loop-entry.entry-index < length c.args.entries.now = omega arith in
    let here : c.entry-item.result ≡ get_or c.args.entries.now c.loop-entry.entry-index c.entry-item.result = cc in
    let cut = sym (higher entry_view c.args.entries.now c.loop-entry.entry-index c.entry-item.result low here) in
    let before = map entry_view (take c.loop-entry.entry-index c.args.entries.now) in
    let names = c.args.names.now in
    let namespace = c.args.namespace.now in
    record {
      principals = one_applied principals_of principals_on names namespace before (entry_view c.entry-item.result)
          c.loop-entry.applied.principals.items c.add.new.self.principals.items c.loop-entry.invariant.principals c.in_ok-add.ensures.principals
          ∙ ap (λ es. types_named names namespace (principals_of es)) cut;
      resources = one_applied resources_of resources_on names namespace before (entry_view c.entry-item.result)
          c.loop-entry.applied.resources.items c.add.new.self.resources.items c.loop-entry.invariant.resources c.in_ok-add.ensures.resources
          ∙ ap (λ es. types_named names namespace (resources_of es)) cut;
    }

pub returns : goal.returns
returns c =
    let past : length c.args.entries.now ≤ c.loop-entry.entry-index = omega arith in
    let all = take_all c.loop-entry.entry-index c.args.entries.now past in
    record {
      principals = subst (λ es. c.loop-entry.applied.principals.items
          ≡ types_named c.args.names.now c.args.namespace.now (principals_of (map entry_view es))) all
          c.loop-entry.invariant.principals;
      resources = subst (λ es. c.loop-entry.applied.resources.items ≡ types_named c.args.names.now c.args.namespace.now (resources_of (map entry_view es))) all
          c.loop-entry.invariant.resources;
    }
