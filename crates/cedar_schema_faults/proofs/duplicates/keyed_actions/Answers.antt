-- One more has its key.
use Rattle.std.proofs.Common.{◌≡◌, ◌<◌, ◌≤◌, length, get_or, arith, sym, ap, subst}
use Rattle.std.specs.Prelude.{map}
use Rattle.std.proofs.lemmas.List.{take_all}
use Rattle.cedar_schema_grammar.specs.Faults as grammar
use Rattle.cedar_schema_grammar.specs.Declared.{action_uid}
use Rattle.cedar_schema_resolution.specs.Declarations.{action_view}
use Rattle.cedar_schema_faults.specs.Repeats.{HaveKeys}
use Rattle.cedar_schema_faults.proofs.Keying.{one_more_keyed}
use Rattle.cedar_schema_faults.proofs.duplicates.keyed_actions.Goals as goal

pub loop-action-preserved : goal.loop-action-preserved
loop-action-preserved c =
    let low : c.loop-action.action-index < length c.args.actions.now = omega arith in
    let here : c.action-item.result ≡ get_or c.args.actions.now c.loop-action.action-index c.action-item.result = cc in
    record {
      keys = one_more_keyed grammar.DuplicateAction action_view action_uid c.args.actions.now c.loop-action.action-index c.action-item.result
          c.loop-action.keyed.items
          c.key_action.new.keyed.items low here c.loop-action.invariant.keys c.in_ok-key_action.ensures;
    }

pub returns : goal.returns
returns c =
    let past : length c.args.actions.now ≤ c.loop-action.action-index = omega arith in
    subst (λ xs. HaveKeys grammar.DuplicateAction (map action_uid (map action_view xs)) c.loop-action.keyed.items) (take_all c.loop-action.action-index
    c.args.actions.now past)
    c.loop-action.invariant.keys
