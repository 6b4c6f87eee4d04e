-- One key more is looked at.
use Rattle.std.proofs.Common.{◌≡◌, [], arith}
use Rattle.cedar_schema_faults.proofs.Repeating.{before_all, one_before, all_are}
use Rattle.cedar_schema_faults.proofs.repeats.repeated_errors.Goals as goal

pub loop-key-init : goal.loop-key-init
loop-key-init g c = record { under = before_all g.K.Ord.cmp c.args.keyed.items c.no_keys-seen.result c.new-errors.result.items c.no_keys-seen.ensures (cc) }

pub loop-key-preserved : goal.loop-key-preserved
loop-key-preserved g c = record {
  under = one_before g.K.Ord.cmp c.args.keyed.items c.loop-key.left.items c.pop.new.self.items c.loop-key.seen c.add_key.new.seen c.loop-key.errors.items
      c.keep_if.new.errors.items c.in-Some.key c.in-Some.error c.in_ok-is_repeated.is_repeated c.in-Some.ensures.items c.in_ok-is_repeated.ensures.was
      c.in_ok-is_repeated.ensures.added c.in_ok-keep_if.ensures c.loop-key.invariant.under;
}
