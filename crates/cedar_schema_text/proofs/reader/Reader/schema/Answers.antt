-- The blocks so far and those up to the end are all.
use Rattle.std.proofs.Common.{map, arith}
use Rattle.std.proofs.lemmas.Result.{err_from_is_err_and}
use Rattle.std.proofs.lemmas.List.{map_push}
use Rattle.cedar_schema_grammar.specs.Reading.{schema_at}
use Rattle.cedar_schema_syntax.specs.View.{namespace_view}
use Rattle.cedar_schema_text.specs.Gives.{left, bound}
use Rattle.cedar_schema_text.proofs.Positions.{left_bound, left_after, fewer_after}
use Rattle.cedar_schema_text.proofs.BlockLoops.{blocks_start, blocks_done, blocks_fail, blocks_more, is_more_end, is_no_more_end}
use Rattle.cedar_schema_text.proofs.reader.Reader.schema.Goals as goal

pub all-init : goal.all-init
all-init c = rw c.new-namespaces.ensures.items (blocks_start (bound c.args.self.now) (bound c.args.self.now) (left c.args.self.now 0) (left_bound c.args.self.now 0))

pub returns-in_err-namespace : goal.returns-in_err-namespace
returns-in_err-namespace c =
    let p = err_from_is_err_and c.from_residual.result c.from_residual.ensures.1 in
    rw (p.1, p.2)
    (blocks_fail (bound c.args.self.now) (map namespace_view c.all.namespaces.items) (left c.args.self.now c.all.at)
    (schema_at (bound c.args.self.now) (bound c.args.self.now) (left c.args.self.now 0)) (is_more_end (left c.args.self.now c.all.at) c.all-test.ensures)
    c.in_err-namespace.field-0.0 c.all.invariant c.in_err-namespace.ensures.gives)

pub all-preserved : goal.all-preserved
all-preserved c =
    rw (c.in_ok-push.ensures.items, map_push)
    (blocks_more (bound c.args.self.now) (map namespace_view c.all.namespaces.items) (left c.args.self.now c.all.at)
    (schema_at (bound c.args.self.now) (bound c.args.self.now) (left c.args.self.now 0)) (is_more_end (left c.args.self.now c.all.at) c.all-test.ensures)
    (namespace_view c.in_ok-namespace.namespace) (left c.args.self.now c.block.new.at) c.in_ok-namespace.ensures.gives
    (left_after c.args.self.now c.all.at c.all.at c.block.new.at (omega arith) c.in_ok-namespace.ensures.advances)
    c.all.invariant)

pub all-smaller : goal.all-smaller
all-smaller c = fewer_after c.args.self.now c.all.at c.all.at c.block.new.at (omega arith) c.in_ok-namespace.ensures.advances

pub returns : goal.returns
returns c =
    blocks_done (bound c.args.self.now) (map namespace_view c.all.namespaces.items) (left c.args.self.now c.all.at)
    (schema_at (bound c.args.self.now) (bound c.args.self.now) (left c.args.self.now 0)) c.all.invariant (is_no_more_end (left c.args.self.now c.all.at) c.all-test.ensures)
