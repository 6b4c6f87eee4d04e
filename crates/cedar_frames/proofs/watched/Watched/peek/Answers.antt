-- As read does, of bytes that stay.
use Rattle.std.proofs.Common.{[], sym, subst}
use Rattle.std.specs.Prelude.{OnErr}
use Rattle.std.specs.Io.KnownBytes.{Consumes}
use Rattle.cedar_frames.specs.Watching.{watched_inner}
use Rattle.cedar_frames.proofs.Ahead.{failed_look}
use Rattle.cedar_frames.proofs.watched.Watched.peek.Goals as goal

pub returns-clause-err : goal.returns-clause-err
returns-clause-err g c =
    subst (λ inner. OnErr c.copy_ahead-outcome.result (Consumes (g.R.Read.remaining (watched_inner c.args.self.now)) (g.R.Read.remaining inner) [])) (sym c.note.ensures.inner)
    (failed_look _ _ _ c.copy_ahead-outcome.ensures.err)
