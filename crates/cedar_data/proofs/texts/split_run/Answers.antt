-- A run ends where a text may be cut.
use Rattle.std.proofs.Common.{◌≡◌, ◌∙◌, sym, ap, subst, take, drop}
use Rattle.std.specs.Str.{IsCharBoundary}
use Rattle.cedar_data.specs.Classes.{test_of}
use Rattle.cedar_data.specs.Runs.{run_length}
use Rattle.cedar_data.proofs.Cuts.{run_boundary}
use Rattle.cedar_data.proofs.texts.split_run.Goals as goal

pub split_at-requires : goal.split_at-requires
split_at-requires c =
    let is : c.run_length.result ≡ run_length (test_of c.args.class) c.args.text.now = c.run_length.ensures ∙ ap (run_length (test_of c.args.class)) c.as_bytes.ensures.value in
    subst (IsCharBoundary c.args.text.now) (sym is) (run_boundary c.args.class c.args.text.now c.utf8.text)

pub returns-clause-front : goal.returns-clause-front
returns-clause-front c =
    let is : c.run_length.result ≡ run_length (test_of c.args.class) c.args.text.now = c.run_length.ensures ∙ ap (run_length (test_of c.args.class)) c.as_bytes.ensures.value in
    c.split_at.ensures.front ∙ ap (λ n. take n c.args.text.now) is

pub returns-clause-back : goal.returns-clause-back
returns-clause-back c =
    let is : c.run_length.result ≡ run_length (test_of c.args.class) c.args.text.now = c.run_length.ensures ∙ ap (run_length (test_of c.args.class)) c.as_bytes.ensures.value in
    c.split_at.ensures.back ∙ ap (λ n. drop n c.args.text.now) is
