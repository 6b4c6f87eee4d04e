-- Data that are read straight are a body, and call what stands in the table. A text is one body at most, so the parser's error tells
-- its refusal; where `unknown` is lacking, none is called.
use Rattle.std.proofs.Common.{subst, sym, refl, ◌≡◌, false, Ok, Err}
use Rattle.std.specs.Prelude.{IfSome}
use Rattle.cedar_data.specs.Data.{IsDataText}
use Rattle.cedar_grammar.specs.UnknownCalls.{holds_call}
use Rattle.cedar_grammar.specs.Functions.{body_names}
use Rattle.cedar_restricted.specs.Views.{restricted_tree}
use Rattle.cedar_session.specs.Settings.{setting_with}
use Rattle.cedar_parser.specs.Settings.{functions_of}
use Rattle.cedar_parser.specs.Strict.{LacksUnknown, ReadsRestricted}
use Rattle.cedar_session.specs.TextReading.{ReadsBody}
use Rattle.cedar_session.proofs.Bodies.{body_refused}
use Rattle.cedar_session.proofs.Callers.{lacks_unknown}
use Rattle.cedar_session.proofs.Unknowns.{calls_apart}
use Rattle.cedar_session.proofs.reading.read_body.Goals as goal

pub returns-in-Some-clause-body : goal.returns-in-Some-clause-body
returns-in-Some-clause-body g c =
    let functions = functions_of g.F.ExtensionFunctionObject.answers c.args.extensions.now in
    let Reads = IsDataText (body_names functions) c.args.depth c.args.text.now in
    let body = subst (λ o. IfSome o Reads) c.in-Some.is (c.in_ok-found.ensures.data functions c.in_ok-make_for_bodies.ensures.called) in
    (restricted_tree c.in-Some.body, body.reads, body.low, refl)

pub returns-in-Some-clause-calls : goal.returns-in-Some-clause-calls
returns-in-Some-clause-calls g c = λ lacks.
    let functions = functions_of g.F.ExtensionFunctionObject.answers c.args.extensions.now in
    let Reads = IsDataText (body_names functions) c.args.depth c.args.text.now in
    let body = subst (λ o. IfSome o Reads) c.in-Some.is (c.in_ok-found.ensures.data functions c.in_ok-make_for_bodies.ensures.called) in
    calls_apart (body_names functions) (lacks_unknown c.names_are_found.ensures functions lacks) (restricted_tree c.in-Some.body)
    (c.texts_call_the_table.ensures.expressions (body_names functions) c.args.depth body.reads.0 (restricted_tree c.in-Some.body) body.reads.2)

pub returns-in-Ok-clause-body : goal.returns-in-Ok-clause-body
returns-in-Ok-clause-body g c =
    let functions = functions_of g.F.ExtensionFunctionObject.answers c.args.extensions.now in
    let same = (c.in_ok-found.ensures.called functions c.in_ok-make_for_bodies.ensures.called).bodies c.for_bodies.result.now c.for_bodies.ensures in
    let reads = subst (λ names. ReadsRestricted names c.args.depth c.args.text.now (Ok c.in-Ok.body)) same c.in-Ok.ensures.body in
    reads

pub returns-in-Ok-clause-calls : goal.returns-in-Ok-clause-calls
returns-in-Ok-clause-calls g c = λ lacks.
    let functions = functions_of g.F.ExtensionFunctionObject.answers c.args.extensions.now in
    let same = (c.in_ok-found.ensures.called functions c.in_ok-make_for_bodies.ensures.called).bodies c.for_bodies.result.now c.for_bodies.ensures in
    subst (λ names. LacksUnknown names → holds_call (restricted_tree c.in-Ok.body) ≡ false) same c.in-Ok.ensures.calls (lacks_unknown c.names_are_found.ensures (functions_of g.F.ExtensionFunctionObject.answers c.args.extensions.now) lacks)

pub returns-in-Err-clause-body : goal.returns-in-Err-clause-body
returns-in-Err-clause-body g c =
    let functions = functions_of g.F.ExtensionFunctionObject.answers c.args.extensions.now in
    let same = (c.in_ok-found.ensures.called functions c.in_ok-make_for_bodies.ensures.called).bodies c.for_bodies.result.now c.for_bodies.ensures in
    let reads = subst (λ names. ReadsRestricted names c.args.depth c.args.text.now (Err c.in-Err.error)) same c.in-Err.ensures.body in
    subst (λ r. ReadsBody (setting_with g.F.ExtensionFunctionObject.answers c.args.extensions.now c.args.depth) c.args.text.now (Err r)) (sym c.of_body.ensures)
    (body_refused (setting_with g.F.ExtensionFunctionObject.answers c.args.extensions.now c.args.depth) c.args.text.now (c.texts_are_one.ensures.bodies (setting_with g.F.ExtensionFunctionObject.answers c.args.extensions.now c.args.depth)) c.in-Err.error reads)

pub returns-in_err-found-clause-called : goal.returns-in_err-found-clause-called
returns-in_err-found-clause-called g c = c.in_err-found.ensures.called (functions_of g.F.ExtensionFunctionObject.answers c.args.extensions.now) c.in_ok-make_for_bodies.ensures.called

pub returns-in-Some-clause-called : goal.returns-in-Some-clause-called
returns-in-Some-clause-called g c = c.in_ok-found.ensures.called (functions_of g.F.ExtensionFunctionObject.answers c.args.extensions.now) c.in_ok-make_for_bodies.ensures.called

pub returns-in-Ok-clause-called : goal.returns-in-Ok-clause-called
returns-in-Ok-clause-called g c = c.in_ok-found.ensures.called (functions_of g.F.ExtensionFunctionObject.answers c.args.extensions.now) c.in_ok-make_for_bodies.ensures.called

pub returns-in-Err-clause-called : goal.returns-in-Err-clause-called
returns-in-Err-clause-called g c = c.in_ok-found.ensures.called (functions_of g.F.ExtensionFunctionObject.answers c.args.extensions.now) c.in_ok-make_for_bodies.ensures.called
