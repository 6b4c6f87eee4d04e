-- Some faults are told (ReasonsTold).
use Rattle.std.proofs.Common.{◌≡◌, ◌==◌, ◌∙◌, false, length, ap, sym, subst, string_bytes}
use Rattle.cedar_language.specs.Uid.{Text}
use Rattle.cedar_messages.specs.Faults.{Tells}
use Rattle.cedar_messages.specs.Telling.{TellsEach}
use Rattle.cedar_messages.specs.declared.fault.Fault.{Fault}
use Rattle.cedar_replies.specs.Refusals.{refusal_of}
use Rattle.cedar_session.specs.Settings.{setting_with}
use Rattle.cedar_refusals.specs.RefusedBodies.{TellsBody}
use Rattle.cedar_refusals.proofs.ReasonsTold.{some_left, told_of_body}
use Rattle.cedar_refusals.proofs.giving.tell_refusal.Goals as goal

pub returns : goal.returns
returns g c =
    let by = setting_with g.F.ExtensionFunctionObject.answers c.args.extensions.now 256 in
    let name = c.args.command.source.name.now in
    let text = c.args.command.source.text.now in
    let r = refusal_of c.args.command.refusal in
    let v = c.in_ok-faults.faults in
    let many : (length v.items == 0) ≡ false = ap (λ n. n == 0) (sym v.ok.0) ∙ (sym c.is_empty.ensures ∙ c.if-is_empty.false) in
    let lines = subst (λ fs. TellsEach (Tells name) fs (string_bytes c.in_ok-told.told)) c.as_slice.ensures.value c.in_ok-told.ensures in
    let told = told_of_body by name text r v.items (string_bytes c.in_ok-told.told) (some_left v.items many) lines c.in_ok-faults.ensures in
    record {
      other = c.in_default.not-Memory;
      told = subst (TellsBody by name text r) (sym c.refused-2.ensures.text) told;
      status = c.refused-2.ensures.status;
    }
