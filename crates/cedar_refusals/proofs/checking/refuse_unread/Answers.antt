-- The first error isn't want of memory, so that no session loads the text (Checked).
use Rattle.std.proofs.Common.{sym, subst}
use Rattle.cedar_language.specs.Uid.{Text}
use Rattle.cedar_parser.specs.Errors.{cause_of}
use Rattle.cedar_parser.specs.ErrorsLeft.{errors_of}
use Rattle.cedar_session.specs.Settings.{setting_with}
use Rattle.cedar_messages.specs.Faults.{TellsFault}
use Rattle.cedar_messages.specs.Telling.{TellsEach}
use Rattle.cedar_refusals.proofs.Checked.{unloaded}
use Rattle.cedar_refusals.proofs.checking.refuse_unread.Goals as goal

pub returns : goal.returns
returns g c =
    let by = setting_with g.F.ExtensionFunctionObject.answers c.args.extensions.now 256 in
    let text = c.args.text.now in
    let errors = c.args.errors.now in
    let P : Text → Type 0 = λ told. TellsEach (TellsFault c.args.name.now text) (errors_of errors) told in
    record {
      faults = record {
        unloaded = unloaded by text (cause_of errors.0.head) c.in_ok-told.ensures.0 c.requires.unread.refused;
        errors = errors;
        unread = c.requires.unread;
        fed = c.in_ok-told.ensures.0;
        lines = subst P (sym c.refused.ensures.text) c.in_ok-told.ensures.1;
      };
      status = c.refused.ensures.status;
    }
