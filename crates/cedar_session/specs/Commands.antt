-- What a command says.
use Rattle.cedar_language.specs.Uid as uid
use Rattle.cedar_frames.specs.declared.verb.Verb.{Verb}
use Rattle.cedar_frames.specs.declared.verb.Verb.TheVariants as verb
use Rattle.cedar_session.specs.declared.command.Command.{Command}
use Rattle.cedar_session.specs.declared.command.Command.TheVariants.{Load, Link, Unlink, RemoveStatic, RemoveTemplate, Add, Put, Remove, Ask, Tell}

abbrev pub command_verb : Command → Verb
command_verb (Load text) = verb.Load
command_verb (Link text) = verb.Link
command_verb (Unlink text) = verb.Unlink
command_verb (RemoveStatic text) = verb.RemoveStatic
command_verb (RemoveTemplate text) = verb.RemoveTemplate
command_verb (Add text) = verb.Add
command_verb (Put text) = verb.Put
command_verb (Remove text) = verb.Remove
command_verb (Ask text) = verb.Ask
command_verb (Tell text) = verb.Tell

abbrev pub command_text : Command → uid.Text
command_text (Load text) = text.now
command_text (Link text) = text.now
command_text (Unlink text) = text.now
command_text (RemoveStatic text) = text.now
command_text (RemoveTemplate text) = text.now
command_text (Add text) = text.now
command_text (Put text) = text.now
command_text (Remove text) = text.now
command_text (Ask text) = text.now
command_text (Tell text) = text.now
