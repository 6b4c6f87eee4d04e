-- What the reader's lines say.
use Rattle.cedar_scripts.specs.declared.lines.Line.{Line}
use Rattle.cedar_scripts.specs.declared.lines.Line.TheVariants as line
use Rattle.cedar_scripts.specs.declared.lines.Part.{Part}
use Rattle.cedar_scripts.specs.declared.lines.Part.TheVariants as part
use Rattle.cedar_scripts.specs.ScriptLines.{Said, Nothing, Further, Title, Answer, Command}

abbrev pub said_of : Part → Said
said_of (part.Command verb body) = Command verb body.now
said_of (part.Further text) = Further text.now
said_of (part.Expects words) = Answer words.now

abbrev pub said_by : Line → Said
said_by line.Nothing = Nothing
said_by (line.Test name) = Title name.now
said_by (line.Part of) = said_of of
