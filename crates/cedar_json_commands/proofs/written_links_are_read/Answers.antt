-- By the template, the id and the slots that stand.
use Rattle.cedar_world.specs.Bodies.{link_body}
use Rattle.cedar_json_commands.specs.Links.{link_in}
use Rattle.cedar_json_commands.specs.LinksWritten.{link_written}
use Rattle.cedar_json_commands.proofs.LinkTexts.{link_text}
use Rattle.cedar_json_commands.proofs.Saying.{written_said}
use Rattle.cedar_json_commands.proofs.written_links_are_read.Goals as goal

pub returns : goal.returns
returns c = λ json text j link d a e u is. written_said link_in link_body link_written link_text json text j link d a e u is
