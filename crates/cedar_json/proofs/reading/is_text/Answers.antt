use Rattle.cedar_json.proofs.reading.is_text.Goals as goal

pub returns : goal.returns
returns c = c.utf8.text
