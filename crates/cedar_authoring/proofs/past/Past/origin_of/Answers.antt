-- What comes from one text, no command loaded.
use Rattle.std.proofs.Common.{◌≡◌, ◌∙◌, ap, false, is_some, sym, true}
use Rattle.cedar_authoring.proofs.past.Past.origin_of.Goals as goal

pub returns-in-Some-load_of : goal.returns-in-Some-load_of
returns-in-Some-load_of c = λ alone.
    let never : true ≡ false = sym (ap is_some c.in-Some-load_of.is) ∙ c.load_of.ensures alone in
    absurd (cc)
