-- Bangs are counted first; where there is none, no token is taken, and the count of dashes tells.
use Rattle.std.proofs.Common.{◌≡◌, subst}
use Rattle.std.specs.Prelude.{min}
use Rattle.cedar_grammar.specs.Token as token
use Rattle.cedar_grammar.specs.Steps.{signs_of}
use Rattle.cedar_loose.proofs.Signs.{over_bangs, bangs, over_dashes, dashes, unsigned, no_sign}
use Rattle.cedar_loose.proofs.cursor.Cursor.signs.Goals as goal

pub returns-then-bangs-gt4 : goal.returns-then-bangs-gt4
returns-then-bangs-gt4 c = λ inner. over_bangs inner c.args.self.now c.count-bangs.new.self c.count-bangs.result c.count-bangs.ensures.count c.count-bangs.ensures.after c.if-bangs-gt4.true

pub returns-then-bangs-gt0 : goal.returns-then-bangs-gt0
returns-then-bangs-gt0 c = λ inner. bangs inner c.args.self.now c.count-bangs.new.self c.count-bangs.result c.count-bangs.ensures.count c.count-bangs.ensures.after c.if-bangs-gt4.false c.if-bangs-gt0.true

pub returns-then-dashes-gt4 : goal.returns-then-dashes-gt4
returns-then-dashes-gt4 c = λ inner.
    let none = no_sign token.Bang c.args.self.now c.count-bangs.new.self c.count-bangs.result c.count-bangs.ensures.count c.count-bangs.ensures.after c.if-bangs-gt0.false in
    let k = subst (λ ts. c.count-dashes.result ≡ min (signs_of token.Minus ts).0 255) none.1 c.count-dashes.ensures.count in
    let s = subst (λ ts. c.count-dashes.new.self ≡ (signs_of token.Minus ts).1) none.1 c.count-dashes.ensures.after in
    over_dashes inner c.args.self.now c.count-dashes.new.self c.count-dashes.result none.0 k s c.if-dashes-gt4.true

pub returns-then-dashes-gt0 : goal.returns-then-dashes-gt0
returns-then-dashes-gt0 c = λ inner.
    let none = no_sign token.Bang c.args.self.now c.count-bangs.new.self c.count-bangs.result c.count-bangs.ensures.count c.count-bangs.ensures.after c.if-bangs-gt0.false in
    let k = subst (λ ts. c.count-dashes.result ≡ min (signs_of token.Minus ts).0 255) none.1 c.count-dashes.ensures.count in
    let s = subst (λ ts. c.count-dashes.new.self ≡ (signs_of token.Minus ts).1) none.1 c.count-dashes.ensures.after in
    dashes inner c.args.self.now c.count-dashes.new.self c.count-dashes.result none.0 k s c.if-dashes-gt4.false c.if-dashes-gt0.true

pub returns : goal.returns
returns c = λ inner.
    let none = no_sign token.Bang c.args.self.now c.count-bangs.new.self c.count-bangs.result c.count-bangs.ensures.count c.count-bangs.ensures.after c.if-bangs-gt0.false in
    let k = subst (λ ts. c.count-dashes.result ≡ min (signs_of token.Minus ts).0 255) none.1 c.count-dashes.ensures.count in
    let s = subst (λ ts. c.count-dashes.new.self ≡ (signs_of token.Minus ts).1) none.1 c.count-dashes.ensures.after in
    let last = no_sign token.Minus c.args.self.now c.count-dashes.new.self c.count-dashes.result k s c.if-dashes-gt0.false in
    unsigned inner c.args.self.now c.count-dashes.new.self c.count-dashes.result none.0 k c.if-dashes-gt0.false last.1
