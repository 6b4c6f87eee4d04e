-- Where no bracket opens, a primary is read as a literal, a name or a slot, by the token that is next.
use Rattle.std.proofs.Common.{Ok, sym, ap, ◌∙◌}
use Rattle.std.proofs.lemmas.Result.{err_from_is_err_and}
use Rattle.cedar_grammar.specs.Loose as loose
use Rattle.cedar_grammar.specs.LooseReading.{mapped, literal_of, named_of, primary_of}
use Rattle.cedar_cst.specs.View.{shown_primary}
use Rattle.cedar_loose.specs.Steps.{slot_read}
use Rattle.cedar_loose.proofs.Loops.{mapped_fails}
use Rattle.cedar_loose.proofs.Cases.{fails_as, gives_as, primary_literal, primary_name, primary_slot}
use Rattle.cedar_loose.proofs.cursor.Cursor.leaf.Goals as goal

pub returns-in_err-literal : goal.returns-in_err-literal
returns-in_err-literal c = λ inner e f g.
    let p = err_from_is_err_and c.from_residual.result c.from_residual.ensures.1 in
    rw (p.1, p.2) (fails_as c.in_err-literal.field-0.0 (primary_of inner c.args.self.now) (mapped loose.literal (literal_of c.args.self.now)) (primary_literal inner c.args.self.now c.if-begins_literal.ensures) (mapped_fails c.in_err-literal.field-0.0 (literal_of c.args.self.now) loose.literal c.in_err-literal.ensures))

pub returns-in_ok-literal_primary : goal.returns-in_ok-literal_primary
returns-in_ok-literal_primary c = λ inner e f g.
    primary_literal inner c.args.self.now c.if-begins_literal.ensures ∙ (ap (mapped loose.literal) c.in_ok-literal.ensures ∙ ap (λ o. Ok (o, c.literal.new.self)) (sym c.in_ok-literal_primary.ensures))

pub returns-then-begins_name : goal.returns-then-begins_name
returns-then-begins_name c = λ inner e f g. gives_as (λ b. shown_primary b.value) c.named.result c.named.new.self (primary_of inner c.args.self.now) (named_of c.args.self.now) (primary_name inner c.args.self.now c.if-begins_name.ensures) c.named.ensures

pub returns-in_err-slot : goal.returns-in_err-slot
returns-in_err-slot c = λ inner e f g.
    let p = err_from_is_err_and c.from_residual-in_err-slot.result c.from_residual-in_err-slot.ensures.1 in
    rw (p.1, p.2) (fails_as c.in_err-slot.field-0.0 (primary_of inner c.args.self.now) (mapped loose.slot (slot_read c.args.self.now)) (primary_slot inner c.args.self.now c.if-begins_literal.ensures c.if-begins_name.ensures e f g) (mapped_fails c.in_err-slot.field-0.0 (slot_read c.args.self.now) loose.slot c.in_err-slot.ensures))

pub returns-in_ok-slot_primary : goal.returns-in_ok-slot_primary
returns-in_ok-slot_primary c = λ inner e f g.
    primary_slot inner c.args.self.now c.if-begins_literal.ensures c.if-begins_name.ensures e f g ∙ (ap (mapped loose.slot) c.in_ok-slot.ensures ∙ ap (λ o. Ok (o, c.slot.new.self)) (sym c.in_ok-slot_primary.ensures))
