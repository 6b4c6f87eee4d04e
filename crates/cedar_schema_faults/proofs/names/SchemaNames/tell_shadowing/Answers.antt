-- Told exactly where one of its name stands in no namespace.
use Rattle.std.proofs.Common.{◌++◌, ◌∷◌, [], length, sym, ap, ◌∙◌}
use Rattle.std.proofs.lemmas.Result.{on_ok_weaker}
use Rattle.cedar_schema_grammar.specs.Faults.{is_empty}
use Rattle.cedar_schema_syntax.specs.View.{name_view}
use Rattle.cedar_schema_faults.proofs.Declaring.{empty_is, outside, not_alone, alone}
use Rattle.cedar_schema_faults.proofs.names.SchemaNames.tell_shadowing.Goals as goal

pub returns-then-is_outside : goal.returns-then-is_outside
returns-then-is_outside c = outside c.args.self.now c.args.namespace.now (name_view c.args.own.now) c.args.told.now
    (ap is_empty (sym c.words.ensures) ∙ sym (empty_is c.words.result.now) ∙ sym c.is_empty-is_outside.ensures ∙ c.if-is_outside.true)

pub returns-then-not-is_declared : goal.returns-then-not-is_declared
returns-then-not-is_declared c = not_alone c.args.self.now c.args.namespace.now (name_view c.args.own.now) c.args.told.now c.in_ok-alone.alone
    c.in_ok-alone.ensures
    (sym c.declares-is_declared.ensures ∙ c.if-not-is_declared.true)

pub returns : goal.returns
returns c = on_ok_weaker c.tell.result
    (λ e. alone c.args.self.now c.args.namespace.now (name_view c.args.own.now) c.args.told.now c.tell.new.told c.in_ok-alone.alone c.in_ok-name.name
    (ap is_empty (sym c.words.ensures) ∙ sym (empty_is c.words.result.now) ∙ sym c.is_empty-is_outside.ensures ∙ c.if-is_outside.false) c.in_ok-alone.ensures
    (sym c.declares-is_declared.ensures ∙ c.if-not-is_declared.false) (c.in_ok-name.ensures
    ∙ ap (λ ns. ns ++ name_view c.args.own.now ∷ []) c.words-2.ensures) e)
    c.tell.ensures
