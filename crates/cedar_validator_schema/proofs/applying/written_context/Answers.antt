-- One entry less is left.
use Rattle.std.proofs.Common.{◌≡◌, ◌+◌, ◌<◌, ◌≤◌, ◌∷◌, length, drop, get_or, sym, ap, ◌∙◌, arith}
use Rattle.std.specs.Prelude.{map, option_map}
use Rattle.std.specs.List.{slice_get}
use Rattle.std.proofs.lemmas.List.{drop_more, drop_all}
use Rattle.cedar_schema_grammar.specs.Faults.{contexts_of}
use Rattle.cedar_schema_syntax.specs.View as syntax
use Rattle.cedar_validator_schema.proofs.Cases.{some_map}
use Rattle.cedar_validator_schema.proofs.Applied.{first_one, no_more}
use Rattle.cedar_validator_schema.proofs.applying.written_context.Goals as goal

pub returns-then-is_some : goal.returns-then-is_some
returns-then-is_some c =
    let es = c.args.entries.now in
    let i = c.loop-entry.entry-index in
    let low : c.loop-entry.entry-index < length c.args.entries.now = omega arith in
    let here : c.entry-item.result ≡ get_or c.args.entries.now c.loop-entry.entry-index c.entry-item.result = cc in
    let cut : drop i es ≡ c.entry-item.result ∷ drop (i + 1) es = drop_more es i c.entry-item.result low ∙ ap (λ x. x ∷ drop (i + 1) es) (sym here) in
    first_one (option_map (λ t. syntax.type_view t.now) c.context_in-written.result) (syntax.entry_view c.entry-item.result) (map syntax.entry_view
    (drop (i + 1) es))
    (map syntax.entry_view es) c.context_in-written.ensures (ap (λ xs. contexts_of (map syntax.entry_view xs)) (sym cut) ∙ c.loop-entry.invariant.rest)
    (some_map (λ t. syntax.type_view t.now) c.context_in-written.result ∙ sym c.is_some.ensures ∙ c.if-is_some.true)

pub loop-entry-preserved : goal.loop-entry-preserved
loop-entry-preserved c =
    let es = c.args.entries.now in
    let i = c.loop-entry.entry-index in
    let low : c.loop-entry.entry-index < length c.args.entries.now = omega arith in
    let here : c.entry-item.result ≡ get_or c.args.entries.now c.loop-entry.entry-index c.entry-item.result = cc in
    let cut : drop i es ≡ c.entry-item.result ∷ drop (i + 1) es = drop_more es i c.entry-item.result low ∙ ap (λ x. x ∷ drop (i + 1) es) (sym here) in
    record {
      rest = no_more (option_map (λ t. syntax.type_view t.now) c.context_in-written.result) (syntax.entry_view c.entry-item.result)
          (map syntax.entry_view (drop (i + 1) es)) (map syntax.entry_view es) c.context_in-written.ensures
          (ap (λ xs. contexts_of (map syntax.entry_view xs)) (sym cut) ∙ c.loop-entry.invariant.rest)
          (some_map (λ t. syntax.type_view t.now) c.context_in-written.result ∙ sym c.is_some.ensures ∙ c.if-is_some.false);
    }

pub returns : goal.returns
returns c =
    let past : length c.args.entries.now ≤ c.loop-entry.entry-index = omega arith in
    ap (λ xs. slice_get xs 0) (sym (ap (λ xs. contexts_of (map syntax.entry_view xs))
    (drop_all c.loop-entry.entry-index c.args.entries.now past)) ∙ c.loop-entry.invariant.rest)
