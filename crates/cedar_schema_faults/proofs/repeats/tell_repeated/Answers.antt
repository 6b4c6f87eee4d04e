-- The errors in their order.
use Rattle.std.proofs.Common.{◌≡◌, List, [], ◌∷◌, ◌++◌, refl, sym, ap, ◌∙◌}
use Rattle.std.specs.Prelude.{map, reverse}
use Rattle.std.proofs.lemmas.List.{map-append}
use Rattle.std.proofs.lemmas.Result.{on_ok_weaker}
use Rattle.cedar_schema_faults.specs.Views.{fault_view}
use Rattle.cedar_schema_faults.specs.declared.kinds.SchemaError.{SchemaError}
use Rattle.cedar_schema_faults.proofs.repeats.tell_repeated.Goals as goal

viewed : {K : Type 0} (old new errors : List SchemaError) (ps : List (K × SchemaError)) → new ≡ old ++ reverse errors → reverse errors ≡ map (λ p. p.1) ps
    → map fault_view new ≡ map fault_view old ++ map (λ p. fault_view p.1) ps
viewed old new errors ps put e = ap (map fault_view) (put ∙ ap (λ xs. old ++ xs) e) ∙ map-append fault_view old (map (λ p. p.1) ps)
    ∙ ap (λ fs. map fault_view old ++ fs) (mapped ps)
  where
    mapped : {K : Type 0} (qs : List (K × SchemaError)) → map fault_view (map (λ p. p.1) qs) ≡ map (λ p. fault_view p.1) qs
    mapped [] = refl
    mapped (q ∷ qs) = ap (λ fs. fault_view q.1 ∷ fs) (mapped qs)

pub returns : goal.returns
returns g c = on_ok_weaker c.tell_reversed.result
    (λ e. viewed c.args.told.now.items c.tell_reversed.new.told.items c.in_ok-errors.errors.items _ e c.in_ok-errors.ensures)
    c.tell_reversed.ensures
