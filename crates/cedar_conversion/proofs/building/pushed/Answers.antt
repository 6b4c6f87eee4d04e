-- A list with one more at the end is built where all of it is; what refuses a part refuses the list.
use Rattle.std.proofs.Common.{◌≡◌, Some, Ok, [], ◌∷◌, ◌++◌, sym, ap, ◌∙◌, map, rules, inl, inr}
use Rattle.std.proofs.lemmas.List.{map-append}
use Rattle.cedar_conversion.specs.Building.{IsBuilt, IsRefused, AreBuilt, AreRefused}
use Rattle.cedar_conversion.proofs.Converting.{passed, flat_err, flat_ok, both_some}
use Rattle.cedar_conversion.proofs.Made.{built_last}
use Rattle.cedar_conversion.proofs.Refusing.{refused_list, refused_early, refused_last}
use Rattle.cedar_faults.specs.declared.errors.ConversionError.TheVariants as error
use Rattle.cedar_faults.proofs.Telling.{handed_on}
use Rattle.cedar_conversion.proofs.Told.{by_both}
use Rattle.cedar_conversion.proofs.building.pushed.Goals as goal

pub returns-in_err-made-clause-trees : goal.returns-in_err-made-clause-trees
returns-in_err-made-clause-trees g c v w hv hw =
    let o = g.B.ExprBuilder.operations in
    let m = g.B.ExprBuilder.meaning in
    let refusal = g.B.ExprBuilder.refusal in
    passed refusal (AreBuilt o m) (AreRefused o) c.from_residual.result c.in_err-made.field-0.0 _ c.from_residual.ensures
    (flat_err refusal (AreBuilt o m) (AreRefused o) (IsBuilt o m) (IsRefused o) (AreRefused o) (λ xs x. Some (xs ++ x ∷ []))
    ((λ xs x zs e h. refused_list o (xs ++ x ∷ []) zs e (refused_early o xs (x ∷ []) h)), (λ xs x zs e h. refused_list o (xs ++ x ∷ []) zs e (refused_last o xs x h)))
    c.args.made c.args.next _ v w c.in_err-made.ensures hv hw)

pub returns-clause-trees : goal.returns-clause-trees
returns-clause-trees g c v w hv hw =
    let o = g.B.ExprBuilder.operations in
    let m = g.B.ExprBuilder.meaning in
    let refusal = g.B.ExprBuilder.refusal in
    let h = flat_ok refusal (AreBuilt o m) (AreRefused o) (IsBuilt o m) (IsRefused o) c.args.made c.args.next (c.in_ok-made.made, c.in_ok-made.next) v w c.in_ok-made.ensures hv hw in
    let more : c.push.new.self.items ≡ c.in_ok-made.made.items ++ c.in_ok-made.next ∷ [] = search rules in
    record {
      value = h.0.value ++ h.1.value ∷ [];
      is = both_some v w h.0.value h.1.value (λ xs x. Some (xs ++ x ∷ [])) h.0.is h.1.is;
      stands = built_last o h.0.value h.1.value _ _ h.0.stands h.1.stands ∙ ap Ok (sym (ap (map m) more ∙ map-append m _ _));
    }

pub returns-in_err-made-clause-shown : goal.returns-in_err-made-clause-shown
returns-in_err-made-clause-shown g c =
    by_both c.from_residual.result c.args.made c.args.next c.in_err-made.field-0.0 _ c.from_residual.ensures c.in_err-made.ensures (λ k t. inl t) (λ k t. inr t)

pub returns-in_err-push-clause-shown : goal.returns-in_err-push-clause-shown
returns-in_err-push-clause-shown g c =
    handed_on c.from_residual-in_err-push.result error.Memory _ c.from_residual-in_err-push.ensures record { each = λ k told. absurd told }
