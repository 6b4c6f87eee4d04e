-- One error more is told.
use Rattle.std.proofs.Common.{◌≡◌, List, [], ◌∷◌, ◌++◌, append_assoc, sym, ap, ◌∙◌}
use Rattle.std.specs.Prelude.{reverse}
use Rattle.std.proofs.lemmas.List.{reverse-append}
use Rattle.cedar_schema_faults.proofs.repeats.tell_reversed.Goals as goal

one_told : {A : Type 0} (old new left rest all : List A) (x : A) → left ≡ rest ++ x ∷ [] → new ≡ old ++ x ∷ [] → old ++ reverse left ≡ all
    → new ++ reverse rest ≡ all
one_told old new left rest all x cut put e =
    ap (λ xs. xs ++ reverse rest) put ∙ append_assoc old (x ∷ []) (reverse rest)
    ∙ sym (ap (λ xs. old ++ reverse xs) cut ∙ ap (λ xs. old ++ xs) (reverse-append rest (x ∷ []))) ∙ e

pub loop-error-preserved : goal.loop-error-preserved
loop-error-preserved c = record {
  all = one_told c.loop-error.told.items c.push.new.self.items c.loop-error.left.items c.pop.new.self.items _ c.in-Some.error c.in-Some.ensures.items
      c.in_ok-push.ensures.items c.loop-error.invariant.all;
}
