-- Whether two lists of annotations are the same, by their keys and texts.
use Rattle.std.proofs.Common.{◌≡◌, ap, Bool, ◌&&◌, List}
use Rattle.std.specs.Bool.{Decides}
use Rattle.std.specs.Cmp.{IsEquivalence, decided, first_so, second_so}
use Rattle.std.specs.Cmp.Lexicographic.{pointwise, pointwise_decides, bytes_decides}
use Rattle.std.proofs.lemmas.Bool.{and_from}
use Rattle.cedar_language.specs.Uid.{Text}
use Rattle.cedar_language.specs.Order.{same_text}
use Rattle.cedar_grammar.specs.Build.{Keyed}

abbrev pub same_annotation : Keyed Text → Keyed Text → Bool
same_annotation p q = same_text p.0 q.0 && same_text p.1 q.1

abbrev pub same_annotations : List (Keyed Text) → List (Keyed Text) → Bool
same_annotations = pointwise same_annotation

annotation_decides : (p q : Keyed Text) → Decides (same_annotation p q) (p ≡ q)
annotation_decides p q = (
  λ h.
      let key : p.0 ≡ q.0 = (bytes_decides p.0 q.0).0 (first_so _ _ h) in
      let text : p.1 ≡ q.1 = (bytes_decides p.1 q.1).0 (second_so _ _ h) in
      λ i. (key i, text i),
  λ e. and_from _ _ ((bytes_decides p.0 q.0).1 (ap (λ (r : Keyed Text). r.0) e)) ((bytes_decides p.1 q.1).1 (ap (λ (r : Keyed Text). r.1) e)),
)

pub annotations_decide : (xs ys : List (Keyed Text)) → Decides (same_annotations xs ys) (xs ≡ ys)
annotations_decide = pointwise_decides annotation_decides

pub same_annotations_equiv : IsEquivalence same_annotations
same_annotations_equiv = decided same_annotations annotations_decide
