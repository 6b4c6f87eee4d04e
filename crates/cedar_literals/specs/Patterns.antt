-- Patterns: their order, and what they feed a hasher.
use Rattle.std.specs.Prelude.{◌≡◌, ◌++◌, [], List, ℕ, zero, ℤ, pos, Bool, ◌==◌, if◌then◌else◌, codes, refl}
use Rattle.std.specs.declared.cmp.Ordering.{Ordering}
use Rattle.std.specs.Ordering.{on, eq_by_cmp, as_partial_cmp}
use Rattle.std.specs.Bool.{Decides}
use Rattle.std.specs.Cmp.{IsTotalOrder, IsEquivalence, IsPartialOrder, partial_order_from_agreeing_total}
use Rattle.std.specs.Cmp.Lexicographic.{slice_cmp, pointwise, pointwise_decides, lists_equiv, lists_ties}
use Rattle.std.specs.FinMap.{IsAntisymmetric, slice_cmp-IsAntisymmetric}
use Rattle.std.specs.Hash as fed
use Rattle.std.specs.Hash.{HashWrites, Alike, same_Alike, on_Alike, items_Alike}
use Rattle.std.proofs.lemmas.Cmp.{on_total, lists_total, eq_by_cmp_equiv}
use Rattle.std.specs.List.{flat_map}
use Rattle.cedar_language.specs.Uid.{Text}
use Rattle.cedar_literals.specs.Escapes.{escaped_char}
use Rattle.cedar_language.specs.Tree.{PatternElem, Char, Wildcard}
use Rattle.cedar_language.specs.Order.{Head, head, head_cmp}
use Rattle.cedar_literals.specs.Heads.{head_cmp_total, by_head_same, order_decides}
use Rattle.cedar_literals.specs.declared.patterns.PatternElem as code
use Rattle.cedar_literals.specs.declared.patterns.PatternElem.TheVariants as kind

-- an element of a pattern, as the language has it
abbrev pub elem_of : code.PatternElem → PatternElem
elem_of (kind.Char c) = Char c
elem_of kind.Wildcard = Wildcard

-- how an element is written: a star that stands for itself as an escape
abbrev pub elem_text : PatternElem → Text
elem_text (Char c) = if c == 42 then codes "\\*" else escaped_char c
elem_text Wildcard = codes "*"

abbrev pub pattern_text : List PatternElem → Text
pattern_text = flat_map elem_text

-- two patterns are never written alike
abbrev pub PatternsAreToldApart : Type 0
PatternsAreToldApart = (ps qs : List PatternElem) → pattern_text ps ≡ pattern_text qs → ps ≡ qs

abbrev pub elem_head : PatternElem → Head
elem_head (Char c) = head 0 (pos c) [] []
elem_head Wildcard = head 1 (pos 0) [] []

-- characters by their code points, and below the wildcard
abbrev pub elem_cmp : PatternElem → PatternElem → Ordering
elem_cmp = on elem_head head_cmp

abbrev pub same_elem : PatternElem → PatternElem → Bool
same_elem = eq_by_cmp elem_cmp

abbrev pub elem_hash : PatternElem → HashWrites
elem_hash (Char c) = fed.u8 0 ++ fed.char c
elem_hash Wildcard = fed.u8 1

-- element by element
abbrev pub pattern_cmp : List PatternElem → List PatternElem → Ordering
pattern_cmp = slice_cmp elem_cmp

abbrev pub same_pattern : List PatternElem → List PatternElem → Bool
same_pattern = pointwise same_elem

abbrev pub pattern_hash : List PatternElem → HashWrites
pattern_hash = fed.slice elem_hash

pub elem_cmp_total : IsTotalOrder elem_cmp
elem_cmp_total = on_total elem_head head_cmp_total

abbrev elem_at : ℕ → ℤ → PatternElem
elem_at zero (pos c) = Char c
elem_at _ _ = Wildcard

abbrev elem_from : Head → PatternElem
elem_from h = elem_at h.kind h.number

elem_back : (p : PatternElem) → elem_from (elem_head p) ≡ p
elem_back (Char c) = refl
elem_back Wildcard = refl

pub elem_cmp_same : IsAntisymmetric elem_cmp
elem_cmp_same = by_head_same elem_head elem_from elem_back

pub same_elem_decides : (p q : PatternElem) → Decides (same_elem p q) (p ≡ q)
same_elem_decides = order_decides elem_cmp_total elem_cmp_same

-- the same, at the elements of the code
abbrev pub order_of_elems : code.PatternElem → code.PatternElem → Ordering
order_of_elems = on elem_of elem_cmp

pub elems_total : IsTotalOrder order_of_elems
elems_total = on_total elem_of elem_cmp_total

pub elems_alike : Alike (eq_by_cmp order_of_elems) (λ p. elem_hash (elem_of p))
elems_alike = on_Alike elem_of (same_Alike elem_hash same_elem_decides)

pub pattern_cmp_total : IsTotalOrder pattern_cmp
pattern_cmp_total = lists_total elem_cmp_total

pub pattern_cmp_same : IsAntisymmetric pattern_cmp
pattern_cmp_same = slice_cmp-IsAntisymmetric elem_cmp_same

pub same_pattern_decides : (ps qs : List PatternElem) → Decides (same_pattern ps qs) (ps ≡ qs)
same_pattern_decides = pointwise_decides same_elem_decides

pub same_pattern_equiv : IsEquivalence same_pattern
same_pattern_equiv = lists_equiv (eq_by_cmp_equiv elem_cmp_total)

pub pattern_cmp_ties : (ps qs : List PatternElem) → same_pattern ps qs ≡ eq_by_cmp pattern_cmp ps qs
pattern_cmp_ties = lists_ties elem_cmp (λ p q. refl)

pub pattern_cmp_partial : IsPartialOrder same_pattern (as_partial_cmp pattern_cmp)
pattern_cmp_partial = partial_order_from_agreeing_total pattern_cmp pattern_cmp_total (λ x y. refl) pattern_cmp_ties

pub patterns_alike : Alike same_pattern pattern_hash
patterns_alike = items_Alike (same_Alike elem_hash same_elem_decides)
