-- Equality of contexts: by what contracts see, so that places don't count.
use Rattle.std.specs.Prelude.{◌≡◌, ◌↔◌, Bool, ◌&&◌, IsTrue}
use Rattle.std.specs.Bool.{Decides}
use Rattle.std.specs.Cmp.{IsPartialEquivalence, IsEquivalence, decided, on_equiv, partial_equiv_from_equiv}
use Rattle.std.specs.Ordering.{on}
use Rattle.std.specs.Str.{bytes_eq}
use Rattle.std.proofs.Common.{ap}
use Rattle.either.specs.declared.Either.{Either}
use Rattle.either.specs.declared.Either.TheVariants.{Left, Right}
use Rattle.cedar_language.specs.Tree.{Tree}
use Rattle.cedar_language.specs.Value.{Value}
use Rattle.cedar_language.specs.OrderLaws.{same_is, is_same}
use Rattle.cedar_grammar.specs.Build.{Keyed}
use Rattle.cedar_shapes.specs.ShapesOnly.{tree_eq_decides}
use Rattle.cedar_restricted.specs.Sameness.{same_part, same_tree}
use Rattle.cedar_requests.specs.Contexts.{context_part}
use Rattle.cedar_requests.specs.declared.contexts.Context.{Context}

-- the same record of values, or the same tree of what is left
pub part_decides : (p q : Either Value Tree) → Decides (same_part p q) (p ≡ q)
part_decides (Left v) (Left w) = (λ h. ap Left (same_is v w h), λ e. is_same v w (cc))
part_decides (Left v) (Right t) = (λ h. cc, λ e. cc)
part_decides (Right s) (Left w) = (λ h. cc, λ e. cc)
part_decides (Right s) (Right t) = (λ h. ap Right ((tree_eq_decides s t).0 h), λ e. (tree_eq_decides s t).1 (cc))

-- entries of one key and of the same tree
abbrev pub same_entry : Keyed Tree → Keyed Tree → Bool
same_entry e f = bytes_eq e.0 f.0 && same_tree e.1 f.1

abbrev pub same_context : Context → Context → Bool
same_context = on context_part same_part

pub same_context_equiv : IsEquivalence same_context
same_context_equiv = on_equiv context_part (decided same_part part_decides)

pub same_context_partial : IsPartialEquivalence same_context
same_context_partial = partial_equiv_from_equiv same_context_equiv

-- contexts are equal exactly where they hold the same values, or where the same is left of them
abbrev pub ContextsAreTheirParts : Type 0
ContextsAreTheirParts = (c d : Context) → IsTrue (same_context c d) ↔ (context_part c ≡ context_part d)
