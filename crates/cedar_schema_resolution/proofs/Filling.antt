-- A table is filled along an order, or a cycle is told.
use Rattle.std.proofs.Common.{◌≡◌, ℕ, ◌<◌, true, List, length, slice_index, get_or, None, sym, ◌∙◌, subst}
use Rattle.std.specs.Prelude.{map}
use Rattle.std.specs.Global.{Vec}
use Rattle.std.proofs.lemmas.List.{length-map}
use Rattle.cedar_language.specs.Uid.{Name}
use Rattle.cedar_language.specs.Facts.{Reaches}
use Rattle.cedar_schema_grammar.specs.Declared.{Library, Declared, type_name}
use Rattle.cedar_schema_grammar.specs.Written.{unfolded, type_reaches}
use Rattle.cedar_schema_grammar.specs.Laws.{CyclesAreFound, CommonTypesSettle}
use Rattle.cedar_schema.specs.Orders.{HasTarget, AreWithin, IsOrder}
use Rattle.cedar_schema.specs.declared.tables.TypeTable.{TypeTable}
use Rattle.cedar_schema_resolution.specs.Declarations.{type_view, declared_view}
use Rattle.cedar_schema_resolution.specs.Numbers.{AreNumbersOf}
use Rattle.cedar_schema_resolution.specs.Mentions.{AreMentionsOf, AreMentioned}
use Rattle.cedar_schema_resolution.specs.Resolved.{AreResolved, IsFilled, IsAcyclic, ToldAt, TellsCycle}
use Rattle.cedar_schema_resolution.specs.declared.declarations.DeclaredType.{DeclaredType}
use Rattle.cedar_schema_resolution.specs.declared.declarations.Declarations.{Declarations}
use Rattle.cedar_schema_resolution.specs.declared.numbers.CommonNumbers.{CommonNumbers}
use Rattle.cedar_schema_resolution.specs.declared.resolution.ResolutionError.{ResolutionError}
use Rattle.cedar_schema_resolution.specs.declared.resolution.ResolutionError.TheVariants as error
use Rattle.cedar_schema_resolution.proofs.Ordered as ordered
use Rattle.cedar_schema_resolution.proofs.Resolving.{same_table, read_at}

some_library : Library
some_library = record { type = λ s. None; signature = λ n. None }

tells : (d : Declared) (n : Name) (e : ResolutionError) → ToldAt n e → ((l : Library) → type_reaches d l n n ≡ true) → TellsCycle d e
tells d n (error.CycleInCommonTypeReferences m) told f = λ l. subst (λ k. type_reaches d l k k ≡ true) (sym told) (f l)
tells d n error.Memory told f = tt

module _ (d : Declarations) (c : CommonNumbers) (numbers : AreNumbersOf (declared_view d) c) (edges : List (Vec ℕ))
    (mentioned : AreMentioned c (map type_view d.types.items) edges) where
  are : (l : Library) → AreMentionsOf (declared_view d) l (map type_view d.types.items) edges
  are l = mentioned (declared_view d) l numbers

  pub edges_within : AreWithin edges
  edges_within = ordered.within (declared_view d) some_library edges (are some_library)

  as_many : length edges ≡ length d.types.items
  as_many = ordered.as_many (declared_view d) some_library edges (are some_library) ∙ length-map d.types.items type_view

  pub cycle_below : (i : ℕ) → Reaches (HasTarget edges) i i → i < length d.types.items
  cycle_below i r = subst (λ n. i < n) (length-map d.types.items type_view) (ordered.below (declared_view d) some_library edges (are some_library) i r)

  pub cycle_told : CyclesAreFound → (i : ℕ) (t : DeclaredType) (e : ResolutionError) → t ≡ get_or d.types.items i t → Reaches (HasTarget edges) i i
      → ToldAt (type_name (type_view t)) e → TellsCycle (declared_view d) e
  cycle_told found i t e at r told = tells (declared_view d) (type_name (type_view t)) e told
      (λ l. ordered.told (declared_view d) l edges (are l) found i (type_view t) (read_at d.types.items i t (cycle_below i r) at) r)

  module _ (order : List ℕ) (is : IsOrder edges order) where
    pub order_below : (k : ℕ) → k < length order → slice_index order k < length d.types.items
    order_below k low = subst (λ n. slice_index order k < n) as_many (is.below k low)

    pub no_cycle : CyclesAreFound → IsAcyclic (declared_view d)
    no_cycle found = λ l n. ordered.acyclic (declared_view d) l edges (are l) order is found n

    pub filled : CyclesAreFound → CommonTypesSettle → (old new : TypeTable) → AreResolved (declared_view d) c order old new
        → IsFilled (declared_view d) old new
    filled found settle old new done = λ l table.
        same_table (declared_view d) _ (unfolded (length (declared_view d).types) (declared_view d) l) l new
        (λ n u e. ordered.each_settled (declared_view d) l edges (are l) order is found settle n u e) (done l (λ t. None) numbers table)
