-- The least type above items, from the last.
use Rattle.std.proofs.Common.{◌≡◌, ◌∙◌, refl, sym, ap, List, [], ◌∷◌, ◌++◌, map, Option, Some, None}
use Rattle.std.proofs.lemmas.List.{map-append}
use Rattle.cedar_typing.specs.Types.{CedarType, lub, lub_more, lub_all}
use Rattle.cedar_typing.specs.Containers.{set_type, set_by}
use Rattle.cedar_typechecker.specs.Types.{type_view}
use Rattle.cedar_typechecker.specs.Containers.{lub_onto}
use Rattle.cedar_typechecker.specs.declared.types.ExprType.{ExprType}

abbrev onto_least : List CedarType → Option CedarType → Option CedarType
onto_least ts (Some l) = lub_onto ts l
onto_least ts None = None

nothing_before : (o : Option CedarType) → o ≡ onto_least [] o
nothing_before (Some l) = refl
nothing_before None = refl

under : (u : CedarType) (ts : List CedarType) (o : Option CedarType) → lub_more u (onto_least ts o) ≡ onto_least (u ∷ ts) o
under u ts (Some l) = refl
under u ts None = refl

onto_more : (ts : List CedarType) (t l : CedarType) → lub_onto (ts ++ t ∷ []) l ≡ onto_least ts (lub t l)
onto_more [] t l = nothing_before (lub t l)
onto_more (u ∷ ts) t l = ap (lub_more u) (onto_more ts t l) ∙ under u ts (lub t l)

pub lub_kept : (ts : List ExprType) (t l m : ExprType) → Some (type_view m) ≡ lub (type_view t) (type_view l) → lub_onto (map type_view (ts ++ t ∷ [])) (type_view l) ≡ lub_onto (map type_view ts) (type_view m)
lub_kept ts t l m h =
    ap (λ us. lub_onto us (type_view l)) (map-append type_view ts (t ∷ []))
    ∙ onto_more (map type_view ts) (type_view t) (type_view l)
    ∙ ap (onto_least (map type_view ts)) (sym h)

pub lub_lost : (ts : List ExprType) (t l : ExprType) → None ≡ lub (type_view t) (type_view l) → lub_onto (map type_view (ts ++ t ∷ [])) (type_view l) ≡ None
lub_lost ts t l h =
    ap (λ us. lub_onto us (type_view l)) (map-append type_view ts (t ∷ []))
    ∙ onto_more (map type_view ts) (type_view t) (type_view l)
    ∙ ap (onto_least (map type_view ts)) (sym h)

all_onto : (t : CedarType) (ts : List CedarType) (l : CedarType) → lub_all t (ts ++ l ∷ []) ≡ lub_onto (t ∷ ts) l
all_onto t [] l = refl
all_onto t (u ∷ ts) l = ap (lub_more t) (all_onto u ts l)

set_onto : (ts : List CedarType) (l : CedarType) → set_type (ts ++ l ∷ []) ≡ set_by (lub_onto ts l)
set_onto [] l = refl
set_onto (t ∷ ts) l = ap set_by (all_onto t ts l)

pub set_of_last : (ts : List ExprType) (l : ExprType) → set_type (map type_view (ts ++ l ∷ [])) ≡ set_by (lub_onto (map type_view ts) (type_view l))
set_of_last ts l = ap set_type (map-append type_view ts (l ∷ [])) ∙ set_onto (map type_view ts) (type_view l)
