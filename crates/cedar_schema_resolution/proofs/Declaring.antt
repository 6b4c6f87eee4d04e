-- What is declared by one more declaration, name or block stands behind what those before it declare.
use Rattle.std.proofs.Common.{◌≡◌, ℕ, ◌+◌, ◌<◌, List, [], ◌∷◌, ◌++◌, length, take, get_or, append_assoc, sym, ap, ◌∙◌}
use Rattle.std.specs.Prelude.{map}
use Rattle.std.proofs.lemmas.List.{append-nil, map-append, take_more}
use Rattle.cedar_language.specs.Uid.{Name}
use Rattle.cedar_schema_grammar.specs.Syntax.{Declaration, Namespace, SchemaSyntax}
use Rattle.cedar_schema_grammar.specs.Declared.{of_block, of_blocks}
use Rattle.cedar_schema_syntax.specs.View.{namespace_view}
use Rattle.cedar_schema_syntax.specs.declared.declarations.Namespace as block

-- where all of a list give what the last gives behind what the others do
pub next : {C A : Type 0} (all : List C → List A) (one : C → List A) → ((xs : List C) (x : C) → all (xs ++ x ∷ []) ≡ all xs ++ one x)
    → (cs : List C) (i : ℕ) (c : C) → i < length cs → c ≡ get_or cs i c
    → (old before now : List A) → before ≡ old ++ all (take i cs) → now ≡ before ++ one c → now ≡ old ++ all (take (i + 1) cs)
next all one last cs i c low here old before now e f =
    f ∙ ap (λ xs. xs ++ one c) e ∙ append_assoc old (all (take i cs)) (one c)
    ∙ ap (λ xs. old ++ xs) (sym (last (take i cs) c) ∙ ap all (ap (λ y. take i cs ++ y ∷ []) here ∙ sym (take_more cs i c low)))

pub block_last : {A : Type 0} (f : Declaration → List A) (ds : List Declaration) (d : Declaration) → of_block f (ds ++ d ∷ []) ≡ of_block f ds ++ f d
block_last f [] d = append-nil (f d)
block_last f (e ∷ ds) d = ap (λ xs. f e ++ xs) (block_last f ds d) ∙ sym (append_assoc (f e) (of_block f ds) (f d))

pub blocks_last : {A : Type 0} (f : Name → Declaration → List A) (ns : SchemaSyntax) (n : Namespace)
    → of_blocks f (ns ++ n ∷ []) ≡ of_blocks f ns ++ of_block (f n.path) n.declarations
blocks_last f [] n = append-nil (of_block (f n.path) n.declarations)
blocks_last f (m ∷ ns) n =
    ap (λ xs. of_block (f m.path) m.declarations ++ xs) (blocks_last f ns n)
    ∙ sym (append_assoc (of_block (f m.path) m.declarations) (of_blocks f ns) (of_block (f n.path) n.declarations))

-- likewise by the views of what is listed
pub viewed_last : {B C A : Type 0} (view : B → C) (all : List C → List A) (one : C → List A) → ((xs : List C) (x : C) → all (xs ++ x ∷ []) ≡ all xs ++ one x)
    → (xs : List B) (x : B) → all (map view (xs ++ x ∷ [])) ≡ all (map view xs) ++ one (view x)
viewed_last view all one last xs x = ap all (map-append view xs (x ∷ [])) ∙ last (map view xs) (view x)

-- one block more
pub next_block : {A : Type 0} (f : Name → Declaration → List A) (bs : List block.Namespace) (i : ℕ) (b : block.Namespace) → i < length bs → b ≡ get_or bs i b
    → (old before now : List A) → before ≡ old ++ of_blocks f (map namespace_view (take i bs))
    → now ≡ before ++ of_block (f (namespace_view b).path) (namespace_view b).declarations
    → now ≡ old ++ of_blocks f (map namespace_view (take (i + 1) bs))
next_block f bs i b low here =
    next (λ xs. of_blocks f (map namespace_view xs)) (λ x. of_block (f (namespace_view x).path) (namespace_view x).declarations)
    (viewed_last namespace_view (of_blocks f) (λ n. of_block (f n.path) n.declarations) (blocks_last f)) bs i b low here

pub mapped_last : {C A : Type 0} (f : C → A) (xs : List C) (x : C) → map f (xs ++ x ∷ []) ≡ map f xs ++ f x ∷ []
mapped_last f xs x = map-append f xs (x ∷ [])
