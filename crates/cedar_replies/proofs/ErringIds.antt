-- Erring ids, as the code lists them and as the definitions do.
use Rattle.std.proofs.Common.{◌≡◌, ℕ, Bool, true, ◌&&◌, List, [], ◌∷◌, ◌++◌, map, is_some, Option, Some, None, codes, refl, sym, ap, subst}
use Rattle.std.specs.FinMap as finite
use Rattle.std.specs.List.Sorted.{IsStrictlySortedBy}
use Rattle.cedar_language.specs.Uid.{Text}
use Rattle.cedar_language.specs.Value.{Kind}
use Rattle.cedar_world.specs.Orders.{text_cmp}
use Rattle.cedar_frames.specs.Quoting.{quoted}
use Rattle.cedar_world.specs.Lines.{kind_name, with_kind}
use Rattle.cedar_replies.specs.declared.error_kind.ErrorKind.{ErrorKind}
use Rattle.cedar_replies.specs.declared.error_kind.ErrorKind.TheVariants.{EntityDoesNotExist, EntityAttrDoesNotExist, RecordAttrDoesNotExist, FailedExtensionFunctionLookup, TypeError, WrongNumArguments, IntegerOverflow, UnlinkedSlot, FailedExtensionFunctionExecution, NonValue, RecursionLimit, Memory}
use Rattle.cedar_replies.specs.Kinds.{kind_of, error_name}
use Rattle.cedar_replies.specs.Erring.{have_kinds, with_kinds, and_kind}
use Rattle.cedar_replies.specs.Lines.{with_name}
use Rattle.cedar_replies.proofs.Sets.{entries_of}

abbrev ids : {X : Type 0} → List (Text × X) → List Text
ids {X} es = map (λ (e : Text × X). e.0) es

kept : (id : Text) (k : Option Kind) (b : Bool) (rest : List (Text × Kind)) (others : List Text) → (is_some k && b) ≡ true → (b ≡ true → ids rest ≡ others) → ids (and_kind id k rest) ≡ id ∷ others
kept id None b rest others h f = cc
kept id (Some k) b rest others h f = ap (λ l. id ∷ l) (f h)

ids_kept : (es : List (Text × ErrorKind)) → have_kinds es ≡ true → ids (with_kinds es) ≡ ids es
ids_kept [] h = refl
ids_kept (e ∷ es) h = kept e.0 (kind_of e.1) (have_kinds es) (with_kinds es) (ids es) h (ids_kept es)

pub kinds_listed : (es : List (Text × ErrorKind)) → have_kinds es ≡ true → IsStrictlySortedBy text_cmp (map (λ e. e.0) es) → with_kinds es ≡ finite.entries (finite.from_entries {R = text_cmp} (with_kinds es))
kinds_listed es h up = sym (entries_of (with_kinds es) (subst (IsStrictlySortedBy text_cmp) (sym (ids_kept es h)) up))

some_same : {A : Type 0} {x y : A} → Some x ≡ Some y → x ≡ y
some_same e = cc

named : (k : ErrorKind) (kind : Kind) → kind_of k ≡ Some kind → error_name k ≡ kind_name kind
named EntityDoesNotExist kind e = ap kind_name (some_same e)
named EntityAttrDoesNotExist kind e = ap kind_name (some_same e)
named RecordAttrDoesNotExist kind e = ap kind_name (some_same e)
named FailedExtensionFunctionLookup kind e = ap kind_name (some_same e)
named TypeError kind e = ap kind_name (some_same e)
named WrongNumArguments kind e = ap kind_name (some_same e)
named IntegerOverflow kind e = ap kind_name (some_same e)
named UnlinkedSlot kind e = ap kind_name (some_same e)
named FailedExtensionFunctionExecution kind e = ap kind_name (some_same e)
named NonValue kind e = ap kind_name (some_same e)
named RecursionLimit kind e = cc
named Memory kind e = cc

shown : (id : Text) (k : ErrorKind) (o : Option Kind) (b : Bool) (rest : List (Text × Kind)) (others : List (List ℕ)) → kind_of k ≡ o → (is_some o && b) ≡ true → (b ≡ true → others ≡ map with_kind rest)
    → with_name (id, k) ∷ others ≡ map with_kind (and_kind id o rest)
shown id k None b rest others is h f = cc
shown id k (Some kind) b rest others is h f = let name = named k kind is in λ i. ((quoted id ++ codes ":") ++ name i) ∷ f h i

pub names_are_kinds : (es : List (Text × ErrorKind)) → have_kinds es ≡ true → map with_name es ≡ map with_kind (with_kinds es)
names_are_kinds [] h = refl
names_are_kinds (e ∷ es) h = shown e.0 e.1 (kind_of e.1) (have_kinds es) (with_kinds es) (map with_name es) refl h (names_are_kinds es)
