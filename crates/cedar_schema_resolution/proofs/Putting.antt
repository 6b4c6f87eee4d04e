-- What is put by its name is what is declared.
use Rattle.std.proofs.Common.{◌≡◌, ◌+◌, ◌<◌, ℕ, Bool, true, false, cond, ◌||◌, List, [], ◌∷◌, ◌++◌, length, take, get_or, Option, Some, None, refl, sym, ap, ◌∙◌, subst}
use Rattle.std.specs.Prelude.{map, is_some, option_map}
use Rattle.std.specs.List.{find, list_any}
use Rattle.std.specs.BTreeMap.{is_at}
use Rattle.std.proofs.lemmas.List.{map-append, take_more}
use Rattle.cedar_language.specs.Uid.{Name}
use Rattle.cedar_language.specs.Order.{same_name, name_cmp}
use Rattle.cedar_typing.specs.Types.{CedarType, Entities}
use Rattle.cedar_typing.proofs.Sameness.{name_is}
use Rattle.cedar_schema_grammar.specs.Declared.{Library, EntityType, CommonType, Declared, to_common, to_type, or_else, entity_name, type_name, entity_at, type_at, built_in_path, declared_as}
use Rattle.cedar_schema.specs.Tables.{entry_at, built_in_at, type_for, IsTableOf}
use Rattle.cedar_schema.specs.declared.tables.TypeTable.{TypeTable}
use Rattle.cedar_schema_resolution.specs.Puts.{ArePut, SameBuiltIn}
use Rattle.cedar_schema_resolution.proofs.Numbering.{at_is_same}

abbrev among : List Name → Name → Bool
among names n = list_any (λ m. same_name m n) names

or_false : (b : Bool) → (b || false) ≡ b
or_false true = refl
or_false false = refl

-- ---- one is put

pub put_one : (m : Name) (known : Name → Option CedarType) (name : Name) (o : Option CedarType) (old new : TypeTable) → name ≡ m → o ≡ known m
    → ((n : Name) → entry_at new n ≡ cond (is_at (name_cmp name) n) (Some o) (entry_at old n)) → ArePut (m ∷ []) known old new
put_one m known name o old new e f put = λ n. put n ∙ ap (λ b. cond b (Some o) (entry_at old n)) (at_is_same name n ∙ ap (λ k. same_name k n) e)
    ∙ by n (same_name m n) refl
  where
    by : (n : Name) (b : Bool) → same_name m n ≡ b → cond b (Some o) (entry_at old n) ≡ cond (b || false) (Some (known n)) (entry_at old n)
    by n true g = ap Some (f ∙ ap known (name_is m n g))
    by n false g = refl

-- ---- one more

last_among : (xs : List Name) (x n : Name) → among (xs ++ x ∷ []) n ≡ (among xs n || same_name x n)
last_among [] x n = or_false (same_name x n)
last_among (y ∷ xs) x n = ap (λ b. same_name y n || b) (last_among xs x n) ∙ apart (same_name y n) (among xs n) (same_name x n)
  where
    apart : (a b c : Bool) → (a || (b || c)) ≡ ((a || b) || c)
    apart true b c = refl
    apart false b c = refl

over : (a b : Bool) (v r : Option (Option CedarType)) → cond (b || false) v (cond a v r) ≡ cond (a || b) v r
over true true v r = refl
over true false v r = refl
over false true v r = refl
over false false v r = refl

pub put_more : {B : Type 0} (name : B → Name) (known : Name → Option CedarType) (bs : List B) (i : ℕ) (b : B) (old mid new : TypeTable) → i < length bs
    → b ≡ get_or bs i b
    → ArePut (map name (take i bs)) known old mid → ArePut (name b ∷ []) known mid new → ArePut (map name (take (i + 1) bs)) known old new
put_more name known bs i b old mid new low here f g =
    let cut : map name (take (i + 1) bs) ≡ map name (take i bs) ++ name b ∷ []
    = ap (map name) (take_more bs i b low ∙ ap (λ x. take i bs ++ x ∷ []) (sym here)) ∙ map-append name (take i bs) (b ∷ []) in
    subst (λ ns. ArePut ns known old new) (sym cut)
    (λ n. g n ∙ ap (cond (same_name (name b) n || false) (Some (known n))) (f n)
    ∙ over (among (map name (take i bs)) n) (same_name (name b) n) (Some (known n)) (entry_at old n)
    ∙ sym (ap (λ x. cond x (Some (known n)) (entry_at old n)) (last_among (map name (take i bs)) (name b) n)))

-- ---- the whole

-- what is among the names is found
found_if : {A : Type 0} (name : A → Name) (xs : List A) (n : Name) → among (map name xs) n ≡ is_some (find (λ x. same_name (name x) n) xs)
found_if name [] n = refl
found_if name (x ∷ xs) n = by (same_name (name x) n) (found_if name xs n)
  where
    by : (b : Bool) → among (map name xs) n ≡ is_some (find (λ y. same_name (name y) n) xs)
        → (b || among (map name xs) n) ≡ is_some (cond b (Some x) (find (λ y. same_name (name y) n) xs))
    by true e = refl
    by false e = e

found_named : (es : List EntityType) (n : Name) (e : EntityType) → find (λ x. same_name (entity_name x) n) es ≡ Some e → entity_name e ≡ n
found_named [] n e f = absurd (cc f)
found_named (x ∷ es) n e f = by (same_name (entity_name x) n) refl f (found_named es n e)
  where
    by : (b : Bool) → same_name (entity_name x) n ≡ b → cond b (Some x) (find (λ y. same_name (entity_name y) n) es) ≡ Some e
        → (find (λ y. same_name (entity_name y) n) es ≡ Some e → entity_name e ≡ n) → entity_name e ≡ n
    by true g h ih = let same : x ≡ e = cc h in ap entity_name (sym same) ∙ name_is (entity_name x) n g
    by false g h ih = ih h

stands : (n : Name) (t : Option CommonType) (e : Option EntityType) → ((x : EntityType) → e ≡ Some x → entity_name x ≡ n)
    → cond (is_some t) (Some None) (cond (is_some e) (Some (Some (Entities n))) None)
    ≡ option_map (type_for (λ u. None)) (or_else (option_map to_common t) (option_map (λ x. to_type (Entities (entity_name x))) e))
stands n (Some t) e f = refl
stands n None (Some x) f = ap (λ m. Some (Some (Entities m))) (sym (f x refl))
stands n None None f = refl

pub declared_is : (d : Declared) (t0 t1 t2 : TypeTable) → ((n : Name) → entry_at t0 n ≡ None)
    → ArePut (map entity_name d.entities) (λ n. Some (Entities n)) t0 t1 → ArePut (map type_name d.types) (λ n. None) t1 t2
    → (n : Name) → entry_at t2 n ≡ option_map (type_for (λ u. None)) (declared_as d n)
declared_is d t0 t1 t2 none es ts n =
    ts n ∙ ap (λ b. cond b (Some None) (entry_at t1 n)) (found_if type_name d.types n)
    ∙ ap (cond (is_some (type_at d n)) (Some None))
    (es n ∙ ap (λ b. cond b (Some (Some (Entities n))) (entry_at t0 n)) (found_if entity_name d.entities n)
    ∙ ap (cond (is_some (entity_at d n)) (Some (Some (Entities n)))) (none n))
    ∙ stands n (type_at d n) (entity_at d n) (found_named d.entities n)

pub table_is : (d : Declared) (l : Library) (t0 t1 t2 : TypeTable) → ((n : Name) → entry_at t0 n ≡ None) → ((n : Name) → built_in_at t0 n ≡ built_in_path l n)
    → ArePut (map entity_name d.entities) (λ n. Some (Entities n)) t0 t1 → SameBuiltIn t0 t1 → ArePut (map type_name d.types) (λ n. None) t1 t2
    → SameBuiltIn t1 t2 → IsTableOf (λ u. None) d l t2
table_is d l t0 t1 t2 none built es e ts f = record { declared = declared_is d t0 t1 t2 none es ts; built_in = λ n. f n ∙ e n ∙ built n }

-- names of what is viewed
pub named_twice : {A B : Type 0} (name : B → Name) (view : A → B) (xs : List A) → map (λ x. name (view x)) xs ≡ map name (map view xs)
named_twice name view [] = refl
named_twice name view (x ∷ xs) = ap (λ ns. name (view x) ∷ ns) (named_twice name view xs)
