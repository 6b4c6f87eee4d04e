-- The rules of `==` and `in`, by what their operands and the types of these are.
use Rattle.std.proofs.Common.{◌≡◌, ◌∙◌, refl, sym, ap, ℕ, ◌+◌, ◌<◌, ◌≤◌, Bool, true, false, List, [], ◌∷◌, map, drop, get_or, length, Option, Some, None}
use Rattle.std.specs.Prelude.{cond, ◌||◌}
use Rattle.std.specs.Option.{option_map}
use Rattle.std.proofs.lemmas.List.{at_drop_more, at_drop_all}
use Rattle.cedar_language.specs.Uid.{Name, Uid}
use Rattle.cedar_language.specs.Tree.{Operator, Not, Neg, IsEmpty, Equal, Less, LessEq, Add, Sub, Mul, In, Contains, ContainsAll, ContainsAny, GetTag, HasTag, GetAttr, HasAttr, HasPath, Like, Is, MakeSet, MakeRecord, Call, Literal, Boolean, Long, String, Entity, Tree, Lit, Var, Slot, Unknown, If, And, Or, Apply, Trees, no_trees, a_tree, Principal, Action, Resource, Context}
use Rattle.cedar_language.specs.Value.{Plain}
use Rattle.cedar_language.specs.Order.{same}
use Rattle.cedar_grammar.specs.Build.{trees}
use Rattle.cedar_trees.specs.Bare.{bare}
use Rattle.cedar_trees.specs.declared.expr.Expr.{Expr}
use Rattle.cedar_typing.specs.Types.{CedarType, Booleans, Longs, Strings, Entities, Sets, Records, Extensions, lub}
use Rattle.cedar_typing.specs.Faults.{UnexpectedType, IncompatibleTypes}
use Rattle.cedar_typing.specs.Schema.{Schema, Environment}
use Rattle.cedar_typing.specs.Relations.{constant, unlike, equal_by_types, equal_by_constants, within_type, action_is_within, action_is_within_some, where_action, and_entity, entities_in, listed, in_by_action, in_entities, in_type}
use Rattle.cedar_typing.specs.Results.{Typing, Faulty, known, unsure}
use Rattle.cedar_typechecker.specs.Types.{entity_in, element_in}
use Rattle.cedar_typechecker.specs.Relations.{uid_in, reached_in, items_in}

-- ---- `==`

pub compared : (o : Option CedarType) (v t u : CedarType) → Some v ≡ o → equal_by_types o t u ≡ unsure
compared o v t u h = ap (λ x. equal_by_types x t u) (sym h)

pub not_compared : (o : Option CedarType) (t u : CedarType) → None ≡ o → equal_by_types o t u ≡ unlike t u
not_compared o t u h = ap (λ x. equal_by_types x t u) (sym h)

abbrev if_both : Option Name → Option Name → Typing
if_both (Some n) (Some m) = known false
if_both x y = Faulty IncompatibleTypes

unlike_entity : (n : Name) (u : CedarType) → unlike (Entities n) u ≡ if_both (Some n) (entity_in u)
unlike_entity n (Booleans b) = refl
unlike_entity n Longs = refl
unlike_entity n Strings = refl
unlike_entity n (Entities m) = refl
unlike_entity n (Sets e) = refl
unlike_entity n (Records fs) = refl
unlike_entity n (Extensions m o) = refl

unlike_by_parts : (t u : CedarType) → unlike t u ≡ if_both (entity_in t) (entity_in u)
unlike_by_parts (Booleans b) u = refl
unlike_by_parts Longs u = refl
unlike_by_parts Strings u = refl
unlike_by_parts (Entities n) u = unlike_entity n u
unlike_by_parts (Sets e) u = refl
unlike_by_parts (Records fs) u = refl
unlike_by_parts (Extensions m o) u = refl

pub unlike_first : (t u : CedarType) → None ≡ entity_in t → unlike t u ≡ Faulty IncompatibleTypes
unlike_first t u h = unlike_by_parts t u ∙ ap (λ o. if_both o (entity_in u)) (sym h)

pub unlike_second : (t u : CedarType) (n : Name) → Some n ≡ entity_in t → None ≡ entity_in u → unlike t u ≡ Faulty IncompatibleTypes
unlike_second t u n h k = unlike_by_parts t u ∙ ap (λ o. if_both o (entity_in u)) (sym h) ∙ ap (if_both (Some n)) (sym k)

pub unlike_both : (t u : CedarType) (n m : Name) → Some n ≡ entity_in t → Some m ≡ entity_in u → unlike t u ≡ known false
unlike_both t u n m h k = unlike_by_parts t u ∙ ap (λ o. if_both o (entity_in u)) (sym h) ∙ ap (if_both (Some n)) (sym k)

pub no_constant : (x y : Option Literal) (t u : CedarType) → None ≡ x → equal_by_constants x y t u ≡ equal_by_types (lub t u) t u
no_constant x y t u h = ap (λ z. equal_by_constants z y t u) (sym h)

pub one_constant : (x y : Option Literal) (l : Literal) (t u : CedarType) → Some l ≡ x → None ≡ y → equal_by_constants x y t u ≡ equal_by_types (lub t u) t u
one_constant x y l t u h k = ap (λ z. equal_by_constants z y t u) (sym h) ∙ ap (λ z. equal_by_constants (Some l) z t u) (sym k)

pub two_constants : (x y : Option Literal) (l m : Literal) (t u : CedarType) → Some l ≡ x → Some m ≡ y → equal_by_constants x y t u ≡ known (same (Plain l) (Plain m))
two_constants x y l m t u h k = ap (λ z. equal_by_constants z y t u) (sym h) ∙ ap (λ z. equal_by_constants (Some l) z t u) (sym k)

-- ---- `in`, by types

abbrev with_name : Option Name → (Name → Typing) → Typing
with_name (Some n) f = f n
with_name None f = Faulty UnexpectedType

module _ (e : Environment) (xs : Trees) where
  in_set : (n : Name) (t : CedarType) → in_type e xs (Entities n ∷ Sets t ∷ []) ≡ with_name (entity_in t) (in_entities e xs n)
  in_set n (Booleans b) = refl
  in_set n Longs = refl
  in_set n Strings = refl
  in_set n (Entities m) = refl
  in_set n (Sets e) = refl
  in_set n (Records fs) = refl
  in_set n (Extensions m o) = refl

  in_second : (n : Name) (u : CedarType) → in_type e xs (Entities n ∷ u ∷ []) ≡ with_name (reached_in u) (in_entities e xs n)
  in_second n (Booleans b) = refl
  in_second n Longs = refl
  in_second n Strings = refl
  in_second n (Entities m) = refl
  in_second n (Sets t) = in_set n t
  in_second n (Records fs) = refl
  in_second n (Extensions m o) = refl

  in_by_parts : (t u : CedarType) → in_type e xs (t ∷ u ∷ []) ≡ with_name (entity_in t) (λ n. with_name (reached_in u) (in_entities e xs n))
  in_by_parts (Booleans b) u = refl
  in_by_parts Longs u = refl
  in_by_parts Strings u = refl
  in_by_parts (Entities n) u = in_second n u
  in_by_parts (Sets e) u = refl
  in_by_parts (Records fs) u = refl
  in_by_parts (Extensions m o) u = refl

  pub in_of : (t u : CedarType) (n m : Name) → Some n ≡ entity_in t → Some m ≡ reached_in u → in_type e xs (t ∷ u ∷ []) ≡ in_entities e xs n m
  in_of t u n m h k = in_by_parts t u ∙ ap (λ o. with_name o (λ n. with_name (reached_in u) (in_entities e xs n))) (sym h) ∙ ap (λ o. with_name o (in_entities e xs n)) (sym k)

  pub in_of_none : (t u : CedarType) → None ≡ entity_in t → in_type e xs (t ∷ u ∷ []) ≡ Faulty UnexpectedType
  in_of_none t u h = in_by_parts t u ∙ ap (λ o. with_name o (λ n. with_name (reached_in u) (in_entities e xs n))) (sym h)

  pub in_of_one : (t u : CedarType) (n : Name) → Some n ≡ entity_in t → None ≡ reached_in u → in_type e xs (t ∷ u ∷ []) ≡ Faulty UnexpectedType
  in_of_one t u n h k = in_by_parts t u ∙ ap (λ o. with_name o (λ n. with_name (reached_in u) (in_entities e xs n))) (sym h) ∙ ap (λ o. with_name o (in_entities e xs n)) (sym k)

abbrev where_element : Option CedarType → Option Name
where_element (Some t) = entity_in t
where_element None = None

-- a value of the type is a set, or none
pub reached_element : (u t : CedarType) → Some t ≡ element_in u → reached_in u ≡ entity_in t
reached_element (Booleans b) t h = cc
reached_element Longs t h = cc
reached_element Strings t h = cc
reached_element (Entities m) t h = cc
reached_element (Sets e) t h = ap where_element (sym h)
reached_element (Records fs) t h = cc
reached_element (Extensions m o) t h = cc

pub reached_itself : (u : CedarType) → None ≡ element_in u → reached_in u ≡ entity_in u
reached_itself (Booleans b) h = refl
reached_itself Longs h = refl
reached_itself Strings h = refl
reached_itself (Entities m) h = refl
reached_itself (Sets e) h = cc
reached_itself (Records fs) h = refl
reached_itself (Extensions m o) h = refl

-- ---- `in`, by constants

module _ (s : Schema) where
  pub an_action : (l : Option Literal) (a : Uid) → Some a ≡ uid_in l → s.is_action a ≡ true → where_action s l ≡ Some a
  an_action (Some (Entity u)) a h k = let same : a ≡ u = cc in ap (λ b. cond b (Some u) None) (ap s.is_action (sym same) ∙ k) ∙ ap Some (sym same)
  an_action (Some (Boolean b)) a h k = cc
  an_action (Some (Long n)) a h k = cc
  an_action (Some (String t)) a h k = cc
  an_action None a h k = cc

  pub no_action : (l : Option Literal) (a : Uid) → Some a ≡ uid_in l → s.is_action a ≡ false → where_action s l ≡ None
  no_action (Some (Entity u)) a h k = let same : a ≡ u = cc in ap (λ b. cond b (Some u) None) (ap s.is_action (sym same) ∙ k)
  no_action (Some (Boolean b)) a h k = refl
  no_action (Some (Long n)) a h k = refl
  no_action (Some (String t)) a h k = refl
  no_action None a h k = refl

  pub no_entity : (l : Option Literal) → None ≡ uid_in l → where_action s l ≡ None
  no_entity (Some (Entity u)) h = cc
  no_entity (Some (Boolean b)) h = refl
  no_entity (Some (Long n)) h = refl
  no_entity (Some (String t)) h = refl
  no_entity None h = refl

pub and_uid : (l : Option Literal) (u : Uid) (o : Option (List Uid)) → Some u ≡ uid_in l → and_entity l o ≡ option_map (λ us. u ∷ us) o
and_uid (Some (Entity v)) u (Some us) h = let same : u ≡ v = cc in ap (λ w. Some (w ∷ us)) (sym same)
and_uid (Some (Entity v)) u None h = refl
and_uid (Some (Boolean b)) u o h = cc
and_uid (Some (Long n)) u o h = cc
and_uid (Some (String t)) u o h = cc
and_uid None u o h = cc

pub and_no_uid : (l : Option Literal) (o : Option (List Uid)) → None ≡ uid_in l → and_entity l o ≡ None
and_no_uid (Some (Entity v)) o h = cc
and_no_uid (Some (Boolean b)) o h = refl
and_no_uid (Some (Long n)) o h = refl
and_no_uid (Some (String t)) o h = refl
and_no_uid None o h = refl

abbrev listed_by : Environment → Option Trees → Tree → Option (List Uid)
listed_by e (Some xs) x = entities_in e xs
listed_by e None x = and_entity (constant e x) (Some [])

listed_by_items : (e : Environment) (x : Tree) → listed e x ≡ listed_by e (items_in x) x
listed_by_items e (Lit l) = refl
listed_by_items e (Var v) = refl
listed_by_items e (Slot s) = refl
listed_by_items e (Unknown n t) = refl
listed_by_items e (If t y n) = refl
listed_by_items e (And l r) = refl
listed_by_items e (Or l r) = refl
listed_by_items e (Apply Not xs) = refl
listed_by_items e (Apply Neg xs) = refl
listed_by_items e (Apply IsEmpty xs) = refl
listed_by_items e (Apply Equal xs) = refl
listed_by_items e (Apply Less xs) = refl
listed_by_items e (Apply LessEq xs) = refl
listed_by_items e (Apply Add xs) = refl
listed_by_items e (Apply Sub xs) = refl
listed_by_items e (Apply Mul xs) = refl
listed_by_items e (Apply In xs) = refl
listed_by_items e (Apply Contains xs) = refl
listed_by_items e (Apply ContainsAll xs) = refl
listed_by_items e (Apply ContainsAny xs) = refl
listed_by_items e (Apply GetTag xs) = refl
listed_by_items e (Apply HasTag xs) = refl
listed_by_items e (Apply (GetAttr a) xs) = refl
listed_by_items e (Apply (HasAttr a) xs) = refl
listed_by_items e (Apply (HasPath a as_) xs) = refl
listed_by_items e (Apply (Like ps) xs) = refl
listed_by_items e (Apply (Is n) xs) = refl
listed_by_items e (Apply MakeSet xs) = refl
listed_by_items e (Apply (MakeRecord ks) xs) = refl
listed_by_items e (Apply (Call f) xs) = refl

module _ (e : Environment) (a : Uid) where
  -- whether the action is within what a right operand lists
  abbrev pub reaches : Option (List Uid) → Option Bool
  reaches o = option_map (action_is_within_some e.schema a) o

  pub lists_items : (x : Tree) (xs : Trees) → Some xs ≡ items_in x → reaches (listed e x) ≡ reaches (entities_in e xs)
  lists_items x xs h = ap reaches (listed_by_items e x ∙ ap (λ o. listed_by e o x) (sym h))

  or_false : (b : Bool) → (b || false) ≡ b
  or_false true = refl
  or_false false = refl

  pub lists_one : (x : Tree) (u : Uid) → None ≡ items_in x → Some u ≡ uid_in (constant e x) → reaches (listed e x) ≡ Some (action_is_within e.schema a u)
  lists_one x u h k =
      ap reaches (listed_by_items e x ∙ ap (λ o. listed_by e o x) (sym h) ∙ and_uid (constant e x) u (Some []) k)
      ∙ ap Some (or_false (action_is_within e.schema a u))

  pub lists_none : (x : Tree) → None ≡ items_in x → None ≡ uid_in (constant e x) → reaches (listed e x) ≡ None
  lists_none x h k = ap reaches (listed_by_items e x ∙ ap (λ o. listed_by e o x) (sym h) ∙ and_no_uid (constant e x) (Some []) k)

  -- whether it is within one so far, or one of those left
  abbrev pub reached_so_far : Bool → List (Expr (Unit {0})) → Option Bool
  reached_so_far b xs = option_map (λ c. b || c) (reaches (entities_in e (trees (map bare xs))))

  or_assoc : (b c d : Bool) → ((b || c) || d) ≡ (b || (c || d))
  or_assoc true c d = refl
  or_assoc false c d = refl

  joined : (b : Bool) (u : Uid) (o : Option (List Uid)) → option_map (λ c. b || c) (reaches (option_map (λ us. u ∷ us) o)) ≡ option_map (λ c. (b || action_is_within e.schema a u) || c) (reaches o)
  joined b u (Some us) = ap Some (sym (or_assoc b (action_is_within e.schema a u) (action_is_within_some e.schema a us)))
  joined b u None = refl

  pub reaches_more : (xs : List (Expr (Unit {0}))) (i : ℕ) (x : Expr (Unit {0})) (b c : Bool) (u : Uid) → i < length xs → x ≡ get_or xs i x → Some u ≡ uid_in (constant e (bare x)) → c ≡ (b || action_is_within e.schema a u)
      → reached_so_far b (drop i xs) ≡ reached_so_far c (drop (i + 1) xs)
  reaches_more xs i x b c u lt is h k =
      at_drop_more (λ (l : List (Expr (Unit {0}))). reached_so_far b l) xs i x lt
      ∙ ap (λ (y : Expr (Unit {0})). reached_so_far b (y ∷ drop (i + 1) xs)) (sym is)
      ∙ ap (λ o. option_map (λ d. b || d) (reaches o)) (and_uid (constant e (bare x)) u (entities_in e (trees (map bare (drop (i + 1) xs)))) h)
      ∙ joined b u (entities_in e (trees (map bare (drop (i + 1) xs))))
      ∙ ap (λ d. reached_so_far d (drop (i + 1) xs)) (sym k)

  pub reaches_none : (xs : List (Expr (Unit {0}))) (i : ℕ) (x : Expr (Unit {0})) (b : Bool) → i < length xs → x ≡ get_or xs i x → None ≡ uid_in (constant e (bare x)) → reached_so_far b (drop i xs) ≡ None
  reaches_none xs i x b lt is h =
      at_drop_more (λ (l : List (Expr (Unit {0}))). reached_so_far b l) xs i x lt
      ∙ ap (λ (y : Expr (Unit {0})). reached_so_far b (y ∷ drop (i + 1) xs)) (sym is)
      ∙ ap (λ o. option_map (λ d. b || d) (reaches o)) (and_no_uid (constant e (bare x)) (entities_in e (trees (map bare (drop (i + 1) xs)))) h)

  pub reaches_end : (xs : List (Expr (Unit {0}))) (n : ℕ) (b : Bool) → length xs ≤ n → reached_so_far b (drop n xs) ≡ Some b
  reaches_end xs n b le = at_drop_all (λ (l : List (Expr (Unit {0}))). reached_so_far b l) xs n le ∙ ap Some (or_false b)
