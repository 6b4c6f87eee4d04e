-- The rule of calls, by a signature and its arguments.
use Rattle.std.proofs.Common.{◌≡◌, ◌∙◌, arith, refl, sym, ap, ℕ, suc, ◌+◌, ◌<◌, ◌≤◌, Bool, true, false, List, [], ◌∷◌, map, drop, get_or, length, Option, Some, None}
use Rattle.std.specs.Prelude.{◌≢◌, cond, ◌&&◌, is_some}
use Rattle.std.specs.Option.{option_map}
use Rattle.std.proofs.lemmas.List.{at_drop_more, at_drop_all}
use Rattle.cedar_language.specs.Uid.{Text, Name}
use Rattle.cedar_language.specs.Order.{same_name}
use Rattle.cedar_language.specs.Tree.{Boolean, Long, String, Entity, ValueType, BooleanType, LongType, StringType, SetType, RecordType, EntityType, ExtensionType, Tree, Lit, Var, Slot, Unknown, If, And, Or, Apply, Trees, no_trees, a_tree}
use Rattle.cedar_grammar.specs.Build.{trees}
use Rattle.cedar_literals.specs.Types.{value_type_of}
use Rattle.cedar_literals.specs.declared.types.Type as code
use Rattle.cedar_trees.specs.Bare.{bare}
use Rattle.cedar_trees.specs.declared.expr.Expr.{Expr}
use Rattle.cedar_typing.specs.Types.{CedarType, Booleans, Longs, Strings, Entities, Sets, Records, Extensions}
use Rattle.cedar_typing.specs.Schema.{Signature}
use Rattle.cedar_typing.specs.Faults.{UnexpectedType, UndefinedFunction, WrongNumberArguments, FunctionArgumentValidation, NonLitExtConstructor}
use Rattle.cedar_typing.specs.Containers.{passes, all_pass, same_length, constructs_of, where_literal, call_type}
use Rattle.cedar_typing.specs.Results.{Typing, Faulty, plainly}
use Rattle.cedar_typechecker.specs.Types.{bool_type_in, is_long, is_string, entity_in, element_in, fields_in, extension_in, type_view}
use Rattle.cedar_typechecker.specs.Calls.{text_in, sole_text}
use Rattle.cedar_typechecker.specs.Environments.{SignatureHead, signature_head, accepts}
use Rattle.cedar_typechecker.specs.declared.types.ExprType.{ExprType}

-- ---- one parameter

abbrev same_as : (Name → Bool) → Option Name → Bool
same_as f (Some n) = f n
same_as f None = false

abbrev same_first : (Name → Bool) → Option (Name × Bool) → Bool
same_first f (Some e) = f e.0
same_first f None = false

-- what a parameter asks of a type
abbrev pub asked_part : ValueType → CedarType → Bool
asked_part BooleanType t = is_some (bool_type_in t)
asked_part LongType t = is_long t
asked_part StringType t = is_string t
asked_part SetType t = is_some (element_in t)
asked_part RecordType t = is_some (fields_in t)
asked_part (EntityType n) t = same_as (same_name n) (entity_in t)
asked_part (ExtensionType n) t = same_first (same_name n) (extension_in t)

pub passes_part : (v : ValueType) (t : CedarType) → passes v t ≡ asked_part v t
passes_part BooleanType (Booleans b) = refl
passes_part BooleanType Longs = refl
passes_part BooleanType Strings = refl
passes_part BooleanType (Entities m) = refl
passes_part BooleanType (Sets e) = refl
passes_part BooleanType (Records fs) = refl
passes_part BooleanType (Extensions m o) = refl
passes_part LongType (Booleans b) = refl
passes_part LongType Longs = refl
passes_part LongType Strings = refl
passes_part LongType (Entities m) = refl
passes_part LongType (Sets e) = refl
passes_part LongType (Records fs) = refl
passes_part LongType (Extensions m o) = refl
passes_part StringType (Booleans b) = refl
passes_part StringType Longs = refl
passes_part StringType Strings = refl
passes_part StringType (Entities m) = refl
passes_part StringType (Sets e) = refl
passes_part StringType (Records fs) = refl
passes_part StringType (Extensions m o) = refl
passes_part SetType (Booleans b) = refl
passes_part SetType Longs = refl
passes_part SetType Strings = refl
passes_part SetType (Entities m) = refl
passes_part SetType (Sets e) = refl
passes_part SetType (Records fs) = refl
passes_part SetType (Extensions m o) = refl
passes_part RecordType (Booleans b) = refl
passes_part RecordType Longs = refl
passes_part RecordType Strings = refl
passes_part RecordType (Entities m) = refl
passes_part RecordType (Sets e) = refl
passes_part RecordType (Records fs) = refl
passes_part RecordType (Extensions m o) = refl
passes_part (EntityType n) (Booleans b) = refl
passes_part (EntityType n) Longs = refl
passes_part (EntityType n) Strings = refl
passes_part (EntityType n) (Entities m) = refl
passes_part (EntityType n) (Sets e) = refl
passes_part (EntityType n) (Records fs) = refl
passes_part (EntityType n) (Extensions m o) = refl
passes_part (ExtensionType n) (Booleans b) = refl
passes_part (ExtensionType n) Longs = refl
passes_part (ExtensionType n) Strings = refl
passes_part (ExtensionType n) (Entities m) = refl
passes_part (ExtensionType n) (Sets e) = refl
passes_part (ExtensionType n) (Records fs) = refl
passes_part (ExtensionType n) (Extensions m o) = refl

-- ---- all parameters

abbrev Types : Type 0
Types = List ExprType

module _ (vs : List code.Type) (ts : Types) where
  abbrev pub pass_left : ℕ → Bool
  pass_left i = all_pass (map value_type_of (drop i vs)) (map type_view (drop i ts))

  pass_step : (i : ℕ) (v : code.Type) (t : ExprType) → i < length vs → i < length ts → v ≡ get_or vs i v → t ≡ get_or ts i t → pass_left i ≡ (passes (value_type_of v) (type_view t) && pass_left (i + 1))
  pass_step i v t lt lu is as_ =
      at_drop_more (λ (l : List code.Type). all_pass (map value_type_of l) (map type_view (drop i ts))) vs i v lt
      ∙ ap (λ (w : code.Type). all_pass (map value_type_of (w ∷ drop (i + 1) vs)) (map type_view (drop i ts))) (sym is)
      ∙ at_drop_more (λ (l : Types). all_pass (map value_type_of (v ∷ drop (i + 1) vs)) (map type_view l)) ts i t lu
      ∙ ap (λ (w : ExprType). all_pass (map value_type_of (v ∷ drop (i + 1) vs)) (map type_view (w ∷ drop (i + 1) ts))) (sym as_)

  pub pass_more : (i : ℕ) (v : code.Type) (t : ExprType) → i < length vs → i < length ts → v ≡ get_or vs i v → t ≡ get_or ts i t → true ≡ passes (value_type_of v) (type_view t) → pass_left i ≡ pass_left (i + 1)
  pass_more i v t lt lu is as_ h = pass_step i v t lt lu is as_ ∙ ap (λ b. b && pass_left (i + 1)) (sym h)

  pub pass_none : (i : ℕ) (v : code.Type) (t : ExprType) → i < length vs → i < length ts → v ≡ get_or vs i v → t ≡ get_or ts i t → false ≡ passes (value_type_of v) (type_view t) → pass_left i ≡ false
  pass_none i v t lt lu is as_ h = pass_step i v t lt lu is as_ ∙ ap (λ b. b && pass_left (i + 1)) (sym h)

  pub pass_end : (n : ℕ) → length vs ≤ n → length ts ≤ n → pass_left n ≡ true
  pass_end n h k =
      at_drop_all (λ (l : List code.Type). all_pass (map value_type_of l) (map type_view (drop n ts))) vs n h
      ∙ at_drop_all (λ (l : Types). all_pass [] (map type_view l)) ts n k

and_false : (b : Bool) → (b && false) ≡ false
and_false true = refl
and_false false = refl

pub pass_fewer : (vs : List code.Type) (ts : Types) → length vs ≢ length ts → all_pass (map value_type_of vs) (map type_view ts) ≡ false
pass_fewer [] [] h = absurd (h refl)
pass_fewer [] (t ∷ ts) h = refl
pass_fewer (v ∷ vs) [] h = refl
pass_fewer (v ∷ vs) (t ∷ ts) h = ap (λ b. passes (value_type_of v) (type_view t) && b) (pass_fewer vs ts (λ e. h (ap suc e))) ∙ and_false (passes (value_type_of v) (type_view t))

pub lengths_same : (vs : List code.Type) (ts : Types) → length vs ≡ length ts → same_length (map value_type_of vs) (map type_view ts) ≡ true
lengths_same [] [] h = refl
lengths_same [] (t ∷ ts) h = cc
lengths_same (v ∷ vs) [] h = cc
lengths_same (v ∷ vs) (t ∷ ts) h = lengths_same vs ts (omega arith)

pub lengths_differ : (vs : List code.Type) (ts : Types) → length vs ≢ length ts → same_length (map value_type_of vs) (map type_view ts) ≡ false
lengths_differ [] [] h = absurd (h refl)
lengths_differ [] (t ∷ ts) h = refl
lengths_differ (v ∷ vs) [] h = refl
lengths_differ (v ∷ vs) (t ∷ ts) h = lengths_differ vs ts (λ e. h (ap suc e))

-- ---- constructors

abbrev with_text : (Text → Bool) → CedarType → Option Text → Typing
with_text f t (Some s) = cond (f s) (plainly t) (Faulty FunctionArgumentValidation)
with_text f t None = Faulty NonLitExtConstructor

constructs_alone : (f : Text → Bool) (x : Tree) (t : CedarType) → constructs_of f (a_tree x no_trees) t ≡ with_text f t (text_in x)
constructs_alone f (Lit (String s)) t = refl
constructs_alone f (Lit (Boolean b)) t = refl
constructs_alone f (Lit (Long n)) t = refl
constructs_alone f (Lit (Entity u)) t = refl
constructs_alone f (Var v) t = refl
constructs_alone f (Slot v) t = refl
constructs_alone f (Unknown n o) t = refl
constructs_alone f (If a b c) t = refl
constructs_alone f (And l r) t = refl
constructs_alone f (Or l r) t = refl
constructs_alone f (Apply op xs) t = refl

constructs_more : (f : Text → Bool) (x y : Tree) (xs : Trees) (t : CedarType) → constructs_of f (a_tree x (a_tree y xs)) t ≡ Faulty NonLitExtConstructor
constructs_more f (Lit (String s)) y xs t = refl
constructs_more f (Lit (Boolean b)) y xs t = refl
constructs_more f (Lit (Long n)) y xs t = refl
constructs_more f (Lit (Entity u)) y xs t = refl
constructs_more f (Var v) y xs t = refl
constructs_more f (Slot v) y xs t = refl
constructs_more f (Unknown n o) y xs t = refl
constructs_more f (If a b c) y xs t = refl
constructs_more f (And l r) y xs t = refl
constructs_more f (Or l r) y xs t = refl
constructs_more f (Apply op us) y xs t = refl

constructs_by_text : (f : Text → Bool) (xs : Trees) (t : CedarType) → constructs_of f xs t ≡ with_text f t (sole_text xs)
constructs_by_text f no_trees t = refl
constructs_by_text f (a_tree x no_trees) t = constructs_alone f x t
constructs_by_text f (a_tree x (a_tree y xs)) t = constructs_more f x y xs t

pub constructed_of : (f : Text → Bool) (xs : Trees) (t : CedarType) (s : Text) → Some s ≡ sole_text xs → constructs_of f xs t ≡ cond (f s) (plainly t) (Faulty FunctionArgumentValidation)
constructed_of f xs t s h = constructs_by_text f xs t ∙ ap (with_text f t) (sym h)

pub constructed_of_none : (f : Text → Bool) (xs : Trees) (t : CedarType) → None ≡ sole_text xs → constructs_of f xs t ≡ Faulty NonLitExtConstructor
constructed_of_none f xs t h = constructs_by_text f xs t ∙ ap (with_text f t) (sym h)

-- ---- a call, by what is known of the function

where_made : (g : Option (Text → Bool)) (b : Bool) (xs : Trees) (t : CedarType) → b ≡ is_some g → (a : List ValueType) (u : CedarType)
    → where_literal g xs t ≡ cond b (constructs_of (accepts (Some record { arguments = a; result = u; constructs = g })) xs t) (plainly t)
where_made (Some f) true xs t h a u = refl
where_made (Some f) false xs t h a u = cc
where_made None true xs t h a u = cc
where_made None false xs t h a u = refl

by_head : (o : Option Signature) (a : List ValueType) (r : CedarType) (b : Bool) (xs : Trees) (ts : List CedarType) → Some record { arguments = a; result = r; is_constructor = b } ≡ option_map signature_head o
    → call_type o xs ts ≡ cond (all_pass a ts) (cond b (constructs_of (accepts o) xs r) (plainly r)) (cond (same_length a ts) (Faulty UnexpectedType) (Faulty WrongNumberArguments))
by_head None a r b xs ts h = cc
by_head (Some g) a r b xs ts h =
    let same : record { arguments = a; result = r; is_constructor = b } ≡ signature_head g = cc in
    let args : a ≡ g.arguments = ap (λ (h : SignatureHead). h.arguments) same in
    let res : r ≡ g.result = ap (λ (h : SignatureHead). h.result) same in
    let made : b ≡ is_some g.constructs = ap (λ (h : SignatureHead). h.is_constructor) same in
    ap (λ x. cond (all_pass g.arguments ts) x (cond (same_length g.arguments ts) (Faulty UnexpectedType) (Faulty WrongNumberArguments))) (where_made g.constructs b xs g.result made g.arguments g.result)
    ∙ ap (λ u. cond (all_pass g.arguments ts) (cond b (constructs_of (accepts (Some g)) xs u) (plainly u)) (cond (same_length g.arguments ts) (Faulty UnexpectedType) (Faulty WrongNumberArguments))) (sym res)
    ∙ ap (λ as_. cond (all_pass as_ ts) (cond b (constructs_of (accepts (Some g)) xs r) (plainly r)) (cond (same_length as_ ts) (Faulty UnexpectedType) (Faulty WrongNumberArguments))) (sym args)

none_called : (o : Option Signature) (xs : Trees) (ts : List CedarType) → None ≡ option_map signature_head o → call_type o xs ts ≡ Faulty UndefinedFunction
none_called None xs ts h = refl
none_called (Some g) xs ts h = cc

module _ (o : Option Signature) (xs : Trees) (ts : List CedarType) where
  pub call_none : None ≡ option_map signature_head o → call_type o xs ts ≡ Faulty UndefinedFunction
  call_none h = none_called o xs ts h

  module _ (a : List ValueType) (r : CedarType) (b : Bool) (h : Some record { arguments = a; result = r; is_constructor = b } ≡ option_map signature_head o) where
    abbrev called : Bool → Bool → Bool → Typing
    called p c s = cond p (cond c (constructs_of (accepts o) xs r) (plainly r)) (cond s (Faulty UnexpectedType) (Faulty WrongNumberArguments))

    pub call_constructs : true ≡ all_pass a ts → b ≡ true → call_type o xs ts ≡ constructs_of (accepts o) xs r
    call_constructs p c = by_head o a r b xs ts h ∙ ap (λ q. called q b (same_length a ts)) (sym p) ∙ ap (λ q. called true q (same_length a ts)) c

    pub call_passes : true ≡ all_pass a ts → b ≡ false → call_type o xs ts ≡ plainly r
    call_passes p c = by_head o a r b xs ts h ∙ ap (λ q. called q b (same_length a ts)) (sym p) ∙ ap (λ q. called true q (same_length a ts)) c

    pub call_differs : false ≡ all_pass a ts → true ≡ same_length a ts → call_type o xs ts ≡ Faulty UnexpectedType
    call_differs p s = by_head o a r b xs ts h ∙ ap (λ q. called q b (same_length a ts)) (sym p) ∙ ap (λ q. called false b q) (sym s)

    pub call_counts : false ≡ all_pass a ts → false ≡ same_length a ts → call_type o xs ts ≡ Faulty WrongNumberArguments
    call_counts p s = by_head o a r b xs ts h ∙ ap (λ q. called q b (same_length a ts)) (sym p) ∙ ap (λ q. called false b q) (sym s)

-- ---- the only argument

pub one_argument : (xs : List (Expr (Unit {0}))) (x : Expr (Unit {0})) → length xs ≡ 1 → x ≡ get_or xs 0 x → sole_text (trees (map bare xs)) ≡ text_in (bare x)
one_argument [] x h is = cc
one_argument (y ∷ []) x h is = ap (λ (z : Expr (Unit {0})). text_in (bare z)) (sym is)
one_argument (y ∷ z ∷ xs) x h is = absurd (omega arith)

pub other_arguments : (xs : List (Expr (Unit {0}))) → length xs ≢ 1 → sole_text (trees (map bare xs)) ≡ None
other_arguments [] h = refl
other_arguments (y ∷ []) h = absurd (h refl)
other_arguments (y ∷ z ∷ xs) h = refl
