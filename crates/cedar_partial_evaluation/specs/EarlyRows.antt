-- Worked rows of partial evaluation: what is answered and settled of small trees at small questions.
use Rattle.std.specs.Prelude.{◌≡◌, ℤ, pos, true, false, cond, Option, Some, None, [], ◌∷◌, codes}
use Rattle.std.specs.FinMap as finite
use Rattle.cedar_language.specs.Uid.{Text, Name, Uid}
use Rattle.cedar_language.specs.Tree.{Boolean, Long, String, Entity, Principal, Resource, Context, Operator, Equal, Add, In, GetAttr, HasAttr, Call, MakeRecord, Tree, Lit, Var, Unknown, And, Apply, no_trees, a_tree, LongType}
use Rattle.cedar_language.specs.Tree as tree
use Rattle.cedar_language.specs.Value.{Extension, Value, Plain, ExtensionOf, TypeError, EntityDoesNotExist, RecordAttrDoesNotExist, UnlinkedSlot, Values, no_values, a_value, RecordOf}
use Rattle.cedar_language.specs.Order.{same_text, same_name}
use Rattle.cedar_language.specs.Facts.{Function, Facts}
use Rattle.cedar_language.specs.Answering.{Residual}
use Rattle.cedar_partial_evaluation.specs.MadeAgain.{HoldsMade}
use Rattle.cedar_partial_evaluation.specs.Settling.{Settling, Open, Is, settled_in}
use Rattle.cedar_partial_evaluation.specs.Partial.{Answer, Evaluated, ResidualTree, Failed, partial_in}
use Rattle.cedar_partial_evaluation.specs.Question.{Given, Missing, Entries, WithEntries, Question, Told, settled_of, held_of}
use Rattle.cedar_partial_evaluation.specs.Filling.{IsFilling}
use Rattle.cedar_partial_evaluation.specs.Early.{standing_of_answer}

abbrev pub uid : Text → Text → Uid
uid ty id = record { type_name = ty ∷ []; id = id }

abbrev pub user : Uid
user = uid (codes "User") (codes "a")

abbrev pub one : Operator → Tree → Tree
one op t = Apply op (a_tree t no_trees)

abbrev pub two : Operator → Tree → Tree → Tree
two op s t = Apply op (a_tree s (a_tree t no_trees))

abbrev pub long : ℤ → Tree
long n = Lit (Long n)

abbrev pub context_dot : Text → Tree
context_dot a = one (GetAttr a) (Var Context)

abbrev pub rank_name : Name
rank_name = codes "rank" ∷ []

abbrev pub low : Extension
low = record { type_name = codes "rank" ∷ []; ordered = true; key = 0 ∷ [] }

abbrev pub high : Extension
high = record { type_name = codes "rank" ∷ []; ordered = true; key = 2 ∷ [] }

abbrev pub rank_of : Text → Option Value
rank_of s = cond (same_text s (codes "low")) (Some (ExtensionOf low)) (cond (same_text s (codes "high")) (Some (ExtensionOf high)) None)

abbrev pub rank_answer : Values → Option Value
rank_answer (a_value (Plain (String s)) no_values) = rank_of s
rank_answer _ = None

abbrev pub rank_function : Name → Option Function
rank_function n = cond (same_name n rank_name) (Some (record { takes = Some 1; answer = rank_answer })) None

abbrev pub nothing_held : Facts
nothing_held = record {
  entity = λ u. None;
  reaches = λ u v. false;
  function = rank_function;
}

abbrev pub asked : Entries → Question
asked context = record { principal = Given user; action = Given (uid (codes "Action") (codes "v")); resource = Given (uid (codes "R") (codes "r")); context = context }

abbrev pub answers : Question → Told → Tree → Answer
answers q told t = partial_in nothing_held (held_of nothing_held q (λ s. None) told) t

abbrev pub settles : Question → Told → Tree → Settling
settles q told t = settled_in nothing_held (settled_of nothing_held q (λ s. None) told) t

-- nothing is told of the name
abbrev pub IsUntold : Told → Text → Type 0
IsUntold told n = finite.get told n ≡ None

abbrev pub IsToldAs : Told → Text → Value → Type 0
IsToldAs told n v = finite.get told n ≡ Some v

abbrev pub name_x : Tree
name_x = Unknown (codes "x") None

abbrev pub true_at : Answer
true_at = Evaluated (Plain (Boolean true))

abbrev pub false_at : Answer
false_at = Evaluated (Plain (Boolean false))

abbrev pub of_one : Text → Tree → Entries
of_one k t = WithEntries (k ∷ []) (a_tree t no_trees)

abbrev pub of_two : Text → Tree → Text → Tree → Entries
of_two k t l u = WithEntries (k ∷ l ∷ []) (a_tree t (a_tree u no_trees))

-- beside a call the context isn't projected, but an entry that isn't written errs
abbrev pub rank_low : Tree
rank_low = one (Call rank_name) (Lit (String (codes "low")))

-- a principal that is unknown, with its type
abbrev pub typed_principal : Question
typed_principal = record { principal = Missing (Some (codes "User" ∷ [])); action = Given user; resource = Given user; context = WithEntries [] no_trees }

-- a principal and a resource that are unknown, with their types
abbrev pub typed_both : Question
typed_both = record { principal = Missing (Some (codes "User" ∷ [])); action = Given user; resource = Missing (Some (codes "R" ∷ [])); context = WithEntries [] no_trees }

-- an unknown that is to be a long: of another type than an entity, but nothing is decided by that
abbrev pub a_long : Tree
a_long = Unknown (codes "x") (Some LongType)

abbrev pub no_entries : Question
no_entries = asked (WithEntries [] no_trees)

-- a function that hands its argument back answers nothing that isn't made again
abbrev pub handed_back : Values → Option Value
handed_back (a_value v no_values) = Some v
handed_back _ = None

abbrev pub hands_back : Facts
hands_back = record {
  entity = λ u. None;
  reaches = λ u v. false;
  function = λ n. Some (record { takes = Some 1; answer = handed_back });
}

-- `context.y && (context.x && 1 + "a" == 2)`: the error on the right is kept back until the left is told
abbrev pub inner : Tree
inner = And (context_dot (codes "x")) (two Equal (two Add (long (pos 1)) (Lit (String (codes "a")))) (long (pos 2)))

abbrev pub keeps_back : Tree
keeps_back = And (context_dot (codes "y")) inner

abbrev pub two_names : Question
two_names = asked (of_two (codes "x") name_x (codes "y") (Unknown (codes "y") None))

abbrev pub yes : Value
yes = Plain (Boolean true)

-- more values told can settle less: `context.k.zz` beside a name that is told an extension value
abbrev pub with_k : Question
with_k = asked (WithEntries (codes "a" ∷ codes "k" ∷ codes "w" ∷ []) (a_tree name_x (a_tree (Apply (MakeRecord []) no_trees) (a_tree (Unknown (codes "w") None) no_trees))))

abbrev pub k_zz : Tree
k_zz = one (GetAttr (codes "zz")) (context_dot (codes "k"))

-- `x && ?principal.zz`: the entity isn't held, so the right operand errs and is kept with its slot
abbrev pub behind_x : Tree
behind_x = And name_x (one (GetAttr (codes "zz")) (tree.Slot tree.PrincipalSlot))

abbrev pub answers_bound : Question → Told → Tree → Answer
answers_bound q told t = partial_in nothing_held (held_of nothing_held q (λ s. Some user) told) t

pub record EarlyRows : Type 0 where
  -- an entry beside an unknown one is read
  pub beside_unknown : (told : Told) → IsUntold told (codes "x") →
      answers (asked (of_two (codes "a") name_x (codes "b") (long (pos 1)))) told (two Equal (context_dot (codes "b")) (long (pos 1))) ≡ true_at
  pub beside_unknown_settles : (told : Told) → IsUntold told (codes "x") →
      settles (asked (of_two (codes "a") name_x (codes "b") (long (pos 1)))) told (two Equal (context_dot (codes "b")) (long (pos 1))) ≡ Is (Plain (Boolean true))
  -- an entry that isn't written errs, or is told absent
  pub not_written : (told : Told) → IsUntold told (codes "x") →
      answers (asked (of_one (codes "a") name_x)) told (two Equal (context_dot (codes "zz")) (long (pos 1))) ≡ Failed RecordAttrDoesNotExist
  pub not_written_has : (told : Told) → IsUntold told (codes "x") →
      answers (asked (of_one (codes "a") name_x)) told (one (HasAttr (codes "zz")) (Var Context)) ≡ false_at
  -- an operand that errs behind an unknown one
  pub errs_behind : (told : Told) → IsUntold told (codes "x") →
      answers (asked (of_one (codes "a") name_x)) told (two Equal (context_dot (codes "a")) (two Add (long (pos 1)) (Lit (String (codes "a"))))) ≡ Failed TypeError
  pub beside_call : (told : Told) → IsUntold told (codes "x") →
      standing_of_answer (answers (asked (of_two (codes "a") name_x (codes "b") rank_low)) told (two Equal (context_dot (codes "b")) rank_low)) ≡ Residual
  pub beside_call_open : (told : Told) → IsUntold told (codes "x") →
      settles (asked (of_two (codes "a") name_x (codes "b") rank_low)) told (two Equal (context_dot (codes "b")) rank_low) ≡ Open
  pub not_written_beside_call : (told : Told) → IsUntold told (codes "x") →
      answers (asked (of_two (codes "a") name_x (codes "b") rank_low)) told (two Equal (context_dot (codes "zz")) (long (pos 1))) ≡ Failed RecordAttrDoesNotExist
  pub is_by_type : (told : Told) → IsUntold told (codes "principal") →
      answers typed_principal told (one (tree.Is (codes "User" ∷ [])) (Var Principal)) ≡ true_at
  pub other_type_differs : (told : Told) → IsUntold told (codes "principal") →
      answers typed_principal told (two Equal (Var Principal) (Lit (Entity (uid (codes "Bot") (codes "b"))))) ≡ false_at
  pub same_type_open : (told : Told) → IsUntold told (codes "principal") →
      standing_of_answer (answers typed_principal told (two Equal (Var Principal) (Lit (Entity user)))) ≡ Residual
  pub same_type_told : (told : Told) → IsToldAs told (codes "principal") (Plain (Entity user)) →
      answers typed_principal told (two Equal (Var Principal) (Lit (Entity user))) ≡ true_at
  -- a told entity of another type is a TypeError
  pub other_type_told : (told : Told) →
      IsToldAs told (codes "principal") (Plain (Entity (uid (codes "Bot") (codes "b")))) →
      answers typed_principal told (two Equal (Var Principal) (Lit (Entity user))) ≡ Failed TypeError
  -- the type settles `is`, and `==` with an entity of another type on either side, or with a missing resource of another type
  pub is_settles : (told : Told) → IsUntold told (codes "principal") →
      settles typed_principal told (one (tree.Is (codes "User" ∷ [])) (Var Principal)) ≡ Is (Plain (Boolean true))
  pub is_other_settles : (told : Told) → IsUntold told (codes "principal") →
      settles typed_principal told (And (one (tree.Is (codes "Bot" ∷ [])) (Var Principal)) (two In (Var Principal) (Lit (Entity user)))) ≡ Is (Plain (Boolean false))
  pub other_type_settles : (told : Told) → IsUntold told (codes "principal") →
      settles typed_principal told (two Equal (Var Principal) (Lit (Entity (uid (codes "Bot") (codes "b"))))) ≡ Is (Plain (Boolean false))
  pub turned_settles : (told : Told) → IsUntold told (codes "principal") →
      settles typed_principal told (two Equal (Lit (Entity (uid (codes "Bot") (codes "b")))) (Var Principal)) ≡ Is (Plain (Boolean false))
  pub two_types_settle : (told : Told) → IsUntold told (codes "principal") → IsUntold told (codes "resource") →
      settles typed_both told (two Equal (Var Principal) (Var Resource)) ≡ Is (Plain (Boolean false))
  pub same_type_settles_nothing : (told : Told) → IsUntold told (codes "principal") →
      settles typed_principal told (two Equal (Var Principal) (Lit (Entity user))) ≡ Open
  pub other_type_told_settles_nothing : (told : Told) → IsToldAs told (codes "principal") (Plain (Entity (uid (codes "Bot") (codes "b")))) →
      settles typed_principal told (one (tree.Is (codes "User" ∷ [])) (Var Principal)) ≡ Open
  -- a filling of this question
  pub a_filling : (told : Told) → IsToldAs told (codes "principal") (Plain (Entity user)) →
      IsFilling nothing_held typed_principal told (record { principal = user; action = user; resource = user; context = RecordOf [] no_values })
  pub long_is_open : (told : Told) → IsUntold told (codes "x") →
      standing_of_answer (answers no_entries told (two Equal a_long (Lit (Entity user)))) ≡ Residual
  pub long_told : (told : Told) → IsToldAs told (codes "x") (Plain (Long (pos 1))) →
      answers no_entries told (two Equal a_long (long (pos 1))) ≡ true_at
  pub no_long_told : (told : Told) → IsToldAs told (codes "x") (Plain (Boolean true)) →
      answers no_entries told (two Equal a_long (long (pos 1))) ≡ Failed TypeError
  pub no_long_settles_nothing : (told : Told) → IsToldAs told (codes "x") (Plain (Boolean true)) →
      settles no_entries told (two Equal a_long (long (pos 1))) ≡ Open
  pub hands_back_made : HoldsMade hands_back
  pub kept_back : (told : Told) → IsUntold told (codes "x") → IsUntold told (codes "y") →
      standing_of_answer (answers two_names told keeps_back) ≡ Residual
  pub kept_back_later : (told : Told) → IsToldAs told (codes "x") yes → IsUntold told (codes "y") →
      standing_of_answer (answers two_names told keeps_back) ≡ Residual
  pub comes_out : (told : Told) → IsToldAs told (codes "x") yes → IsToldAs told (codes "y") yes →
      answers two_names told keeps_back ≡ Failed TypeError
  pub decided_first : (told : Told) → IsUntold told (codes "x") → IsUntold told (codes "w") →
      answers with_k told k_zz ≡ Failed RecordAttrDoesNotExist
  pub decided_less : (told : Told) → IsToldAs told (codes "x") (ExtensionOf low) → IsUntold told (codes "w") →
      standing_of_answer (answers with_k told k_zz) ≡ Residual
  -- what is kept with its slot errs where the slot isn't bound any more, with another kind
  pub slot_kept : (told : Told) → IsUntold told (codes "x") → answers_bound no_entries told behind_x ≡ ResidualTree behind_x
  pub slot_bound : (told : Told) → IsToldAs told (codes "x") yes → answers_bound no_entries told behind_x ≡ Failed EntityDoesNotExist
  pub slot_unbound : (told : Told) → IsToldAs told (codes "x") yes → answers no_entries told behind_x ≡ Failed UnlinkedSlot
