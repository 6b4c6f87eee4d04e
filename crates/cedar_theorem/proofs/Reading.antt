-- What a session reads of a body is what the body says.
use Rattle.std.proofs.Common.{◌≡◌, Bool, true, false, cond, ◌||◌, Option, Some, None, List, [], ◌∷◌, option_map, refl, sym, ◌∙◌, ap}
use Rattle.std.specs.List.{list_any}
use Rattle.std.specs.Option.{unwrap_or}
use Rattle.std.specs.FinMap as map
use Rattle.cedar_language.specs.Uid.{Text, Uid}
use Rattle.cedar_language.specs.Tree.{String, Entity, MakeSet, MakeRecord, Tree, Lit, Apply, Trees, no_trees, a_tree}
use Rattle.cedar_language.specs.Value.{Value, Outcome, Gives, Fails, RecordOf, no_values}
use Rattle.cedar_language.specs.Meaning.{Request, meaning}
use Rattle.cedar_grammar.specs.Functions.{Functions}
use Rattle.cedar_grammar.specs.UnknownCalls.{named, all_named}
use Rattle.cedar_partial_evaluation.specs.Filling.{name_outcome, names_told}
use Rattle.cedar_world.specs.Orders.{text_cmp, text_eq, uid_eq}
use Rattle.cedar_world.specs.Bodies as world
use Rattle.cedar_world.specs.Bodies.{Fields, string_of, entity_of, trees_of, zipped, named_fields, and_then, read_with, each, each_field, found, are_among, if_there, record_with}
use Rattle.cedar_world.specs.Fillings.{given_value}
use Rattle.cedar_world.specs.Setting.{functions_alone, value_of}
use Rattle.cedar_world.proofs.Parts.{not_none, same_some}
use Rattle.cedar_theorem.specs.Bodies.{entry, items, entity_in, lists, no_question, given, value_in, value_under}

-- ---- records

if_true : {A : Type 0} (b : Bool) (o : Option A) (a : A) → cond b o None ≡ Some a → o ≡ Some a
if_true true o a e = e
if_true false o a e = absurd (not_none a e)

pub record_read : {A : Type 0} (keys : List Text) (read : Fields → Option A) (t : Tree) (a : A) → record_with keys read t ≡ Some a
    → (ks : List Text) × (ts : Trees) × (t ≡ Apply (MakeRecord ks) ts) × (read (zipped ks ts) ≡ Some a)
record_read keys read (Apply (MakeRecord ks) ts) a e = (ks, ts, refl, if_true (are_among keys (zipped ks ts)) (read (zipped ks ts)) a e)
record_read keys read _ a e = absurd (not_none a e)

pub entry_found : (key : Text) (ks : List Text) (ts : Trees) → entry key ks ts ≡ found key (zipped ks ts)
entry_found key (k ∷ ks) (a_tree t ts) = ap (λ o. cond (text_eq key k) (Some t) o) (entry_found key ks ts)
entry_found key (k ∷ ks) no_trees = refl
entry_found key [] ts = refl

pub string_read : (o : Option Tree) (s : Text) → and_then o string_of ≡ Some s → o ≡ Some (Lit (String s))
string_read (Some (Lit (String x))) s e = ap (λ y. Some (Lit (String y))) (same_some x s e)
string_read _ s e = absurd (not_none s e)

pub uid_read : (o : Option Tree) (u : Uid) → and_then o entity_of ≡ Some u → entity_in o ≡ Some u
uid_read (Some (Lit (Entity x))) u e = e
uid_read _ u e = absurd (not_none u e)

pub entity_read : (o : Option Tree) (p : Option Uid) → if_there entity_of o ≡ Some p → p ≡ entity_in o
entity_read None p e = sym (same_some None p e)
entity_read (Some (Lit (Entity u))) p e = sym (same_some (Some u) p e)
entity_read _ p e = absurd (not_none p e)

-- ---- lists

pub list_read : {B : Type 0} (f : Trees → Option B) (t : Tree) (b : B) → and_then (trees_of t) f ≡ Some b → (ts : Trees) × (t ≡ Apply MakeSet ts) × (f ts ≡ Some b)
list_read f (Apply MakeSet ts) b e = (ts, refl, e)
list_read f _ b e = absurd (not_none b e)

pub read_both : {A : Type 0} (o : Option A) (p : Option (List A)) (all : List A) → read_with o p ≡ Some all
    → (a : A) × (rest : List A) × (all ≡ a ∷ rest) × (o ≡ Some a) × (p ≡ Some rest)
read_both (Some a) (Some rest) all e = (a, rest, sym (same_some (a ∷ rest) all e), refl, refl)
read_both _ _ all e = absurd (not_none all e)

pub each_listed : (ts : Trees) (uids : List Uid) → each entity_of ts ≡ Some uids → (b : Uid) → list_any (uid_eq b) uids ≡ lists ts b
each_listed no_trees uids e b = ap (list_any (uid_eq b)) (sym (same_some [] uids e))
each_listed (a_tree (Lit (Entity u)) ts) uids e b =
    let (a, rest, is, here, more) = read_both (Some u) (each entity_of ts) uids e in
    ap (list_any (uid_eq b)) is ∙ ap (λ x. uid_eq b x || list_any (uid_eq b) rest) (sym (same_some u a here)) ∙ ap (λ x. uid_eq b u || x) (each_listed ts rest more b)
each_listed (a_tree _ ts) uids e b = absurd (not_none uids e)

-- the parents that are listed
abbrev pub or_no_uids : Option (List Uid) → List Uid
or_no_uids p = unwrap_or p []

pub parents_read : (o : Option Tree) (p : Option (List Uid)) → if_there world.uids_of o ≡ Some p → (b : Uid) → list_any (uid_eq b) (or_no_uids p) ≡ lists (items o) b
parents_read None p e b = ap (λ q. list_any (uid_eq b) (or_no_uids q)) (sym (same_some None p e))
parents_read (Some (Apply MakeSet ts)) p e b = of_items (each entity_of ts) refl e
  where
    of_items : (q : Option (List Uid)) → each entity_of ts ≡ q → option_map (λ a. Some a) q ≡ Some p → list_any (uid_eq b) (or_no_uids p) ≡ lists ts b
    of_items (Some uids) is f = ap (λ q. list_any (uid_eq b) (or_no_uids q)) (sym (same_some (Some uids) p f)) ∙ each_listed ts uids is b
    of_items None is f = absurd (not_none p f)
parents_read _ p e b = absurd (not_none p e)

-- ---- values

given_same : (o : Outcome) → given_value o ≡ given o
given_same (Gives v) = refl
given_same (Fails k) = refl

pub nothing_told : names_told map.empty ≡ no_question
nothing_told = λ i. record {
  variable = λ v. RecordOf [] no_values;
  unknown = λ n type. name_outcome (map.get-empty text_cmp n i) type;
  slots = λ s. None;
}

pub value_read : (functions : Functions) (t : Tree) → given_value (value_of functions map.empty (named t)) ≡ value_in functions (Some t)
value_read functions t = given_same (value_of functions map.empty (named t)) ∙ ap (λ (r : Request). given (meaning (functions_alone functions) r (named t))) nothing_told

abbrev pub or_no_fields : Option Fields → Fields
or_no_fields p = unwrap_or p []

module _ (functions : Functions) where
  abbrev reads : Tree → Option Value
  reads t = given_value (value_of functions map.empty t)

  found_value : (name k : Text) (t : Tree) (ks : List Text) (ts : Trees) (b : Bool) → text_eq name k ≡ b → (v : Value) → reads (named t) ≡ Some v → (o : Option Value) → o ≡ value_in functions (entry name ks ts)
      → cond b (Some v) o ≡ value_in functions (cond b (Some t) (entry name ks ts))
  found_value name k t ks ts true tie v e o is = sym e ∙ value_read functions t
  found_value name k t ks ts false tie v e o is = is

  pub entries_read : (ks : List Text) (ts : Trees) (es : List (Text × Value)) → each_field reads (zipped ks (all_named ts)) ≡ Some es
      → (name : Text) → map.find text_cmp name es ≡ value_in functions (entry name ks ts)
  entries_read [] ts es e name = ap (map.find text_cmp name) (sym (same_some [] es e))
  entries_read (k ∷ ks) no_trees es e name = ap (map.find text_cmp name) (sym (same_some [] es e))
  entries_read (k ∷ ks) (a_tree t ts) es e name =
      let (first, rest, is, here, more) = read_both (option_map (λ v. (k, v)) (reads (named t))) (each_field reads (zipped ks (all_named ts))) es e in
      ap (map.find text_cmp name) is ∙ of_value (reads (named t)) refl first here rest (entries_read ks ts rest more name)
    where
      of_value : (o : Option Value) → reads (named t) ≡ o → (first : Text × Value) → option_map (λ v. (k, v)) o ≡ Some first
          → (rest : List (Text × Value)) → map.find text_cmp name rest ≡ value_in functions (entry name ks ts) → map.find text_cmp name (first ∷ rest) ≡ value_in functions (entry name (k ∷ ks) (a_tree t ts))
      of_value (Some v) is first here rest more =
          ap (λ x. map.find text_cmp name (x ∷ rest)) (sym (same_some (k, v) first here))
          ∙ found_value name k t ks ts (text_eq name k) refl v is (map.find text_cmp name rest) more
      of_value None is first here rest more = absurd (not_none first here)

  pub attributes_read : (o : Option Tree) (p : Option Fields) → if_there named_fields o ≡ Some p → (es : List (Text × Value)) → each_field reads (or_no_fields p) ≡ Some es
      → (name : Text) → map.find text_cmp name es ≡ value_under functions o name
  attributes_read None p e es f name =
      ap (map.find text_cmp name) (sym (same_some [] es (ap (λ q. each_field reads (or_no_fields q)) (same_some None p e) ∙ f)))
  attributes_read (Some (Apply (MakeRecord ks) ts)) p e es f name =
      entries_read ks ts es (ap (λ q. each_field reads (or_no_fields q)) (same_some (Some (zipped ks (all_named ts))) p e) ∙ f) name
  attributes_read _ p e es f name = absurd (not_none p e)
