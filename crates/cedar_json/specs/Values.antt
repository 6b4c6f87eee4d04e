-- What a text of JSON says as a value of Cedar. (Cedar, "Entities and context: JSON".)
use Rattle.std.specs.Prelude.{◌≡◌, ℕ, ◌==◌, ◌&&◌, not, Bool, true, false, Option, Some, None, option_map, List, [], ◌∷◌, codes, if◌then◌else◌, nat_le, pos, neg_ℤ}
use Rattle.std.specs.List.{list_all, list_any}
use Rattle.std.specs.Char.{is_ascii_digit}
use Rattle.std.specs.Str.Parse.{digits_value}
use Rattle.json.specs.Json.{Json, null, boolean, number, string, array, object, Items, no_items, item, Members, no_members, member, document}
use Rattle.cedar_language.specs.Uid.{Text, Name, Uid}
use Rattle.cedar_language.specs.Height.{height}
use Rattle.cedar_language.specs.Tree.{Tree, Lit, String, Entity, Apply, MakeSet, Call}
use Rattle.cedar_grammar.specs.Build.{truth, long, trees, Keyed, keys, record_of}
use Rattle.cedar_grammar.specs.Calls.{calls_only}
use Rattle.cedar_grammar.specs.Names.{Names, is_text, is_among, is_function, are_distinct}
use Rattle.cedar_grammar.specs.Policies.{ReadsExpr}
use Rattle.cedar_world.specs.Bodies.{and_then, read_with, name_spelled}

-- ---- numbers

abbrev pub minus : ℕ
minus = 45

-- one digit or more, and nothing else
abbrev pub are_digits : Text → Bool
are_digits [] = false
are_digits (c ∷ cs) = is_ascii_digit c && list_all is_ascii_digit cs

-- the digits write a number of at most so much
abbrev pub is_at_most : ℕ → Text → Bool
is_at_most most ds = are_digits ds && nat_le (digits_value 10 ds) most

abbrev pub positive : Text → Option Tree
positive ds = if is_at_most 9223372036854775807 ds then Some (long (pos (digits_value 10 ds))) else None

abbrev pub negative : Text → Option Tree
negative ds = if is_at_most 9223372036854775808 ds then Some (long (neg_ℤ (pos (digits_value 10 ds)))) else None

-- a long: digits, perhaps behind a minus sign
abbrev pub long_in : Text → Option Tree
long_in [] = None
long_in (c ∷ cs) = if c == minus then negative cs else positive (c ∷ cs)

-- ---- entities

abbrev pub uid_with : Text → Text → Option Uid
uid_with type id = option_map (λ p. record { type_name = p; id = id }) (name_spelled type)

-- two strings under these two keys, in either order
abbrev pub two_strings : Text → Text → Text → Text → Text → Text → Option Uid
two_strings k s l t type id =
    if is_text k type && is_text l id then uid_with s t else if is_text k id && is_text l type then uid_with t s else None

-- an entity: an object of two strings, `type` and `id`
abbrev pub uid_in : Json → Option Uid
uid_in (object (member k (string s) (member l (string t) no_members))) = two_strings k s l t (codes "type") (codes "id")
uid_in _ = None

-- ---- calls

-- the name that a string spells
abbrev pub name_in : Json → Option Name
name_in (string s) = name_spelled s
name_in _ = None

-- one argument under `arg`, or some under `args`
abbrev pub arguments : Text → Option Tree → Option (List Tree) → Option (List Tree)
arguments key one some = if is_text key (codes "arg") then option_map (λ t. t ∷ []) one else if is_text key (codes "args") then some else None

abbrev pub call_with : Option Name → Option (List Tree) → Option Tree
call_with (Some p) (Some ts) = Some (Apply (Call p) (trees ts))
call_with _ _ = None

-- ---- records

-- the keys that make no record
abbrev pub escapes : List Text
escapes = codes "__entity" ∷ codes "__extn" ∷ codes "__expr" ∷ []

-- a record has no key twice, and none of an escape
abbrev pub record_with : List (Keyed Tree) → Option Tree
record_with es = if are_distinct (keys es) && not (list_any (λ k. is_among k escapes) (keys es)) then Some (record_of es) else None

-- a value under its key, before other entries
abbrev pub entry_with : Text → Option Tree → Option (List (Keyed Tree)) → Option (List (Keyed Tree))
entry_with key value rest = read_with (option_map (λ t. (key, t)) value) rest

-- an object of one key: an entity, a call or a record
abbrev pub single : Text → Option Uid → Option Tree → Option Tree → Option Tree
single key uid call record_ =
    if is_text key (codes "__entity") then option_map (λ u. Lit (Entity u)) uid else if is_text key (codes "__extn") then call else record_

-- ---- values

-- the value that JSON says; null is none, and an escape stands alone
abbrev mutual
  pub datum : Json → Option Tree
  datum null = None
  datum (boolean b) = Some (truth b)
  datum (number s) = long_in s
  datum (string s) = Some (Lit (String s))
  datum (array js) = option_map (λ ts. Apply MakeSet (trees ts)) (data_of js)
  datum (object no_members) = record_with []
  datum (object (member k j no_members)) = single k (uid_in j) (call_in j) (and_then (entry_with k (datum j) (Some [])) record_with)
  datum (object (member k j (member l i ms))) =
      and_then (entry_with k (datum j) (entry_with l (datum i) (entries ms))) record_with

  pub data_of : Items → Option (List Tree)
  data_of no_items = Some []
  data_of (item j js) = read_with (datum j) (data_of js)

  pub entries : Members → Option (List (Keyed Tree))
  entries no_members = Some []
  entries (member k j ms) = entry_with k (datum j) (entries ms)

  -- an object of `fn` and its arguments
  pub call_in : Json → Option Tree
  call_in (object (member k a (member l b no_members))) =
      if is_text k (codes "fn") then call_with (name_in a) (arguments l (datum b) (items_in b))
      else if is_text l (codes "fn") then call_with (name_in b) (arguments k (datum a) (items_in a)) else None
  call_in _ = None

  pub items_in : Json → Option (List Tree)
  items_in (array js) = data_of js
  items_in _ = None

-- ---- texts

-- the value that a text of JSON says
abbrev pub value_of : Text → Option Tree
value_of json = and_then (document json) datum

-- the text is this tree wherever the functions that it calls are known
abbrev pub IsTextOf : Text → Tree → Type 0
IsTextOf text t = (names : Names) → calls_only (is_function names) t ≡ true → ReadsExpr names (height t) text t

-- the Cedar text is the value that the JSON says
abbrev pub Says : Text → Text → Type 0
Says json text = (t : Tree) × (value_of json ≡ Some t) × IsTextOf text t
