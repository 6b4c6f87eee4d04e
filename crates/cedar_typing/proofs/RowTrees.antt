-- The trees of rows.
use Rattle.std.specs.Prelude.{ℤ, pos, true, false, cond, nat_eq, List, [], ◌∷◌, codes}
use Rattle.cedar_language.specs.Uid.{Text, Name, Uid}
use Rattle.cedar_language.specs.Tree.{Boolean, Long, String, Entity, Principal, Action, Resource, Context, PatternElem, Char, Wildcard, Operator, Not, Equal, LessEq, GetTag, HasTag, GetAttr, HasAttr, MakeRecord, Tree, Lit, Var, And, Apply, no_trees, a_tree}
use Rattle.cedar_typing.proofs.RowSchemas.{action_type, user, uid, view, edit}

abbrev pub one : Operator → Tree → Tree
one op t = Apply op (a_tree t no_trees)

abbrev pub two : Operator → Tree → Tree → Tree
two op s t = Apply op (a_tree s (a_tree t no_trees))

abbrev pub true_tree : Tree
true_tree = Lit (Boolean true)

abbrev pub false_tree : Tree
false_tree = Lit (Boolean false)

abbrev pub long : ℤ → Tree
long n = Lit (Long n)

abbrev pub text : Text → Tree
text s = Lit (String s)

abbrev pub literal : Uid → Tree
literal u = Lit (Entity u)

abbrev pub the_principal : Tree
the_principal = Var Principal

abbrev pub the_action : Tree
the_action = Var Action

abbrev pub the_resource : Tree
the_resource = Var Resource

abbrev pub dot : Text → Tree → Tree
dot a t = one (GetAttr a) t

abbrev pub has : Text → Tree → Tree
has a t = one (HasAttr a) t

abbrev pub greater : Tree → Tree → Tree
greater s t = one Not (two LessEq s t)

-- a pattern by its text, in which `*` is any run of characters
abbrev pub pattern : Text → List PatternElem
pattern [] = []
pattern (c ∷ cs) = cond (nat_eq c 42) Wildcard (Char c) ∷ pattern cs

-- `{a: t}`
abbrev pub with_a : Tree → Tree
with_a t = one (MakeRecord (codes "a" ∷ [])) t

-- `{a: s, b: t}`
abbrev pub with_a_b : Tree → Tree → Tree
with_a_b s t = two (MakeRecord (codes "a" ∷ codes "b" ∷ [])) s t

-- ---- what rows read

abbrev pub age : Tree
age = dot (codes "age") the_principal

abbrev pub has_age : Tree
has_age = has (codes "age") the_principal

-- `principal.age > 18`
abbrev pub grown : Tree
grown = greater age (long (pos 18))

abbrev pub name : Tree
name = dot (codes "name") the_principal

abbrev pub roles : Tree
roles = dot (codes "roles") the_principal

abbrev pub address : Tree
address = dot (codes "address") the_principal

abbrev pub account : Tree
account = dot (codes "account") the_principal

abbrev pub manager : Tree
manager = dot (codes "manager") the_principal

abbrev pub has_manager : Tree
has_manager = has (codes "manager") the_principal

abbrev pub has_tag : Text → Tree → Tree
has_tag k t = two HasTag t (text k)

abbrev pub tag : Text → Tree → Tree
tag k t = two GetTag t (text k)

-- `User::"a"`
abbrev pub a_user : Tree
a_user = literal (uid user (codes "a"))

-- `action == App::Action::"read"`, or of another namespace
abbrev pub is_read : Name → Tree
is_read n = two Equal the_action (literal (uid n (codes "read")))

abbrev pub owner : Tree
owner = dot (codes "owner") the_resource

abbrev pub mfa : Tree
mfa = dot (codes "mfa") (Var Context)

abbrev pub now : Tree
now = dot (codes "now") (Var Context)

abbrev pub nickname : Tree
nickname = dot (codes "nickname") the_principal

abbrev pub hour : Tree
hour = dot (codes "hour") (Var Context)

abbrev pub authenticated : Tree
authenticated = dot (codes "authenticated") (Var Context)

-- ---- policies, by what their scopes ask of principal, action and resource

abbrev pub scope : Tree → Tree → Tree → Tree
scope p a r = And (And p a) r

abbrev pub is_view : Tree
is_view = two Equal the_action (literal view)

-- `(principal, action == Action::"view", resource) when { t }`, the same of `edit`, and of any action
abbrev pub viewing : Tree → Tree
viewing t = And (scope true_tree is_view true_tree) t

abbrev pub editing : Tree → Tree
editing t = And (scope true_tree (two Equal the_action (literal edit)) true_tree) t

abbrev pub always : Tree → Tree
always t = And (scope true_tree true_tree true_tree) t

-- `(principal, action == Action::"a", resource) when { t }`
abbrev pub acting : Tree → Tree
acting t = And (scope true_tree (two Equal the_action (literal (uid action_type (codes "a")))) true_tree) t
