-- Converting a loose tree to the syntax that it writes, where it writes any. (Cedar language reference, "Grammar specification" and "Policy syntax".)
use Rattle.std.specs.Prelude.{ℕ, zero, suc, ◌^◌, nat_lt, nat_le, pos, neg_ℤ, List, [], ◌∷◌, ◌++◌, Option, Some, None, Result, Ok, Err, Bool, true, false}
use Rattle.std.specs.Prelude as prelude
use Rattle.cedar_language.specs.Slots.{tree_slots}
use Rattle.cedar_language.specs.Uid.{Text, Name, Uid}
use Rattle.cedar_language.specs.Tree as tree
use Rattle.cedar_language.specs.Tree.{Tree, Lit, Var, If, Apply, Like, Is, MakeSet, GetAttr, Variable, Literal}
use Rattle.cedar_grammar.specs.Token as token
use Rattle.cedar_grammar.specs.Token.{Word, id_of, spelled}
use Rattle.cedar_grammar.specs.Escape.{string_of, pattern_of}
use Rattle.cedar_grammar.specs.Names.{Names, is_function, are_distinct, variable_of}
use Rattle.cedar_grammar.specs.Build.{truth, long, trees, unary, binary, conjunction, disjunction, Comparison, compared, is_in, nots, negs, method, Keyed, keys, record_of, by_key}
use Rattle.cedar_grammar.specs.Build as build
use Rattle.cedar_grammar.specs.Policy.{Effect, Target, the_entity, the_slot, Constraint, anything, equals, within, of_type, of_type_within, ActionConstraint, any_action, action_equals, action_within_any, Policy}
use Rattle.cedar_grammar.specs.Policies.{ends_in_action, body_of, effect_of}
use Rattle.cedar_grammar.specs.Steps.{◌>>=◌}
use Rattle.cedar_grammar.specs.Loose as loose
use Rattle.cedar_grammar.specs.LooseReading.{Fault}

-- all of them, where each gives something
abbrev pub each : {A B : Type 0} → (A → Option B) → List A → Option (List B)
each f [] = Some []
each f (x ∷ xs) = f x >>= λ y. each f xs >>= λ ys. Some (y ∷ ys)

-- ---- names, literals and entities

abbrev pub ident_text : loose.Ident → Option Text
ident_text (loose.ident w) = id_of w
ident_text i = None

-- how an identifier is written, also a reserved one
abbrev pub ident_spelling : loose.Ident → Option Text
ident_spelling (loose.ident w) = Some (spelled w)
ident_spelling i = None

abbrev pub name_path : loose.Name → Option Name
name_path (loose.name is i) = each ident_text is >>= λ p. ident_text i >>= λ s. Some (p ++ (s ∷ []))
name_path n = None

abbrev pub str_text : loose.Str → Option Text
str_text (loose.string raw) = string_of raw
str_text s = None

abbrev pub ref_entity : loose.Ref → Option Uid
ref_entity (loose.uid n s) = name_path n >>= λ p. str_text s >>= λ t. Some (record { type_name = p; id = t })
ref_entity r = None

abbrev pub literal_tree : loose.Literal → Option Tree
literal_tree loose.missing_literal = None
literal_tree loose.true_ = Some (truth true)
literal_tree loose.false_ = Some (truth false)
literal_tree (loose.num n) = prelude.cond (nat_lt n (2 ^ 63)) (Some (long (pos n))) None
literal_tree (loose.str s) = str_text s >>= λ t. Some (Lit (tree.String t))

abbrev pub name_variable : loose.Name → Option Variable
name_variable (loose.name [] (loose.ident w)) = variable_of w
name_variable n = None

-- the slot of templates that is so written
abbrev pub named_slot : loose.Slot → Option tree.SlotId
named_slot loose.principal_slot = Some tree.PrincipalSlot
named_slot loose.resource_slot = Some tree.ResourceSlot
named_slot s = None

-- ---- what stands alone: without operators, signs and accesses

abbrev pub lone_member : loose.Add → Option loose.Member
lone_member (loose.add (loose.mult (loose.unary None m) loose.no_unaries) loose.no_mults) = Some m
lone_member a = None

abbrev pub without_accesses : loose.Member → Option loose.Primary
without_accesses (loose.member p loose.no_accesses) = Some p
without_accesses m = None

abbrev pub lone_primary : loose.Add → Option loose.Primary
lone_primary a = lone_member a >>= without_accesses

abbrev pub lone_add : loose.Expr → Option loose.Add
lone_add (loose.or_expr (loose.or (loose.and (loose.common a loose.no_adds) loose.no_relations) loose.no_ands)) = Some a
lone_add e = None

abbrev pub alone : loose.Expr → Option loose.Primary
alone e = lone_add e >>= lone_primary

-- the text that a string alone stands for
abbrev pub primary_text : loose.Primary → Option Text
primary_text (loose.literal (loose.str s)) = str_text s
primary_text p = None

-- the key of an entry: an identifier or a string
abbrev pub primary_key : loose.Primary → Option Text
primary_key (loose.named (loose.name [] i)) = ident_text i
primary_key p = primary_text p

abbrev pub primary_path : loose.Primary → Option Name
primary_path (loose.named n) = name_path n
primary_path p = None

abbrev pub primary_raw : loose.Primary → Option (List ℕ)
primary_raw (loose.literal (loose.str (loose.string raw))) = Some raw
primary_raw p = None

-- `.a.b`
abbrev pub fields : loose.Accesses → Option (List Text)
fields loose.no_accesses = Some []
fields (loose.an_access (loose.field i) xs) = ident_text i >>= λ s. fields xs >>= λ ss. Some (s ∷ ss)
fields (loose.an_access x xs) = None

-- what may stand after `has`
abbrev pub member_fields : loose.Member → Option (List Text)
member_fields (loose.member (loose.named (loose.name [] i)) xs) = ident_text i >>= λ s. fields xs >>= λ ss. Some (s ∷ ss)
member_fields (loose.member p loose.no_accesses) = primary_text p >>= λ s. Some (s ∷ [])
member_fields m = None

-- a number that is a member alone
abbrev pub lone_number : loose.Member → Option ℕ
lone_number (loose.member (loose.literal (loose.num n)) loose.no_accesses) = Some n
lone_number m = None

-- ---- operators

abbrev pub comparison_of : loose.RelOp → Option Comparison
comparison_of loose.less = Some build.less
comparison_of loose.less_eq = Some build.less_equal
comparison_of loose.greater_eq = Some build.greater_equal
comparison_of loose.greater = Some build.greater
comparison_of loose.not_eq = Some build.not_equal
comparison_of loose.eq = Some build.equal
comparison_of loose.in_ = Some build.in_
comparison_of loose.invalid_single_eq = None

abbrev pub sum : loose.AddOp → Tree → Tree → Tree
sum loose.plus = binary tree.Add
sum loose.minus = binary tree.Sub

-- there is no division
abbrev pub product : loose.MultOp → Tree → Tree → Option Tree
product loose.times a b = Some (binary tree.Mul a b)
product loose.divide a b = None
product loose.mod_ a b = None

-- the innermost `-` before a number alone belongs to the number
abbrev pub negated : ℕ → Option ℕ → Option Tree → Option Tree
negated n None t = t >>= λ x. Some (negs n x)
negated zero (Some v) t = t
negated (suc n) (Some v) t = prelude.cond (nat_le v (2 ^ 63)) (Some (negs n (long (neg_ℤ (pos v))))) None

abbrev pub signed : Option loose.NegOp → Option ℕ → Option Tree → Option Tree
signed None v t = t
signed (Some (loose.bang n)) v t = t >>= λ x. Some (nots n x)
signed (Some (loose.dash n)) v t = negated n v t
signed (Some loose.over_bang) v t = None
signed (Some loose.over_dash) v t = None

-- ---- members

-- what accesses have made of a member so far
pub data Head : Type 0 where
  a_tree : Tree → Head
  -- a name that may be called yet
  a_name : loose.Name → Head
  -- an attribute, or a method that isn't called yet
  an_attribute : Tree → Text → Head

abbrev pub head_tree : Head → Option Tree
head_tree (a_tree t) = Some t
head_tree (a_name n) = name_variable n >>= λ v. Some (Var v)
head_tree (an_attribute a s) = Some (unary (GetAttr s) a)

abbrev pub called : Names → Head → List Tree → Option Tree
called names (a_tree t) xs = None
called names (a_name n) xs = name_path n >>= λ p. prelude.cond (is_function names p) (Some (Apply (tree.Call p) (trees xs))) None
called names (an_attribute a s) xs = method names s a xs

-- a record, of which no key stands twice
abbrev pub record_tree : List (Keyed Tree) → Option Tree
record_tree es = prelude.cond (are_distinct (keys es)) (Some (record_of es)) None

abbrev pub if_none : {A : Type 0} → List tree.SlotId → A → Option A
if_none [] a = Some a
if_none (s ∷ ss) a = None

-- a tree in which no slot stands
abbrev pub without_slots : Tree → Option Tree
without_slots t = if_none (tree_slots t) t

-- ---- expressions

module _ (names : Names) where
  unfoldable mutual
    pub expr_tree : loose.Expr → Option Tree
    expr_tree loose.missing_expr = None
    expr_tree (loose.or_expr o) = or_tree o
    expr_tree (loose.if_expr a b c) = expr_tree a >>= λ x. expr_tree b >>= λ y. expr_tree c >>= λ z. Some (If x y z)

    pub or_tree : loose.Or → Option Tree
    or_tree loose.missing_or = None
    or_tree (loose.or a more) = and_tree a >>= λ x. ands_tree x more

    pub ands_tree : Tree → loose.Ands → Option Tree
    ands_tree x loose.no_ands = Some x
    ands_tree x (loose.an_and a more) = and_tree a >>= λ y. ands_tree (disjunction x y) more

    pub and_tree : loose.And → Option Tree
    and_tree loose.missing_and = None
    and_tree (loose.and a more) = relation_tree a >>= λ x. relations_tree x more

    pub relations_tree : Tree → loose.Relations → Option Tree
    relations_tree x loose.no_relations = Some x
    relations_tree x (loose.a_relation a more) = relation_tree a >>= λ y. relations_tree (conjunction x y) more

    pub relation_tree : loose.Relation → Option Tree
    relation_tree loose.missing_relation = None
    relation_tree (loose.common a more) = add_tree a >>= λ x. adds_tree x more
    relation_tree (loose.has a f) = add_tree a >>= λ x. lone_member f >>= member_fields >>= λ ss. Some (build.has ss x)
    relation_tree (loose.like a p) = add_tree a >>= λ x. lone_primary p >>= primary_raw >>= pattern_of >>= λ q. Some (unary (Like q) x)
    relation_tree (loose.is_type a t) = add_tree a >>= λ x. lone_primary t >>= primary_path >>= λ p. Some (unary (Is p) x)
    relation_tree (loose.is_type_in a t b) = add_tree a >>= λ x. lone_primary t >>= primary_path >>= λ p. add_tree b >>= λ y. Some (is_in p x y)

    -- one comparison at most
    pub adds_tree : Tree → loose.Adds → Option Tree
    adds_tree x loose.no_adds = Some x
    adds_tree x (loose.an_add o a loose.no_adds) = comparison_of o >>= λ c. add_tree a >>= λ y. Some (compared c x y)
    adds_tree x (loose.an_add o a (loose.an_add p b more)) = None

    pub add_tree : loose.Add → Option Tree
    add_tree loose.missing_add = None
    add_tree (loose.add a more) = mult_tree a >>= λ x. mults_tree x more

    pub mults_tree : Tree → loose.Mults → Option Tree
    mults_tree x loose.no_mults = Some x
    mults_tree x (loose.a_mult o a more) = mult_tree a >>= λ y. mults_tree (sum o x y) more

    pub mult_tree : loose.Mult → Option Tree
    mult_tree loose.missing_mult = None
    mult_tree (loose.mult a more) = unary_tree a >>= λ x. unaries_tree x more

    pub unaries_tree : Tree → loose.Unaries → Option Tree
    unaries_tree x loose.no_unaries = Some x
    unaries_tree x (loose.a_unary o a more) = unary_tree a >>= λ y. product o x y >>= λ z. unaries_tree z more

    pub unary_tree : loose.Unary → Option Tree
    unary_tree loose.missing_unary = None
    unary_tree (loose.unary o m) = signed o (lone_number m) (member_tree m)

    pub member_tree : loose.Member → Option Tree
    member_tree loose.missing_member = None
    member_tree (loose.member p more) = primary_head p >>= λ h. accesses_tree h more

    pub accesses_tree : Head → loose.Accesses → Option Tree
    accesses_tree h loose.no_accesses = head_tree h
    accesses_tree h (loose.an_access x more) = access_head h x >>= λ g. accesses_tree g more

    pub access_head : Head → loose.MemAccess → Option Head
    access_head h loose.missing_access = None
    access_head h (loose.field i) = head_tree h >>= λ a. ident_text i >>= λ s. Some (an_attribute a s)
    access_head h (loose.call es) = exprs_trees es >>= λ xs. called names h xs >>= λ t. Some (a_tree t)
    access_head h (loose.index e) = head_tree h >>= λ a. alone e >>= primary_text >>= λ s. Some (a_tree (unary (GetAttr s) a))

    pub primary_head : loose.Primary → Option Head
    primary_head loose.missing_primary = None
    primary_head (loose.literal l) = literal_tree l >>= λ t. Some (a_tree t)
    primary_head (loose.entity r) = ref_entity r >>= λ u. Some (a_tree (Lit (tree.Entity u)))
    primary_head (loose.named n) = Some (a_name n)
    primary_head (loose.slot s) = named_slot s >>= λ i. Some (a_tree (tree.Slot i))
    primary_head (loose.expr e) = expr_tree e >>= λ t. Some (a_tree t)
    primary_head (loose.e_list es) = exprs_trees es >>= λ xs. Some (a_tree (Apply MakeSet (trees xs)))
    primary_head (loose.r_inits rs) = rec_inits_trees rs >>= λ es. record_tree es >>= λ t. Some (a_tree t)

    pub exprs_trees : loose.Exprs → Option (List Tree)
    exprs_trees loose.no_exprs = Some []
    exprs_trees (loose.an_expr e es) = expr_tree e >>= λ x. exprs_trees es >>= λ xs. Some (x ∷ xs)

    pub rec_inits_trees : loose.RecInits → Option (List (Keyed Tree))
    rec_inits_trees loose.no_rec_inits = Some []
    rec_inits_trees (loose.a_rec_init r rs) = rec_init_tree r >>= λ x. rec_inits_trees rs >>= λ xs. Some (x ∷ xs)

    pub rec_init_tree : loose.RecInit → Option (Keyed Tree)
    rec_init_tree loose.missing_rec_init = None
    rec_init_tree (loose.rec_init k e) = alone k >>= primary_key >>= λ s. expr_tree e >>= λ t. Some ((s, t))

  abbrev pub primary_tree : loose.Primary → Option Tree
  primary_tree p = primary_head p >>= head_tree

  -- of an expression that is no policy's
  abbrev pub free_tree : loose.Expr → Option Tree
  free_tree e = expr_tree e >>= without_slots

-- ---- the scope

-- the primary alone inside any number of parentheses
unfoldable mutual
  pub inside_parens : loose.Expr → Option loose.Primary
  inside_parens (loose.or_expr (loose.or (loose.and (loose.common (loose.add (loose.mult (loose.unary None (loose.member p loose.no_accesses)) loose.no_unaries) loose.no_mults) loose.no_adds) loose.no_relations) loose.no_ands)) = opened p
  inside_parens e = None

  pub opened : loose.Primary → Option loose.Primary
  opened (loose.expr e) = inside_parens e
  opened p = Some p

-- the slot of a variable's own word
abbrev pub is_own : Word → loose.Slot → Bool
is_own token.Principal loose.principal_slot = true
is_own token.Resource loose.resource_slot = true
is_own own s = false

abbrev pub primary_target : Word → loose.Primary → Option Target
primary_target own (loose.entity r) = ref_entity r >>= λ u. Some (the_entity u)
primary_target own (loose.slot s) = prelude.cond (is_own own s) (Some the_slot) None
primary_target own p = None

abbrev pub target : Word → loose.Expr → Option Target
target own e = inside_parens e >>= primary_target own

abbrev pub type_of : loose.Add → Option Name
type_of a = lone_primary a >>= primary_path

abbrev pub compared_with : loose.RelOp → Target → Option Constraint
compared_with loose.eq e = Some (equals e)
compared_with loose.in_ e = Some (within e)
compared_with o e = None

abbrev pub typed_within : Name → loose.RelOp → Target → Option Constraint
typed_within p loose.in_ e = Some (of_type_within p e)
typed_within p o e = None

-- what is asked of a principal or of a resource
abbrev pub asked : Word → Option loose.Add → Option (loose.RelOp × loose.Expr) → Option Constraint
asked own None None = Some anything
asked own None (Some x) = target own x.1 >>= compared_with x.0
asked own (Some t) None = type_of t >>= λ p. Some (of_type p)
asked own (Some t) (Some x) = type_of t >>= λ p. target own x.1 >>= typed_within p x.0

-- the word of a variable that has a slot, and the same word
abbrev pub owns : Word → Word → Bool
owns token.Principal token.Principal = true
owns token.Resource token.Resource = true
owns v w = false

abbrev pub constraint : Word → loose.VariableDef → Option Constraint
constraint own (loose.variable_def (loose.ident w) None t c) = prelude.cond (owns own w) (asked own t c) None
constraint own d = None

abbrev pub primary_action : loose.Primary → Option Uid
primary_action (loose.entity r) = ref_entity r >>= λ u. prelude.cond (ends_in_action u.type_name) (Some u) None
primary_action p = None

abbrev pub action : loose.Expr → Option Uid
action e = inside_parens e >>= primary_action

abbrev pub actions : loose.Exprs → Option (List Uid)
actions loose.no_exprs = Some []
actions (loose.an_expr e es) = action e >>= λ u. actions es >>= λ us. Some (u ∷ us)

-- an action, or a list of them
abbrev pub actions_among : loose.Expr → Option loose.Primary → Option (List Uid)
actions_among e (Some (loose.e_list es)) = actions es
actions_among e p = action e >>= λ u. Some (u ∷ [])

abbrev pub action_asked : Option (loose.RelOp × loose.Expr) → Option ActionConstraint
action_asked None = Some any_action
action_asked (Some (loose.eq, e)) = action e >>= λ u. Some (action_equals u)
action_asked (Some (loose.in_, e)) = actions_among e (alone e) >>= λ us. Some (action_within_any us)
action_asked (Some x) = None

abbrev pub action_constraint : loose.VariableDef → Option ActionConstraint
action_constraint (loose.variable_def (loose.ident token.Action) None None c) = action_asked c
action_constraint d = None

-- the principal, the action and the resource, and no more
abbrev pub scope_syntax : List loose.VariableDef → Option (Constraint × ActionConstraint × Constraint)
scope_syntax (p ∷ a ∷ r ∷ []) = constraint token.Principal p >>= λ x. action_constraint a >>= λ y. constraint token.Resource r >>= λ z. Some ((x, y, z))
scope_syntax ds = None

-- ---- clauses and annotations

abbrev pub clause_by : Word → Tree → Option Tree
clause_by token.When t = Some t
clause_by token.Unless t = Some (unary tree.Not t)
clause_by w t = None

abbrev pub clause : Names → loose.Cond → Option Tree
clause names (loose.cond (loose.ident w) (Some e)) = expr_tree names e >>= clause_by w
clause names c = None

-- the value of an annotation, which may be left out
abbrev pub annotation_value : Option loose.Str → Option Text
annotation_value None = Some []
annotation_value (Some s) = str_text s

abbrev pub annotation_syntax : loose.Annotation → Option (Keyed Text)
annotation_syntax (loose.annotation i s) = ident_spelling i >>= λ k. annotation_value s >>= λ t. Some ((k, t))
annotation_syntax a = None

-- no key twice
abbrev pub distinct_keys : List (Keyed Text) → Option (List (Keyed Text))
distinct_keys xs = prelude.cond (are_distinct (keys xs)) (Some xs) None

abbrev pub effect : loose.Ident → Option Effect
effect (loose.ident w) = effect_of w
effect i = None

-- ---- policies

unfoldable pub policy_syntax : Names → loose.Policy → Option Policy
policy_syntax names loose.missing_policy = None
policy_syntax names (loose.policy xs w ds cs) =
    each annotation_syntax xs >>= distinct_keys >>= λ notes. effect w >>= λ e. scope_syntax ds >>= λ s. each (clause names) cs >>= λ ts.
    Some (record { effect = e; annotations = by_key notes; principal = s.0; action = s.1; resource = s.2; body = body_of ts })

unfoldable pub policies_syntax : Names → loose.Policies → Option (List Policy)
policies_syntax names loose.missing_policies = None
policies_syntax names (loose.policies ps) = each (policy_syntax names) ps

-- ---- of what was read

abbrev pub converted : {A B : Type 0} → (A → Option B) → Result A Fault → Option B
converted f (Ok x) = f x
converted f (Err e) = None
