-- Which kinds of faults the parts of a policy show: one rule for a kind, at the node where it may be told.
use Rattle.std.specs.Prelude.{◌≡◌, ◌≢◌, ◌⊎◌, ⊤, Bool, true, false, List, [], ◌∷◌, drop, slice_get, Option, Some, None, MatchOption}
use Rattle.either.specs.declared.Either.{Either}
use Rattle.either.specs.declared.Either.TheVariants.{Left, Right}
use Rattle.cedar_language.specs.Uid.{Text, Uid}
use Rattle.cedar_language.specs.Tree as tree
use Rattle.cedar_literals.specs.Variables as variables
use Rattle.cedar_literals.specs.declared.variables.Var.{Var}
use Rattle.cedar_literals.specs.declared.variables.Var.TheVariants as var
use Rattle.cedar_grammar.specs.Token as token
use Rattle.cedar_grammar.specs.Token.{Word}
use Rattle.cedar_grammar.specs.Names as names
use Rattle.cedar_grammar.specs.Steps.{◌>>=◌}
use Rattle.cedar_grammar.specs.Loose as loose
use Rattle.cedar_grammar.specs.Converting.{ident_spelling, alone, inside_parens, is_own, effect}
use Rattle.cedar_cst.specs.LeafView.{view_ident, view_rel_op}
use Rattle.cedar_policy_parts.specs.declared.arguments.Ref.{Ref}
use Rattle.cedar_policy_parts.specs.declared.arguments.Ref.TheVariants.{Single, Set, Template}
use Rattle.cedar_policy_parts.specs.Actions.{held_uids}
use Rattle.cedar_faults.specs.declared.kinds.ToASTErrorKind.{ToASTErrorKind}
use Rattle.cedar_faults.specs.declared.kinds.ToASTErrorKind.TheVariants as kinds
use Rattle.cedar_faults.specs.Reasons.{listed}
use Rattle.cedar_conversion.specs.Shown.{missing_shows, ident_shows, str_shows, ref_shows, type_shows}
use Rattle.cedar_conversion.specs.Words.{ident_variable}
use Rattle.cedar_policy_conversion.specs.Own.{asked_of}
use Rattle.cedar_policy_conversion.specs.Entities.{entity, others}
use Rattle.cedar_policy_conversion.specs.Entities as entities

-- ---- effects and annotations

abbrev pub effect_shows : loose.Ident → ToASTErrorKind → Type 0
effect_shows i kinds.EmptyNodeInvariantViolation = i ≡ loose.missing_ident
effect_shows i (kinds.InvalidEffect word) = (view_ident word ≡ i) × (effect i ≡ None)
effect_shows i kind = ⊥

-- of a key, which may be a reserved word
abbrev pub note_key_shows : loose.Ident → ToASTErrorKind → Type 0
note_key_shows i kind = (ident_spelling i ≡ None) × ident_shows i kind

-- of the text behind a key, which may be left out
abbrev pub note_text_shows : Option loose.Str → ToASTErrorKind → Type 0
note_text_shows None kind = ⊥
note_text_shows (Some s) kind = str_shows s kind

abbrev pub annotation_shows : loose.Annotation → ToASTErrorKind → Type 0
annotation_shows loose.missing_annotation kind = missing_shows kind
annotation_shows (loose.annotation i s) kind = note_key_shows i kind ⊎ note_text_shows s kind

abbrev pub annotation_key : loose.Annotation → Option Text
annotation_key loose.missing_annotation = None
annotation_key (loose.annotation i s) = ident_spelling i

-- an annotation has this key
abbrev pub HasKey : List loose.Annotation → Text → Type 0
HasKey [] key = ⊥
HasKey (x ∷ xs) key = (annotation_key x ≡ Some key) ⊎ HasKey xs key

-- two have it
abbrev pub HasKeyTwice : List loose.Annotation → Text → Type 0
HasKeyTwice [] key = ⊥
HasKeyTwice (x ∷ xs) key = (annotation_key x ≡ Some key) × HasKey xs key ⊎ HasKeyTwice xs key

abbrev pub twice_shows : List loose.Annotation → ToASTErrorKind → Type 0
twice_shows xs (kinds.DuplicateAnnotation key) = HasKeyTwice xs key
twice_shows xs kind = ⊥

-- of an annotation whose key is among others
abbrev pub again_shows : List Text → loose.Annotation → ToASTErrorKind → Type 0
again_shows ks x (kinds.DuplicateAnnotation key) = (annotation_key x ≡ Some key) × (names.is_among key ks ≡ true)
again_shows ks x kind = ⊥

abbrev pub each_annotation_shows : List loose.Annotation → ToASTErrorKind → Type 0
each_annotation_shows [] kind = ⊥
each_annotation_shows (x ∷ xs) kind = annotation_shows x kind ⊎ each_annotation_shows xs kind

abbrev pub annotations_show : List loose.Annotation → ToASTErrorKind → Type 0
annotations_show xs kind = each_annotation_shows xs kind ⊎ twice_shows xs kind

-- ---- what stands where an entity should

-- whether a node is missing that would lead to a primary alone
abbrev pub is_empty_member : loose.Member → Bool
is_empty_member loose.missing_member = true
is_empty_member m = false

abbrev pub is_empty_unary : loose.Unary → Bool
is_empty_unary loose.missing_unary = true
is_empty_unary (loose.unary None m) = is_empty_member m
is_empty_unary u = false

abbrev pub is_empty_mult : loose.Mult → Bool
is_empty_mult loose.missing_mult = true
is_empty_mult (loose.mult u loose.no_unaries) = is_empty_unary u
is_empty_mult m = false

abbrev pub is_empty_add : loose.Add → Bool
is_empty_add loose.missing_add = true
is_empty_add (loose.add m loose.no_mults) = is_empty_mult m
is_empty_add a = false

abbrev pub is_empty_relation : loose.Relation → Bool
is_empty_relation loose.missing_relation = true
is_empty_relation (loose.common a loose.no_adds) = is_empty_add a
is_empty_relation r = false

abbrev pub is_empty_and : loose.And → Bool
is_empty_and loose.missing_and = true
is_empty_and (loose.and r loose.no_relations) = is_empty_relation r
is_empty_and a = false

abbrev pub is_empty_or : loose.Or → Bool
is_empty_or loose.missing_or = true
is_empty_or (loose.or a loose.no_ands) = is_empty_and a
is_empty_or o = false

abbrev pub is_empty_expr : loose.Expr → Bool
is_empty_expr loose.missing_expr = true
is_empty_expr (loose.or_expr o) = is_empty_or o
is_empty_expr e = false

-- the same inside any number of parentheses
unfoldable mutual
  pub is_empty_inside : loose.Expr → Bool
  is_empty_inside (loose.or_expr (loose.or (loose.and (loose.common (loose.add (loose.mult (loose.unary None (loose.member p loose.no_accesses)) loose.no_unaries) loose.no_mults) loose.no_adds) loose.no_relations) loose.no_ands)) = is_empty_primary p
  is_empty_inside e = is_empty_expr e

  pub is_empty_primary : loose.Primary → Bool
  is_empty_primary (loose.expr e) = is_empty_inside e
  is_empty_primary p = false

-- another construct stands there
abbrev pub IsWrongNode : ToASTErrorKind → Type 0
IsWrongNode (kinds.WrongNode expected got) = ⊤
IsWrongNode kind = ⊥

-- of an expression that is no primary alone, by whether a node is missing
abbrev pub misfit_shows : Bool → ToASTErrorKind → Type 0
misfit_shows true kind = missing_shows kind
misfit_shows false kind = IsWrongNode kind

-- a list stands where one of these should
abbrev pub IsWrongArgument : Either Ref (Ref × Ref) → ToASTErrorKind → Type 0
IsWrongArgument expected (kinds.WrongEntityArgument a) = (a.expected ≡ expected) × (a.got ≡ Set)
IsWrongArgument expected kind = ⊥

-- of a primary alone that is neither an entity, a slot nor a list
abbrev pub no_entity_shows : loose.Primary → ToASTErrorKind → Type 0
no_entity_shows loose.missing_primary kind = missing_shows kind
no_entity_shows p kind = IsWrongNode kind

-- of a slot where none may stand
abbrev pub no_slot_shows : loose.Slot → ToASTErrorKind → Type 0
no_slot_shows loose.missing_slot kind = missing_shows kind
no_slot_shows s kind = IsWrongNode kind

abbrev pub primary_entity_shows : loose.Primary → ToASTErrorKind → Type 0
primary_entity_shows (loose.entity r) kind = ref_shows r kind
primary_entity_shows (loose.slot s) kind = no_slot_shows s kind
primary_entity_shows (loose.e_list es) kind = IsWrongArgument (Left Single) kind
primary_entity_shows p kind = no_entity_shows p kind

abbrev pub entity_shows : loose.Expr → ToASTErrorKind → Type 0
entity_shows e kind = MatchOption (inside_parens e) (misfit_shows (is_empty_inside e) kind) (λ p. primary_entity_shows p kind)

-- of a slot that may be the variable's own alone
abbrev pub own_slot_shows : Word → loose.Slot → ToASTErrorKind → Type 0
own_slot_shows own loose.missing_slot kind = missing_shows kind
own_slot_shows own s (kinds.WrongNode expected got) = is_own own s ≡ false
own_slot_shows own s kind = ⊥

abbrev pub primary_target_shows : Word → loose.Primary → ToASTErrorKind → Type 0
primary_target_shows own (loose.entity r) kind = ref_shows r kind
primary_target_shows own (loose.slot s) kind = own_slot_shows own s kind
primary_target_shows own (loose.e_list es) kind = IsWrongArgument (Right (Single, Template)) kind
primary_target_shows own p kind = no_entity_shows p kind

abbrev pub target_shows : Word → loose.Expr → ToASTErrorKind → Type 0
target_shows own e kind = MatchOption (inside_parens e) (misfit_shows (is_empty_inside e) kind) (λ p. primary_target_shows own p kind)

-- ---- operators

-- whether it is a test of a type, without a further one
abbrev pub is_type_relation : loose.Relation → Bool
is_type_relation (loose.is_type a t) = true
is_type_relation r = false

abbrev pub is_type_test : loose.Expr → Bool
is_type_test (loose.or_expr (loose.or (loose.and r loose.no_relations) loose.no_ands)) = is_type_relation r
is_type_test e = false

-- of a test of a type behind `in`
abbrev pub inverted_shows : loose.RelOp → loose.Expr → ToASTErrorKind → Type 0
inverted_shows loose.in_ e kinds.InvertedIsIn = is_type_test e ≡ true
inverted_shows o e kind = ⊥

-- of what an operator compares with
abbrev pub compared_shows : Word → loose.RelOp → loose.Expr → ToASTErrorKind → Type 0
compared_shows own o e kind = target_shows own e kind ⊎ inverted_shows o e kind

-- of an operator that is neither `==` nor `in`
abbrev pub operator_shows : loose.RelOp → ToASTErrorKind → Type 0
operator_shows loose.eq kind = ⊥
operator_shows loose.in_ kind = ⊥
operator_shows loose.invalid_single_eq kinds.InvalidSingleEq = ⊤
operator_shows loose.invalid_single_eq kind = ⊥
operator_shows o (kinds.InvalidScopeOperator op) = view_rel_op op ≡ o
operator_shows o kind = ⊥

-- of an operator behind a type
abbrev pub typed_shows : loose.Add → loose.RelOp → ToASTErrorKind → Type 0
typed_shows t loose.in_ kind = type_shows t kind
typed_shows t loose.eq kinds.IsWithEq = ⊤
typed_shows t o kind = operator_shows o kind

-- ---- the principal and the resource

-- of what stands for a variable of the scope
abbrev pub variable_shows : loose.Ident → ToASTErrorKind → Type 0
variable_shows i kinds.EmptyNodeInvariantViolation = i ≡ loose.missing_ident
variable_shows i (kinds.InvalidScopeVariable word) = (view_ident word ≡ i) × ((ident_variable i >>= asked_of) ≡ None)
variable_shows i kind = ⊥

-- of another variable than the own one
abbrev pub other_variable_shows : Word → loose.Ident → ToASTErrorKind → Type 0
other_variable_shows own i (kinds.IncorrectVariable expected got) =
    (names.variable_of own ≡ Some (variables.variable_of expected)) × (ident_variable i ≡ Some (variables.variable_of got)) × (expected ≢ got)
other_variable_shows own i kind = ⊥

-- of a name behind `:`
abbrev pub type_name_shows : Option loose.Name → ToASTErrorKind → Type 0
type_name_shows None kind = ⊥
type_name_shows (Some loose.missing_name) kind = missing_shows kind
type_name_shows (Some n) kinds.TypeConstraints = ⊤
type_name_shows (Some n) kind = ⊥

-- of a type alone, where one stands
abbrev pub type_alone_shows : Option loose.Add → ToASTErrorKind → Type 0
type_alone_shows None kind = ⊥
type_alone_shows (Some t) kind = type_shows t kind

-- of an operator behind a type, where one stands
abbrev pub comparison_shows : Option loose.Add → loose.RelOp → ToASTErrorKind → Type 0
comparison_shows None o kind = operator_shows o kind
comparison_shows (Some t) o kind = typed_shows t o kind

abbrev pub asked_shows : Word → Option loose.Add → Option (loose.RelOp × loose.Expr) → ToASTErrorKind → Type 0
asked_shows own t None kind = type_alone_shows t kind
asked_shows own t (Some x) kind = compared_shows own x.0 x.1 kind ⊎ comparison_shows t x.0 kind

-- of what is asked of the variable that stands there, which may be the other one of the two
abbrev pub asked_of_shows : tree.Variable → Option loose.Add → Option (loose.RelOp × loose.Expr) → ToASTErrorKind → Type 0
asked_of_shows tree.Principal t c kind = asked_shows token.Principal t c kind
asked_of_shows tree.Resource t c kind = asked_shows token.Resource t c kind
asked_of_shows v t c kind = ⊥

abbrev pub asked_there_shows : loose.Ident → Option loose.Add → Option (loose.RelOp × loose.Expr) → ToASTErrorKind → Type 0
asked_there_shows i t c kind = MatchOption (ident_variable i) ⊥ (λ v. asked_of_shows v t c kind)

abbrev pub constraint_shows : Word → loose.VariableDef → ToASTErrorKind → Type 0
constraint_shows own loose.missing_variable_def kind = missing_shows kind
constraint_shows own (loose.variable_def i n t c) kind = variable_shows i kind ⊎ type_name_shows n kind ⊎ other_variable_shows own i kind ⊎ asked_there_shows i t c kind

-- ---- the action

-- of entities of which some are no actions
abbrev pub no_actions_show : Option (List Uid) → ToASTErrorKind → Type 0
no_actions_show (Some us) (kinds.InvalidActionType a) = held_uids (listed a.euids) ≡ others us
no_actions_show us kind = ⊥

abbrev pub alone_entity : loose.Expr → Option (List Uid)
alone_entity e = entity e >>= λ u. Some (u ∷ [])

abbrev pub action_shows : loose.Expr → ToASTErrorKind → Type 0
action_shows e kind = entity_shows e kind ⊎ no_actions_show (alone_entity e) kind

abbrev pub entities_show : loose.Exprs → ToASTErrorKind → Type 0
entities_show loose.no_exprs kind = ⊥
entities_show (loose.an_expr e es) kind = entity_shows e kind ⊎ entities_show es kind

abbrev pub entities_of : loose.Exprs → Option (List Uid)
entities_of loose.no_exprs = Some []
entities_of (loose.an_expr e es) = entity e >>= λ u. entities_of es >>= λ us. Some (u ∷ us)

-- of an action, or of a list of them
abbrev pub actions_show : loose.Expr → ToASTErrorKind → Type 0
actions_show e kind = MatchOption (alone e >>= entities.listed) (action_shows e kind) (λ es. entities_show es kind ⊎ no_actions_show (entities_of es) kind)

-- of a test of a type behind `in`
abbrev pub type_test_shows : loose.Expr → ToASTErrorKind → Type 0
type_test_shows e kinds.IsInActionScope = is_type_test e ≡ true
type_test_shows e kind = ⊥

abbrev pub action_compared_shows : loose.RelOp → loose.Expr → ToASTErrorKind → Type 0
action_compared_shows loose.eq e kind = action_shows e kind
action_compared_shows loose.in_ e kind = actions_show e kind ⊎ type_test_shows e kind
action_compared_shows loose.invalid_single_eq e kinds.InvalidSingleEq = ⊤
action_compared_shows loose.invalid_single_eq e kind = ⊥
action_compared_shows o e (kinds.InvalidActionScopeOperator op) = view_rel_op op ≡ o
action_compared_shows o e kind = ⊥

abbrev pub action_asked_shows : Option (loose.RelOp × loose.Expr) → ToASTErrorKind → Type 0
action_asked_shows None kind = ⊥
action_asked_shows (Some x) kind = action_compared_shows x.0 x.1 kind

-- of a type of the action
abbrev pub action_type_shows : Option loose.Add → ToASTErrorKind → Type 0
action_type_shows (Some t) kinds.IsInActionScope = ⊤
action_type_shows t kind = ⊥

abbrev pub action_constraint_shows : loose.VariableDef → ToASTErrorKind → Type 0
action_constraint_shows loose.missing_variable_def kind = missing_shows kind
action_constraint_shows (loose.variable_def i n t c) kind =
    variable_shows i kind ⊎ type_name_shows n kind ⊎ other_variable_shows token.Action i kind ⊎ action_type_shows t kind ⊎ action_asked_shows c kind

-- ---- the scope

-- of a part that may be missing
abbrev pub part_shows : Var → (loose.VariableDef → ToASTErrorKind → Type 0) → Option loose.VariableDef → ToASTErrorKind → Type 0
part_shows v shows None (kinds.MissingScopeVariable w) = w ≡ v
part_shows v shows None kind = ⊥
part_shows v shows (Some d) kind = shows d kind

-- of parts behind the third one
abbrev pub extra_shows : loose.VariableDef → ToASTErrorKind → Type 0
extra_shows loose.missing_variable_def kind = missing_shows kind
extra_shows d (kinds.ExtraScopeElement text) = ⊤
extra_shows d kind = ⊥

abbrev pub extras_show : List loose.VariableDef → ToASTErrorKind → Type 0
extras_show [] kind = ⊥
extras_show (d ∷ ds) kind = extra_shows d kind ⊎ extras_show ds kind

abbrev pub principal_shows : Option loose.VariableDef → ToASTErrorKind → Type 0
principal_shows = part_shows var.Principal (constraint_shows token.Principal)

abbrev pub action_part_shows : Option loose.VariableDef → ToASTErrorKind → Type 0
action_part_shows = part_shows var.Action action_constraint_shows

abbrev pub resource_shows : Option loose.VariableDef → ToASTErrorKind → Type 0
resource_shows = part_shows var.Resource (constraint_shows token.Resource)

abbrev pub scope_shows : List loose.VariableDef → ToASTErrorKind → Type 0
scope_shows ds kind = principal_shows (slice_get ds 0) kind ⊎ action_part_shows (slice_get ds 1) kind ⊎ resource_shows (slice_get ds 2) kind ⊎ extras_show (drop 3 ds) kind
