-- Which kinds of faults whole expressions show: one rule for a kind, at the node where it may be told.
use Rattle.std.specs.Prelude.{◌≡◌, ◌⊎◌, ⊤, ℕ, zero, suc, ◌^◌, nat_le, Option, Some, None, MatchOption, Bool, true, false}
use Rattle.cedar_language.specs.Uid.{Text}
use Rattle.cedar_grammar.specs.Names.{Names}
use Rattle.cedar_grammar.specs.Steps.{◌>>=◌}
use Rattle.cedar_grammar.specs.Loose as loose
use Rattle.cedar_grammar.specs.Converting.{alone, ident_text, lone_number, primary_text}
use Rattle.cedar_literals.specs.declared.operators.UnaryOp.{UnaryOp}
use Rattle.cedar_literals.specs.declared.operators.UnaryOp.TheVariants as signs
use Rattle.cedar_cst.specs.LeafView.{view_rel_op, view_mult_op}
use Rattle.cedar_faults.specs.declared.kinds.ToASTErrorKind.{ToASTErrorKind}
use Rattle.cedar_faults.specs.declared.kinds.ToASTErrorKind.TheVariants as kinds
use Rattle.cedar_conversion.specs.Shown.{missing_shows, ident_shows, literal_shows, ref_shows, slot_shows, key_shows, index_shows, type_shows, pattern_shows, attributes_show}
use Rattle.cedar_conversion.specs.declared.applying.Joint.{Joint}
use Rattle.cedar_conversion.specs.declared.applying.Joint.TheVariants as joint
use Rattle.cedar_conversion.specs.Choices.{Used, by_itself, by_attribute, by_method, by_text, misuse_shows, function_shows, method_shows}
use Rattle.cedar_conversion.specs.Entries.{record_keys, IsRepeated}

-- ---- operators

abbrev pub comparison_shows : loose.RelOp → ToASTErrorKind → Type 0
comparison_shows o kinds.InvalidSingleEq = o ≡ loose.invalid_single_eq
comparison_shows o kind = ⊥

-- there is no division
abbrev pub product_shows : loose.MultOp → ToASTErrorKind → Type 0
product_shows o kinds.UnsupportedDivision = o ≡ loose.divide
product_shows o kinds.UnsupportedModulo = o ≡ loose.mod_
product_shows o kind = ⊥

-- of what joins two operands
abbrev pub joint_shows : Joint → ToASTErrorKind → Type 0
joint_shows (joint.Relation op) kind = comparison_shows (view_rel_op op) kind
joint_shows (joint.Product op) kind = product_shows (view_mult_op op) kind
joint_shows j kind = ⊥

-- comparisons that follow each other
abbrev pub IsAmbiguous : ToASTErrorKind → Type 0
IsAmbiguous kinds.AmbiguousOperators = ⊤
IsAmbiguous kind = ⊥

-- more than four of a sign
abbrev pub AreTooMany : UnaryOp → ToASTErrorKind → Type 0
AreTooMany sign (kinds.UnaryOpLimit op) = op ≡ sign
AreTooMany sign kind = ⊥

-- of a number under a minus: the two are no long
abbrev pub minus_shows : ℕ → ToASTErrorKind → Type 0
minus_shows n (kinds.IntegerLiteralTooLarge m) = (m ≡ n) × (nat_le n (2 ^ 63) ≡ false)
minus_shows n kind = ⊥

-- of so many `-` before an operand, by the number that it is alone, and by what it shows
abbrev pub dashes_show : ℕ → Option ℕ → Type 0 → ToASTErrorKind → Type 0
dashes_show n None shown kind = shown
dashes_show zero (Some v) shown kind = shown
dashes_show (suc n) (Some v) shown kind = minus_shows v kind

-- ---- accesses, by what stands before them

pub data Before : Type 0 where
  -- a name, which may be called
  a_name : loose.Name → Before
  -- an attribute, or a method that may be called, if it is an identifier
  an_attribute : Option Text → Before
  -- any other operand
  an_operand : Before

abbrev pub first : loose.Primary → Before
first (loose.named n) = a_name n
first p = an_operand

abbrev pub after : loose.MemAccess → Before
after (loose.field i) = an_attribute (ident_text i)
after x = an_operand

abbrev pub is_call : loose.MemAccess → Bool
is_call (loose.call es) = true
is_call x = false

-- whether the first of these accesses is a call
abbrev pub begins_with_call : loose.Accesses → Bool
begins_with_call loose.no_accesses = false
begins_with_call (loose.an_access x more) = is_call x

-- the same of the second one
abbrev pub calls_method : loose.Accesses → Bool
calls_method loose.no_accesses = false
calls_method (loose.an_access x more) = begins_with_call more

-- how a name is used before this word, by whether that is called
abbrev pub used_before : Bool → Option Text → Used
used_before called None = by_itself
used_before true (Some s) = by_method s
used_before false (Some s) = by_attribute s

-- how it is used before this text between brackets
abbrev pub used_at : Option Text → Used
used_at None = by_itself
used_at (Some s) = by_text s

-- of what is used so: it is a name, and no variable
abbrev pub use_shows : Before → Used → ToASTErrorKind → Type 0
use_shows (a_name n) used kind = misuse_shows n used kind
use_shows b used kind = ⊥

abbrev pub IsNoName : ToASTErrorKind → Type 0
IsNoName kinds.ExpressionCall = ⊤
IsNoName kind = ⊥

-- of what is called with so many arguments
abbrev pub call_shows : Names → Before → ℕ → ToASTErrorKind → Type 0
call_shows names (a_name n) got kind = function_shows names n kind
call_shows names (an_attribute None) got kind = ⊥
call_shows names (an_attribute (Some s)) got kind = method_shows names s got kind
call_shows names an_operand got kind = IsNoName kind

abbrev pub count : loose.Exprs → ℕ
count loose.no_exprs = 0
count (loose.an_expr e es) = suc (count es)

-- ---- expressions

-- a key that stands twice
abbrev pub repeated_show : loose.RecInits → ToASTErrorKind → Type 0
repeated_show rs kind = MatchOption (record_keys rs) ⊥ (λ ss. IsRepeated ss kind)

module _ (names : Names) where
  unfoldable mutual
    pub expr_shows : loose.Expr → ToASTErrorKind → Type 0
    expr_shows loose.missing_expr kind = missing_shows kind
    expr_shows (loose.or_expr o) kind = or_shows o kind
    expr_shows (loose.if_expr a b c) kind = expr_shows a kind ⊎ expr_shows b kind ⊎ expr_shows c kind

    pub or_shows : loose.Or → ToASTErrorKind → Type 0
    or_shows loose.missing_or kind = missing_shows kind
    or_shows (loose.or a more) kind = and_shows a kind ⊎ ands_show more kind

    pub ands_show : loose.Ands → ToASTErrorKind → Type 0
    ands_show loose.no_ands kind = ⊥
    ands_show (loose.an_and a more) kind = and_shows a kind ⊎ ands_show more kind

    pub and_shows : loose.And → ToASTErrorKind → Type 0
    and_shows loose.missing_and kind = missing_shows kind
    and_shows (loose.and a more) kind = relation_shows a kind ⊎ relations_show more kind

    pub relations_show : loose.Relations → ToASTErrorKind → Type 0
    relations_show loose.no_relations kind = ⊥
    relations_show (loose.a_relation a more) kind = relation_shows a kind ⊎ relations_show more kind

    -- two comparisons that follow each other show nothing else
    pub relation_shows : loose.Relation → ToASTErrorKind → Type 0
    relation_shows loose.missing_relation kind = missing_shows kind
    relation_shows (loose.common a loose.no_adds) kind = add_shows a kind
    relation_shows (loose.common a (loose.an_add o b loose.no_adds)) kind = add_shows a kind ⊎ add_shows b kind ⊎ comparison_shows o kind
    relation_shows (loose.common a (loose.an_add o b (loose.an_add p c more))) kind = IsAmbiguous kind
    relation_shows (loose.has a f) kind = add_shows a kind ⊎ attributes_show f kind
    relation_shows (loose.like a p) kind = add_shows a kind ⊎ pattern_shows p kind
    relation_shows (loose.is_type a t) kind = add_shows a kind ⊎ type_shows t kind
    relation_shows (loose.is_type_in a t b) kind = add_shows a kind ⊎ type_shows t kind ⊎ add_shows b kind

    pub add_shows : loose.Add → ToASTErrorKind → Type 0
    add_shows loose.missing_add kind = missing_shows kind
    add_shows (loose.add a more) kind = mult_shows a kind ⊎ mults_show more kind

    pub mults_show : loose.Mults → ToASTErrorKind → Type 0
    mults_show loose.no_mults kind = ⊥
    mults_show (loose.a_mult o a more) kind = mult_shows a kind ⊎ mults_show more kind

    pub mult_shows : loose.Mult → ToASTErrorKind → Type 0
    mult_shows loose.missing_mult kind = missing_shows kind
    mult_shows (loose.mult a more) kind = unary_shows a kind ⊎ unaries_show more kind

    pub unaries_show : loose.Unaries → ToASTErrorKind → Type 0
    unaries_show loose.no_unaries kind = ⊥
    unaries_show (loose.a_unary o a more) kind = product_shows o kind ⊎ unary_shows a kind ⊎ unaries_show more kind

    pub unary_shows : loose.Unary → ToASTErrorKind → Type 0
    unary_shows loose.missing_unary kind = missing_shows kind
    unary_shows (loose.unary None m) kind = member_shows m kind
    unary_shows (loose.unary (Some (loose.bang n)) m) kind = member_shows m kind
    unary_shows (loose.unary (Some loose.over_bang) m) kind = AreTooMany signs.Not kind
    unary_shows (loose.unary (Some (loose.dash n)) m) kind = dashes_show n (lone_number m) (member_shows m kind) kind
    unary_shows (loose.unary (Some loose.over_dash) m) kind = AreTooMany signs.Neg kind

    pub member_shows : loose.Member → ToASTErrorKind → Type 0
    member_shows loose.missing_member kind = missing_shows kind
    member_shows (loose.member p more) kind = primary_shows p kind ⊎ accesses_show (first p) more kind

    -- behind them all, the operand stands by itself
    pub accesses_show : Before → loose.Accesses → ToASTErrorKind → Type 0
    accesses_show b loose.no_accesses kind = use_shows b by_itself kind
    accesses_show b (loose.an_access x more) kind = access_shows b (begins_with_call more) x kind ⊎ accesses_show (after x) more kind

    -- of an access, by whether another one behind it is a call
    pub access_shows : Before → Bool → loose.MemAccess → ToASTErrorKind → Type 0
    access_shows b called loose.missing_access kind = missing_shows kind
    access_shows b called (loose.field i) kind = use_shows b (used_before called (ident_text i)) kind ⊎ ident_shows i kind
    access_shows b called (loose.call es) kind = exprs_show es kind ⊎ call_shows names b (count es) kind
    access_shows b called (loose.index e) kind = use_shows b (used_at (alone e >>= primary_text)) kind ⊎ index_shows e kind

    -- what a name shows, its accesses show
    pub primary_shows : loose.Primary → ToASTErrorKind → Type 0
    primary_shows loose.missing_primary kind = missing_shows kind
    primary_shows (loose.literal l) kind = literal_shows l kind
    primary_shows (loose.entity r) kind = ref_shows r kind
    primary_shows (loose.named n) kind = ⊥
    primary_shows (loose.slot s) kind = slot_shows s kind
    primary_shows (loose.expr e) kind = expr_shows e kind
    primary_shows (loose.e_list es) kind = exprs_show es kind
    primary_shows (loose.r_inits rs) kind = rec_inits_show rs kind ⊎ repeated_show rs kind

    pub exprs_show : loose.Exprs → ToASTErrorKind → Type 0
    exprs_show loose.no_exprs kind = ⊥
    exprs_show (loose.an_expr e es) kind = expr_shows e kind ⊎ exprs_show es kind

    pub rec_inits_show : loose.RecInits → ToASTErrorKind → Type 0
    rec_inits_show loose.no_rec_inits kind = ⊥
    rec_inits_show (loose.a_rec_init r rs) kind = rec_init_shows r kind ⊎ rec_inits_show rs kind

    pub rec_init_shows : loose.RecInit → ToASTErrorKind → Type 0
    rec_init_shows loose.missing_rec_init kind = missing_shows kind
    rec_init_shows (loose.rec_init k e) kind = key_shows k kind ⊎ expr_shows e kind

  -- of a primary that stands by itself
  abbrev pub operand_shows : loose.Primary → ToASTErrorKind → Type 0
  operand_shows p kind = primary_shows p kind ⊎ use_shows (first p) by_itself kind
