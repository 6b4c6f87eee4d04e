-- The loose tree: what a reader makes of the tokens before anything is refused for its meaning. It has chains of operators as flat lists, and each type of the concrete syntax without places. A node with nothing in it is the missing case of its type.
use Rattle.std.specs.Prelude.{ℕ, List, [], ◌∷◌, Option}
use Rattle.cedar_language.specs.Uid.{Text}
use Rattle.cedar_grammar.specs.Token.{Word}

-- ---- names and literals

-- `invalid_ident` and `invalid_str` are never read
pub data Ident : Type 0 where
  missing_ident : Ident
  ident : Word → Ident
  invalid_ident : Text → Ident

-- the characters between the quotes, escapes as they are written
pub data Str : Type 0 where
  missing_str : Str
  string : List ℕ → Str
  invalid_str : List ℕ → Str

pub data Literal : Type 0 where
  missing_literal : Literal
  true_ : Literal
  false_ : Literal
  num : ℕ → Literal
  str : Str → Literal

-- the identifiers before the last one, and the last one
pub data Name : Type 0 where
  missing_name : Name
  name : List Ident → Ident → Name

-- `a: 1` inside an entity that is named by attributes
pub data RefInit : Type 0 where
  missing_ref_init : RefInit
  ref_init : Ident → Literal → RefInit

-- `A::"b"`, or `A::{a: 1}`
pub data Ref : Type 0 where
  missing_ref : Ref
  uid : Name → Str → Ref
  ref : Name → List RefInit → Ref

-- `other_slot` is the word after `?`
pub data Slot : Type 0 where
  missing_slot : Slot
  principal_slot : Slot
  resource_slot : Slot
  other_slot : Text → Slot

-- ---- operators

pub data RelOp : Type 0 where
  less : RelOp
  less_eq : RelOp
  greater_eq : RelOp
  greater : RelOp
  not_eq : RelOp
  eq : RelOp
  in_ : RelOp
  invalid_single_eq : RelOp

pub data AddOp : Type 0 where
  plus : AddOp
  minus : AddOp

pub data MultOp : Type 0 where
  times : MultOp
  divide : MultOp
  mod_ : MultOp

-- one to four of a sign, or more
pub data NegOp : Type 0 where
  bang : ℕ → NegOp
  over_bang : NegOp
  dash : ℕ → NegOp
  over_dash : NegOp

-- ---- expressions

mutual
  pub data Expr : Type 0 where
    missing_expr : Expr
    or_expr : Or → Expr
    if_expr : Expr → Expr → Expr → Expr

  pub data Or : Type 0 where
    missing_or : Or
    or : And → Ands → Or

  pub data Ands : Type 0 where
    no_ands : Ands
    an_and : And → Ands → Ands

  pub data And : Type 0 where
    missing_and : And
    and : Relation → Relations → And

  pub data Relations : Type 0 where
    no_relations : Relations
    a_relation : Relation → Relations → Relations

  pub data Relation : Type 0 where
    missing_relation : Relation
    common : Add → Adds → Relation
    has : Add → Add → Relation
    like : Add → Add → Relation
    is_type : Add → Add → Relation
    is_type_in : Add → Add → Add → Relation

  -- what is compared with, and by what
  pub data Adds : Type 0 where
    no_adds : Adds
    an_add : RelOp → Add → Adds → Adds

  pub data Add : Type 0 where
    missing_add : Add
    add : Mult → Mults → Add

  pub data Mults : Type 0 where
    no_mults : Mults
    a_mult : AddOp → Mult → Mults → Mults

  pub data Mult : Type 0 where
    missing_mult : Mult
    mult : Unary → Unaries → Mult

  pub data Unaries : Type 0 where
    no_unaries : Unaries
    a_unary : MultOp → Unary → Unaries → Unaries

  pub data Unary : Type 0 where
    missing_unary : Unary
    unary : Option NegOp → Member → Unary

  pub data Member : Type 0 where
    missing_member : Member
    member : Primary → Accesses → Member

  pub data Accesses : Type 0 where
    no_accesses : Accesses
    an_access : MemAccess → Accesses → Accesses

  -- `.a`, `(..)` and `[..]`
  pub data MemAccess : Type 0 where
    missing_access : MemAccess
    field : Ident → MemAccess
    call : Exprs → MemAccess
    index : Expr → MemAccess

  -- `expr` stands in parentheses
  pub data Primary : Type 0 where
    missing_primary : Primary
    literal : Literal → Primary
    entity : Ref → Primary
    named : Name → Primary
    slot : Slot → Primary
    expr : Expr → Primary
    e_list : Exprs → Primary
    r_inits : RecInits → Primary

  pub data Exprs : Type 0 where
    no_exprs : Exprs
    an_expr : Expr → Exprs → Exprs

  pub data RecInits : Type 0 where
    no_rec_inits : RecInits
    a_rec_init : RecInit → RecInits → RecInits

  -- `a: b` inside a record
  pub data RecInit : Type 0 where
    missing_rec_init : RecInit
    rec_init : Expr → Expr → RecInit

-- ---- lists of them

abbrev pub ands : List And → Ands
ands [] = no_ands
ands (x ∷ xs) = an_and x (ands xs)

abbrev pub relations : List Relation → Relations
relations [] = no_relations
relations (x ∷ xs) = a_relation x (relations xs)

abbrev pub adds : List (RelOp × Add) → Adds
adds [] = no_adds
adds (x ∷ xs) = an_add x.0 x.1 (adds xs)

abbrev pub mults : List (AddOp × Mult) → Mults
mults [] = no_mults
mults (x ∷ xs) = a_mult x.0 x.1 (mults xs)

abbrev pub unaries : List (MultOp × Unary) → Unaries
unaries [] = no_unaries
unaries (x ∷ xs) = a_unary x.0 x.1 (unaries xs)

abbrev pub accesses : List MemAccess → Accesses
accesses [] = no_accesses
accesses (x ∷ xs) = an_access x (accesses xs)

abbrev pub exprs : List Expr → Exprs
exprs [] = no_exprs
exprs (x ∷ xs) = an_expr x (exprs xs)

abbrev pub rec_inits : List RecInit → RecInits
rec_inits [] = no_rec_inits
rec_inits (x ∷ xs) = a_rec_init x (rec_inits xs)

-- ---- policies

-- `@key`, or `@key("value")`
pub data Annotation : Type 0 where
  missing_annotation : Annotation
  annotation : Ident → Option Str → Annotation

-- The variable, a name after `:` (which never converts), what stands after `is`, and a comparison.
pub data VariableDef : Type 0 where
  missing_variable_def : VariableDef
  variable_def : Ident → Option Name → Option Add → Option (RelOp × Expr) → VariableDef

-- `when {..}`; the braces may be empty
pub data Cond : Type 0 where
  missing_cond : Cond
  cond : Ident → Option Expr → Cond

-- annotations, effect, scope and clauses
pub data Policy : Type 0 where
  missing_policy : Policy
  policy : List Annotation → Ident → List VariableDef → List Cond → Policy

pub data Policies : Type 0 where
  missing_policies : Policies
  policies : List Policy → Policies
