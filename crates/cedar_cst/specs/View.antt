-- What trees are without their places: the loose trees of expressions and policies.
use Rattle.std.specs.Prelude.{map, Option, Some, None}
use Rattle.std.specs.Option.{option_map, unwrap_or}
use Rattle.cedar_grammar.specs.Loose as loose
use Rattle.cedar_cst.specs.declared.node.Node.{Node}
use Rattle.cedar_cst.specs.LeafView.{shown, shown_ident, shown_str, shown_name, shown_literal, shown_ref, shown_slot, view_rel_op, view_add_op, view_mult_op, view_neg_op}
use Rattle.cedar_cst.specs.declared.cst.Expr.{Expr, fold-Expr}
use Rattle.cedar_cst.specs.declared.cst.ExprData.{ExprData, fold-ExprData}
use Rattle.cedar_cst.specs.declared.cst.MemAccess.{MemAccess, fold-MemAccess}
use Rattle.cedar_cst.specs.declared.cst.Primary.{Primary, fold-Primary}
use Rattle.cedar_cst.specs.declared.cst.Relation.{Relation, fold-Relation}
use Rattle.cedar_cst.specs.declared.cst.Add.{Add, fold-Add}
use Rattle.cedar_cst.specs.declared.cst.And.{And, fold-And}
use Rattle.cedar_cst.specs.declared.cst.ExprImpl.{ExprImpl, fold-ExprImpl}
use Rattle.cedar_cst.specs.declared.cst.Member.{Member, fold-Member}
use Rattle.cedar_cst.specs.declared.cst.Mult.{Mult, fold-Mult}
use Rattle.cedar_cst.specs.declared.cst.Or.{Or, fold-Or}
use Rattle.cedar_cst.specs.declared.cst.RecInit.{RecInit, fold-RecInit}
use Rattle.cedar_cst.specs.declared.cst.Unary.{Unary, fold-Unary}
use Rattle.cedar_cst.specs.declared.cst.Annotation.{Annotation}
use Rattle.cedar_cst.specs.declared.cst.VariableDef.{VariableDef}
use Rattle.cedar_cst.specs.declared.cst.Cond.{Cond}
use Rattle.cedar_cst.specs.declared.cst.PolicyImpl.{PolicyImpl}
use Rattle.cedar_cst.specs.declared.cst.Policy.{Policy}
use Rattle.cedar_cst.specs.declared.cst.Policies.{Policies}
use Rattle.cedar_cst.specs.declared.cst.Policy.TheVariants as policies
use Rattle.cedar_cst.specs.declared.cst.Expr.TheOpen.{Expr-F, ExprData-F, MemAccess-F, Primary-F, Relation-F, Add-F, And-F, ExprImpl-F, Member-F, Mult-F, Or-F, RecInit-F, Unary-F}
use Rattle.cedar_cst.specs.declared.cst.Expr.TheOpen as layer

-- ---- one layer, with the views of its parts in their places

-- what a node with a view in it shows
abbrev pub part : {A : Type 0} → A → Node (Option A) → A
part missing n = unwrap_or n.node missing

abbrev pub expr_step : Expr-F loose.Expr loose.Expr loose.MemAccess loose.Primary loose.Relation loose.Add loose.And loose.Expr loose.Member loose.Mult loose.Or loose.RecInit loose.Unary → loose.Expr
expr_step (layer.Expr::Expr e) = e

abbrev pub expr_data_step : ExprData-F loose.Expr loose.Expr loose.MemAccess loose.Primary loose.Relation loose.Add loose.And loose.Expr loose.Member loose.Mult loose.Or loose.RecInit loose.Unary → loose.Expr
expr_data_step (layer.Or n) = loose.or_expr (part loose.missing_or n)
expr_data_step (layer.If a b c) = loose.if_expr (part loose.missing_expr a) (part loose.missing_expr b) (part loose.missing_expr c)

abbrev pub mem_access_step : MemAccess-F loose.Expr loose.Expr loose.MemAccess loose.Primary loose.Relation loose.Add loose.And loose.Expr loose.Member loose.Mult loose.Or loose.RecInit loose.Unary → loose.MemAccess
mem_access_step (layer.Field n) = loose.field (shown_ident n)
mem_access_step (layer.Call v) = loose.call (loose.exprs (map (part loose.missing_expr) v.items))
mem_access_step (layer.Index n) = loose.index (part loose.missing_expr n)

abbrev pub primary_step : Primary-F loose.Expr loose.Expr loose.MemAccess loose.Primary loose.Relation loose.Add loose.And loose.Expr loose.Member loose.Mult loose.Or loose.RecInit loose.Unary → loose.Primary
primary_step (layer.Literal n) = loose.literal (shown_literal n)
primary_step (layer.Ref n) = loose.entity (shown_ref n.value)
primary_step (layer.Name n) = loose.named (shown_name n.value)
primary_step (layer.Slot n) = loose.slot (shown_slot n)
primary_step (layer.Primary::Expr n) = loose.expr (part loose.missing_expr n)
primary_step (layer.EList v) = loose.e_list (loose.exprs (map (part loose.missing_expr) v.items))
primary_step (layer.RInits v) = loose.r_inits (loose.rec_inits (map (part loose.missing_rec_init) v.items))

abbrev pub relation_step : Relation-F loose.Expr loose.Expr loose.MemAccess loose.Primary loose.Relation loose.Add loose.And loose.Expr loose.Member loose.Mult loose.Or loose.RecInit loose.Unary → loose.Relation
relation_step (layer.Common first more) = loose.common (part loose.missing_add first.value) (loose.adds (map (λ x. (view_rel_op x.0, part loose.missing_add x.1)) more.items))
relation_step (layer.Has a b) = loose.has (part loose.missing_add a.value) (part loose.missing_add b.value)
relation_step (layer.Like a b) = loose.like (part loose.missing_add a.value) (part loose.missing_add b.value)
relation_step (layer.IsIn a b None) = loose.is_type (part loose.missing_add a.value) (part loose.missing_add b.value)
relation_step (layer.IsIn a b (Some c)) = loose.is_type_in (part loose.missing_add a.value) (part loose.missing_add b.value) (part loose.missing_add c.value)

abbrev pub add_step : Add-F loose.Expr loose.Expr loose.MemAccess loose.Primary loose.Relation loose.Add loose.And loose.Expr loose.Member loose.Mult loose.Or loose.RecInit loose.Unary → loose.Add
add_step f = loose.add (part loose.missing_mult f.initial) (loose.mults (map (λ x. (view_add_op x.0, part loose.missing_mult x.1)) f.extended.items))

abbrev pub and_step : And-F loose.Expr loose.Expr loose.MemAccess loose.Primary loose.Relation loose.Add loose.And loose.Expr loose.Member loose.Mult loose.Or loose.RecInit loose.Unary → loose.And
and_step f = loose.and (part loose.missing_relation f.initial) (loose.relations (map (part loose.missing_relation) f.extended.items))

abbrev pub expr_impl_step : ExprImpl-F loose.Expr loose.Expr loose.MemAccess loose.Primary loose.Relation loose.Add loose.And loose.Expr loose.Member loose.Mult loose.Or loose.RecInit loose.Unary → loose.Expr
expr_impl_step f = f.expr.value

abbrev pub member_step : Member-F loose.Expr loose.Expr loose.MemAccess loose.Primary loose.Relation loose.Add loose.And loose.Expr loose.Member loose.Mult loose.Or loose.RecInit loose.Unary → loose.Member
member_step f = loose.member (part loose.missing_primary f.item.value) (loose.accesses (map (part loose.missing_access) f.access.items))

abbrev pub mult_step : Mult-F loose.Expr loose.Expr loose.MemAccess loose.Primary loose.Relation loose.Add loose.And loose.Expr loose.Member loose.Mult loose.Or loose.RecInit loose.Unary → loose.Mult
mult_step f = loose.mult (part loose.missing_unary f.initial) (loose.unaries (map (λ x. (view_mult_op x.0, part loose.missing_unary x.1)) f.extended.items))

abbrev pub or_step : Or-F loose.Expr loose.Expr loose.MemAccess loose.Primary loose.Relation loose.Add loose.And loose.Expr loose.Member loose.Mult loose.Or loose.RecInit loose.Unary → loose.Or
or_step f = loose.or (part loose.missing_and f.initial) (loose.ands (map (part loose.missing_and) f.extended.items))

abbrev pub rec_init_step : RecInit-F loose.Expr loose.Expr loose.MemAccess loose.Primary loose.Relation loose.Add loose.And loose.Expr loose.Member loose.Mult loose.Or loose.RecInit loose.Unary → loose.RecInit
rec_init_step f = loose.rec_init (part loose.missing_expr f.0) (part loose.missing_expr f.1)

abbrev pub unary_step : Unary-F loose.Expr loose.Expr loose.MemAccess loose.Primary loose.Relation loose.Add loose.And loose.Expr loose.Member loose.Mult loose.Or loose.RecInit loose.Unary → loose.Unary
unary_step f = loose.unary (option_map view_neg_op f.op) (part loose.missing_member f.item)

-- ---- whole expressions

abbrev pub view_expr : Expr → loose.Expr
view_expr = fold-Expr loose.Expr loose.Expr loose.MemAccess loose.Primary loose.Relation loose.Add loose.And loose.Expr loose.Member loose.Mult loose.Or loose.RecInit loose.Unary expr_step expr_data_step mem_access_step primary_step relation_step add_step and_step expr_impl_step member_step mult_step or_step rec_init_step unary_step

abbrev pub view_expr_data : ExprData → loose.Expr
view_expr_data = fold-ExprData loose.Expr loose.Expr loose.MemAccess loose.Primary loose.Relation loose.Add loose.And loose.Expr loose.Member loose.Mult loose.Or loose.RecInit loose.Unary expr_step expr_data_step mem_access_step primary_step relation_step add_step and_step expr_impl_step member_step mult_step or_step rec_init_step unary_step

abbrev pub view_mem_access : MemAccess → loose.MemAccess
view_mem_access = fold-MemAccess loose.Expr loose.Expr loose.MemAccess loose.Primary loose.Relation loose.Add loose.And loose.Expr loose.Member loose.Mult loose.Or loose.RecInit loose.Unary expr_step expr_data_step mem_access_step primary_step relation_step add_step and_step expr_impl_step member_step mult_step or_step rec_init_step unary_step

abbrev pub view_primary : Primary → loose.Primary
view_primary = fold-Primary loose.Expr loose.Expr loose.MemAccess loose.Primary loose.Relation loose.Add loose.And loose.Expr loose.Member loose.Mult loose.Or loose.RecInit loose.Unary expr_step expr_data_step mem_access_step primary_step relation_step add_step and_step expr_impl_step member_step mult_step or_step rec_init_step unary_step

abbrev pub view_relation : Relation → loose.Relation
view_relation = fold-Relation loose.Expr loose.Expr loose.MemAccess loose.Primary loose.Relation loose.Add loose.And loose.Expr loose.Member loose.Mult loose.Or loose.RecInit loose.Unary expr_step expr_data_step mem_access_step primary_step relation_step add_step and_step expr_impl_step member_step mult_step or_step rec_init_step unary_step

abbrev pub view_add : Add → loose.Add
view_add = fold-Add loose.Expr loose.Expr loose.MemAccess loose.Primary loose.Relation loose.Add loose.And loose.Expr loose.Member loose.Mult loose.Or loose.RecInit loose.Unary expr_step expr_data_step mem_access_step primary_step relation_step add_step and_step expr_impl_step member_step mult_step or_step rec_init_step unary_step

abbrev pub view_and : And → loose.And
view_and = fold-And loose.Expr loose.Expr loose.MemAccess loose.Primary loose.Relation loose.Add loose.And loose.Expr loose.Member loose.Mult loose.Or loose.RecInit loose.Unary expr_step expr_data_step mem_access_step primary_step relation_step add_step and_step expr_impl_step member_step mult_step or_step rec_init_step unary_step

abbrev pub view_expr_impl : ExprImpl → loose.Expr
view_expr_impl = fold-ExprImpl loose.Expr loose.Expr loose.MemAccess loose.Primary loose.Relation loose.Add loose.And loose.Expr loose.Member loose.Mult loose.Or loose.RecInit loose.Unary expr_step expr_data_step mem_access_step primary_step relation_step add_step and_step expr_impl_step member_step mult_step or_step rec_init_step unary_step

abbrev pub view_member : Member → loose.Member
view_member = fold-Member loose.Expr loose.Expr loose.MemAccess loose.Primary loose.Relation loose.Add loose.And loose.Expr loose.Member loose.Mult loose.Or loose.RecInit loose.Unary expr_step expr_data_step mem_access_step primary_step relation_step add_step and_step expr_impl_step member_step mult_step or_step rec_init_step unary_step

abbrev pub view_mult : Mult → loose.Mult
view_mult = fold-Mult loose.Expr loose.Expr loose.MemAccess loose.Primary loose.Relation loose.Add loose.And loose.Expr loose.Member loose.Mult loose.Or loose.RecInit loose.Unary expr_step expr_data_step mem_access_step primary_step relation_step add_step and_step expr_impl_step member_step mult_step or_step rec_init_step unary_step

abbrev pub view_or : Or → loose.Or
view_or = fold-Or loose.Expr loose.Expr loose.MemAccess loose.Primary loose.Relation loose.Add loose.And loose.Expr loose.Member loose.Mult loose.Or loose.RecInit loose.Unary expr_step expr_data_step mem_access_step primary_step relation_step add_step and_step expr_impl_step member_step mult_step or_step rec_init_step unary_step

abbrev pub view_rec_init : RecInit → loose.RecInit
view_rec_init = fold-RecInit loose.Expr loose.Expr loose.MemAccess loose.Primary loose.Relation loose.Add loose.And loose.Expr loose.Member loose.Mult loose.Or loose.RecInit loose.Unary expr_step expr_data_step mem_access_step primary_step relation_step add_step and_step expr_impl_step member_step mult_step or_step rec_init_step unary_step

abbrev pub view_unary : Unary → loose.Unary
view_unary = fold-Unary loose.Expr loose.Expr loose.MemAccess loose.Primary loose.Relation loose.Add loose.And loose.Expr loose.Member loose.Mult loose.Or loose.RecInit loose.Unary expr_step expr_data_step mem_access_step primary_step relation_step add_step and_step expr_impl_step member_step mult_step or_step rec_init_step unary_step

abbrev pub shown_expr : Node (Option Expr) → loose.Expr
shown_expr = shown loose.missing_expr view_expr

abbrev pub shown_mem_access : Node (Option MemAccess) → loose.MemAccess
shown_mem_access = shown loose.missing_access view_mem_access

abbrev pub shown_primary : Node (Option Primary) → loose.Primary
shown_primary = shown loose.missing_primary view_primary

abbrev pub shown_relation : Node (Option Relation) → loose.Relation
shown_relation = shown loose.missing_relation view_relation

abbrev pub shown_add : Node (Option Add) → loose.Add
shown_add = shown loose.missing_add view_add

abbrev pub shown_and : Node (Option And) → loose.And
shown_and = shown loose.missing_and view_and

abbrev pub shown_member : Node (Option Member) → loose.Member
shown_member = shown loose.missing_member view_member

abbrev pub shown_mult : Node (Option Mult) → loose.Mult
shown_mult = shown loose.missing_mult view_mult

abbrev pub shown_or : Node (Option Or) → loose.Or
shown_or = shown loose.missing_or view_or

abbrev pub shown_rec_init : Node (Option RecInit) → loose.RecInit
shown_rec_init = shown loose.missing_rec_init view_rec_init

abbrev pub shown_unary : Node (Option Unary) → loose.Unary
shown_unary = shown loose.missing_unary view_unary

-- ---- policies

abbrev pub view_annotation : Annotation → loose.Annotation
view_annotation a = loose.annotation (shown_ident a.key) (option_map shown_str a.value)

abbrev pub shown_annotation : Node (Option Annotation) → loose.Annotation
shown_annotation = shown loose.missing_annotation view_annotation

abbrev pub view_variable_def : VariableDef → loose.VariableDef
view_variable_def v = loose.variable_def (shown_ident v.variable) (option_map shown_name v.unused_type_name) (option_map shown_add v.entity_type) (option_map (λ x. (view_rel_op x.0, shown_expr x.1)) v.ineq)

abbrev pub shown_variable_def : Node (Option VariableDef) → loose.VariableDef
shown_variable_def = shown loose.missing_variable_def view_variable_def

abbrev pub view_cond : Cond → loose.Cond
view_cond c = loose.cond (shown_ident c.cond) (option_map shown_expr c.expr)

abbrev pub shown_cond : Node (Option Cond) → loose.Cond
shown_cond = shown loose.missing_cond view_cond

abbrev pub view_policy_impl : PolicyImpl → loose.Policy
view_policy_impl p = loose.policy (map shown_annotation p.annotations.items) (shown_ident p.effect) (map shown_variable_def p.variables.items) (map shown_cond p.conds.items)

abbrev pub view_policy : Policy → loose.Policy
view_policy (policies.Policy p) = view_policy_impl p

abbrev pub shown_policy : Node (Option Policy) → loose.Policy
shown_policy = shown loose.missing_policy view_policy

abbrev pub view_policies : Policies → loose.Policies
view_policies ps = loose.policies (map shown_policy ps.0.items)

abbrev pub shown_policies : Node (Option Policies) → loose.Policies
shown_policies = shown loose.missing_policies view_policies
