-- What nodes show, by the constructs that they hold.
use Rattle.std.proofs.Common.{◌≡◌, List, map, Option, Some, None, Box, Vec, Global, sym, ap, ◌∙◌}
use Rattle.std.specs.Option.{option_map, unwrap_or}
use Rattle.cedar_grammar.specs.Loose as loose
use Rattle.cedar_cst.specs.declared.node.Node.{Node}
use Rattle.cedar_cst.specs.declared.leaves.Ident.{Ident}
use Rattle.cedar_cst.specs.declared.leaves.Literal.{Literal}
use Rattle.cedar_cst.specs.declared.leaves.Ref.{Ref}
use Rattle.cedar_cst.specs.declared.leaves.Name.{Name}
use Rattle.cedar_cst.specs.declared.leaves.Slot.{Slot}
use Rattle.cedar_cst.specs.declared.leaves.RelOp.{RelOp}
use Rattle.cedar_cst.specs.declared.leaves.AddOp.{AddOp}
use Rattle.cedar_cst.specs.declared.leaves.MultOp.{MultOp}
use Rattle.cedar_cst.specs.declared.leaves.NegOp.{NegOp}
use Rattle.cedar_cst.specs.LeafView.{shown, shown_ident, shown_literal, shown_ref, shown_name, shown_slot, view_rel_op, view_add_op, view_mult_op, view_neg_op}
use Rattle.cedar_cst.specs.declared.cst.Expr.{Expr}
use Rattle.cedar_cst.specs.declared.cst.Expr.TheVariants as expr
use Rattle.cedar_cst.specs.declared.cst.ExprImpl.{ExprImpl, out-ExprImpl}
use Rattle.cedar_cst.specs.declared.cst.ExprData.{ExprData}
use Rattle.cedar_cst.specs.declared.cst.ExprData.TheVariants as expr_data
use Rattle.cedar_cst.specs.declared.cst.Or.{Or, out-Or}
use Rattle.cedar_cst.specs.declared.cst.And.{And, out-And}
use Rattle.cedar_cst.specs.declared.cst.Relation.{Relation}
use Rattle.cedar_cst.specs.declared.cst.Relation.TheVariants as relation
use Rattle.cedar_cst.specs.declared.cst.Add.{Add, out-Add}
use Rattle.cedar_cst.specs.declared.cst.Mult.{Mult, out-Mult}
use Rattle.cedar_cst.specs.declared.cst.Unary.{Unary, out-Unary}
use Rattle.cedar_cst.specs.declared.cst.Member.{Member, out-Member}
use Rattle.cedar_cst.specs.declared.cst.MemAccess.{MemAccess}
use Rattle.cedar_cst.specs.declared.cst.MemAccess.TheVariants as mem_access
use Rattle.cedar_cst.specs.declared.cst.Primary.{Primary}
use Rattle.cedar_cst.specs.declared.cst.Primary.TheVariants as primary
use Rattle.cedar_cst.specs.declared.cst.RecInit.{RecInit, out-RecInit}
use Rattle.cedar_cst.specs.View.{view_expr, view_expr_data, view_or, view_and, view_relation, view_add, view_mult, view_unary, view_member, view_mem_access, view_primary, view_rec_init, shown_expr, shown_or, shown_and, shown_relation, shown_add, shown_mult, shown_unary, shown_member, shown_mem_access, shown_primary, shown_rec_init}
use Rattle.cedar_cst.proofs.Views.{seen, view_expr_expr, view_expr_impl_out, view_expr_data_or, view_expr_data_if, view_or_out, view_and_out, view_relation_common, view_relation_has, view_relation_like, view_relation_is_type, view_relation_is_type_in, view_add_out, view_mult_out, view_unary_out, view_member_out, view_mem_access_field, view_mem_access_call, view_mem_access_index, view_primary_literal, view_primary_ref, view_primary_name, view_primary_slot, view_primary_expr, view_primary_e_list, view_primary_r_inits, view_rec_init_out}

-- an empty node
pub none_seen : {A B : Type 0} (missing : B) (view : A → B) (n : Node (Option A)) → n.node ≡ None → shown missing view n ≡ missing
none_seen missing view n is = ap (λ o. unwrap_or (option_map view o) missing) is

-- ---- expressions and chains

pub or_expr_seen : (n : Node (Option Expr)) (t : Expr) (e : ExprImpl) (d : ExprData) (o : Node (Option Or)) → n.node ≡ Some t → t ≡ expr.Expr e → d ≡ (out-ExprImpl e).expr.value → d ≡ expr_data.Or o → shown_expr n ≡ loose.or_expr (shown_or o)
or_expr_seen n t e d o is at within by = seen loose.missing_expr view_expr n t is ∙ view_expr_expr t e at ∙ view_expr_impl_out e ∙ ap view_expr_data (sym within) ∙ view_expr_data_or d o by

pub if_expr_seen : (n : Node (Option Expr)) (t : Expr) (e : ExprImpl) (d : ExprData) (p q r : Node (Option Expr)) → n.node ≡ Some t → t ≡ expr.Expr e → d ≡ (out-ExprImpl e).expr.value → d ≡ expr_data.If p q r
    → shown_expr n ≡ loose.if_expr (shown_expr p) (shown_expr q) (shown_expr r)
if_expr_seen n t e d p q r is at within by = seen loose.missing_expr view_expr n t is ∙ view_expr_expr t e at ∙ view_expr_impl_out e ∙ ap view_expr_data (sym within) ∙ view_expr_data_if d p q r by

pub or_seen : (n : Node (Option Or)) (t : Or) (xs : List (Node (Option And))) → n.node ≡ Some t → xs ≡ (out-Or t).extended.items → shown_or n ≡ loose.or (shown_and (out-Or t).initial) (loose.ands (map shown_and xs))
or_seen n t xs is same = seen loose.missing_or view_or n t is ∙ view_or_out t ∙ ap (λ ys. loose.or (shown_and (out-Or t).initial) (loose.ands (map shown_and ys))) (sym same)

pub and_seen : (n : Node (Option And)) (t : And) (xs : List (Node (Option Relation))) → n.node ≡ Some t → xs ≡ (out-And t).extended.items → shown_and n ≡ loose.and (shown_relation (out-And t).initial) (loose.relations (map shown_relation xs))
and_seen n t xs is same = seen loose.missing_and view_and n t is ∙ view_and_out t ∙ ap (λ ys. loose.and (shown_relation (out-And t).initial) (loose.relations (map shown_relation ys))) (sym same)

pub add_seen : (n : Node (Option Add)) (t : Add) (xs : List (AddOp × Node (Option Mult))) → n.node ≡ Some t → xs ≡ (out-Add t).extended.items
    → shown_add n ≡ loose.add (shown_mult (out-Add t).initial) (loose.mults (map {B = loose.AddOp × loose.Mult} (λ x. (view_add_op x.0, shown_mult x.1)) xs))
add_seen n t xs is same = seen loose.missing_add view_add n t is ∙ view_add_out t ∙ ap (λ ys. loose.add (shown_mult (out-Add t).initial) (loose.mults (map {B = loose.AddOp × loose.Mult} (λ x. (view_add_op x.0, shown_mult x.1)) ys))) (sym same)

pub mult_seen : (n : Node (Option Mult)) (t : Mult) (xs : List (MultOp × Node (Option Unary))) → n.node ≡ Some t → xs ≡ (out-Mult t).extended.items
    → shown_mult n ≡ loose.mult (shown_unary (out-Mult t).initial) (loose.unaries (map {B = loose.MultOp × loose.Unary} (λ x. (view_mult_op x.0, shown_unary x.1)) xs))
mult_seen n t xs is same = seen loose.missing_mult view_mult n t is ∙ view_mult_out t ∙ ap (λ ys. loose.mult (shown_unary (out-Mult t).initial) (loose.unaries (map {B = loose.MultOp × loose.Unary} (λ x. (view_mult_op x.0, shown_unary x.1)) ys))) (sym same)

-- ---- relations

pub common_seen : (n : Node (Option Relation)) (r : Relation) (a : Box (Node (Option Add)) Global) (b : Vec (RelOp × Node (Option Add)) Global) (xs : List (RelOp × Node (Option Add))) (p : Node (Option Add)) → n.node ≡ Some r → r ≡ relation.Common a b → b.items ≡ xs → p ≡ a.value
    → shown_relation n ≡ loose.common (shown_add p) (loose.adds (map {B = loose.RelOp × loose.Add} (λ x. (view_rel_op x.0, shown_add x.1)) xs))
common_seen n r a b xs p is at cut first =
    seen loose.missing_relation view_relation n r is
    ∙ view_relation_common r a b at
    ∙ ap (λ ys. loose.common (shown_add a.value) (loose.adds (map {B = loose.RelOp × loose.Add} (λ x. (view_rel_op x.0, shown_add x.1)) ys))) cut
    ∙ ap (λ z. loose.common (shown_add z) (loose.adds (map {B = loose.RelOp × loose.Add} (λ x. (view_rel_op x.0, shown_add x.1)) xs))) (sym first)

pub has_seen : (n : Node (Option Relation)) (r : Relation) (a b : Box (Node (Option Add)) Global) (p q : Node (Option Add)) → n.node ≡ Some r → r ≡ relation.Has a b → p ≡ a.value → q ≡ b.value → shown_relation n ≡ loose.has (shown_add p) (shown_add q)
has_seen n r a b p q is at first second =
    seen loose.missing_relation view_relation n r is ∙ view_relation_has r a b at ∙ ap (λ z. loose.has (shown_add z) (shown_add b.value)) (sym first) ∙ ap (λ z. loose.has (shown_add p) (shown_add z)) (sym second)

pub like_seen : (n : Node (Option Relation)) (r : Relation) (a b : Box (Node (Option Add)) Global) (p q : Node (Option Add)) → n.node ≡ Some r → r ≡ relation.Like a b → p ≡ a.value → q ≡ b.value → shown_relation n ≡ loose.like (shown_add p) (shown_add q)
like_seen n r a b p q is at first second =
    seen loose.missing_relation view_relation n r is ∙ view_relation_like r a b at ∙ ap (λ z. loose.like (shown_add z) (shown_add b.value)) (sym first) ∙ ap (λ z. loose.like (shown_add p) (shown_add z)) (sym second)

pub is_seen : (n : Node (Option Relation)) (r : Relation) (a b : Box (Node (Option Add)) Global) (c : Option (Box (Node (Option Add)) Global)) (p q : Node (Option Add)) → n.node ≡ Some r → r ≡ relation.IsIn a b c → c ≡ None → p ≡ a.value → q ≡ b.value
    → shown_relation n ≡ loose.is_type (shown_add p) (shown_add q)
is_seen n r a b c p q is at without first second =
    seen loose.missing_relation view_relation n r is ∙ view_relation_is_type r a b (at ∙ ap (relation.IsIn a b) without) ∙ ap (λ z. loose.is_type (shown_add z) (shown_add b.value)) (sym first) ∙ ap (λ z. loose.is_type (shown_add p) (shown_add z)) (sym second)

pub is_in_seen : (n : Node (Option Relation)) (r : Relation) (a b : Box (Node (Option Add)) Global) (c : Option (Box (Node (Option Add)) Global)) (d : Box (Node (Option Add)) Global) (p q e : Node (Option Add)) → n.node ≡ Some r → r ≡ relation.IsIn a b c → c ≡ Some d → p ≡ a.value → q ≡ b.value → e ≡ d.value
    → shown_relation n ≡ loose.is_type_in (shown_add p) (shown_add q) (shown_add e)
is_in_seen n r a b c d p q e is at within first second third =
    seen loose.missing_relation view_relation n r is ∙ view_relation_is_type_in r a b d (at ∙ ap (relation.IsIn a b) within) ∙ ap (λ z. loose.is_type_in (shown_add z) (shown_add b.value) (shown_add d.value)) (sym first) ∙ ap (λ z. loose.is_type_in (shown_add p) (shown_add z) (shown_add d.value)) (sym second) ∙ ap (λ z. loose.is_type_in (shown_add p) (shown_add q) (shown_add z)) (sym third)

-- ---- signs

pub unary_seen : (n : Node (Option Unary)) (t : Unary) (s : Option NegOp) → n.node ≡ Some t → (out-Unary t).op ≡ s → shown_unary n ≡ loose.unary (option_map view_neg_op s) (shown_member (out-Unary t).item)
unary_seen n t s is at = seen loose.missing_unary view_unary n t is ∙ view_unary_out t ∙ ap (λ o. loose.unary (option_map view_neg_op o) (shown_member (out-Unary t).item)) at

-- ---- members and accesses

pub member_seen : (n : Node (Option Member)) (t : Member) (p : Node (Option Primary)) (xs : List (Node (Option MemAccess))) → n.node ≡ Some t → p ≡ (out-Member t).item.value → xs ≡ (out-Member t).access.items
    → shown_member n ≡ loose.member (shown_primary p) (loose.accesses (map shown_mem_access xs))
member_seen n t p xs is item same =
    seen loose.missing_member view_member n t is ∙ view_member_out t ∙ ap (λ q. loose.member (shown_primary q) (loose.accesses (map shown_mem_access (out-Member t).access.items))) (sym item) ∙ ap (λ ys. loose.member (shown_primary p) (loose.accesses (map shown_mem_access ys))) (sym same)

pub field_seen : (n : Node (Option MemAccess)) (t : MemAccess) (i : Node (Option Ident)) → n.node ≡ Some t → t ≡ mem_access.Field i → shown_mem_access n ≡ loose.field (shown_ident i)
field_seen n t i is at = seen loose.missing_access view_mem_access n t is ∙ view_mem_access_field t i at

pub call_seen : (n : Node (Option MemAccess)) (t : MemAccess) (es : Vec (Node (Option Expr)) Global) → n.node ≡ Some t → t ≡ mem_access.Call es → shown_mem_access n ≡ loose.call (loose.exprs (map shown_expr es.items))
call_seen n t es is at = seen loose.missing_access view_mem_access n t is ∙ view_mem_access_call t es at

pub index_seen : (n : Node (Option MemAccess)) (t : MemAccess) (e : Node (Option Expr)) → n.node ≡ Some t → t ≡ mem_access.Index e → shown_mem_access n ≡ loose.index (shown_expr e)
index_seen n t e is at = seen loose.missing_access view_mem_access n t is ∙ view_mem_access_index t e at

-- ---- operands

pub literal_seen : (n : Node (Option Primary)) (t : Primary) (a : Node (Option Literal)) → n.node ≡ Some t → t ≡ primary.Literal a → shown_primary n ≡ loose.literal (shown_literal a)
literal_seen n t a is at = seen loose.missing_primary view_primary n t is ∙ view_primary_literal t a at

pub ref_seen : (n : Node (Option Primary)) (t : Primary) (a : Box (Node (Option Ref)) Global) (r : Node (Option Ref)) → n.node ≡ Some t → t ≡ primary.Ref a → r ≡ a.value → shown_primary n ≡ loose.entity (shown_ref r)
ref_seen n t a r is at same = seen loose.missing_primary view_primary n t is ∙ view_primary_ref t a at ∙ ap (λ z. loose.entity (shown_ref z)) (sym same)

pub name_seen : (n : Node (Option Primary)) (t : Primary) (a : Box (Node (Option Name)) Global) (r : Node (Option Name)) → n.node ≡ Some t → t ≡ primary.Name a → r ≡ a.value → shown_primary n ≡ loose.named (shown_name r)
name_seen n t a r is at same = seen loose.missing_primary view_primary n t is ∙ view_primary_name t a at ∙ ap (λ z. loose.named (shown_name z)) (sym same)

pub slot_seen : (n : Node (Option Primary)) (t : Primary) (a : Node (Option Slot)) → n.node ≡ Some t → t ≡ primary.Slot a → shown_primary n ≡ loose.slot (shown_slot a)
slot_seen n t a is at = seen loose.missing_primary view_primary n t is ∙ view_primary_slot t a at

pub expr_seen : (n : Node (Option Primary)) (t : Primary) (a : Node (Option Expr)) → n.node ≡ Some t → t ≡ primary.Expr a → shown_primary n ≡ loose.expr (shown_expr a)
expr_seen n t a is at = seen loose.missing_primary view_primary n t is ∙ view_primary_expr t a at

pub list_seen : (n : Node (Option Primary)) (t : Primary) (es : Vec (Node (Option Expr)) Global) → n.node ≡ Some t → t ≡ primary.EList es → shown_primary n ≡ loose.e_list (loose.exprs (map shown_expr es.items))
list_seen n t es is at = seen loose.missing_primary view_primary n t is ∙ view_primary_e_list t es at

pub record_seen : (n : Node (Option Primary)) (t : Primary) (es : Vec (Node (Option RecInit)) Global) → n.node ≡ Some t → t ≡ primary.RInits es → shown_primary n ≡ loose.r_inits (loose.rec_inits (map shown_rec_init es.items))
record_seen n t es is at = seen loose.missing_primary view_primary n t is ∙ view_primary_r_inits t es at

pub rec_init_seen : (n : Node (Option RecInit)) (t : RecInit) → n.node ≡ Some t → shown_rec_init n ≡ loose.rec_init (shown_expr (out-RecInit t).0) (shown_expr (out-RecInit t).1)
rec_init_seen n t is = seen loose.missing_rec_init view_rec_init n t is ∙ view_rec_init_out t
