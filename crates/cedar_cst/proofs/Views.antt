-- What the view of a tree is, by the views of its parts.
use Rattle.std.proofs.Common.{◌≡◌, List, [], ◌∷◌, map, Option, Some, None, Box, Vec, Global, refl, sym, ap, ◌∙◌}
use Rattle.std.specs.Option.{option_map, unwrap_or}
use Rattle.cedar_names.specs.declared.places.Place.{Place}
use Rattle.cedar_cst.specs.declared.node.Node.{Node}
use Rattle.cedar_cst.specs.declared.leaves.Ident.{Ident}
use Rattle.cedar_cst.specs.declared.leaves.Literal.{Literal}
use Rattle.cedar_cst.specs.declared.leaves.Ref.{Ref}
use Rattle.cedar_cst.specs.declared.leaves.Name.{Name}
use Rattle.cedar_cst.specs.declared.leaves.Slot.{Slot}
use Rattle.cedar_cst.specs.declared.leaves.RelOp.{RelOp}
use Rattle.cedar_cst.specs.declared.leaves.AddOp.{AddOp}
use Rattle.cedar_cst.specs.declared.leaves.MultOp.{MultOp}
use Rattle.cedar_cst.specs.declared.leaves.NegOp.{NegOp}
use Rattle.cedar_cst.specs.declared.cst.Expr.{Expr, fold-roll-Expr}
use Rattle.cedar_cst.specs.declared.cst.Expr.TheVariants as expr
use Rattle.cedar_cst.specs.declared.cst.ExprData.{ExprData, fold-roll-ExprData}
use Rattle.cedar_cst.specs.declared.cst.ExprData.TheVariants as expr_data
use Rattle.cedar_cst.specs.declared.cst.MemAccess.{MemAccess, fold-roll-MemAccess}
use Rattle.cedar_cst.specs.declared.cst.MemAccess.TheVariants as mem_access
use Rattle.cedar_cst.specs.declared.cst.Primary.{Primary, fold-roll-Primary}
use Rattle.cedar_cst.specs.declared.cst.Primary.TheVariants as primary
use Rattle.cedar_cst.specs.declared.cst.Relation.{Relation, fold-roll-Relation}
use Rattle.cedar_cst.specs.declared.cst.Relation.TheVariants as relation
use Rattle.cedar_cst.specs.declared.cst.Add.{Add, roll-Add, out-Add, fold-roll-Add, fold_out-Add}
use Rattle.cedar_cst.specs.declared.cst.And.{And, roll-And, out-And, fold-roll-And, fold_out-And}
use Rattle.cedar_cst.specs.declared.cst.ExprImpl.{ExprImpl, roll-ExprImpl, out-ExprImpl, fold-roll-ExprImpl, fold_out-ExprImpl}
use Rattle.cedar_cst.specs.declared.cst.Member.{Member, roll-Member, out-Member, fold-roll-Member, fold_out-Member}
use Rattle.cedar_cst.specs.declared.cst.Mult.{Mult, roll-Mult, out-Mult, fold-roll-Mult, fold_out-Mult}
use Rattle.cedar_cst.specs.declared.cst.Or.{Or, roll-Or, out-Or, fold-roll-Or, fold_out-Or}
use Rattle.cedar_cst.specs.declared.cst.RecInit.{RecInit, roll-RecInit, out-RecInit, fold-roll-RecInit, fold_out-RecInit}
use Rattle.cedar_cst.specs.declared.cst.Unary.{Unary, roll-Unary, out-Unary, fold-roll-Unary, fold_out-Unary}
use Rattle.cedar_cst.specs.declared.cst.Expr.TheOpen as layer
use Rattle.cedar_cst.specs.declared.cst.Expr.TheShapes.{former-Add-extended-at-5, former-Add-initial-at-3, former-And-extended-at-3, former-And-initial-at-3, former-ExprData-If-0-at-3, former-ExprData-Or-0-at-3, former-MemAccess-Call-0-at-3, former-Member-access-at-3, former-Member-item-at-3, former-Mult-extended-at-5, former-Mult-initial-at-3, former-Or-extended-at-3, former-Or-initial-at-3, former-Primary-RInits-0-at-3, former-Relation-Common-0-at-3, former-Relation-Common-1-at-5, former-Relation-IsIn-2-at-3, former-Unary-item-at-3}
use Rattle.cedar_grammar.specs.Loose as loose
use Rattle.cedar_cst.specs.LeafView.{shown, shown_ident, shown_name, shown_literal, shown_ref, shown_slot, view_rel_op, view_add_op, view_mult_op, view_neg_op}
use Rattle.cedar_cst.specs.View.{part, view_expr, view_expr_data, view_mem_access, view_primary, view_relation, view_add, view_and, view_expr_impl, view_member, view_mult, view_or, view_rec_init, view_unary, shown_expr, shown_mem_access, shown_primary, shown_relation, shown_add, shown_and, shown_member, shown_mult, shown_or, shown_rec_init, shown_unary, expr_step, expr_data_step, mem_access_step, primary_step, relation_step, add_step, and_step, expr_impl_step, member_step, mult_step, or_step, rec_init_step, unary_step}

-- a node that isn't empty
pub seen : {A B : Type 0} (missing : B) (view : A → B) (n : Node (Option A)) (x : A) → n.node ≡ Some x → shown missing view n ≡ view x
seen missing view n x is = ap (λ o. unwrap_or (option_map view o) missing) is

-- ---- nodes where m puts the view in the place of what they hold

listed : {A B : Type 0} (missing : B) (view : A → B) (m : Node (Option A) → Node (Option B)) → ((x : Node (Option A)) → part missing (m x) ≡ shown missing view x) → (xs : List (Node (Option A))) → map (part missing) (map m xs) ≡ map (shown missing view) xs
listed missing view m h [] = refl
listed missing view m h (x ∷ xs) = let tail = listed missing view m h xs in cc (h x)

paired : {A B O P : Type 0} (op : O → P) (missing : B) (view : A → B) (m : O × Node (Option A) → O × Node (Option B)) → ((x : O × Node (Option A)) → ◌≡◌ {A = P × B} (op (m x).0, part missing (m x).1) (op x.0, shown missing view x.1)) → (xs : List (O × Node (Option A))) → map {B = P × B} (λ x. (op x.0, part missing x.1)) (map m xs) ≡ map {B = P × B} (λ x. (op x.0, shown missing view x.1)) xs
paired op missing view m h [] = refl
paired op missing view m h (x ∷ xs) = let tail = paired op missing view m h xs in cc (h x)

in-Relation-Common-0 : (o : Option Add) (l : Option Place) → part loose.missing_add (former-Relation-Common-0-at-3.map Add loose.Add view_add record { node = o; loc = l }) ≡ unwrap_or (option_map view_add o) loose.missing_add
in-Relation-Common-0 None l = refl
in-Relation-Common-0 (Some x) l = refl

in-Relation-IsIn-2 : (o : Option Add) (l : Option Place) → part loose.missing_add (former-Relation-IsIn-2-at-3.map Add loose.Add view_add record { node = o; loc = l }) ≡ unwrap_or (option_map view_add o) loose.missing_add
in-Relation-IsIn-2 None l = refl
in-Relation-IsIn-2 (Some x) l = refl

in-Or-extended : (o : Option And) (l : Option Place) → part loose.missing_and (former-Or-extended-at-3.map And loose.And view_and record { node = o; loc = l }) ≡ unwrap_or (option_map view_and o) loose.missing_and
in-Or-extended None l = refl
in-Or-extended (Some x) l = refl

in-Or-initial : (o : Option And) (l : Option Place) → part loose.missing_and (former-Or-initial-at-3.map And loose.And view_and record { node = o; loc = l }) ≡ unwrap_or (option_map view_and o) loose.missing_and
in-Or-initial None l = refl
in-Or-initial (Some x) l = refl

in-ExprData-If-0 : (o : Option Expr) (l : Option Place) → part loose.missing_expr (former-ExprData-If-0-at-3.map Expr loose.Expr view_expr record { node = o; loc = l }) ≡ unwrap_or (option_map view_expr o) loose.missing_expr
in-ExprData-If-0 None l = refl
in-ExprData-If-0 (Some x) l = refl

in-MemAccess-Call-0 : (o : Option Expr) (l : Option Place) → part loose.missing_expr (former-MemAccess-Call-0-at-3.map Expr loose.Expr view_expr record { node = o; loc = l }) ≡ unwrap_or (option_map view_expr o) loose.missing_expr
in-MemAccess-Call-0 None l = refl
in-MemAccess-Call-0 (Some x) l = refl

in-Member-access : (o : Option MemAccess) (l : Option Place) → part loose.missing_access (former-Member-access-at-3.map MemAccess loose.MemAccess view_mem_access record { node = o; loc = l }) ≡ unwrap_or (option_map view_mem_access o) loose.missing_access
in-Member-access None l = refl
in-Member-access (Some x) l = refl

in-Unary-item : (o : Option Member) (l : Option Place) → part loose.missing_member (former-Unary-item-at-3.map Member loose.Member view_member record { node = o; loc = l }) ≡ unwrap_or (option_map view_member o) loose.missing_member
in-Unary-item None l = refl
in-Unary-item (Some x) l = refl

in-Add-initial : (o : Option Mult) (l : Option Place) → part loose.missing_mult (former-Add-initial-at-3.map Mult loose.Mult view_mult record { node = o; loc = l }) ≡ unwrap_or (option_map view_mult o) loose.missing_mult
in-Add-initial None l = refl
in-Add-initial (Some x) l = refl

in-ExprData-Or-0 : (o : Option Or) (l : Option Place) → part loose.missing_or (former-ExprData-Or-0-at-3.map Or loose.Or view_or record { node = o; loc = l }) ≡ unwrap_or (option_map view_or o) loose.missing_or
in-ExprData-Or-0 None l = refl
in-ExprData-Or-0 (Some x) l = refl

in-Member-item : (o : Option Primary) (l : Option Place) → part loose.missing_primary (former-Member-item-at-3.map Primary loose.Primary view_primary record { node = o; loc = l }) ≡ unwrap_or (option_map view_primary o) loose.missing_primary
in-Member-item None l = refl
in-Member-item (Some x) l = refl

in-Primary-RInits-0 : (o : Option RecInit) (l : Option Place) → part loose.missing_rec_init (former-Primary-RInits-0-at-3.map RecInit loose.RecInit view_rec_init record { node = o; loc = l }) ≡ unwrap_or (option_map view_rec_init o) loose.missing_rec_init
in-Primary-RInits-0 None l = refl
in-Primary-RInits-0 (Some x) l = refl

in-And-extended : (o : Option Relation) (l : Option Place) → part loose.missing_relation (former-And-extended-at-3.map Relation loose.Relation view_relation record { node = o; loc = l }) ≡ unwrap_or (option_map view_relation o) loose.missing_relation
in-And-extended None l = refl
in-And-extended (Some x) l = refl

in-And-initial : (o : Option Relation) (l : Option Place) → part loose.missing_relation (former-And-initial-at-3.map Relation loose.Relation view_relation record { node = o; loc = l }) ≡ unwrap_or (option_map view_relation o) loose.missing_relation
in-And-initial None l = refl
in-And-initial (Some x) l = refl

in-Mult-initial : (o : Option Unary) (l : Option Place) → part loose.missing_unary (former-Mult-initial-at-3.map Unary loose.Unary view_unary record { node = o; loc = l }) ≡ unwrap_or (option_map view_unary o) loose.missing_unary
in-Mult-initial None l = refl
in-Mult-initial (Some x) l = refl

in-Add-extended : (p : AddOp) (o : Option Mult) (l : Option Place) → ◌≡◌ {A = loose.AddOp × loose.Mult} (view_add_op (former-Add-extended-at-5.map Mult loose.Mult view_mult (p, record { node = o; loc = l })).0, part loose.missing_mult (former-Add-extended-at-5.map Mult loose.Mult view_mult (p, record { node = o; loc = l })).1) (view_add_op p, unwrap_or (option_map view_mult o) loose.missing_mult)
in-Add-extended p None l = refl
in-Add-extended p (Some x) l = refl

in-Mult-extended : (p : MultOp) (o : Option Unary) (l : Option Place) → ◌≡◌ {A = loose.MultOp × loose.Unary} (view_mult_op (former-Mult-extended-at-5.map Unary loose.Unary view_unary (p, record { node = o; loc = l })).0, part loose.missing_unary (former-Mult-extended-at-5.map Unary loose.Unary view_unary (p, record { node = o; loc = l })).1) (view_mult_op p, unwrap_or (option_map view_unary o) loose.missing_unary)
in-Mult-extended p None l = refl
in-Mult-extended p (Some x) l = refl

in-Relation-Common-1 : (p : RelOp) (o : Option Add) (l : Option Place) → ◌≡◌ {A = loose.RelOp × loose.Add} (view_rel_op (former-Relation-Common-1-at-5.map Add loose.Add view_add (p, record { node = o; loc = l })).0, part loose.missing_add (former-Relation-Common-1-at-5.map Add loose.Add view_add (p, record { node = o; loc = l })).1) (view_rel_op p, unwrap_or (option_map view_add o) loose.missing_add)
in-Relation-Common-1 p None l = refl
in-Relation-Common-1 p (Some x) l = refl

-- ---- enums: a value of each case

pub view_expr_expr : (t : Expr) (a : ExprImpl) → t ≡ expr.Expr a → view_expr t ≡ (view_expr_impl a)
view_expr_expr t a is =
    ap view_expr (is ∙ sym (expr.rolls-Expr a))
    ∙ fold-roll-Expr loose.Expr loose.Expr loose.MemAccess loose.Primary loose.Relation loose.Add loose.And loose.Expr loose.Member loose.Mult loose.Or loose.RecInit loose.Unary expr_step expr_data_step mem_access_step primary_step relation_step add_step and_step expr_impl_step member_step mult_step or_step rec_init_step unary_step (layer.Expr::Expr a)

pub view_expr_data_or : (t : ExprData) (a : Node (Option Or)) → t ≡ expr_data.Or a → view_expr_data t ≡ loose.or_expr (shown_or a)
view_expr_data_or t a is =
    ap view_expr_data (is ∙ sym (expr_data.rolls-Or a))
    ∙ fold-roll-ExprData loose.Expr loose.Expr loose.MemAccess loose.Primary loose.Relation loose.Add loose.And loose.Expr loose.Member loose.Mult loose.Or loose.RecInit loose.Unary expr_step expr_data_step mem_access_step primary_step relation_step add_step and_step expr_impl_step member_step mult_step or_step rec_init_step unary_step (layer.Or a)
    ∙ ap (λ y. loose.or_expr y) (in-ExprData-Or-0 a.node a.loc)

pub view_expr_data_if : (t : ExprData) (a : Node (Option Expr)) (b : Node (Option Expr)) (c : Node (Option Expr)) → t ≡ expr_data.If a b c → view_expr_data t ≡ loose.if_expr (shown_expr a) (shown_expr b) (shown_expr c)
view_expr_data_if t a b c is =
    ap view_expr_data (is ∙ sym (expr_data.rolls-If a b c))
    ∙ fold-roll-ExprData loose.Expr loose.Expr loose.MemAccess loose.Primary loose.Relation loose.Add loose.And loose.Expr loose.Member loose.Mult loose.Or loose.RecInit loose.Unary expr_step expr_data_step mem_access_step primary_step relation_step add_step and_step expr_impl_step member_step mult_step or_step rec_init_step unary_step (layer.If a b c)
    ∙ ap (λ y. loose.if_expr y (part loose.missing_expr (former-ExprData-If-0-at-3.map Expr loose.Expr view_expr b)) (part loose.missing_expr (former-ExprData-If-0-at-3.map Expr loose.Expr view_expr c))) (in-ExprData-If-0 a.node a.loc)
    ∙ ap (λ y. loose.if_expr (shown_expr a) y (part loose.missing_expr (former-ExprData-If-0-at-3.map Expr loose.Expr view_expr c))) (in-ExprData-If-0 b.node b.loc)
    ∙ ap (λ y. loose.if_expr (shown_expr a) (shown_expr b) y) (in-ExprData-If-0 c.node c.loc)

pub view_mem_access_field : (t : MemAccess) (a : Node (Option Ident)) → t ≡ mem_access.Field a → view_mem_access t ≡ loose.field (shown_ident a)
view_mem_access_field t a is =
    ap view_mem_access (is ∙ sym (mem_access.rolls-Field a))
    ∙ fold-roll-MemAccess loose.Expr loose.Expr loose.MemAccess loose.Primary loose.Relation loose.Add loose.And loose.Expr loose.Member loose.Mult loose.Or loose.RecInit loose.Unary expr_step expr_data_step mem_access_step primary_step relation_step add_step and_step expr_impl_step member_step mult_step or_step rec_init_step unary_step (layer.Field a)

pub view_mem_access_call : (t : MemAccess) (a : Vec (Node (Option Expr)) Global) → t ≡ mem_access.Call a → view_mem_access t ≡ loose.call (loose.exprs (map shown_expr a.items))
view_mem_access_call t a is =
    ap view_mem_access (is ∙ sym (mem_access.rolls-Call a))
    ∙ fold-roll-MemAccess loose.Expr loose.Expr loose.MemAccess loose.Primary loose.Relation loose.Add loose.And loose.Expr loose.Member loose.Mult loose.Or loose.RecInit loose.Unary expr_step expr_data_step mem_access_step primary_step relation_step add_step and_step expr_impl_step member_step mult_step or_step rec_init_step unary_step (layer.Call a)
    ∙ ap (λ y. loose.call (loose.exprs y)) (listed loose.missing_expr view_expr (former-MemAccess-Call-0-at-3.map Expr loose.Expr view_expr) (λ x. in-MemAccess-Call-0 x.node x.loc) a.items)

pub view_mem_access_index : (t : MemAccess) (a : Node (Option Expr)) → t ≡ mem_access.Index a → view_mem_access t ≡ loose.index (shown_expr a)
view_mem_access_index t a is =
    ap view_mem_access (is ∙ sym (mem_access.rolls-Index a))
    ∙ fold-roll-MemAccess loose.Expr loose.Expr loose.MemAccess loose.Primary loose.Relation loose.Add loose.And loose.Expr loose.Member loose.Mult loose.Or loose.RecInit loose.Unary expr_step expr_data_step mem_access_step primary_step relation_step add_step and_step expr_impl_step member_step mult_step or_step rec_init_step unary_step (layer.Index a)
    ∙ ap (λ y. loose.index y) (in-ExprData-If-0 a.node a.loc)

pub view_primary_literal : (t : Primary) (a : Node (Option Literal)) → t ≡ primary.Literal a → view_primary t ≡ loose.literal (shown_literal a)
view_primary_literal t a is =
    ap view_primary (is ∙ sym (primary.rolls-Literal a))
    ∙ fold-roll-Primary loose.Expr loose.Expr loose.MemAccess loose.Primary loose.Relation loose.Add loose.And loose.Expr loose.Member loose.Mult loose.Or loose.RecInit loose.Unary expr_step expr_data_step mem_access_step primary_step relation_step add_step and_step expr_impl_step member_step mult_step or_step rec_init_step unary_step (layer.Literal a)

pub view_primary_ref : (t : Primary) (a : Box (Node (Option Ref)) Global) → t ≡ primary.Ref a → view_primary t ≡ loose.entity (shown_ref a.value)
view_primary_ref t a is =
    ap view_primary (is ∙ sym (primary.rolls-Ref a))
    ∙ fold-roll-Primary loose.Expr loose.Expr loose.MemAccess loose.Primary loose.Relation loose.Add loose.And loose.Expr loose.Member loose.Mult loose.Or loose.RecInit loose.Unary expr_step expr_data_step mem_access_step primary_step relation_step add_step and_step expr_impl_step member_step mult_step or_step rec_init_step unary_step (layer.Ref a)

pub view_primary_name : (t : Primary) (a : Box (Node (Option Name)) Global) → t ≡ primary.Name a → view_primary t ≡ loose.named (shown_name a.value)
view_primary_name t a is =
    ap view_primary (is ∙ sym (primary.rolls-Name a))
    ∙ fold-roll-Primary loose.Expr loose.Expr loose.MemAccess loose.Primary loose.Relation loose.Add loose.And loose.Expr loose.Member loose.Mult loose.Or loose.RecInit loose.Unary expr_step expr_data_step mem_access_step primary_step relation_step add_step and_step expr_impl_step member_step mult_step or_step rec_init_step unary_step (layer.Name a)

pub view_primary_slot : (t : Primary) (a : Node (Option Slot)) → t ≡ primary.Slot a → view_primary t ≡ loose.slot (shown_slot a)
view_primary_slot t a is =
    ap view_primary (is ∙ sym (primary.rolls-Slot a))
    ∙ fold-roll-Primary loose.Expr loose.Expr loose.MemAccess loose.Primary loose.Relation loose.Add loose.And loose.Expr loose.Member loose.Mult loose.Or loose.RecInit loose.Unary expr_step expr_data_step mem_access_step primary_step relation_step add_step and_step expr_impl_step member_step mult_step or_step rec_init_step unary_step (layer.Slot a)

pub view_primary_expr : (t : Primary) (a : Node (Option Expr)) → t ≡ primary.Expr a → view_primary t ≡ loose.expr (shown_expr a)
view_primary_expr t a is =
    ap view_primary (is ∙ sym (primary.rolls-Expr a))
    ∙ fold-roll-Primary loose.Expr loose.Expr loose.MemAccess loose.Primary loose.Relation loose.Add loose.And loose.Expr loose.Member loose.Mult loose.Or loose.RecInit loose.Unary expr_step expr_data_step mem_access_step primary_step relation_step add_step and_step expr_impl_step member_step mult_step or_step rec_init_step unary_step (layer.Primary::Expr a)
    ∙ ap (λ y. loose.expr y) (in-ExprData-If-0 a.node a.loc)

pub view_primary_e_list : (t : Primary) (a : Vec (Node (Option Expr)) Global) → t ≡ primary.EList a → view_primary t ≡ loose.e_list (loose.exprs (map shown_expr a.items))
view_primary_e_list t a is =
    ap view_primary (is ∙ sym (primary.rolls-EList a))
    ∙ fold-roll-Primary loose.Expr loose.Expr loose.MemAccess loose.Primary loose.Relation loose.Add loose.And loose.Expr loose.Member loose.Mult loose.Or loose.RecInit loose.Unary expr_step expr_data_step mem_access_step primary_step relation_step add_step and_step expr_impl_step member_step mult_step or_step rec_init_step unary_step (layer.EList a)
    ∙ ap (λ y. loose.e_list (loose.exprs y)) (listed loose.missing_expr view_expr (former-MemAccess-Call-0-at-3.map Expr loose.Expr view_expr) (λ x. in-MemAccess-Call-0 x.node x.loc) a.items)

pub view_primary_r_inits : (t : Primary) (a : Vec (Node (Option RecInit)) Global) → t ≡ primary.RInits a → view_primary t ≡ loose.r_inits (loose.rec_inits (map shown_rec_init a.items))
view_primary_r_inits t a is =
    ap view_primary (is ∙ sym (primary.rolls-RInits a))
    ∙ fold-roll-Primary loose.Expr loose.Expr loose.MemAccess loose.Primary loose.Relation loose.Add loose.And loose.Expr loose.Member loose.Mult loose.Or loose.RecInit loose.Unary expr_step expr_data_step mem_access_step primary_step relation_step add_step and_step expr_impl_step member_step mult_step or_step rec_init_step unary_step (layer.RInits a)
    ∙ ap (λ y. loose.r_inits (loose.rec_inits y)) (listed loose.missing_rec_init view_rec_init (former-Primary-RInits-0-at-3.map RecInit loose.RecInit view_rec_init) (λ x. in-Primary-RInits-0 x.node x.loc) a.items)

pub view_relation_common : (t : Relation) (a : Box (Node (Option Add)) Global) (b : Vec (RelOp × Node (Option Add)) Global) → t ≡ relation.Common a b → view_relation t ≡ loose.common (shown_add a.value) (loose.adds (map {B = loose.RelOp × loose.Add} (λ x. (view_rel_op x.0, shown_add x.1)) b.items))
view_relation_common t a b is =
    ap view_relation (is ∙ sym (relation.rolls-Common a b))
    ∙ fold-roll-Relation loose.Expr loose.Expr loose.MemAccess loose.Primary loose.Relation loose.Add loose.And loose.Expr loose.Member loose.Mult loose.Or loose.RecInit loose.Unary expr_step expr_data_step mem_access_step primary_step relation_step add_step and_step expr_impl_step member_step mult_step or_step rec_init_step unary_step (layer.Common a b)
    ∙ ap (λ y. loose.common y (loose.adds (map {B = loose.RelOp × loose.Add} (λ x. (view_rel_op x.0, part loose.missing_add x.1)) (map (former-Relation-Common-1-at-5.map Add loose.Add view_add) b.items)))) (in-Relation-Common-0 a.value.node a.value.loc)
    ∙ ap (λ y. loose.common (shown_add a.value) (loose.adds y)) (paired view_rel_op loose.missing_add view_add (former-Relation-Common-1-at-5.map Add loose.Add view_add) (λ x. in-Relation-Common-1 x.0 x.1.node x.1.loc) b.items)

pub view_relation_has : (t : Relation) (a : Box (Node (Option Add)) Global) (b : Box (Node (Option Add)) Global) → t ≡ relation.Has a b → view_relation t ≡ loose.has (shown_add a.value) (shown_add b.value)
view_relation_has t a b is =
    ap view_relation (is ∙ sym (relation.rolls-Has a b))
    ∙ fold-roll-Relation loose.Expr loose.Expr loose.MemAccess loose.Primary loose.Relation loose.Add loose.And loose.Expr loose.Member loose.Mult loose.Or loose.RecInit loose.Unary expr_step expr_data_step mem_access_step primary_step relation_step add_step and_step expr_impl_step member_step mult_step or_step rec_init_step unary_step (layer.Has a b)
    ∙ ap (λ y. loose.has y (part loose.missing_add (former-Relation-Common-0-at-3.map Add loose.Add view_add b.value))) (in-Relation-Common-0 a.value.node a.value.loc)
    ∙ ap (λ y. loose.has (shown_add a.value) y) (in-Relation-Common-0 b.value.node b.value.loc)

pub view_relation_like : (t : Relation) (a : Box (Node (Option Add)) Global) (b : Box (Node (Option Add)) Global) → t ≡ relation.Like a b → view_relation t ≡ loose.like (shown_add a.value) (shown_add b.value)
view_relation_like t a b is =
    ap view_relation (is ∙ sym (relation.rolls-Like a b))
    ∙ fold-roll-Relation loose.Expr loose.Expr loose.MemAccess loose.Primary loose.Relation loose.Add loose.And loose.Expr loose.Member loose.Mult loose.Or loose.RecInit loose.Unary expr_step expr_data_step mem_access_step primary_step relation_step add_step and_step expr_impl_step member_step mult_step or_step rec_init_step unary_step (layer.Like a b)
    ∙ ap (λ y. loose.like y (part loose.missing_add (former-Relation-Common-0-at-3.map Add loose.Add view_add b.value))) (in-Relation-Common-0 a.value.node a.value.loc)
    ∙ ap (λ y. loose.like (shown_add a.value) y) (in-Relation-Common-0 b.value.node b.value.loc)

pub view_relation_is_type : (t : Relation) (a : Box (Node (Option Add)) Global) (b : Box (Node (Option Add)) Global) → t ≡ relation.IsIn a b None → view_relation t ≡ loose.is_type (shown_add a.value) (shown_add b.value)
view_relation_is_type t a b is =
    ap view_relation (is ∙ sym (relation.rolls-IsIn a b None))
    ∙ fold-roll-Relation loose.Expr loose.Expr loose.MemAccess loose.Primary loose.Relation loose.Add loose.And loose.Expr loose.Member loose.Mult loose.Or loose.RecInit loose.Unary expr_step expr_data_step mem_access_step primary_step relation_step add_step and_step expr_impl_step member_step mult_step or_step rec_init_step unary_step (layer.IsIn a b None)
    ∙ ap (λ y. loose.is_type y (part loose.missing_add (former-Relation-Common-0-at-3.map Add loose.Add view_add b.value))) (in-Relation-Common-0 a.value.node a.value.loc)
    ∙ ap (λ y. loose.is_type (shown_add a.value) y) (in-Relation-Common-0 b.value.node b.value.loc)

pub view_relation_is_type_in : (t : Relation) (a : Box (Node (Option Add)) Global) (b : Box (Node (Option Add)) Global) (c : Box (Node (Option Add)) Global) → t ≡ relation.IsIn a b (Some c) → view_relation t ≡ loose.is_type_in (shown_add a.value) (shown_add b.value) (shown_add c.value)
view_relation_is_type_in t a b c is =
    ap view_relation (is ∙ sym (relation.rolls-IsIn a b (Some c)))
    ∙ fold-roll-Relation loose.Expr loose.Expr loose.MemAccess loose.Primary loose.Relation loose.Add loose.And loose.Expr loose.Member loose.Mult loose.Or loose.RecInit loose.Unary expr_step expr_data_step mem_access_step primary_step relation_step add_step and_step expr_impl_step member_step mult_step or_step rec_init_step unary_step (layer.IsIn a b (Some c))
    ∙ ap (λ y. loose.is_type_in y (part loose.missing_add (former-Relation-Common-0-at-3.map Add loose.Add view_add b.value)) (part loose.missing_add (former-Relation-IsIn-2-at-3.map Add loose.Add view_add c.value))) (in-Relation-Common-0 a.value.node a.value.loc)
    ∙ ap (λ y. loose.is_type_in (shown_add a.value) y (part loose.missing_add (former-Relation-IsIn-2-at-3.map Add loose.Add view_add c.value))) (in-Relation-Common-0 b.value.node b.value.loc)
    ∙ ap (λ y. loose.is_type_in (shown_add a.value) (shown_add b.value) y) (in-Relation-IsIn-2 c.value.node c.value.loc)

-- ---- structs: one that is made, and one that is looked into

pub view_add_roll : (a : Node (Option Mult)) (b : Vec (AddOp × Node (Option Mult)) Global) → view_add (roll-Add record { initial = a; extended = b }) ≡ loose.add (shown_mult a) (loose.mults (map {B = loose.AddOp × loose.Mult} (λ x. (view_add_op x.0, shown_mult x.1)) b.items))
view_add_roll a b =
    fold-roll-Add loose.Expr loose.Expr loose.MemAccess loose.Primary loose.Relation loose.Add loose.And loose.Expr loose.Member loose.Mult loose.Or loose.RecInit loose.Unary expr_step expr_data_step mem_access_step primary_step relation_step add_step and_step expr_impl_step member_step mult_step or_step rec_init_step unary_step record { initial = a; extended = b }
    ∙ ap (λ y. loose.add y (loose.mults (map {B = loose.AddOp × loose.Mult} (λ x. (view_add_op x.0, part loose.missing_mult x.1)) (map (former-Add-extended-at-5.map Mult loose.Mult view_mult) b.items)))) (in-Add-initial a.node a.loc)
    ∙ ap (λ y. loose.add (shown_mult a) (loose.mults y)) (paired view_add_op loose.missing_mult view_mult (former-Add-extended-at-5.map Mult loose.Mult view_mult) (λ x. in-Add-extended x.0 x.1.node x.1.loc) b.items)

pub view_add_out : (t : Add) → view_add t ≡ loose.add (shown_mult (out-Add t).initial) (loose.mults (map {B = loose.AddOp × loose.Mult} (λ x. (view_add_op x.0, shown_mult x.1)) (out-Add t).extended.items))
view_add_out t =
    let a = (out-Add t).initial in
    let b = (out-Add t).extended in
    fold_out-Add loose.Expr loose.Expr loose.MemAccess loose.Primary loose.Relation loose.Add loose.And loose.Expr loose.Member loose.Mult loose.Or loose.RecInit loose.Unary expr_step expr_data_step mem_access_step primary_step relation_step add_step and_step expr_impl_step member_step mult_step or_step rec_init_step unary_step t
    ∙ ap (λ y. loose.add y (loose.mults (map {B = loose.AddOp × loose.Mult} (λ x. (view_add_op x.0, part loose.missing_mult x.1)) (map (former-Add-extended-at-5.map Mult loose.Mult view_mult) b.items)))) (in-Add-initial a.node a.loc)
    ∙ ap (λ y. loose.add (shown_mult a) (loose.mults y)) (paired view_add_op loose.missing_mult view_mult (former-Add-extended-at-5.map Mult loose.Mult view_mult) (λ x. in-Add-extended x.0 x.1.node x.1.loc) b.items)

pub view_and_roll : (a : Node (Option Relation)) (b : Vec (Node (Option Relation)) Global) → view_and (roll-And record { initial = a; extended = b }) ≡ loose.and (shown_relation a) (loose.relations (map shown_relation b.items))
view_and_roll a b =
    fold-roll-And loose.Expr loose.Expr loose.MemAccess loose.Primary loose.Relation loose.Add loose.And loose.Expr loose.Member loose.Mult loose.Or loose.RecInit loose.Unary expr_step expr_data_step mem_access_step primary_step relation_step add_step and_step expr_impl_step member_step mult_step or_step rec_init_step unary_step record { initial = a; extended = b }
    ∙ ap (λ y. loose.and y (loose.relations (map (part loose.missing_relation) (map (former-And-extended-at-3.map Relation loose.Relation view_relation) b.items)))) (in-And-initial a.node a.loc)
    ∙ ap (λ y. loose.and (shown_relation a) (loose.relations y)) (listed loose.missing_relation view_relation (former-And-extended-at-3.map Relation loose.Relation view_relation) (λ x. in-And-extended x.node x.loc) b.items)

pub view_and_out : (t : And) → view_and t ≡ loose.and (shown_relation (out-And t).initial) (loose.relations (map shown_relation (out-And t).extended.items))
view_and_out t =
    let a = (out-And t).initial in
    let b = (out-And t).extended in
    fold_out-And loose.Expr loose.Expr loose.MemAccess loose.Primary loose.Relation loose.Add loose.And loose.Expr loose.Member loose.Mult loose.Or loose.RecInit loose.Unary expr_step expr_data_step mem_access_step primary_step relation_step add_step and_step expr_impl_step member_step mult_step or_step rec_init_step unary_step t
    ∙ ap (λ y. loose.and y (loose.relations (map (part loose.missing_relation) (map (former-And-extended-at-3.map Relation loose.Relation view_relation) b.items)))) (in-And-initial a.node a.loc)
    ∙ ap (λ y. loose.and (shown_relation a) (loose.relations y)) (listed loose.missing_relation view_relation (former-And-extended-at-3.map Relation loose.Relation view_relation) (λ x. in-And-extended x.node x.loc) b.items)

pub view_expr_impl_roll : (a : Box ExprData Global) → view_expr_impl (roll-ExprImpl record { expr = a }) ≡ (view_expr_data a.value)
view_expr_impl_roll a =
    fold-roll-ExprImpl loose.Expr loose.Expr loose.MemAccess loose.Primary loose.Relation loose.Add loose.And loose.Expr loose.Member loose.Mult loose.Or loose.RecInit loose.Unary expr_step expr_data_step mem_access_step primary_step relation_step add_step and_step expr_impl_step member_step mult_step or_step rec_init_step unary_step record { expr = a }

pub view_expr_impl_out : (t : ExprImpl) → view_expr_impl t ≡ (view_expr_data (out-ExprImpl t).expr.value)
view_expr_impl_out t =
    let a = (out-ExprImpl t).expr in
    fold_out-ExprImpl loose.Expr loose.Expr loose.MemAccess loose.Primary loose.Relation loose.Add loose.And loose.Expr loose.Member loose.Mult loose.Or loose.RecInit loose.Unary expr_step expr_data_step mem_access_step primary_step relation_step add_step and_step expr_impl_step member_step mult_step or_step rec_init_step unary_step t

pub view_member_roll : (a : Box (Node (Option Primary)) Global) (b : Vec (Node (Option MemAccess)) Global) → view_member (roll-Member record { item = a; access = b }) ≡ loose.member (shown_primary a.value) (loose.accesses (map shown_mem_access b.items))
view_member_roll a b =
    fold-roll-Member loose.Expr loose.Expr loose.MemAccess loose.Primary loose.Relation loose.Add loose.And loose.Expr loose.Member loose.Mult loose.Or loose.RecInit loose.Unary expr_step expr_data_step mem_access_step primary_step relation_step add_step and_step expr_impl_step member_step mult_step or_step rec_init_step unary_step record { item = a; access = b }
    ∙ ap (λ y. loose.member y (loose.accesses (map (part loose.missing_access) (map (former-Member-access-at-3.map MemAccess loose.MemAccess view_mem_access) b.items)))) (in-Member-item a.value.node a.value.loc)
    ∙ ap (λ y. loose.member (shown_primary a.value) (loose.accesses y)) (listed loose.missing_access view_mem_access (former-Member-access-at-3.map MemAccess loose.MemAccess view_mem_access) (λ x. in-Member-access x.node x.loc) b.items)

pub view_member_out : (t : Member) → view_member t ≡ loose.member (shown_primary (out-Member t).item.value) (loose.accesses (map shown_mem_access (out-Member t).access.items))
view_member_out t =
    let a = (out-Member t).item in
    let b = (out-Member t).access in
    fold_out-Member loose.Expr loose.Expr loose.MemAccess loose.Primary loose.Relation loose.Add loose.And loose.Expr loose.Member loose.Mult loose.Or loose.RecInit loose.Unary expr_step expr_data_step mem_access_step primary_step relation_step add_step and_step expr_impl_step member_step mult_step or_step rec_init_step unary_step t
    ∙ ap (λ y. loose.member y (loose.accesses (map (part loose.missing_access) (map (former-Member-access-at-3.map MemAccess loose.MemAccess view_mem_access) b.items)))) (in-Member-item a.value.node a.value.loc)
    ∙ ap (λ y. loose.member (shown_primary a.value) (loose.accesses y)) (listed loose.missing_access view_mem_access (former-Member-access-at-3.map MemAccess loose.MemAccess view_mem_access) (λ x. in-Member-access x.node x.loc) b.items)

pub view_mult_roll : (a : Node (Option Unary)) (b : Vec (MultOp × Node (Option Unary)) Global) → view_mult (roll-Mult record { initial = a; extended = b }) ≡ loose.mult (shown_unary a) (loose.unaries (map {B = loose.MultOp × loose.Unary} (λ x. (view_mult_op x.0, shown_unary x.1)) b.items))
view_mult_roll a b =
    fold-roll-Mult loose.Expr loose.Expr loose.MemAccess loose.Primary loose.Relation loose.Add loose.And loose.Expr loose.Member loose.Mult loose.Or loose.RecInit loose.Unary expr_step expr_data_step mem_access_step primary_step relation_step add_step and_step expr_impl_step member_step mult_step or_step rec_init_step unary_step record { initial = a; extended = b }
    ∙ ap (λ y. loose.mult y (loose.unaries (map {B = loose.MultOp × loose.Unary} (λ x. (view_mult_op x.0, part loose.missing_unary x.1)) (map (former-Mult-extended-at-5.map Unary loose.Unary view_unary) b.items)))) (in-Mult-initial a.node a.loc)
    ∙ ap (λ y. loose.mult (shown_unary a) (loose.unaries y)) (paired view_mult_op loose.missing_unary view_unary (former-Mult-extended-at-5.map Unary loose.Unary view_unary) (λ x. in-Mult-extended x.0 x.1.node x.1.loc) b.items)

pub view_mult_out : (t : Mult) → view_mult t ≡ loose.mult (shown_unary (out-Mult t).initial) (loose.unaries (map {B = loose.MultOp × loose.Unary} (λ x. (view_mult_op x.0, shown_unary x.1)) (out-Mult t).extended.items))
view_mult_out t =
    let a = (out-Mult t).initial in
    let b = (out-Mult t).extended in
    fold_out-Mult loose.Expr loose.Expr loose.MemAccess loose.Primary loose.Relation loose.Add loose.And loose.Expr loose.Member loose.Mult loose.Or loose.RecInit loose.Unary expr_step expr_data_step mem_access_step primary_step relation_step add_step and_step expr_impl_step member_step mult_step or_step rec_init_step unary_step t
    ∙ ap (λ y. loose.mult y (loose.unaries (map {B = loose.MultOp × loose.Unary} (λ x. (view_mult_op x.0, part loose.missing_unary x.1)) (map (former-Mult-extended-at-5.map Unary loose.Unary view_unary) b.items)))) (in-Mult-initial a.node a.loc)
    ∙ ap (λ y. loose.mult (shown_unary a) (loose.unaries y)) (paired view_mult_op loose.missing_unary view_unary (former-Mult-extended-at-5.map Unary loose.Unary view_unary) (λ x. in-Mult-extended x.0 x.1.node x.1.loc) b.items)

pub view_or_roll : (a : Node (Option And)) (b : Vec (Node (Option And)) Global) → view_or (roll-Or record { initial = a; extended = b }) ≡ loose.or (shown_and a) (loose.ands (map shown_and b.items))
view_or_roll a b =
    fold-roll-Or loose.Expr loose.Expr loose.MemAccess loose.Primary loose.Relation loose.Add loose.And loose.Expr loose.Member loose.Mult loose.Or loose.RecInit loose.Unary expr_step expr_data_step mem_access_step primary_step relation_step add_step and_step expr_impl_step member_step mult_step or_step rec_init_step unary_step record { initial = a; extended = b }
    ∙ ap (λ y. loose.or y (loose.ands (map (part loose.missing_and) (map (former-Or-extended-at-3.map And loose.And view_and) b.items)))) (in-Or-initial a.node a.loc)
    ∙ ap (λ y. loose.or (shown_and a) (loose.ands y)) (listed loose.missing_and view_and (former-Or-extended-at-3.map And loose.And view_and) (λ x. in-Or-extended x.node x.loc) b.items)

pub view_or_out : (t : Or) → view_or t ≡ loose.or (shown_and (out-Or t).initial) (loose.ands (map shown_and (out-Or t).extended.items))
view_or_out t =
    let a = (out-Or t).initial in
    let b = (out-Or t).extended in
    fold_out-Or loose.Expr loose.Expr loose.MemAccess loose.Primary loose.Relation loose.Add loose.And loose.Expr loose.Member loose.Mult loose.Or loose.RecInit loose.Unary expr_step expr_data_step mem_access_step primary_step relation_step add_step and_step expr_impl_step member_step mult_step or_step rec_init_step unary_step t
    ∙ ap (λ y. loose.or y (loose.ands (map (part loose.missing_and) (map (former-Or-extended-at-3.map And loose.And view_and) b.items)))) (in-Or-initial a.node a.loc)
    ∙ ap (λ y. loose.or (shown_and a) (loose.ands y)) (listed loose.missing_and view_and (former-Or-extended-at-3.map And loose.And view_and) (λ x. in-Or-extended x.node x.loc) b.items)

pub view_rec_init_roll : (a : Node (Option Expr)) (b : Node (Option Expr)) → view_rec_init (roll-RecInit record { 0 = a; 1 = b }) ≡ loose.rec_init (shown_expr a) (shown_expr b)
view_rec_init_roll a b =
    fold-roll-RecInit loose.Expr loose.Expr loose.MemAccess loose.Primary loose.Relation loose.Add loose.And loose.Expr loose.Member loose.Mult loose.Or loose.RecInit loose.Unary expr_step expr_data_step mem_access_step primary_step relation_step add_step and_step expr_impl_step member_step mult_step or_step rec_init_step unary_step record { 0 = a; 1 = b }
    ∙ ap (λ y. loose.rec_init y (part loose.missing_expr (former-ExprData-If-0-at-3.map Expr loose.Expr view_expr b))) (in-ExprData-If-0 a.node a.loc)
    ∙ ap (λ y. loose.rec_init (shown_expr a) y) (in-ExprData-If-0 b.node b.loc)

pub view_rec_init_out : (t : RecInit) → view_rec_init t ≡ loose.rec_init (shown_expr (out-RecInit t).0) (shown_expr (out-RecInit t).1)
view_rec_init_out t =
    let a = (out-RecInit t).0 in
    let b = (out-RecInit t).1 in
    fold_out-RecInit loose.Expr loose.Expr loose.MemAccess loose.Primary loose.Relation loose.Add loose.And loose.Expr loose.Member loose.Mult loose.Or loose.RecInit loose.Unary expr_step expr_data_step mem_access_step primary_step relation_step add_step and_step expr_impl_step member_step mult_step or_step rec_init_step unary_step t
    ∙ ap (λ y. loose.rec_init y (part loose.missing_expr (former-ExprData-If-0-at-3.map Expr loose.Expr view_expr b))) (in-ExprData-If-0 a.node a.loc)
    ∙ ap (λ y. loose.rec_init (shown_expr a) y) (in-ExprData-If-0 b.node b.loc)

pub view_unary_roll : (a : Option NegOp) (b : Node (Option Member)) → view_unary (roll-Unary record { op = a; item = b }) ≡ loose.unary (option_map view_neg_op a) (shown_member b)
view_unary_roll a b =
    fold-roll-Unary loose.Expr loose.Expr loose.MemAccess loose.Primary loose.Relation loose.Add loose.And loose.Expr loose.Member loose.Mult loose.Or loose.RecInit loose.Unary expr_step expr_data_step mem_access_step primary_step relation_step add_step and_step expr_impl_step member_step mult_step or_step rec_init_step unary_step record { op = a; item = b }
    ∙ ap (λ y. loose.unary (option_map view_neg_op a) y) (in-Unary-item b.node b.loc)

pub view_unary_out : (t : Unary) → view_unary t ≡ loose.unary (option_map view_neg_op (out-Unary t).op) (shown_member (out-Unary t).item)
view_unary_out t =
    let a = (out-Unary t).op in
    let b = (out-Unary t).item in
    fold_out-Unary loose.Expr loose.Expr loose.MemAccess loose.Primary loose.Relation loose.Add loose.And loose.Expr loose.Member loose.Mult loose.Or loose.RecInit loose.Unary expr_step expr_data_step mem_access_step primary_step relation_step add_step and_step expr_impl_step member_step mult_step or_step rec_init_step unary_step t
    ∙ ap (λ y. loose.unary (option_map view_neg_op a) y) (in-Unary-item b.node b.loc)
