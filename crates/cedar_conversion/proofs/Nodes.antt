-- The trees of nodes, by the constructs that they hold.
use Rattle.std.proofs.Common.{◌≡◌, ℕ, zero, suc, ◌-◌, ◌<◌, length, arith, List, [], ◌∷◌, map, Option, Some, None, Box, Vec, Global, refl, sym, ap, ◌∙◌, subst}
use Rattle.std.specs.Prelude.{cond, nat_le, ◌^◌, pos, neg_ℤ, Bool, true, false, option_to_list}
use Rattle.std.specs.Borrow.{Bor}
use Rattle.std.specs.Option.{option_copied}
use Rattle.cedar_language.specs.Tree as tree
use Rattle.cedar_language.specs.Tree.{Tree}
use Rattle.cedar_grammar.specs.Build as build
use Rattle.cedar_grammar.specs.Build.{compared, unary, is_in, nots, negs, long, trees}
use Rattle.cedar_grammar.specs.Names.{Names}
use Rattle.cedar_grammar.specs.Steps.{◌>>=◌}
use Rattle.cedar_grammar.specs.Escape.{pattern_of}
use Rattle.cedar_grammar.specs.Loose as loose
use Rattle.cedar_grammar.specs.Converting as converting
use Rattle.cedar_grammar.specs.Converting.{named_slot, expr_tree, or_tree, relation_tree, adds_tree, add_tree, unary_tree, member_tree, access_head, primary_head, exprs_trees, rec_inits_trees, rec_init_tree, head_tree, comparison_of, lone_member, member_fields, lone_primary, primary_raw, primary_path, primary_text, primary_key, lone_number, alone, ident_text, called, literal_tree, ref_entity, record_tree, negated}
use Rattle.cedar_cst.specs.declared.node.Node.{Node}
use Rattle.cedar_cst.specs.declared.leaves.Ident.{Ident}
use Rattle.cedar_cst.specs.declared.leaves.Literal.{Literal}
use Rattle.cedar_cst.specs.declared.leaves.Ref.{Ref}
use Rattle.cedar_cst.specs.declared.leaves.Name.{Name}
use Rattle.cedar_cst.specs.declared.leaves.Slot.{Slot}
use Rattle.cedar_cst.specs.declared.leaves.RelOp.{RelOp}
use Rattle.cedar_cst.specs.declared.leaves.NegOp.TheVariants as signs
use Rattle.cedar_cst.specs.LeafView.{shown_ident, shown_literal, shown_ref, shown_name, view_rel_op, shown_slot}
use Rattle.cedar_cst.specs.declared.cst.Expr.{Expr, out-Expr, roll-Expr, roll-out-Expr}
use Rattle.cedar_cst.specs.declared.cst.Expr.TheOpen.{Expr-F}
use Rattle.cedar_cst.specs.declared.cst.Expr.TheOpen as layer
use Rattle.cedar_cst.specs.declared.cst.And.{And}
use Rattle.cedar_cst.specs.declared.cst.Member.{Member}
use Rattle.cedar_cst.specs.declared.cst.Mult.{Mult}
use Rattle.cedar_cst.specs.declared.cst.Expr.TheVariants as expr
use Rattle.cedar_cst.specs.declared.cst.ExprImpl.{ExprImpl, out-ExprImpl}
use Rattle.cedar_cst.specs.declared.cst.ExprData.{ExprData}
use Rattle.cedar_cst.specs.declared.cst.ExprData.TheVariants as expr_data
use Rattle.cedar_cst.specs.declared.cst.Or.{Or}
use Rattle.cedar_cst.specs.declared.cst.Relation.{Relation}
use Rattle.cedar_cst.specs.declared.cst.Relation.TheVariants as relation
use Rattle.cedar_cst.specs.declared.cst.Add.{Add}
use Rattle.cedar_cst.specs.declared.cst.Unary.{Unary, out-Unary}
use Rattle.cedar_cst.specs.declared.cst.MemAccess.{MemAccess}
use Rattle.cedar_cst.specs.declared.cst.MemAccess.TheVariants as mem_access
use Rattle.cedar_cst.specs.declared.cst.Primary.{Primary}
use Rattle.cedar_cst.specs.declared.cst.Primary.TheVariants as primary
use Rattle.cedar_cst.specs.declared.cst.RecInit.{RecInit, out-RecInit}
use Rattle.cedar_cst.specs.View.{view_mem_access, shown_expr, shown_or, shown_relation, shown_add, shown_unary, shown_member, shown_mem_access, shown_primary, shown_rec_init}
use Rattle.cedar_conversion.specs.Joints.{joined, minus_long}
use Rattle.cedar_conversion.specs.declared.applying.Joint.TheVariants as joint
use Rattle.cedar_conversion.proofs.Converting.{never}
use Rattle.cedar_conversion.proofs.Seen.{none_seen, or_expr_seen, if_expr_seen, common_seen, has_seen, like_seen, is_seen, is_in_seen, unary_seen, field_seen, call_seen, index_seen, literal_seen, ref_seen, name_seen, slot_seen, expr_seen, list_seen, record_seen, rec_init_seen}

swap : {A B C : Type 0} (v : Option A) (w : Option B) (k : A → B → C) → (v >>= λ x. w >>= λ y. let z : Option C = Some (k x y) in z) ≡ (w >>= λ y. v >>= λ x. let z : Option C = Some (k x y) in z)
swap None None k = refl
swap None (Some y) k = refl
swap (Some x) None k = refl
swap (Some x) (Some y) k = refl

same_then : {A B : Type 0} (v : Option A) (f k : A → Option B) → ((x : A) → f x ≡ k x) → (v >>= f) ≡ (v >>= k)
same_then None f k h = refl
same_then (Some x) f k h = h x

cond_none : {A : Type 0} (b : Bool) (x : A) → None ≡ cond b (Some x) None → b ≡ false
cond_none true x h = absurd (cc h)
cond_none false x h = refl

-- a number that is no long under a minus
pub too_large : (v : ℕ) → None ≡ minus_long v → nat_le v (2 ^ 63) ≡ false
too_large v h = cond_none (nat_le v (2 ^ 63)) (long (neg_ℤ (pos v))) h

module _ (names : Names) where
  -- ---- expressions

  pub expr_or : (n : Node (Option Expr)) (t : Expr) (e : ExprImpl) (d : ExprData) (o : Node (Option Or)) → n.node ≡ Some t → t ≡ expr.Expr e → d ≡ (out-ExprImpl e).expr.value → d ≡ expr_data.Or o → expr_tree names (shown_expr n) ≡ or_tree names (shown_or o)
  unfolding expr_tree
  expr_or n t e d o is at within by = ap (expr_tree names) (or_expr_seen n t e d o is at within by)

  pub expr_if : (n : Node (Option Expr)) (t : Expr) (e : ExprImpl) (d : ExprData) (p q r : Node (Option Expr)) → n.node ≡ Some t → t ≡ expr.Expr e → d ≡ (out-ExprImpl e).expr.value → d ≡ expr_data.If p q r
      → expr_tree names (shown_expr n) ≡ (expr_tree names (shown_expr p) >>= λ x. expr_tree names (shown_expr q) >>= λ y. expr_tree names (shown_expr r) >>= λ z. Some (tree.If x y z))
  unfolding expr_tree
  expr_if n t e d p q r is at within by = ap (expr_tree names) (if_expr_seen n t e d p q r is at within by)

  -- ---- relations

  last_some : (v : Option Tree) → (v >>= λ x. Some x) ≡ v
  last_some None = refl
  last_some (Some x) = refl

  pub relation_alone : (n : Node (Option Relation)) (r : Relation) (a : Box (Node (Option Add)) Global) (b : Vec (RelOp × Node (Option Add)) Global) (p : Node (Option Add)) → n.node ≡ Some r → r ≡ relation.Common a b → b.items ≡ [] → p ≡ a.value → relation_tree names (shown_relation n) ≡ add_tree names (shown_add p)
  unfolding relation_tree adds_tree
  relation_alone n r a b p is at cut first = ap (relation_tree names) (common_seen n r a b [] p is at cut first) ∙ last_some (add_tree names (shown_add p))

  pub relation_joined : (n : Node (Option Relation)) (r : Relation) (a : Box (Node (Option Add)) Global) (b : Vec (RelOp × Node (Option Add)) Global) (x : RelOp × Node (Option Add)) (p : Node (Option Add)) → n.node ≡ Some r → r ≡ relation.Common a b → b.items ≡ x ∷ [] → p ≡ a.value
      → relation_tree names (shown_relation n) ≡ (add_tree names (shown_add p) >>= λ y. add_tree names (shown_add x.1) >>= λ z. joined (joint.Relation x.0) y z)
  unfolding relation_tree adds_tree
  relation_joined n r a b x p is at cut first =
      ap (relation_tree names) (common_seen n r a b (x ∷ []) p is at cut first)
      ∙ same_then (add_tree names (shown_add p)) (λ y. comparison_of (view_rel_op x.0) >>= λ c. add_tree names (shown_add x.1) >>= λ z. Some (compared c y z)) (λ y. add_tree names (shown_add x.1) >>= λ z. joined (joint.Relation x.0) y z) (λ y. swap (comparison_of (view_rel_op x.0)) (add_tree names (shown_add x.1)) (λ c z. compared c y z))

  pub relation_chain : (n : Node (Option Relation)) (r : Relation) (a : Box (Node (Option Add)) Global) (b : Vec (RelOp × Node (Option Add)) Global) (x y : RelOp × Node (Option Add)) (xs : List (RelOp × Node (Option Add))) → n.node ≡ Some r → r ≡ relation.Common a b → b.items ≡ x ∷ y ∷ xs
      → relation_tree names (shown_relation n) ≡ None
  unfolding relation_tree adds_tree
  relation_chain n r a b x y xs is at cut = ap (relation_tree names) (common_seen n r a b (x ∷ y ∷ xs) a.value is at cut refl) ∙ never (add_tree names (shown_add a.value)) _ (λ p. refl)

  pub relation_has : (n : Node (Option Relation)) (r : Relation) (a b : Box (Node (Option Add)) Global) (p q : Node (Option Add)) → n.node ≡ Some r → r ≡ relation.Has a b → p ≡ a.value → q ≡ b.value
      → relation_tree names (shown_relation n) ≡ (add_tree names (shown_add p) >>= λ x. lone_member (shown_add q) >>= member_fields >>= λ ss. Some (build.has ss x))
  unfolding relation_tree
  relation_has n r a b p q is at first second = ap (relation_tree names) (has_seen n r a b p q is at first second)

  pub relation_like : (n : Node (Option Relation)) (r : Relation) (a b : Box (Node (Option Add)) Global) (p q : Node (Option Add)) → n.node ≡ Some r → r ≡ relation.Like a b → p ≡ a.value → q ≡ b.value
      → relation_tree names (shown_relation n) ≡ (add_tree names (shown_add p) >>= λ x. lone_primary (shown_add q) >>= primary_raw >>= pattern_of >>= λ es. Some (unary (tree.Like es) x))
  unfolding relation_tree
  relation_like n r a b p q is at first second = ap (relation_tree names) (like_seen n r a b p q is at first second)

  pub relation_is : (n : Node (Option Relation)) (r : Relation) (a b : Box (Node (Option Add)) Global) (c : Option (Box (Node (Option Add)) Global)) (p q : Node (Option Add)) → n.node ≡ Some r → r ≡ relation.IsIn a b c → c ≡ None → p ≡ a.value → q ≡ b.value
      → relation_tree names (shown_relation n) ≡ (add_tree names (shown_add p) >>= λ x. lone_primary (shown_add q) >>= primary_path >>= λ t. Some (unary (tree.Is t) x))
  unfolding relation_tree
  relation_is n r a b c p q is at without first second = ap (relation_tree names) (is_seen n r a b c p q is at without first second)

  pub relation_is_in : (n : Node (Option Relation)) (r : Relation) (a b : Box (Node (Option Add)) Global) (c : Option (Box (Node (Option Add)) Global)) (d : Box (Node (Option Add)) Global) (p q e : Node (Option Add)) → n.node ≡ Some r → r ≡ relation.IsIn a b c → c ≡ Some d → p ≡ a.value → q ≡ b.value → e ≡ d.value
      → relation_tree names (shown_relation n) ≡ (add_tree names (shown_add p) >>= λ x. lone_primary (shown_add q) >>= primary_path >>= λ t. add_tree names (shown_add e) >>= λ y. Some (is_in t x y))
  unfolding relation_tree
  relation_is_in n r a b c d p q e is at within first second third = ap (relation_tree names) (is_in_seen n r a b c d p q e is at within first second third)

  -- ---- signs

  pub unary_plain : (n : Node (Option Unary)) (t : Unary) → n.node ≡ Some t → (out-Unary t).op ≡ None → unary_tree names (shown_unary n) ≡ member_tree names (shown_member (out-Unary t).item)
  unfolding unary_tree
  unary_plain n t is at = ap (unary_tree names) (unary_seen n t None is at)

  pub unary_bangs : (n : Node (Option Unary)) (t : Unary) (i : ℕ) → n.node ≡ Some t → (out-Unary t).op ≡ Some (signs.Bang i) → unary_tree names (shown_unary n) ≡ (member_tree names (shown_member (out-Unary t).item) >>= λ x. Some (nots i x))
  unfolding unary_tree
  unary_bangs n t i is at = ap (unary_tree names) (unary_seen n t (Some (signs.Bang i)) is at)

  pub unary_over_bang : (n : Node (Option Unary)) (t : Unary) → n.node ≡ Some t → (out-Unary t).op ≡ Some signs.OverBang → unary_tree names (shown_unary n) ≡ None
  unfolding unary_tree
  unary_over_bang n t is at = ap (unary_tree names) (unary_seen n t (Some signs.OverBang) is at)

  pub unary_over_dash : (n : Node (Option Unary)) (t : Unary) → n.node ≡ Some t → (out-Unary t).op ≡ Some signs.OverDash → unary_tree names (shown_unary n) ≡ None
  unfolding unary_tree
  unary_over_dash n t is at = ap (unary_tree names) (unary_seen n t (Some signs.OverDash) is at)

  dashes_seen : (n : Node (Option Unary)) (t : Unary) (i : ℕ) (v : Option ℕ) → n.node ≡ Some t → (out-Unary t).op ≡ Some (signs.Dash i) → lone_number (shown_member (out-Unary t).item) ≡ v
      → unary_tree names (shown_unary n) ≡ negated i v (member_tree names (shown_member (out-Unary t).item))
  unfolding unary_tree
  dashes_seen n t i v is at number = ap (unary_tree names) (unary_seen n t (Some (signs.Dash i)) is at) ∙ ap (λ w. negated i w (member_tree names (shown_member (out-Unary t).item))) number

  pub unary_dashes : (n : Node (Option Unary)) (t : Unary) (i : ℕ) → n.node ≡ Some t → (out-Unary t).op ≡ Some (signs.Dash i) → lone_number (shown_member (out-Unary t).item) ≡ None
      → unary_tree names (shown_unary n) ≡ (member_tree names (shown_member (out-Unary t).item) >>= λ x. Some (negs i x))
  unary_dashes n t i is at number = dashes_seen n t i None is at number

  pub unary_no_dash : (n : Node (Option Unary)) (t : Unary) (i v : ℕ) → n.node ≡ Some t → (out-Unary t).op ≡ Some (signs.Dash i) → lone_number (shown_member (out-Unary t).item) ≡ Some v → i ≡ 0
      → unary_tree names (shown_unary n) ≡ member_tree names (shown_member (out-Unary t).item)
  unary_no_dash n t i v is at number none = dashes_seen n t i (Some v) is at number ∙ ap (λ j. negated j (Some v) (member_tree names (shown_member (out-Unary t).item))) none

  negated_more : (i v : ℕ) (m : Option Tree) → 0 < i → negated i (Some v) m ≡ (minus_long v >>= λ x. Some (negs (i - 1) x))
  negated_more zero v m h = absurd (omega arith)
  negated_more (suc i) v m h = let less : suc i - 1 ≡ i = omega arith in rw less (fits (nat_le v (2 ^ 63)) i v)
    where
      fits : (b : Bool) (i v : ℕ) → cond b (Some (negs i (long (neg_ℤ (pos v))))) None ≡ (cond b (Some (long (neg_ℤ (pos v)))) None >>= λ x. Some (negs i x))
      fits true i v = refl
      fits false i v = refl

  pub unary_number : (n : Node (Option Unary)) (t : Unary) (i v : ℕ) → n.node ≡ Some t → (out-Unary t).op ≡ Some (signs.Dash i) → lone_number (shown_member (out-Unary t).item) ≡ Some v → 0 < i
      → unary_tree names (shown_unary n) ≡ (minus_long v >>= λ x. Some (negs (i - 1) x))
  unary_number n t i v is at number some = dashes_seen n t i (Some v) is at number ∙ negated_more i v (member_tree names (shown_member (out-Unary t).item)) some

  -- ---- accesses

  pub access_none : (n : Node (Option MemAccess)) (v : Option converting.Head) → n.node ≡ None → (v >>= λ h. access_head names h (shown_mem_access n)) ≡ None
  unfolding access_head
  access_none n v is = never v (λ h. access_head names h (shown_mem_access n)) (λ h. ap (access_head names h) (none_seen loose.missing_access view_mem_access n is))

  pub access_field : (n : Node (Option MemAccess)) (t : MemAccess) (i : Node (Option Ident)) (v : Option converting.Head) → n.node ≡ Some t → t ≡ mem_access.Field i
      → (v >>= λ h. access_head names h (shown_mem_access n)) ≡ (v >>= λ h. head_tree h >>= λ a. ident_text (shown_ident i) >>= λ s. Some (converting.an_attribute a s))
  unfolding access_head
  access_field n t i v is at = ap (λ x. v >>= λ h. access_head names h x) (field_seen n t i is at)

  pub access_call : (n : Node (Option MemAccess)) (t : MemAccess) (es : Vec (Node (Option Expr)) Global) (v : Option converting.Head) → n.node ≡ Some t → t ≡ mem_access.Call es
      → (v >>= λ h. access_head names h (shown_mem_access n)) ≡ (v >>= λ h. exprs_trees names (loose.exprs (map shown_expr es.items)) >>= λ xs. called names h xs >>= λ x. Some (converting.a_tree x))
  unfolding access_head
  access_call n t es v is at = ap (λ x. v >>= λ h. access_head names h x) (call_seen n t es is at)

  pub access_index : (n : Node (Option MemAccess)) (t : MemAccess) (e : Node (Option Expr)) (v : Option converting.Head) → n.node ≡ Some t → t ≡ mem_access.Index e
      → (v >>= λ h. access_head names h (shown_mem_access n)) ≡ (v >>= λ h. head_tree h >>= λ a. alone (shown_expr e) >>= primary_text >>= λ s. Some (converting.a_tree (unary (tree.GetAttr s) a)))
  unfolding access_head
  access_index n t e v is at = ap (λ x. v >>= λ h. access_head names h x) (index_seen n t e is at)

  -- ---- operands

  pub primary_literal : (n : Node (Option Primary)) (t : Primary) (a : Node (Option Literal)) → n.node ≡ Some t → t ≡ primary.Literal a → primary_head names (shown_primary n) ≡ (literal_tree (shown_literal a) >>= λ x. Some (converting.a_tree x))
  unfolding primary_head
  primary_literal n t a is at = ap (primary_head names) (literal_seen n t a is at)

  pub primary_ref : (n : Node (Option Primary)) (t : Primary) (a : Box (Node (Option Ref)) Global) (r : Node (Option Ref)) → n.node ≡ Some t → t ≡ primary.Ref a → r ≡ a.value → primary_head names (shown_primary n) ≡ (ref_entity (shown_ref r) >>= λ u. Some (converting.a_tree (tree.Lit (tree.Entity u))))
  unfolding primary_head
  primary_ref n t a r is at same = ap (primary_head names) (ref_seen n t a r is at same)

  pub primary_name : (n : Node (Option Primary)) (t : Primary) (a : Box (Node (Option Name)) Global) (r : Node (Option Name)) → n.node ≡ Some t → t ≡ primary.Name a → r ≡ a.value → primary_head names (shown_primary n) ≡ Some (converting.a_name (shown_name r))
  unfolding primary_head
  primary_name n t a r is at same = ap (primary_head names) (name_seen n t a r is at same)

  pub primary_slot : (n : Node (Option Primary)) (t : Primary) (a : Node (Option Slot)) → n.node ≡ Some t → t ≡ primary.Slot a → primary_head names (shown_primary n) ≡ (named_slot (shown_slot a) >>= λ s. Some (converting.a_tree (tree.Slot s)))
  unfolding primary_head
  primary_slot n t a is at = ap (primary_head names) (slot_seen n t a is at)

  pub primary_expr : (n : Node (Option Primary)) (t : Primary) (a : Node (Option Expr)) → n.node ≡ Some t → t ≡ primary.Expr a → primary_head names (shown_primary n) ≡ (expr_tree names (shown_expr a) >>= λ x. Some (converting.a_tree x))
  unfolding primary_head
  primary_expr n t a is at = ap (primary_head names) (expr_seen n t a is at)

  pub primary_list : (n : Node (Option Primary)) (t : Primary) (es : Vec (Node (Option Expr)) Global) → n.node ≡ Some t → t ≡ primary.EList es
      → primary_head names (shown_primary n) ≡ (exprs_trees names (loose.exprs (map shown_expr es.items)) >>= λ xs. Some (converting.a_tree (tree.Apply tree.MakeSet (trees xs))))
  unfolding primary_head
  primary_list n t es is at = ap (primary_head names) (list_seen n t es is at)

  pub primary_record : (n : Node (Option Primary)) (t : Primary) (es : Vec (Node (Option RecInit)) Global) → n.node ≡ Some t → t ≡ primary.RInits es
      → primary_head names (shown_primary n) ≡ (rec_inits_trees names (loose.rec_inits (map shown_rec_init es.items)) >>= λ xs. record_tree xs >>= λ x. Some (converting.a_tree x))
  unfolding primary_head
  primary_record n t es is at = ap (primary_head names) (record_seen n t es is at)

  pub entry_seen : (n : Node (Option RecInit)) (t : RecInit) → n.node ≡ Some t → rec_init_tree names (shown_rec_init n) ≡ (alone (shown_expr (out-RecInit t).0) >>= primary_key >>= λ s. expr_tree names (shown_expr (out-RecInit t).1) >>= λ x. Some (s, x))
  unfolding rec_init_tree
  entry_seen n t is = ap (rec_init_tree names) (rec_init_seen n t is)

-- ---- lists that aren't empty

pub two_of : {A : Type 0} (xs : List A) → 1 < length xs → (x : A) × (y : A) × (ys : List A) × (xs ≡ x ∷ y ∷ ys)
two_of [] h = absurd (omega (arith, h))
two_of (x ∷ []) h = absurd (omega (arith, h))
two_of (x ∷ y ∷ ys) h = (x, y, ys, refl)

-- what is the one of a list, if any is
pub lone_is : {A : Type 0} (xs : List A) (o p : Option (Bor A)) → xs ≡ option_to_list (option_copied o) → o ≡ p → xs ≡ option_to_list (option_copied p)
lone_is xs o p e is = e ∙ ap (λ (r : Option (Bor _)). option_to_list (option_copied r)) is

-- ---- the one variant of an expression

variant_of : (t : Expr) (f : Expr-F Expr ExprData MemAccess Primary Relation Add And ExprImpl Member Mult Or RecInit Unary) → out-Expr t ≡ f → (a : ExprImpl) × (t ≡ expr.Expr a)
variant_of t (layer.Expr::Expr a) e = (a, sym (roll-out-Expr t) ∙ ap roll-Expr e ∙ expr.rolls-Expr a)

pub one_variant : {G : Expr → Type 0} (val : (t : Expr) → G t → ExprImpl) → ((a : ExprImpl) (given : G (expr.Expr a)) → val (expr.Expr a) given ≡ a) → (t : Expr) (given : G t) → t ≡ expr.Expr (val t given)
one_variant {G} val same t given = let v = variant_of t (out-Expr t) refl in subst (λ u. (g : G u) → u ≡ expr.Expr (val u g)) (sym v.1) (λ g. ap expr.Expr (sym (same v.0 g))) given
