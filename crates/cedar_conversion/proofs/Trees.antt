-- The trees of chains, of accesses and of lists, one part at a time.
use Rattle.std.proofs.Common.{◌≡◌, ℕ, suc, ◌+◌, ◌<◌, length, get_or, drop-cons, add-one, List, [], ◌∷◌, ◌++◌, append_assoc, map, drop, Option, Some, None, Result, refl, sym, ap, ◌∙◌, subst}
use Rattle.std.proofs.lemmas.List.{append-nil}
use Rattle.std.specs.Option.{option_map, unwrap_or}
use Rattle.cedar_language.specs.Tree.{Tree}
use Rattle.cedar_grammar.specs.Build.{Keyed}
use Rattle.cedar_grammar.specs.Names.{Names}
use Rattle.cedar_grammar.specs.Steps.{◌>>=◌}
use Rattle.cedar_grammar.specs.Loose as loose
use Rattle.cedar_grammar.specs.Converting as converting
use Rattle.cedar_grammar.specs.Converting.{expr_tree, or_tree, ands_tree, and_tree, relations_tree, relation_tree, add_tree, mults_tree, mult_tree, unaries_tree, unary_tree, member_tree, accesses_tree, access_head, primary_head, exprs_trees, rec_inits_trees, rec_init_tree, head_tree}
use Rattle.cedar_cst.specs.declared.node.Node.{Node}
use Rattle.cedar_cst.specs.declared.leaves.AddOp.{AddOp}
use Rattle.cedar_cst.specs.declared.leaves.MultOp.{MultOp}
use Rattle.cedar_cst.specs.LeafView.{shown, view_add_op, view_mult_op}
use Rattle.cedar_cst.specs.declared.cst.Expr.{Expr}
use Rattle.cedar_cst.specs.declared.cst.Or.{Or, out-Or}
use Rattle.cedar_cst.specs.declared.cst.And.{And, out-And}
use Rattle.cedar_cst.specs.declared.cst.Relation.{Relation}
use Rattle.cedar_cst.specs.declared.cst.Add.{Add, out-Add}
use Rattle.cedar_cst.specs.declared.cst.Mult.{Mult, out-Mult}
use Rattle.cedar_cst.specs.declared.cst.Unary.{Unary}
use Rattle.cedar_cst.specs.declared.cst.Member.{Member, out-Member}
use Rattle.cedar_cst.specs.declared.cst.MemAccess.{MemAccess}
use Rattle.cedar_cst.specs.declared.cst.RecInit.{RecInit}
use Rattle.cedar_cst.specs.declared.cst.Primary.{Primary}
use Rattle.cedar_cst.specs.View.{shown_expr, shown_or, shown_and, shown_relation, shown_add, shown_mult, shown_unary, shown_member, shown_mem_access, shown_primary, shown_rec_init}
use Rattle.cedar_faults.specs.declared.errors.ConversionError.{ConversionError}
use Rattle.cedar_faults.specs.Converts.{Converts}
use Rattle.cedar_conversion.specs.SoFar.{SoFar}
use Rattle.cedar_conversion.specs.Joints.{joined}
use Rattle.cedar_conversion.specs.declared.applying.Joint.TheVariants as joint
use Rattle.cedar_conversion.proofs.Converting.{same_as, step_so, more_so, all_so}
use Rattle.cedar_conversion.proofs.Seen.{or_seen, and_seen, add_seen, mult_seen, member_seen}

pub empty : {A V : Type 0} {B : Type 0} (missing : B) (view : A → B) (f : B → Option V) (n : Node (Option A)) → n.node ≡ None → f missing ≡ None → f (shown missing view n) ≡ None
empty missing view f n is h = ap (λ o. f (unwrap_or (option_map view o) missing)) is ∙ h

module _ (names : Names) {E B R : Type 0} (s : E → Tree → Type 0) (is_refused : Tree → Type 0) (refusal : B → Option R) where
  pub or_start : (n : Node (Option Or)) (t : Or) (whole : Result E (ConversionError B)) (xs : List (Node (Option And))) → n.node ≡ Some t → Converts s is_refused refusal whole (and_tree names (shown_and (out-Or t).initial)) → xs ≡ (out-Or t).extended.items
      → SoFar s is_refused refusal whole (or_tree names (shown_or n)) (λ x. ands_tree names x (loose.ands (map shown_and xs)))
  unfolding or_tree ands_tree
  or_start n t whole xs is given same = record {
    value = and_tree names (shown_and (out-Or t).initial);
    is = given;
    same = ap (or_tree names) (or_seen n t xs is same);
  }

  pub or_more : (whole next whole' : Result E (ConversionError B)) (want : Option Tree) (p : Node (Option And)) (xs ys : List (Node (Option And))) → SoFar s is_refused refusal whole want (λ x. ands_tree names x (loose.ands (map shown_and xs))) → xs ≡ p ∷ ys
      → ((v u : Option Tree) → Converts s is_refused refusal whole v → Converts s is_refused refusal next u → Converts s is_refused refusal whole' (v >>= λ x. u >>= λ y. joined joint.Or x y)) → Converts s is_refused refusal next (and_tree names (shown_and p)) → SoFar s is_refused refusal whole' want (λ x. ands_tree names x (loose.ands (map shown_and ys)))
  unfolding or_tree ands_tree
  or_more whole next whole' want p xs ys so cut join given =
      more_so refusal s is_refused whole next whole' want (and_tree names (shown_and p)) (λ x y. joined joint.Or x y) (λ x. ands_tree names x (loose.ands (map shown_and ys)))
      (subst (λ zs. SoFar s is_refused refusal whole want (λ x. ands_tree names x (loose.ands (map shown_and zs)))) cut so) join given

  pub or_end : (whole : Result E (ConversionError B)) (want : Option Tree) (xs : List (Node (Option And))) → SoFar s is_refused refusal whole want (λ x. ands_tree names x (loose.ands (map shown_and xs))) → xs ≡ [] → Converts s is_refused refusal whole want
  unfolding or_tree ands_tree
  or_end whole want xs so none = all_so refusal s is_refused whole want (subst (λ zs. SoFar s is_refused refusal whole want (λ x. ands_tree names x (loose.ands (map shown_and zs)))) none so)

  pub and_start : (n : Node (Option And)) (t : And) (whole : Result E (ConversionError B)) (xs : List (Node (Option Relation))) → n.node ≡ Some t → Converts s is_refused refusal whole (relation_tree names (shown_relation (out-And t).initial)) → xs ≡ (out-And t).extended.items
      → SoFar s is_refused refusal whole (and_tree names (shown_and n)) (λ x. relations_tree names x (loose.relations (map shown_relation xs)))
  unfolding and_tree relations_tree
  and_start n t whole xs is given same = record {
    value = relation_tree names (shown_relation (out-And t).initial);
    is = given;
    same = ap (and_tree names) (and_seen n t xs is same);
  }

  pub and_more : (whole next whole' : Result E (ConversionError B)) (want : Option Tree) (p : Node (Option Relation)) (xs ys : List (Node (Option Relation))) → SoFar s is_refused refusal whole want (λ x. relations_tree names x (loose.relations (map shown_relation xs))) → xs ≡ p ∷ ys
      → ((v u : Option Tree) → Converts s is_refused refusal whole v → Converts s is_refused refusal next u → Converts s is_refused refusal whole' (v >>= λ x. u >>= λ y. joined joint.And x y)) → Converts s is_refused refusal next (relation_tree names (shown_relation p)) → SoFar s is_refused refusal whole' want (λ x. relations_tree names x (loose.relations (map shown_relation ys)))
  unfolding and_tree relations_tree
  and_more whole next whole' want p xs ys so cut join given =
      more_so refusal s is_refused whole next whole' want (relation_tree names (shown_relation p)) (λ x y. joined joint.And x y) (λ x. relations_tree names x (loose.relations (map shown_relation ys)))
      (subst (λ zs. SoFar s is_refused refusal whole want (λ x. relations_tree names x (loose.relations (map shown_relation zs)))) cut so) join given

  pub and_end : (whole : Result E (ConversionError B)) (want : Option Tree) (xs : List (Node (Option Relation))) → SoFar s is_refused refusal whole want (λ x. relations_tree names x (loose.relations (map shown_relation xs))) → xs ≡ [] → Converts s is_refused refusal whole want
  unfolding and_tree relations_tree
  and_end whole want xs so none = all_so refusal s is_refused whole want (subst (λ zs. SoFar s is_refused refusal whole want (λ x. relations_tree names x (loose.relations (map shown_relation zs)))) none so)

  pub add_start : (n : Node (Option Add)) (t : Add) (whole : Result E (ConversionError B)) (xs : List (AddOp × Node (Option Mult))) → n.node ≡ Some t → Converts s is_refused refusal whole (mult_tree names (shown_mult (out-Add t).initial)) → xs ≡ (out-Add t).extended.items
      → SoFar s is_refused refusal whole (add_tree names (shown_add n)) (λ x. mults_tree names x (loose.mults (map {B = loose.AddOp × loose.Mult} (λ x. (view_add_op x.0, shown_mult x.1)) xs)))
  unfolding add_tree mults_tree
  add_start n t whole xs is given same = record {
    value = mult_tree names (shown_mult (out-Add t).initial);
    is = given;
    same = ap (add_tree names) (add_seen n t xs is same);
  }

  pub add_more : (whole next whole' : Result E (ConversionError B)) (want : Option Tree) (p : AddOp × Node (Option Mult)) (xs ys : List (AddOp × Node (Option Mult))) → SoFar s is_refused refusal whole want (λ x. mults_tree names x (loose.mults (map {B = loose.AddOp × loose.Mult} (λ x. (view_add_op x.0, shown_mult x.1)) xs))) → xs ≡ p ∷ ys
      → ((v u : Option Tree) → Converts s is_refused refusal whole v → Converts s is_refused refusal next u → Converts s is_refused refusal whole' (v >>= λ x. u >>= λ y. joined (joint.Sum p.0) x y)) → Converts s is_refused refusal next (mult_tree names (shown_mult p.1)) → SoFar s is_refused refusal whole' want (λ x. mults_tree names x (loose.mults (map {B = loose.AddOp × loose.Mult} (λ x. (view_add_op x.0, shown_mult x.1)) ys)))
  unfolding add_tree mults_tree
  add_more whole next whole' want p xs ys so cut join given =
      more_so refusal s is_refused whole next whole' want (mult_tree names (shown_mult p.1)) (λ x y. joined (joint.Sum p.0) x y) (λ x. mults_tree names x (loose.mults (map {B = loose.AddOp × loose.Mult} (λ x. (view_add_op x.0, shown_mult x.1)) ys)))
      (subst (λ zs. SoFar s is_refused refusal whole want (λ x. mults_tree names x (loose.mults (map {B = loose.AddOp × loose.Mult} (λ x. (view_add_op x.0, shown_mult x.1)) zs)))) cut so) join given

  pub add_end : (whole : Result E (ConversionError B)) (want : Option Tree) (xs : List (AddOp × Node (Option Mult))) → SoFar s is_refused refusal whole want (λ x. mults_tree names x (loose.mults (map {B = loose.AddOp × loose.Mult} (λ x. (view_add_op x.0, shown_mult x.1)) xs))) → xs ≡ [] → Converts s is_refused refusal whole want
  unfolding add_tree mults_tree
  add_end whole want xs so none = all_so refusal s is_refused whole want (subst (λ zs. SoFar s is_refused refusal whole want (λ x. mults_tree names x (loose.mults (map {B = loose.AddOp × loose.Mult} (λ x. (view_add_op x.0, shown_mult x.1)) zs)))) none so)

  pub mult_start : (n : Node (Option Mult)) (t : Mult) (whole : Result E (ConversionError B)) (xs : List (MultOp × Node (Option Unary))) → n.node ≡ Some t → Converts s is_refused refusal whole (unary_tree names (shown_unary (out-Mult t).initial)) → xs ≡ (out-Mult t).extended.items
      → SoFar s is_refused refusal whole (mult_tree names (shown_mult n)) (λ x. unaries_tree names x (loose.unaries (map {B = loose.MultOp × loose.Unary} (λ x. (view_mult_op x.0, shown_unary x.1)) xs)))
  unfolding mult_tree unaries_tree
  mult_start n t whole xs is given same = record {
    value = unary_tree names (shown_unary (out-Mult t).initial);
    is = given;
    same = ap (mult_tree names) (mult_seen n t xs is same);
  }

  pub mult_more : (whole next whole' : Result E (ConversionError B)) (want : Option Tree) (p : MultOp × Node (Option Unary)) (xs ys : List (MultOp × Node (Option Unary))) → SoFar s is_refused refusal whole want (λ x. unaries_tree names x (loose.unaries (map {B = loose.MultOp × loose.Unary} (λ x. (view_mult_op x.0, shown_unary x.1)) xs))) → xs ≡ p ∷ ys
      → ((v u : Option Tree) → Converts s is_refused refusal whole v → Converts s is_refused refusal next u → Converts s is_refused refusal whole' (v >>= λ x. u >>= λ y. joined (joint.Product p.0) x y)) → Converts s is_refused refusal next (unary_tree names (shown_unary p.1)) → SoFar s is_refused refusal whole' want (λ x. unaries_tree names x (loose.unaries (map {B = loose.MultOp × loose.Unary} (λ x. (view_mult_op x.0, shown_unary x.1)) ys)))
  unfolding mult_tree unaries_tree
  mult_more whole next whole' want p xs ys so cut join given =
      more_so refusal s is_refused whole next whole' want (unary_tree names (shown_unary p.1)) (λ x y. joined (joint.Product p.0) x y) (λ x. unaries_tree names x (loose.unaries (map {B = loose.MultOp × loose.Unary} (λ x. (view_mult_op x.0, shown_unary x.1)) ys)))
      (subst (λ zs. SoFar s is_refused refusal whole want (λ x. unaries_tree names x (loose.unaries (map {B = loose.MultOp × loose.Unary} (λ x. (view_mult_op x.0, shown_unary x.1)) zs)))) cut so) join given

  pub mult_end : (whole : Result E (ConversionError B)) (want : Option Tree) (xs : List (MultOp × Node (Option Unary))) → SoFar s is_refused refusal whole want (λ x. unaries_tree names x (loose.unaries (map {B = loose.MultOp × loose.Unary} (λ x. (view_mult_op x.0, shown_unary x.1)) xs))) → xs ≡ [] → Converts s is_refused refusal whole want
  unfolding mult_tree unaries_tree
  mult_end whole want xs so none = all_so refusal s is_refused whole want (subst (λ zs. SoFar s is_refused refusal whole want (λ x. unaries_tree names x (loose.unaries (map {B = loose.MultOp × loose.Unary} (λ x. (view_mult_op x.0, shown_unary x.1)) zs)))) none so)

module _ (names : Names) {E B R : Type 0} (s : E → converting.Head → Type 0) (is_refused : converting.Head → Type 0) (refusal : B → Option R) where
  pub member_start : (n : Node (Option Member)) (t : Member) (p : Node (Option Primary)) (whole : Result E (ConversionError B)) (xs : List (Node (Option MemAccess))) → n.node ≡ Some t → p ≡ (out-Member t).item.value → Converts s is_refused refusal whole (primary_head names (shown_primary p)) → xs ≡ (out-Member t).access.items
      → SoFar s is_refused refusal whole (member_tree names (shown_member n)) (λ h. accesses_tree names h (loose.accesses (map shown_mem_access xs)))
  unfolding member_tree accesses_tree
  member_start n t p whole xs is item given same = record {
    value = primary_head names (shown_primary p);
    is = given;
    same = ap (member_tree names) (member_seen n t p xs is item same);
  }

  pub member_more : (whole whole' : Result E (ConversionError B)) (want : Option Tree) (p : Node (Option MemAccess)) (xs ys : List (Node (Option MemAccess))) → SoFar s is_refused refusal whole want (λ h. accesses_tree names h (loose.accesses (map shown_mem_access xs))) → xs ≡ p ∷ ys
      → ((v : Option converting.Head) → Converts s is_refused refusal whole v → Converts s is_refused refusal whole' (v >>= λ h. access_head names h (shown_mem_access p))) → SoFar s is_refused refusal whole' want (λ h. accesses_tree names h (loose.accesses (map shown_mem_access ys)))
  unfolding member_tree accesses_tree
  member_more whole whole' want p xs ys so cut step =
      step_so refusal s is_refused s is_refused whole whole' want (λ h. access_head names h (shown_mem_access p)) (λ h. accesses_tree names h (loose.accesses (map shown_mem_access ys)))
      (subst (λ zs. SoFar s is_refused refusal whole want (λ h. accesses_tree names h (loose.accesses (map shown_mem_access zs)))) cut so) step

  -- at the end, the tree of what the accesses have made
  pub member_end : {F : Type 0} (q : F → Tree → Type 0) (is_tree_refused : Tree → Type 0) (whole : Result E (ConversionError B)) (made : Result F (ConversionError B)) (want : Option Tree) (xs : List (Node (Option MemAccess))) → SoFar s is_refused refusal whole want (λ h. accesses_tree names h (loose.accesses (map shown_mem_access xs))) → xs ≡ []
      → ((v : Option converting.Head) → Converts s is_refused refusal whole v → Converts q is_tree_refused refusal made (v >>= head_tree)) → Converts q is_tree_refused refusal made want
  unfolding member_tree accesses_tree
  member_end q is_tree_refused whole made want xs so none last =
      let done = subst (λ zs. SoFar s is_refused refusal whole want (λ h. accesses_tree names h (loose.accesses (map shown_mem_access zs)))) none so in
      same_as refusal q is_tree_refused made (done.value >>= head_tree) want done.same (last done.value done.is)

module _ (names : Names) where
  abbrev pub items_rest : List (Node (Option Expr)) → List (Tree) → Option (List (Tree))
  items_rest xs done = exprs_trees names (loose.exprs (map shown_expr xs)) >>= λ more. Some (done ++ more)

module _ (names : Names) {D E B R : Type 0} (s : E → List (Tree) → Type 0) (are_refused : List (Tree) → Type 0) (q : D → Tree → Type 0) (is_refused : Tree → Type 0) (refusal : B → Option R) where
  items_given : (u : Option (List (Tree))) → u ≡ (Some [] >>= λ done. u >>= λ more. Some (done ++ more))
  items_given None = refl
  items_given (Some ys) = refl

  pub items_start : (made : Result E (ConversionError B)) (xs : List (Node (Option Expr))) → Converts s are_refused refusal made (Some []) → SoFar s are_refused refusal made (exprs_trees names (loose.exprs (map shown_expr xs))) (items_rest names xs)
  items_start made xs h = record { value = Some []; is = h; same = items_given (exprs_trees names (loose.exprs (map shown_expr xs))) }

  items_turn : (v : Option (List (Tree))) (w : Option (Tree)) (u : Option (List (Tree))) → (v >>= λ done. (w >>= λ y. u >>= λ ys. let z : Option (List (Tree)) = Some (y ∷ ys) in z) >>= λ more. let z : Option (List (Tree)) = Some (done ++ more) in z) ≡ ((v >>= λ done. w >>= λ y. let z : Option (List (Tree)) = Some (done ++ y ∷ []) in z) >>= λ done. u >>= λ more. Some (done ++ more))
  items_turn None w u = refl
  items_turn (Some done) None u = refl
  items_turn (Some done) (Some y) None = refl
  items_turn (Some done) (Some y) (Some ys) = ap Some (sym (append_assoc done (y ∷ []) ys))

  pub items_more : (made made' : Result E (ConversionError B)) (next : Result D (ConversionError B)) (want : Option (List (Tree))) (p : Node (Option Expr)) (xs ys : List (Node (Option Expr))) → SoFar s are_refused refusal made want (items_rest names xs) → xs ≡ p ∷ ys
      → ((v : Option (List (Tree))) (w : Option (Tree)) → Converts s are_refused refusal made v → Converts q is_refused refusal next w → Converts s are_refused refusal made' (v >>= λ done. w >>= λ y. Some (done ++ y ∷ []))) → Converts q is_refused refusal next (expr_tree names (shown_expr p)) → SoFar s are_refused refusal made' want (items_rest names ys)
  unfolding exprs_trees
  items_more made made' next want p xs ys so cut push given =
      let now = subst (λ zs. SoFar s are_refused refusal made want (items_rest names zs)) cut so in
      record {
        value = now.value >>= λ done. expr_tree names (shown_expr p) >>= λ y. Some (done ++ y ∷ []);
        is = push now.value (expr_tree names (shown_expr p)) now.is given;
        same = now.same ∙ items_turn now.value (expr_tree names (shown_expr p)) (exprs_trees names (loose.exprs (map shown_expr ys)));
      }

  items_whole : (v : Option (List (Tree))) → (v >>= λ done. let u : Option (List (Tree)) = Some [] in u >>= λ more. let z : Option (List (Tree)) = Some (done ++ more) in z) ≡ v
  items_whole None = refl
  items_whole (Some done) = ap Some (append-nil done)

  pub items_end : (made : Result E (ConversionError B)) (want : Option (List (Tree))) (xs : List (Node (Option Expr))) → SoFar s are_refused refusal made want (items_rest names xs) → xs ≡ [] → Converts s are_refused refusal made want
  unfolding exprs_trees
  items_end made want xs so none =
      let done = subst (λ zs. SoFar s are_refused refusal made want (items_rest names zs)) none so in
      same_as refusal s are_refused made done.value want (done.same ∙ items_whole done.value) done.is

module _ (names : Names) where
  abbrev pub entries_rest : List (Node (Option RecInit)) → List (Keyed Tree) → Option (List (Keyed Tree))
  entries_rest xs done = rec_inits_trees names (loose.rec_inits (map shown_rec_init xs)) >>= λ more. Some (done ++ more)

module _ (names : Names) {D E B R : Type 0} (s : E → List (Keyed Tree) → Type 0) (are_refused : List (Keyed Tree) → Type 0) (q : D → Keyed Tree → Type 0) (is_refused : Keyed Tree → Type 0) (refusal : B → Option R) where
  entries_given : (u : Option (List (Keyed Tree))) → u ≡ (Some [] >>= λ done. u >>= λ more. Some (done ++ more))
  entries_given None = refl
  entries_given (Some ys) = refl

  pub entries_start : (made : Result E (ConversionError B)) (xs : List (Node (Option RecInit))) → Converts s are_refused refusal made (Some []) → SoFar s are_refused refusal made (rec_inits_trees names (loose.rec_inits (map shown_rec_init xs))) (entries_rest names xs)
  entries_start made xs h = record { value = Some []; is = h; same = entries_given (rec_inits_trees names (loose.rec_inits (map shown_rec_init xs))) }

  entries_turn : (v : Option (List (Keyed Tree))) (w : Option (Keyed Tree)) (u : Option (List (Keyed Tree))) → (v >>= λ done. (w >>= λ y. u >>= λ ys. let z : Option (List (Keyed Tree)) = Some (y ∷ ys) in z) >>= λ more. let z : Option (List (Keyed Tree)) = Some (done ++ more) in z) ≡ ((v >>= λ done. w >>= λ y. let z : Option (List (Keyed Tree)) = Some (done ++ y ∷ []) in z) >>= λ done. u >>= λ more. Some (done ++ more))
  entries_turn None w u = refl
  entries_turn (Some done) None u = refl
  entries_turn (Some done) (Some y) None = refl
  entries_turn (Some done) (Some y) (Some ys) = ap Some (sym (append_assoc done (y ∷ []) ys))

  pub entries_more : (made made' : Result E (ConversionError B)) (next : Result D (ConversionError B)) (want : Option (List (Keyed Tree))) (p : Node (Option RecInit)) (xs ys : List (Node (Option RecInit))) → SoFar s are_refused refusal made want (entries_rest names xs) → xs ≡ p ∷ ys
      → ((v : Option (List (Keyed Tree))) (w : Option (Keyed Tree)) → Converts s are_refused refusal made v → Converts q is_refused refusal next w → Converts s are_refused refusal made' (v >>= λ done. w >>= λ y. Some (done ++ y ∷ []))) → Converts q is_refused refusal next (rec_init_tree names (shown_rec_init p)) → SoFar s are_refused refusal made' want (entries_rest names ys)
  unfolding rec_inits_trees
  entries_more made made' next want p xs ys so cut push given =
      let now = subst (λ zs. SoFar s are_refused refusal made want (entries_rest names zs)) cut so in
      record {
        value = now.value >>= λ done. rec_init_tree names (shown_rec_init p) >>= λ y. Some (done ++ y ∷ []);
        is = push now.value (rec_init_tree names (shown_rec_init p)) now.is given;
        same = now.same ∙ entries_turn now.value (rec_init_tree names (shown_rec_init p)) (rec_inits_trees names (loose.rec_inits (map shown_rec_init ys)));
      }

  entries_whole : (v : Option (List (Keyed Tree))) → (v >>= λ done. let u : Option (List (Keyed Tree)) = Some [] in u >>= λ more. let z : Option (List (Keyed Tree)) = Some (done ++ more) in z) ≡ v
  entries_whole None = refl
  entries_whole (Some done) = ap Some (append-nil done)

  pub entries_end : (made : Result E (ConversionError B)) (want : Option (List (Keyed Tree))) (xs : List (Node (Option RecInit))) → SoFar s are_refused refusal made want (entries_rest names xs) → xs ≡ [] → Converts s are_refused refusal made want
  unfolding rec_inits_trees
  entries_end made want xs so none =
      let done = subst (λ zs. SoFar s are_refused refusal made want (entries_rest names zs)) none so in
      same_as refusal s are_refused made done.value want (done.same ∙ entries_whole done.value) done.is

-- ---- where a loop stands

pub cut_at : {A : Type 0} (l l' : List A) (i : ℕ) (x : A) → l' ≡ l → i < length l' → x ≡ get_or l' i x → drop i l ≡ x ∷ drop (i + 1) l
cut_at l l' i x same lt is =
    drop-cons l i x (subst (λ z. i < length z) same lt)
    ∙ ap (λ y. y ∷ drop (suc i) l) (sym (is ∙ ap (λ z. get_or z i x) same))
    ∙ ap (λ k. x ∷ drop k l) (sym (add-one i))
