-- The trees that texts write are fine.
use Rattle.std.proofs.Common.{refl, List, Option, map}
use Rattle.cedar_language.specs.Tree as tree
use Rattle.cedar_language.specs.Tree.{Tree, GetAttr, Like, Is}
use Rattle.cedar_grammar.specs.Escape.{pattern_of}
use Rattle.cedar_grammar.specs.Names.{Names}
use Rattle.cedar_grammar.specs.Build.{conjunction, disjunction, Keyed}
use Rattle.cedar_grammar.specs.Steps.{◌>>=◌}
use Rattle.cedar_grammar.specs.Loose as loose
use Rattle.cedar_grammar.specs.Converting.{named_slot, ident_text, ref_entity, literal_tree, alone, lone_member, lone_primary, primary_text, primary_key, primary_path, primary_raw, member_fields, lone_number, comparison_of, sum, product, Head, head_tree, called, record_tree, expr_tree, or_tree, ands_tree, and_tree, relations_tree, relation_tree, adds_tree, add_tree, mults_tree, mult_tree, unaries_tree, unary_tree, member_tree, accesses_tree, access_head, primary_head, exprs_trees, rec_inits_trees, rec_init_tree}
use Rattle.cedar_conversion.specs.Laws.{TreesAreBuilt, CallsAreNamed}
use Rattle.cedar_conversion.proofs.Holding.{Holds, given, then_holds, after_any}
use Rattle.cedar_conversion.proofs.Fine.{Fine, AllFine, fine_literal, fine_slot, fine_if, fine_conjunction, fine_disjunction, fine_unary}
use Rattle.cedar_conversion.proofs.Constructs.{SomeFine, FineHead, fine_literal_tree, fine_compared, fine_sum, fine_product, fine_has, fine_is_in, fine_signed, fine_head, fine_called, fine_set, fine_record}

module _ (names : Names) where
  abbrev FineEntry : Keyed Tree → Type 0
  FineEntry e = Fine names e.1

  abbrev FineEntries : List (Keyed Tree) → Type 0
  FineEntries es = AllFine names (map (λ e. e.1) es)

  -- a fine tree, and what follows it
  fine_then : {B : Type 0} (Q : B → Type 0) (o : Option Tree) (f : Tree → Option B) → SomeFine names o → ((x : Tree) → Fine names x → Holds Q (f x)) → Holds Q (o >>= f)
  fine_then Q o f h k = then_holds (Fine names) Q o f h k

  mutual
    unfolding expr_tree

    fine_expr : (e : loose.Expr) → SomeFine names (expr_tree names e)
    fine_expr loose.missing_expr = tt
    fine_expr (loose.or_expr o) = fine_or o
    fine_expr (loose.if_expr a b c) =
        fine_then (Fine names) (expr_tree names a) _ (fine_expr a) (λ x f.
        fine_then (Fine names) (expr_tree names b) _ (fine_expr b) (λ y g.
        fine_then (Fine names) (expr_tree names c) _ (fine_expr c) (λ z h. fine_if names x y z f g h)))

    fine_or : (o : loose.Or) → SomeFine names (or_tree names o)
    fine_or loose.missing_or = tt
    fine_or (loose.or a more) = fine_then (Fine names) (and_tree names a) _ (fine_and a) (λ x f. fine_ands more x f)

    fine_ands : (more : loose.Ands) (x : Tree) → Fine names x → SomeFine names (ands_tree names x more)
    fine_ands loose.no_ands x f = f
    fine_ands (loose.an_and a more) x f = fine_then (Fine names) (and_tree names a) _ (fine_and a) (λ y g. fine_ands more (disjunction x y) (fine_disjunction names x y f g))

    fine_and : (a : loose.And) → SomeFine names (and_tree names a)
    fine_and loose.missing_and = tt
    fine_and (loose.and a more) = fine_then (Fine names) (relation_tree names a) _ (fine_relation a) (λ x f. fine_relations more x f)

    fine_relations : (more : loose.Relations) (x : Tree) → Fine names x → SomeFine names (relations_tree names x more)
    fine_relations loose.no_relations x f = f
    fine_relations (loose.a_relation a more) x f = fine_then (Fine names) (relation_tree names a) _ (fine_relation a) (λ y g. fine_relations more (conjunction x y) (fine_conjunction names x y f g))

    fine_relation : (r : loose.Relation) → SomeFine names (relation_tree names r)
    fine_relation loose.missing_relation = tt
    fine_relation (loose.common a more) = fine_then (Fine names) (add_tree names a) _ (fine_add a) (λ x f. fine_adds more x f)
    fine_relation (loose.has a b) =
        fine_then (Fine names) (add_tree names a) _ (fine_add a) (λ x f.
        after_any (Fine names) (lone_member b >>= member_fields) _ (λ ss. fine_has names ss x f))
    fine_relation (loose.like a p) =
        fine_then (Fine names) (add_tree names a) _ (fine_add a) (λ x f.
        after_any (Fine names) (lone_primary p >>= primary_raw >>= pattern_of) _ (λ q. fine_unary names (Like q) x refl refl f))
    fine_relation (loose.is_type a t) =
        fine_then (Fine names) (add_tree names a) _ (fine_add a) (λ x f.
        after_any (Fine names) (lone_primary t >>= primary_path) _ (λ p. fine_unary names (Is p) x refl refl f))
    fine_relation (loose.is_type_in a t b) =
        fine_then (Fine names) (add_tree names a) _ (fine_add a) (λ x f.
        after_any (Fine names) (lone_primary t >>= primary_path) _ (λ p.
        fine_then (Fine names) (add_tree names b) _ (fine_add b) (λ y g. fine_is_in names p x y f g)))

    fine_adds : (more : loose.Adds) (x : Tree) → Fine names x → SomeFine names (adds_tree names x more)
    fine_adds loose.no_adds x f = f
    fine_adds (loose.an_add o a loose.no_adds) x f =
        after_any (Fine names) (comparison_of o) _ (λ c.
        fine_then (Fine names) (add_tree names a) _ (fine_add a) (λ y g. fine_compared names c x y f g))
    fine_adds (loose.an_add o a (loose.an_add p b more)) x f = tt

    fine_add : (a : loose.Add) → SomeFine names (add_tree names a)
    fine_add loose.missing_add = tt
    fine_add (loose.add a more) = fine_then (Fine names) (mult_tree names a) _ (fine_mult a) (λ x f. fine_mults more x f)

    fine_mults : (more : loose.Mults) (x : Tree) → Fine names x → SomeFine names (mults_tree names x more)
    fine_mults loose.no_mults x f = f
    fine_mults (loose.a_mult o a more) x f = fine_then (Fine names) (mult_tree names a) _ (fine_mult a) (λ y g. fine_mults more (sum o x y) (fine_sum names o x y f g))

    fine_mult : (m : loose.Mult) → SomeFine names (mult_tree names m)
    fine_mult loose.missing_mult = tt
    fine_mult (loose.mult a more) = fine_then (Fine names) (unary_tree names a) _ (fine_sign a) (λ x f. fine_unaries more x f)

    fine_unaries : (more : loose.Unaries) (x : Tree) → Fine names x → SomeFine names (unaries_tree names x more)
    fine_unaries loose.no_unaries x f = f
    fine_unaries (loose.a_unary o a more) x f =
        fine_then (Fine names) (unary_tree names a) _ (fine_sign a) (λ y g.
        fine_then (Fine names) (product o x y) _ (fine_product names o x y f g) (λ z h. fine_unaries more z h))

    fine_sign : (u : loose.Unary) → SomeFine names (unary_tree names u)
    fine_sign loose.missing_unary = tt
    fine_sign (loose.unary o m) = fine_signed names o (lone_number m) (member_tree names m) (fine_member m)

    fine_member : (m : loose.Member) → SomeFine names (member_tree names m)
    fine_member loose.missing_member = tt
    fine_member (loose.member p more) = then_holds (FineHead names) (Fine names) (primary_head names p) _ (fine_primary p) (λ h f. fine_accesses more h f)

    fine_accesses : (more : loose.Accesses) (h : Head) → FineHead names h → SomeFine names (accesses_tree names h more)
    fine_accesses loose.no_accesses h f = fine_head names h f
    fine_accesses (loose.an_access x more) h f = then_holds (FineHead names) (Fine names) (access_head names h x) _ (fine_access x h f) (λ g k. fine_accesses more g k)

    fine_access : (x : loose.MemAccess) (h : Head) → FineHead names h → Holds (FineHead names) (access_head names h x)
    fine_access loose.missing_access h f = tt
    fine_access (loose.field i) h f = fine_then (FineHead names) (head_tree h) _ (fine_head names h f) (λ t g. after_any (FineHead names) (ident_text i) _ (λ s. g))
    fine_access (loose.call es) h f =
        then_holds (AllFine names) (FineHead names) (exprs_trees names es) _ (fine_exprs es) (λ ts g.
        fine_then (FineHead names) (called names h ts) _ (fine_called names h ts f g) (λ t k. k))
    fine_access (loose.index e) h f =
        fine_then (FineHead names) (head_tree h) _ (fine_head names h f) (λ t g.
        after_any (FineHead names) (alone e >>= primary_text) _ (λ s. fine_unary names (GetAttr s) t refl refl g))

    fine_primary : (p : loose.Primary) → Holds (FineHead names) (primary_head names p)
    fine_primary loose.missing_primary = tt
    fine_primary (loose.literal l) = fine_then (FineHead names) (literal_tree l) _ (fine_literal_tree names l) (λ t f. f)
    fine_primary (loose.entity r) = after_any (FineHead names) (ref_entity r) _ (λ u. fine_literal names (tree.Entity u))
    fine_primary (loose.named n) = tt
    fine_primary (loose.slot s) = after_any (FineHead names) (named_slot s) _ (λ i. fine_slot names i)
    fine_primary (loose.expr e) = fine_then (FineHead names) (expr_tree names e) _ (fine_expr e) (λ t f. f)
    fine_primary (loose.e_list es) = then_holds (AllFine names) (FineHead names) (exprs_trees names es) _ (fine_exprs es) (λ ts f. fine_set names ts f)
    fine_primary (loose.r_inits rs) =
        then_holds FineEntries (FineHead names) (rec_inits_trees names rs) _ (fine_rec_inits rs) (λ es f.
        fine_then (FineHead names) (record_tree es) _ (fine_record names es f) (λ t g. g))

    fine_exprs : (es : loose.Exprs) → Holds (AllFine names) (exprs_trees names es)
    fine_exprs loose.no_exprs = tt
    fine_exprs (loose.an_expr e es) =
        fine_then (AllFine names) (expr_tree names e) _ (fine_expr e) (λ x f.
        then_holds (AllFine names) (AllFine names) (exprs_trees names es) _ (fine_exprs es) (λ xs g. (f, g)))

    fine_rec_inits : (rs : loose.RecInits) → Holds FineEntries (rec_inits_trees names rs)
    fine_rec_inits loose.no_rec_inits = tt
    fine_rec_inits (loose.a_rec_init r rs) =
        then_holds FineEntry FineEntries (rec_init_tree names r) _ (fine_rec_init r) (λ e f.
        then_holds FineEntries FineEntries (rec_inits_trees names rs) _ (fine_rec_inits rs) (λ es g. (f, g)))

    fine_rec_init : (r : loose.RecInit) → Holds FineEntry (rec_init_tree names r)
    fine_rec_init loose.missing_rec_init = tt
    fine_rec_init (loose.rec_init k e) =
        after_any FineEntry (alone k >>= primary_key) _ (λ s.
        fine_then FineEntry (expr_tree names e) _ (fine_expr e) (λ t f. f))

pub trees_are_built : TreesAreBuilt
trees_are_built names e t h =
    let f = given (Fine names) (expr_tree names e) (fine_expr names e) t h in
    f.is_built

pub calls_are_named : CallsAreNamed
calls_are_named names e t h functions methods =
    let f = given (Fine names) (expr_tree names e) (fine_expr names e) t h in
    f.is_named (record { functions = functions; methods = methods })
