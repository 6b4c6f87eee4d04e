use Rattle.std.proofs.Common.{◌+◌, ◌*◌, map, length}
use Rattle.cedar_tokens.specs.View.{mark_view}
use Rattle.cedar_grammar.specs.Token as token
use Rattle.cedar_grammar.specs.LooseReading.{links_of, items_of, each_of, or_op, and_op, rel_op, add_op, mult_op, begins_access, and_of, relation_of, add_of, mult_of, unary_of, access_of, rec_init_of, expr_at}
use Rattle.cedar_cst.specs.View.{shown_expr, shown_and, shown_relation, shown_mem_access, shown_rec_init}
use Rattle.cedar_loose.specs.Links.{linked_add, linked_mult, linked_unary}
use Rattle.cedar_loose.proofs.Loops.{Links, Items, alone}
use Rattle.cedar_loose.specs.SoFar.{Each}
use Rattle.cedar_loose.proofs.cursor.Cursor.+expression.Given as goal

abbrev pub decreases-expr : goal.decreases-expr
decreases-expr l = 16 * l.depth + 0

abbrev pub decreases-rec_init : goal.decreases-rec_init
decreases-rec_init l = 16 * l.depth + 1

abbrev pub decreases-choice : goal.decreases-choice
decreases-choice l = 16 * l.depth + 1

abbrev pub decreases-exprs : goal.decreases-exprs
decreases-exprs l = 16 * l.depth + 2

abbrev pub decreases-rec_inits : goal.decreases-rec_inits
decreases-rec_inits l = 16 * l.depth + 2

abbrev pub decreases-item : goal.decreases-item
decreases-item l = 16 * l.depth + 3

abbrev pub decreases-access : goal.decreases-access
decreases-access l = 16 * l.depth + 3

abbrev pub decreases-accesses : goal.decreases-accesses
decreases-accesses l = 16 * l.depth + 4

abbrev pub decreases-member : goal.decreases-member
decreases-member l = 16 * l.depth + 5

abbrev pub decreases-unary : goal.decreases-unary
decreases-unary l = 16 * l.depth + 6

abbrev pub decreases-mult : goal.decreases-mult
decreases-mult l = 16 * l.depth + 7

abbrev pub decreases-comparisons : goal.decreases-comparisons
decreases-comparisons l = 16 * l.depth + 9

abbrev pub decreases-operand : goal.decreases-operand
decreases-operand l = 16 * l.depth + 8

abbrev pub decreases-is : goal.decreases-is
decreases-is l = 16 * l.depth + 9

abbrev pub decreases-relation : goal.decreases-relation
decreases-relation l = 16 * l.depth + 10

abbrev pub decreases-and : goal.decreases-and
decreases-and l = 16 * l.depth + 11

abbrev pub decreases-or : goal.decreases-or
decreases-or l = 16 * l.depth + 12

abbrev pub invariant-or-links : goal.invariant-or-links
invariant-or-links l = Links or_op (and_of (expr_at l.depth)) (map (alone shown_and) l.extended.items) l.self (links_of or_op (and_of (expr_at l.depth)) l.initial.self)

abbrev pub decreases-or-links : goal.decreases-or-links
decreases-or-links l = length l.self

abbrev pub invariant-and-links : goal.invariant-and-links
invariant-and-links l = Links and_op (relation_of (expr_at l.depth)) (map (alone shown_relation) l.extended.items) l.self (links_of and_op (relation_of (expr_at l.depth)) l.initial.self)

abbrev pub decreases-and-links : goal.decreases-and-links
decreases-and-links l = length l.self

abbrev pub invariant-comparisons-links : goal.invariant-comparisons-links
invariant-comparisons-links l = Links rel_op (add_of (expr_at l.depth)) (map (linked_add) l.extended.items) l.self (links_of rel_op (add_of (expr_at l.depth)) l.initial.self)

abbrev pub decreases-comparisons-links : goal.decreases-comparisons-links
decreases-comparisons-links l = length l.self

abbrev pub invariant-operand-links : goal.invariant-operand-links
invariant-operand-links l = Links add_op (mult_of (expr_at l.depth)) (map (linked_mult) l.extended.items) l.self (links_of add_op (mult_of (expr_at l.depth)) l.initial.self)

abbrev pub decreases-operand-links : goal.decreases-operand-links
decreases-operand-links l = length l.self

abbrev pub invariant-mult-links : goal.invariant-mult-links
invariant-mult-links l = Links mult_op (unary_of (expr_at l.depth)) (map (linked_unary) l.extended.items) l.self (links_of mult_op (unary_of (expr_at l.depth)) l.initial.self)

abbrev pub decreases-mult-links : goal.decreases-mult-links
decreases-mult-links l = length l.self

abbrev pub invariant-accesses-links : goal.invariant-accesses-links
invariant-accesses-links l = Each begins_access (access_of (expr_at l.depth)) (map shown_mem_access l.access.items) l.self (each_of begins_access (access_of (expr_at l.depth)) l.initial.self)

abbrev pub decreases-accesses-links : goal.decreases-accesses-links
decreases-accesses-links l = length l.self

abbrev pub invariant-exprs-items : goal.invariant-exprs-items
invariant-exprs-items l = Items (mark_view l.close) (expr_at l.depth) (map shown_expr l.items.items) l.self (items_of (mark_view l.close) (expr_at l.depth) l.initial.self)

abbrev pub decreases-exprs-items : goal.decreases-exprs-items
decreases-exprs-items l = length l.self

abbrev pub invariant-rec_inits-items : goal.invariant-rec_inits-items
invariant-rec_inits-items l = Items token.RightBrace (rec_init_of (expr_at l.depth)) (map shown_rec_init l.items.items) l.self (items_of token.RightBrace (rec_init_of (expr_at l.depth)) l.initial.self)

abbrev pub decreases-rec_inits-items : goal.decreases-rec_inits-items
decreases-rec_inits-items l = length l.self
