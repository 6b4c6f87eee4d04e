-- What leaves are without their places: the loose trees of words, strings, names, entities, literals, slots and operators.
use Rattle.std.specs.Prelude.{map, cond, Option, string_bytes}
use Rattle.std.specs.Option.{option_map, unwrap_or}
use Rattle.std.specs.Rc.{rc_str_bytes}
use Rattle.std.specs.Str.{chars}
use Rattle.cedar_language.specs.Uid.{Text}
use Rattle.cedar_names.specs.Identifiers.{is_identifier}
use Rattle.cedar_grammar.specs.Token as word
use Rattle.cedar_grammar.specs.Token.{word_of}
use Rattle.cedar_grammar.specs.Loose as loose
use Rattle.cedar_cst.specs.declared.node.Node.{Node}
use Rattle.cedar_cst.specs.declared.leaves.Ident.{Ident}
use Rattle.cedar_cst.specs.declared.leaves.Ident.TheVariants as idents
use Rattle.cedar_cst.specs.declared.leaves.Str.{Str}
use Rattle.cedar_cst.specs.declared.leaves.Str.TheVariants as strs
use Rattle.cedar_cst.specs.declared.leaves.Name.{Name}
use Rattle.cedar_cst.specs.declared.leaves.Ref.{Ref}
use Rattle.cedar_cst.specs.declared.leaves.Ref.TheVariants as refs
use Rattle.cedar_cst.specs.declared.leaves.RefInit.{RefInit}
use Rattle.cedar_cst.specs.declared.leaves.Literal.{Literal}
use Rattle.cedar_cst.specs.declared.leaves.Literal.TheVariants as literals
use Rattle.cedar_cst.specs.declared.leaves.Slot.{Slot}
use Rattle.cedar_cst.specs.declared.leaves.Slot.TheVariants as slots
use Rattle.cedar_cst.specs.declared.leaves.RelOp.{RelOp}
use Rattle.cedar_cst.specs.declared.leaves.RelOp.TheVariants as relations
use Rattle.cedar_cst.specs.declared.leaves.AddOp.{AddOp}
use Rattle.cedar_cst.specs.declared.leaves.AddOp.TheVariants as sums
use Rattle.cedar_cst.specs.declared.leaves.MultOp.{MultOp}
use Rattle.cedar_cst.specs.declared.leaves.MultOp.TheVariants as products
use Rattle.cedar_cst.specs.declared.leaves.NegOp.{NegOp}
use Rattle.cedar_cst.specs.declared.leaves.NegOp.TheVariants as signs

-- what a node shows of its value, and the missing case where it is empty
abbrev pub shown : {A B : Type 0} → B → (A → B) → Node (Option A) → B
shown missing view n = unwrap_or (option_map view n.node) missing

-- the word that is so written; what is no word is invalid
abbrev pub written_ident : Text → loose.Ident
written_ident s = cond (is_identifier s) (loose.ident (word_of s)) (loose.invalid_ident s)

abbrev pub view_ident : Ident → loose.Ident
view_ident idents.Principal = loose.ident word.Principal
view_ident idents.Action = loose.ident word.Action
view_ident idents.Resource = loose.ident word.Resource
view_ident idents.Context = loose.ident word.Context
view_ident idents.True = loose.ident word.True
view_ident idents.False = loose.ident word.False
view_ident idents.Permit = loose.ident word.Permit
view_ident idents.Forbid = loose.ident word.Forbid
view_ident idents.When = loose.ident word.When
view_ident idents.Unless = loose.ident word.Unless
view_ident idents.In = loose.ident word.In
view_ident idents.Has = loose.ident word.Has
view_ident idents.Like = loose.ident word.Like
view_ident idents.Is = loose.ident word.Is
view_ident idents.If = loose.ident word.If
view_ident idents.Then = loose.ident word.Then
view_ident idents.Else = loose.ident word.Else
view_ident (idents.Ident s) = written_ident (rc_str_bytes s)
view_ident (idents.Invalid s) = loose.invalid_ident (string_bytes s)

abbrev pub shown_ident : Node (Option Ident) → loose.Ident
shown_ident = shown loose.missing_ident view_ident

abbrev pub view_str : Str → loose.Str
view_str (strs.String s) = loose.string (chars (rc_str_bytes s))
view_str (strs.Invalid s) = loose.invalid_str (chars (rc_str_bytes s))

abbrev pub shown_str : Node (Option Str) → loose.Str
shown_str = shown loose.missing_str view_str

abbrev pub view_name : Name → loose.Name
view_name n = loose.name (map shown_ident n.path.items) (shown_ident n.name)

abbrev pub shown_name : Node (Option Name) → loose.Name
shown_name = shown loose.missing_name view_name

abbrev pub view_literal : Literal → loose.Literal
view_literal literals.True = loose.true_
view_literal literals.False = loose.false_
view_literal (literals.Num n) = loose.num n
view_literal (literals.Str s) = loose.str (shown_str s.value)

abbrev pub shown_literal : Node (Option Literal) → loose.Literal
shown_literal = shown loose.missing_literal view_literal

abbrev pub view_ref_init : RefInit → loose.RefInit
view_ref_init r = loose.ref_init (shown_ident r.0) (shown_literal r.1)

abbrev pub shown_ref_init : Node (Option RefInit) → loose.RefInit
shown_ref_init = shown loose.missing_ref_init view_ref_init

abbrev pub view_ref : Ref → loose.Ref
view_ref (refs.Uid path eid) = loose.uid (shown_name path) (shown_str eid)
view_ref (refs.Ref path rinits) = loose.ref (shown_name path) (map shown_ref_init rinits.items)

abbrev pub shown_ref : Node (Option Ref) → loose.Ref
shown_ref = shown loose.missing_ref view_ref

abbrev pub view_slot : Slot → loose.Slot
view_slot slots.Principal = loose.principal_slot
view_slot slots.Resource = loose.resource_slot
view_slot (slots.Other s) = loose.other_slot (rc_str_bytes s)

abbrev pub shown_slot : Node (Option Slot) → loose.Slot
shown_slot = shown loose.missing_slot view_slot

abbrev pub view_rel_op : RelOp → loose.RelOp
view_rel_op relations.Less = loose.less
view_rel_op relations.LessEq = loose.less_eq
view_rel_op relations.GreaterEq = loose.greater_eq
view_rel_op relations.Greater = loose.greater
view_rel_op relations.NotEq = loose.not_eq
view_rel_op relations.Eq = loose.eq
view_rel_op relations.In = loose.in_
view_rel_op relations.InvalidSingleEq = loose.invalid_single_eq

abbrev pub view_add_op : AddOp → loose.AddOp
view_add_op sums.Plus = loose.plus
view_add_op sums.Minus = loose.minus

abbrev pub view_mult_op : MultOp → loose.MultOp
view_mult_op products.Times = loose.times
view_mult_op products.Divide = loose.divide
view_mult_op products.Mod = loose.mod_

abbrev pub view_neg_op : NegOp → loose.NegOp
view_neg_op (signs.Bang n) = loose.bang n
view_neg_op signs.OverBang = loose.over_bang
view_neg_op (signs.Dash n) = loose.dash n
view_neg_op signs.OverDash = loose.over_dash
