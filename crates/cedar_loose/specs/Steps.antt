-- Single tokens at the front.
use Rattle.std.specs.Prelude.{List, [], ◌∷◌, Option, Some, None, Result, Ok, Err, Bool, true, false}
use Rattle.cedar_grammar.specs.Token as token
use Rattle.cedar_grammar.specs.Token.{Mark, Token, word, number, text, slot}
use Rattle.cedar_grammar.specs.Steps.{is_mark, eat, eat_in}
use Rattle.cedar_grammar.specs.Loose.{Slot, Expr, Add, Relation, common, adds}
use Rattle.cedar_grammar.specs.LooseReading.{slot_of, Fault, syntax, Reader, ◌>>◌, mapped, needed, links_of, rel_op, add_of, is_step}

-- the mark is next
abbrev pub begins : Mark → List Token → Bool
begins m [] = false
begins m (t ∷ ts) = is_mark m t

-- a literal is next
abbrev pub begins_literal : List Token → Bool
begins_literal (word token.True ∷ ts) = true
begins_literal (word token.False ∷ ts) = true
begins_literal (number n ∷ ts) = true
begins_literal (text raw ∷ ts) = true
begins_literal ts = false

-- a word is next that may begin a name in an expression
abbrev pub begins_name : List Token → Bool
begins_name (word token.If ∷ ts) = false
begins_name (word token.True ∷ ts) = false
begins_name (word token.False ∷ ts) = false
begins_name (word w ∷ ts) = true
begins_name ts = false

-- a slot alone
abbrev pub slot_read : Reader Slot
slot_read (slot w ∷ ts) = Ok (slot_of w, ts)
slot_read ts = Err syntax

-- no token is left
abbrev pub ended : List Token → Result (List Token) Fault
ended [] = Ok []
ended (t ∷ ts) = Err syntax

abbrev pub eat_if : List Token → Option (List Token)
eat_if (word token.If ∷ ts) = Some ts
eat_if ts = None

abbrev pub eat_has : List Token → Option (List Token)
eat_has (word token.Has ∷ ts) = Some ts
eat_has ts = None

abbrev pub eat_like : List Token → Option (List Token)
eat_like (word token.Like ∷ ts) = Some ts
eat_like ts = None

-- ---- relations, behind their first operand

-- what follows `a is`
abbrev pub is_of : Reader Expr → Add → Reader Relation
is_of inner a ts = add_of inner ts >> λ t. is_step inner a t.0 t.1 (eat_in t.1)

-- what a is compared with
abbrev pub comparisons_of : Reader Expr → Add → Reader Relation
comparisons_of inner a ts = mapped (λ bs. common a (adds bs)) (links_of rel_op (add_of inner) ts)

-- ---- what is closed

-- the mark, which has to be next, and what stood before it
abbrev pub closed_by : {A : Type 0} → Mark → A → Reader A
closed_by m x ts = needed (eat m ts) >> λ us. Ok (x, us)
