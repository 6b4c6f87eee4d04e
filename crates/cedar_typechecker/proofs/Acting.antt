-- Which types are those of actions.
use Rattle.std.proofs.Common.{◌≡◌, ◌∙◌, refl, sym, ap, suc, ◌-◌, Bool, true, List, [], ◌∷◌, length, codes, arith}
use Rattle.std.specs.Prelude.{◌↔◌, IsTrue}
use Rattle.std.specs.List.{slice_index_or}
use Rattle.cedar_language.specs.Uid.{Text, Name}
use Rattle.cedar_language.specs.Order.{same_text}
use Rattle.cedar_names.specs.Names.{basename_of}
use Rattle.cedar_literals.specs.Uids.{IsActionType}
use Rattle.cedar_typing.specs.Schema.{is_action_type}
use Rattle.cedar_typing.proofs.Sameness.{text_is, text_same}
use Rattle.cedar_typechecker.proofs.Among.{same_when}

last_behind : (s t : Text) (ss : List Text) → basename_of (s ∷ t ∷ ss) ≡ basename_of (t ∷ ss)
last_behind s t ss =
    let long : length (s ∷ t ∷ ss) - 1 ≡ suc (length ss) = omega arith in
    let short : length (t ∷ ss) - 1 ≡ length ss = omega arith in
    ap (λ i. slice_index_or (s ∷ t ∷ ss) i []) long ∙ ap (λ i. slice_index_or (t ∷ ss) i []) (sym short)

by_last : (n : Name) → (is_action_type n ≡ true) ↔ IsActionType n
by_last [] = (λ h. cc, λ h. cc)
by_last (s ∷ []) = (λ h. text_is s (codes "Action") h, λ h. ap (same_text s) (sym h) ∙ text_same s)
by_last (s ∷ t ∷ ss) =
    let below = by_last (t ∷ ss) in
    (λ h. last_behind s t ss ∙ below.0 h, λ h. below.1 (sym (last_behind s t ss) ∙ h))

pub action_test : (b : Bool) (n : Name) → IsTrue b ↔ IsActionType n → b ≡ is_action_type n
action_test b n h = same_when b (is_action_type n) h (by_last n)
