-- What is written behind one another.
use Rattle.std.proofs.Common.{◌≡◌, ◌++◌, List, ap, ◌∙◌, append_assoc}

pub three_written : {A : Type 0} (start first second third x y z : List A) → first ≡ start ++ x → second ≡ first ++ y → third ≡ second ++ z
    → third ≡ start ++ (x ++ (y ++ z))
three_written start first second third x y z e f g =
    g ∙ (ap (λ t. t ++ z) (f ∙ ap (λ t. t ++ y) e) ∙ (append_assoc (start ++ x) y z ∙ append_assoc start x (y ++ z)))

pub four_written : {A : Type 0} (start first second third fourth w x y z : List A) → first ≡ start ++ w → second ≡ first ++ x → third ≡ second ++ y
    → fourth ≡ third ++ z → fourth ≡ start ++ (w ++ (x ++ (y ++ z)))
four_written start first second third fourth w x y z e f g h =
    three_written first second third fourth x y z f g h ∙ (ap (λ t. t ++ (x ++ (y ++ z))) e ∙ append_assoc start w (x ++ (y ++ z)))
