use Rattle.cedar_language.specs.Tree.{Tree}
use Rattle.cedar_conversion.specs.Building.{IsBuilt}
use Rattle.cedar_conversion.specs.Joints.{repeated}
use Rattle.cedar_conversion.proofs.signs.signed.Given as goal

abbrev pub invariant-signs : goal.invariant-signs
invariant-signs g l = (t : Tree) → IsBuilt g.B.ExprBuilder.operations g.B.ExprBuilder.meaning l.initial.made t → IsBuilt g.B.ExprBuilder.operations g.B.ExprBuilder.meaning l.made (repeated l.sign l._done t)
