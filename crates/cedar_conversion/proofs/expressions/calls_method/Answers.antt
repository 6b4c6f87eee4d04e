-- Where there is no second access, none is a call that names a method.
use Rattle.std.proofs.Common.{◌≤◌, length, sym, subst}
use Rattle.cedar_cst.specs.View.{shown_mem_access}
use Rattle.cedar_conversion.proofs.Behind.{no_second}
use Rattle.cedar_conversion.proofs.expressions.calls_method.Goals as goal

pub returns-in-None : goal.returns-in-None
returns-in-None c = sym (no_second shown_mem_access c.args.accesses.now.items (subst (λ ys. length ys ≤ 1) c.deref.ensures.value c.in-None.ensures.lookup.3))
