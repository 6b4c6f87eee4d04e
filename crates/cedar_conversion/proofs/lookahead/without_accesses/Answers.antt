-- A member of which something is accessed doesn't stand without accesses.
use Rattle.std.proofs.Common.{◌<◌, length, sym, ap, ◌∙◌}
use Rattle.std.specs.Prelude.{◌==◌}
use Rattle.cedar_grammar.specs.Loose as loose
use Rattle.cedar_grammar.specs.Converting.{without_accesses}
use Rattle.cedar_cst.specs.declared.cst.Member.{out-Member}
use Rattle.cedar_cst.specs.View.{view_member, shown_primary, shown_mem_access}
use Rattle.cedar_cst.proofs.Views.{seen, view_member_out}
use Rattle.cedar_conversion.proofs.Steps.{accessed, some_more}
use Rattle.cedar_conversion.proofs.lookahead.without_accesses.Goals as goal

pub returns-else-is_empty : goal.returns-else-is_empty
returns-else-is_empty c =
    let t = c.in-Some.member in
    let v = (out-Member t).access in
    let xs = v.items in
    let some : 0 < length xs = some_more xs (ap (λ n. n == 0) (sym v.ok.0) ∙ sym c.is_empty.ensures ∙ c.if-is_empty.false) in
    sym (ap without_accesses (seen loose.missing_member view_member c.args.node.now t c.in-Some.is ∙ view_member_out t) ∙ accessed (shown_primary (out-Member t).item.value) shown_mem_access xs some)
