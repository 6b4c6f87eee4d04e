-- Which kinds of faults the clauses of a policy show: one rule for a kind, at the node where it may be told.
use Rattle.std.specs.Prelude.{◌≡◌, ◌⊎◌, List, [], ◌∷◌, Option, Some, None}
use Rattle.std.specs.Option.{option_map, unwrap_or}
use Rattle.cedar_grammar.specs.Names.{Names}
use Rattle.cedar_grammar.specs.Loose as loose
use Rattle.cedar_cst.specs.LeafView.{view_ident}
use Rattle.cedar_faults.specs.declared.kinds.ToASTErrorKind.{ToASTErrorKind}
use Rattle.cedar_faults.specs.declared.kinds.ToASTErrorKind.TheVariants as kinds
use Rattle.cedar_conversion.specs.Shown.{missing_shows}
use Rattle.cedar_conversion.specs.Shows.{expr_shows}
use Rattle.cedar_policy_conversion.specs.Clauses.{clause_word}

-- of what a clause begins with
abbrev pub clause_word_shows : loose.Ident → ToASTErrorKind → Type 0
clause_word_shows i kinds.EmptyNodeInvariantViolation = i ≡ loose.missing_ident
clause_word_shows i (kinds.InvalidCondition word) = (view_ident word ≡ i) × (clause_word i ≡ None)
clause_word_shows i kind = ⊥

-- of what stands between the braces of a clause that begins so, if anything does
abbrev pub condition_shows : Names → loose.Ident → Option loose.Expr → ToASTErrorKind → Type 0
condition_shows names i None (kinds.EmptyClause word) = unwrap_or (option_map view_ident word) loose.missing_ident ≡ i
condition_shows names i None kind = ⊥
condition_shows names i (Some e) kind = expr_shows names e kind

abbrev pub clause_shows : Names → loose.Cond → ToASTErrorKind → Type 0
clause_shows names loose.missing_cond kind = missing_shows kind
clause_shows names (loose.cond i e) kind = clause_word_shows i kind ⊎ condition_shows names i e kind

abbrev pub clauses_show : Names → List loose.Cond → ToASTErrorKind → Type 0
clauses_show names [] kind = ⊥
clauses_show names (c ∷ cs) kind = clause_shows names c kind ⊎ clauses_show names cs kind
