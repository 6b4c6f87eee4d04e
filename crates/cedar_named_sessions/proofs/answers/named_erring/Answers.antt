-- The kinds stay.
use Rattle.std.proofs.Common.{map, ap, ◌∙◌}
use Rattle.std.specs.FinMap as finite
use Rattle.std.proofs.lemmas.List.Folds.{list_all-map}
use Rattle.cedar_language.specs.Order.{text_cmp}
use Rattle.cedar_replies.specs.Erring.{has_kind, have_kinds, with_kinds}
use Rattle.cedar_named_sessions.specs.NameLists.{name_of}
use Rattle.cedar_named_sessions.proofs.Given.{ok_more}
use Rattle.cedar_named_sessions.proofs.Renaming.{renamed, kinds_renamed}
use Rattle.cedar_named_sessions.proofs.answers.named_erring.Goals as goal

pub new-requires : goal.new-requires
new-requires c =
    ap have_kinds c.in_ok-named_entries.ensures ∙ list_all-map has_kind (renamed (name_of c.args.names.now)) c.as_slice.result.now ∙ c.as_slice.ensures.kinds

pub returns : goal.returns
returns c =
    let name = name_of c.args.names.now in
    let same = ap with_kinds c.in_ok-named_entries.ensures ∙ kinds_renamed name c.as_slice.result.now ∙ ap (map (renamed name)) c.as_slice.ensures.entries in
    ok_more (λ told is. is ∙ ap (finite.from_entries {R = text_cmp}) same) c.new.result c.new.ensures
