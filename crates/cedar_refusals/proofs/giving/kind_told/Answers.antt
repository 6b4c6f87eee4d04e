-- Its line says the kind, and what that is (Below).
use Rattle.std.proofs.Common.{◌≡◌, ◌++◌, ◌∙◌, None, [], codes, string_bytes, ap, sym, subst, append_assoc}
use Rattle.std.proofs.lemmas.List.{append-nil}
use Rattle.cedar_replies.specs.Refusals.{refusal_of}
use Rattle.cedar_world.specs.Lines.{refusal_name}
use Rattle.cedar_messages.specs.Telling.{line_of, IsLine}
use Rattle.cedar_refusals.proofs.giving.kind_told.Goals as goal

pub returns : goal.returns
returns c =
    let name = c.args.name.now in
    let kind = refusal_name (refusal_of c.args.refusal) in
    let words = c.as_str-2.result.now in
    let line = c.as_str-3.result.now in
    let told = c.name.result.now in
    let apart : ((codes "refused " ++ told) ++ codes ": ") ++ words ≡ codes "refused " ++ (told ++ (codes ": " ++ words)) =
    append_assoc (codes "refused " ++ told) (codes ": ") words ∙ append_assoc (codes "refused ") told (codes ": " ++ words) in
    let is : line ≡ ((codes "refused " ++ kind) ++ codes ": ") ++ words =
    c.as_str-3.ensures.value ∙ (c.in_ok-line.ensures.ok ∙ (sym apart ∙ ap (λ k. ((codes "refused " ++ k) ++ codes ": ") ++ words) c.name.ensures)) in
    let whole : string_bytes c.tell_line.new.told ≡ line_of name None (((codes "refused " ++ kind) ++ codes ": ") ++ words) =
    c.in_ok-tell_line.ensures ∙ (ap (λ t. t ++ (line_of name None line ++ [])) c.new-told.ensures.bytes ∙ (append-nil (line_of name None line) ∙ ap (λ l. line_of name None l) is)) in
    (words, subst IsLine (sym c.as_str-2.ensures.value) c.in_ok-words-2.ensures, whole)
