-- Of names those for which an expression waits.
use Rattle.std.proofs.Common.{◌≡◌, ◌∙◌, sym, ap, Bool, ◌&&◌, List}
use Rattle.std.proofs.lemmas.Map.Views.{any-filter_same}
use Rattle.std.specs.List.{filter, list_any}
use Rattle.cedar_telling.proofs.JoinedIds.{same_text}
use Rattle.cedar_language.specs.Uid.{Text}
use Rattle.cedar_world.specs.Orders.{text_eq}
use Rattle.cedar_authoring.specs.Awaiting.{awaits}

pub awaited_among : (standing names : List Text) (n : Text) → list_any (text_eq n) (filter (awaits standing) names) ≡ (awaits standing n && list_any (text_eq n) names)
awaited_among standing names n = any-filter_same (text_eq n) (awaits standing) (awaits standing n) (λ m same. ap (awaits standing) (sym (same_text n m same))) names

-- These are listed, where it is known which of the others are untold.
pub to_tell : (names standing left untold : List Text) (is_untold : Text → Bool) → names ≡ filter (awaits standing) untold → standing ≡ left
    → ((n : Text) → list_any (text_eq n) untold ≡ is_untold n) → (n : Text) → list_any (text_eq n) names ≡ (awaits left n && is_untold n)
to_tell names standing left untold is_untold made same are n =
    ap (list_any (text_eq n)) made
    ∙ awaited_among standing untold n
    ∙ ap (λ s. awaits s n && list_any (text_eq n) untold) same
    ∙ ap (λ b. awaits left n && b) (are n)
