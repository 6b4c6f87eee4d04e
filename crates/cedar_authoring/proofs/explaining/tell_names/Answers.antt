-- The names listed are the untold ones for which what is left waits (Waiting).
use Rattle.std.proofs.Common.{◌≡◌, ◌++◌, ◌∙◌, ℕ, List, Bor, map, refl, ap, append_assoc, codes, string_bytes}
use Rattle.std.specs.List.{list_any}
use Rattle.cedar_language.specs.Uid.{Text}
use Rattle.cedar_session.specs.Lending.{is_untold}
use Rattle.cedar_session.specs.Sessions.{world_of}
use Rattle.cedar_world.specs.Lines.{listed}
use Rattle.cedar_world.specs.Orders.{text_eq}
use Rattle.cedar_refusals.specs.Naming.{in_quotes}
use Rattle.cedar_authoring.specs.Names.{names_left}
use Rattle.cedar_authoring.proofs.Waiting.{to_tell}
use Rattle.cedar_authoring.proofs.explaining.tell_names.Goals as goal

abbrev texts : List (Bor (List ℕ)) → List Text
texts names = map (λ (x : Bor (List ℕ)). x.now) names

pub returns : goal.returns
returns g c =
    let asked = (world_of c.args.session.now).asked in
    let left = names_left c.args.response.now in
    let names = texts c.in_ok-names.names.items in
    let old = string_bytes c.args.told.now in
    let told = listed (map in_quotes names) in
    let standing_is : texts c.as_slice-2.result.now ≡ left =
    ap texts c.as_slice-2.ensures.value ∙ (c.in_ok-push_all_standing.ensures ∙ ap (λ xs. texts xs ++ left) c.new-standing.ensures.items) in
    let untold_is : (n : Text) → list_any (text_eq n) (texts c.as_slice.result.now) ≡ is_untold asked n =
    λ n. ap (λ xs. list_any (text_eq n) (texts xs)) c.as_slice.ensures.value ∙ (c.once-untold.ensures n ∙ c.in_ok-untold.ensures n) in
    let text_is : c.as_str.result.now ≡ told =
    c.as_str.ensures.value ∙ (c.in_ok-names-2.ensures ∙ ap (λ xs. listed (map in_quotes (texts xs))) c.as_slice-3.ensures.value) in
    let whole : string_bytes c.push_str-3.new.self ≡ old ++ ((codes "tell " ++ told) ++ codes "\n") =
    c.in_ok-push_str-3.ensures.bytes
    ∙ (ap (λ t. t ++ codes "\n") (c.in_ok-push_str-2.ensures.bytes ∙ (ap (λ t. t ++ c.as_str.result.now) c.in_ok-push_str.ensures.bytes ∙ ap (λ t. (old ++ codes "tell ") ++ t) text_is))
    ∙ (ap (λ t. t ++ codes "\n") (append_assoc old (codes "tell ") told) ∙ append_assoc old (codes "tell " ++ told) (codes "\n"))) in (
      (codes "tell " ++ told) ++ codes "\n",
      record { names = names; are = to_tell names (texts c.as_slice-2.result.now) left (texts c.as_slice.result.now) (is_untold asked) c.in_ok-names.ensures standing_is untold_is; lists = refl },
      whole,
    )
