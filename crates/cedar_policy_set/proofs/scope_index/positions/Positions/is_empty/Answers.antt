-- Where none is listed under any entity, there is no list, since none is empty.
use Rattle.std.proofs.Common.{◌≡◌, ℕ, List, [], ◌∷◌, Some, cond, refl, sym, ap, ◌∙◌, Vec, Global, length, arith}
use Rattle.std.specs.BTreeMap.{is_at}
use Rattle.std.specs.Cmp.Lexicographic.{nat_list_eq_equiv}
use Rattle.std.specs.Map.{lookup}
use Rattle.std.specs.Option.{option_map_or}
use Rattle.cedar_language.specs.Uid.{Text}
use Rattle.cedar_language.specs.Order.{text_cmp}
use Rattle.cedar_policy_set.specs.ScopeLists.{ListsSome}
use Rattle.cedar_policy_set.proofs.ListedPlaces.{at_same}
use Rattle.cedar_policy_set.proofs.scope_index.positions.Positions.is_empty.Goals as goal

no_list : (es : List (Text × Vec ℕ Global)) → ListsSome (λ t. lookup (is_at (text_cmp t)) es) → ((t : Text) → option_map_or (λ v. v.items) (lookup (is_at (text_cmp t)) es) [] ≡ []) → es ≡ []
no_list [] listing none = refl
no_list (e ∷ es) listing none =
    let there : lookup (is_at (text_cmp e.0)) (e ∷ es) ≡ Some e.1 = ap (λ b. cond b (Some e.1) (lookup (is_at (text_cmp e.0)) es)) (at_same e.0 e.0 ∙ nat_list_eq_equiv.refl e.0) in
    absurd (listing e.0 e.1 there (sym (ap (λ o. option_map_or (λ v. v.items) o []) there) ∙ none e.0))

none_listed : (es : List (Text × Vec ℕ Global)) (t : Text) → length es ≡ 0 → option_map_or (λ v. v.items) (lookup (is_at (text_cmp t)) es) [] ≡ []
none_listed [] t none = refl
none_listed (e ∷ es) t none = absurd (omega (arith, none))

pub returns : goal.returns
returns c =
    let m = c.args.self.now.by_id in
    (λ empty u. none_listed m.entries u.id (c.is_empty.ensures.0 empty), λ none. c.is_empty.ensures.1 (ap length (no_list m.entries c.args.self.now.listing (λ t. none (record { type_name = []; id = t })))))
