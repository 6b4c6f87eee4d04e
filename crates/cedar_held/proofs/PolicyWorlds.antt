-- The edits of a policy set are those of a world's policies.
use Rattle.std.proofs.Common.{◌≡◌, Bool, true, false, cond, List, [], ◌∷◌, map, refl, sym, ap, ◌∙◌, Option, None, Some}
use Rattle.std.specs.Bool.{Decides}
use Rattle.std.specs.Option.{option_map}
use Rattle.std.specs.Ordering.{eq_by_cmp, is_eq}
use Rattle.std.specs.declared.cmp.Ordering.{Ordering}
use Rattle.std.specs.declared.cmp.Ordering.TheVariants.{Less, Equal, Greater}
use Rattle.std.specs.FinMap as finmap
use Rattle.std.specs.FinMap.{find, get-from_entries, get-remove, from_entries_push, same_map}
use Rattle.std.specs.Map.{lookup}
use Rattle.std.specs.Cmp.Lexicographic.{bytes_decides, nat_list_eq_equiv}
use Rattle.std.proofs.lemmas.Bool.Decides.{same_from_decides}
use Rattle.std.proofs.lemmas.Cmp.{tied_itself}
use Rattle.std.proofs.lemmas.List.{map-append}
use Rattle.std.proofs.lemmas.Map.{lookup-remove_entry}
use Rattle.std.proofs.lemmas.Map.Made.{lookup-map_values}
use Rattle.cedar_language.specs.Uid.{Text}
use Rattle.cedar_language.specs.Order.{same_text, text_cmp}
use Rattle.cedar_language.specs.OrderLaws.{text_cmp_total, text_cmp_same}
use Rattle.cedar_policy_set.specs.Entries.{Entry, bound_at, without}
use Rattle.cedar_held.specs.PolicyWorlds.{world_bound, policies_in, FindsAsWorlds, BindsAsWorlds, RemovesAsWorlds}
use Rattle.cedar_policy_set.proofs.Finding.{same_id}

is_tied : (o : Ordering) → is_eq o ≡ true → o ≡ Equal
is_tied Less h = absurd (cc)
is_tied Equal h = refl
is_tied Greater h = absurd (cc)

ties_decide : (a b : Text) → Decides (eq_by_cmp text_cmp a b) (a ≡ b)
ties_decide a b = (λ h. text_cmp_same a b (is_tied _ h), λ e. ap (λ x. eq_by_cmp text_cmp a x) (sym e) ∙ ap is_eq (tied_itself text_cmp_total a))

pub ties_are : (a b : Text) → eq_by_cmp text_cmp a b ≡ same_text a b
ties_are a b = same_from_decides _ _ (ties_decide a b) (bytes_decides a b)

found_same : {X : Type 0} (k : Text) (es : List (Text × X)) → find text_cmp k es ≡ lookup (same_text k) es
found_same k [] = refl
found_same k (e ∷ es) = (λ i. cond (ties_are k e.0 i) (Some e.1) (found_same k es i))

pub finds_as_worlds : FindsAsWorlds
finds_as_worlds es id =
    get-from_entries text_cmp_total (map (λ e. (e.0, world_bound e.1)) es) id ∙ found_same id (map (λ e. (e.0, world_bound e.1)) es) ∙ lookup-map_values world_bound (same_text id) es

pub binds_as_worlds : BindsAsWorlds
binds_as_worlds es id e free =
    ap finmap.from_entries (map-append (λ x. (x.0, world_bound x.1)) es ((id, e) ∷ []))
    ∙ from_entries_push text_cmp_total text_cmp_same (map (λ x. (x.0, world_bound x.1)) es) id (world_bound e)
    (found_same id (map (λ x. (x.0, world_bound x.1)) es) ∙ lookup-map_values world_bound (same_text id) es ∙ ap (option_map world_bound) free)

under : (c : Bool) (o : Option Entry) → option_map world_bound (cond c None o) ≡ cond c None (option_map world_bound o)
under true o = refl
under false o = refl

pub removes_as_worlds : RemovesAsWorlds
removes_as_worlds es id distinct =
    same_map text_cmp_total text_cmp_same (policies_in (without id es)) (finmap.remove (policies_in es) id)
    (λ q.
    finds_as_worlds (without id es) q
    ∙ ap (option_map world_bound) (lookup-remove_entry nat_list_eq_equiv (same_text id) (λ x y h. ap (λ i. same_text i y) (same_id id x h)) q es distinct)
    ∙ under (same_text id q) (bound_at es q)
    ∙ ap (λ c. cond c None (option_map world_bound (bound_at es q))) (nat_list_eq_equiv.symm id q ∙ sym (ties_are q id))
    ∙ sym (get-remove text_cmp_total (policies_in es) id q ∙ ap (cond (eq_by_cmp text_cmp q id) None) (finds_as_worlds es q)))
