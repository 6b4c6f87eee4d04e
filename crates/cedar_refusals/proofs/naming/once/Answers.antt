-- Sorting and leaving out what stands twice keep which names there are (NamesOnce).
use Rattle.std.proofs.Common.{◌∙◌, ℕ, List, Bor, ap, sym}
use Rattle.std.proofs.lemmas.List.Filters.{dedup_is}
use Rattle.std.proofs.lemmas.List.Sorted.{list_any-IsPermutation}
use Rattle.std.specs.List.{list_any}
use Rattle.std.specs.Str.{bytes_eq}
use Rattle.std.specs.Cmp.Lexicographic.{bytes_decides}
use Rattle.cedar_world.specs.Orders.{text_eq}
use Rattle.cedar_refusals.proofs.NamesOnce.{any-dedup, any-map}
use Rattle.cedar_refusals.proofs.naming.once.Goals as goal

pub returns : goal.returns
returns c = λ n.
    let test = λ (x : Bor (List ℕ)). text_eq n x.now in
    let same = λ (a b : Bor (List ℕ)). bytes_eq a.now b.now in
    any-map (λ (x : Bor (List ℕ)). x.now) (text_eq n) c.dedup.new.self.items
    ∙ ap (list_any test) (dedup_is same _ _ c.dedup.ensures.filtered)
    ∙ any-dedup same test (λ a b is. ap (text_eq n) ((bytes_decides a.now b.now).0 is)) c.sort_unstable.new.self.items
    ∙ sym (list_any-IsPermutation test c.args.names.items c.sort_unstable.new.self.items c.sort_unstable.ensures.permutation)
    ∙ sym (any-map (λ (x : Bor (List ℕ)). x.now) (text_eq n) c.args.names.items)
