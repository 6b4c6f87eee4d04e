-- How a session that reads the body of a command shows its steps: which case comes first, and where none stands.
use Rattle.std.proofs.Common.{◌≡◌, inl, ℕ, ◌<◌, ◌≤◌, false, true, Option, Some, None, sym, ◌∙◌, ap, subst, true≢false, arith}
use Rattle.cedar_language.specs.Uid as uid
use Rattle.cedar_language.specs.Tree.{Tree}
use Rattle.cedar_language.specs.Height.{height}
use Rattle.cedar_world.specs.World.{World}
use Rattle.cedar_world.specs.Bodies.{is_restricted}
use Rattle.cedar_world.specs.Setting.{Setting, IsBodyWithin, IsBody, BodiesAreOne}
use Rattle.cedar_world.specs.Commands.{Refusal, NotUtf8, Text, Depth, NotRestricted, Shape, rank}
use Rattle.cedar_world.specs.Refusals.{BodyStands}
use Rattle.cedar_world.proofs.Parts.{not_none, same_some}

pub not_below : (n : ℕ) → n < n → ⊥
not_below n below = omega arith

not_late : (n : ℕ) → n ≤ 5 → 5 < n → ⊥
not_late n early late = omega arith

module _ (by : Setting) (old : World) (text : uid.Text) {B : Type 0} (read : Tree → Option B) (cases : B → Refusal → Type 0) where
  abbrev pub Stand : Refusal → Type 0
  Stand r = BodyStands by old text read cases r

  -- the case stands, and none before it
  abbrev pub First : Refusal → Type 0
  First r = Stand r × ((s : Refusal) → rank s < rank r → Stand s → ⊥)

  -- that a body is no UTF-8 is no case of a body that was read
  module _ (utf8 : (b : B) → cases b NotUtf8 → ⊥) where
    pub no_text : ((tree : Tree) → IsBody by text tree → ⊥) → First Text
    no_text none = (none, before)
      where
        before : (s : Refusal) → rank s < rank Text → Stand s → ⊥
        before NotUtf8 below h = utf8 h.1 h.4
        before Text below h = not_below 2 below
        before s below h = omega arith

    module _ (once : BodiesAreOne by) (tree : Tree) (reads : IsBodyWithin by by.depth text tree) (low : height tree ≤ by.depth) where
      is_tree : (t : Tree) → IsBody by text t → t ≡ tree
      is_tree t h = once text t tree h (by.depth, reads)

      pub not_restricted : is_restricted tree ≡ false → First NotRestricted
      not_restricted not = ((tree, (by.depth, reads), not), before)
        where
          before : (s : Refusal) → rank s < rank NotRestricted → Stand s → ⊥
          before NotUtf8 below h = utf8 h.1 h.4
          before Text below h = h tree (by.depth, reads)
          before Depth below h = h (inl (tree, reads, low))
          before NotRestricted below h = not_below 4 below
          before s below h = omega arith

      module _ (restricted : is_restricted tree ≡ true) where
        is_restricted_too : (t : Tree) → IsBody by text t → is_restricted t ≡ false → ⊥
        is_restricted_too t h not = true≢false (sym restricted ∙ sym (ap is_restricted (is_tree t h)) ∙ not)

        pub misshapen : read tree ≡ None → First Shape
        misshapen none = ((tree, (by.depth, reads), none), before)
          where
            before : (s : Refusal) → rank s < rank Shape → Stand s → ⊥
            before NotUtf8 below h = utf8 h.1 h.4
            before Text below h = h tree (by.depth, reads)
            before Depth below h = h (inl (tree, reads, low))
            before NotRestricted below h = is_restricted_too h.0 h.1 h.2
            before Shape below h = not_below 5 below
            before s below h = omega arith

        module _ (b : B) (shape : read tree ≡ Some b) where
          has_shape : (t : Tree) → IsBody by text t → read t ≡ None → ⊥
          has_shape t h none = not_none b (sym none ∙ ap read (is_tree t h) ∙ shape)

          is_body : (t : Tree) (c : B) → IsBody by text t → read t ≡ Some c → c ≡ b
          is_body t c h is = same_some c b (sym is ∙ ap read (is_tree t h) ∙ shape)

          -- no case stands that isn't one of this body
          pub stands_not : (r : Refusal) → (cases b r → ⊥) → Stand r → ⊥
          stands_not Text none h = h tree (by.depth, reads)
          stands_not Depth none h = h (inl (tree, reads, low))
          stands_not NotRestricted none h = is_restricted_too h.0 h.1 h.2
          stands_not Shape none h = has_shape h.0 h.1 h.2
          stands_not r none h = none (subst (λ c. cases c r) (is_body h.0 h.1 h.2 h.3) h.4)

          pub stands_first : (r : Refusal) → 5 < rank r → cases b r → ((s : Refusal) → rank s < rank r → cases b s → ⊥) → First r
          stands_first NotUtf8 late holds before = absurd (not_late 1 (omega arith) late)
          stands_first Text late holds before = absurd (not_late 2 (omega arith) late)
          stands_first Depth late holds before = absurd (not_late 3 (omega arith) late)
          stands_first NotRestricted late holds before = absurd (not_late 4 (omega arith) late)
          stands_first Shape late holds before = absurd (not_late 5 (omega arith) late)
          stands_first r late holds before = ((tree, b, (by.depth, reads), shape, holds), λ s below. stands_not s (before s below))
