-- Where nothing refuses a command, no case of a refusal stands.
use Rattle.std.proofs.Common.{ℕ, zero, suc, ◌<◌, arith}
use Rattle.cedar_language.specs.Uid as uid
use Rattle.cedar_world.specs.World.{World}
use Rattle.cedar_world.specs.Setting.{Setting}
use Rattle.cedar_world.specs.Commands.{Verb, Refusal, Depth, rank}
use Rattle.cedar_world.specs.Refusals.{Stands, IsFirst, FirstOrDeep}

module _ (by : Setting) (world : World) (text : uid.Text) (verb : Verb) where
  first_or_deep : (r : Refusal) → IsFirst by world text verb r → FirstOrDeep by world text verb r
  first_or_deep Depth h = h.0
  first_or_deep r h = h

  -- of the cases that stand one is the first
  up_to : ((r : Refusal) → FirstOrDeep by world text verb r → ⊥) → (n : ℕ) (r : Refusal) → rank r < n → Stands by world text verb r → ⊥
  up_to none zero r below h = absurd (nothing below)
    where
      nothing : rank r < zero → ⊥
      nothing b = omega arith
  up_to none (suc n) r below h = none r (first_or_deep r (h, λ s lower. up_to none n s (omega arith)))

  pub none_stands : ((r : Refusal) → FirstOrDeep by world text verb r → ⊥) → (r : Refusal) → Stands by world text verb r → ⊥
  none_stands none r h = up_to none (suc (rank r)) r (omega arith) h
