-- One more is seen.
use Rattle.std.proofs.Common.{◌≡◌, ◌+◌, ◌<◌, ◌≤◌, ◌∷◌, [], ◌++◌, length, take, sym, ap, ◌∙◌, subst, arith}
use Rattle.std.proofs.lemmas.List.{take_all, take_more}
use Rattle.cedar_validator_schema.specs.Searches.{SeesMore}
use Rattle.cedar_validator_schema.proofs.Seeing.{see_none, sees_on}
use Rattle.cedar_validator_schema.proofs.searches.Search.see_all.Goals as goal

pub loop-key-init : goal.loop-key-init
loop-key-init g c = record { more = see_none g.K.PartialEq.eq g.K.Ord.cmp c.args.self.now }

pub loop-key-preserved : goal.loop-key-preserved
loop-key-preserved g c =
    let low : c.loop-key.key-index < length c.args.keys.now = omega arith in
    let i = c.loop-key.key-index in
    let x = c.key-item.result in
    let cut : take (i + 1) c.args.keys.now ≡ take i c.args.keys.now ++ x ∷ []
    = take_more c.args.keys.now i x low ∙ ap (λ y. take i c.args.keys.now ++ y ∷ []) (sym c.key-item.is) in
    record {
      more = subst (λ ks. SeesMore g.K.PartialEq.eq g.K.Ord.cmp ks c.args.self.now c.see.new.self) (sym cut)
          (sees_on g.K.PartialEq.eq g.K.Ord.cmp (take i c.args.keys.now) (x ∷ []) c.args.self.now c.loop-key.self c.see.new.self
          c.loop-key.invariant.more c.in_ok-see.ensures);
    }

pub returns : goal.returns
returns g c =
    let past : length c.args.keys.now ≤ c.loop-key.key-index = omega arith in
    subst (λ ks. SeesMore g.K.PartialEq.eq g.K.Ord.cmp ks c.args.self.now c.loop-key.self) (take_all c.loop-key.key-index c.args.keys.now past)
    c.loop-key.invariant.more
