-- Looking at what was found key by key (Leading).
use Rattle.std.proofs.Common.{◌<◌, ◌≤◌, length, map, ap, sym, ◌∙◌, arith}
use Rattle.std.specs.Map.Iter.{deref}
use Rattle.std.specs.Set.{is_member}
use Rattle.std.proofs.lemmas.List.{length-map}
use Rattle.cedar_closure.specs.Sources.{has_source}
use Rattle.cedar_closure.proofs.Turned.{target_alike}
use Rattle.cedar_closure.proofs.Leading.{lead_on, lead_ends, at_within, clones_apart}
use Rattle.cedar_closure.proofs.sources.Sources.that_lead_to.Goals as goal

pub returns-then-len-most-clause-none : goal.returns-then-len-most-clause-none
returns-then-len-most-clause-none g c =
    let many : c.args.most < length (map deref c.loop-looked.found.keys.items) = omega (arith, length-map c.loop-looked.found.keys.items deref) in
    record {
      some = map deref c.loop-looked.found.keys.items;
      distinct = c.loop-looked.invariant.seen.distinct;
      more = many;
      each = c.loop-looked.invariant.leading.only;
    }

pub loop-looked-preserved : goal.loop-looked-preserved
loop-looked-preserved g c =
    let found = map deref c.loop-looked.found.keys.items in
    let few : length (map deref c.loop-looked.found.keys.items) ≤ c.args.most = omega (arith, length-map c.loop-looked.found.keys.items deref) in
    let below : c.loop-looked.looked < length (map deref c.loop-looked.found.keys.items) = omega (arith, length-map c.loop-looked.found.keys.items deref) in
    let at = at_within found c.loop-looked.looked below in
    record {
      seen = c.in_ok-add_sources.ensures.seen;
      leading = lead_on g.met.K.Eq.laws (has_source g.K.Ord.cmp c.args.self.now) c.args.targets.now c.args.most found (map deref c.add_sources.new.self.keys.items) at.0 c.loop-looked.looked at.1 few
          (c.in_ok-add_sources.ensures.finds at.0 at.1) c.loop-looked.invariant.leading;
      short = omega arith;
    }

pub returns-clause-targets : goal.returns-clause-targets
returns-clause-targets g c = λ q h.
    let few : length (map deref c.loop-looked.found.keys.items) ≤ c.args.most = omega (arith, length-map c.loop-looked.found.keys.items deref) in
    c.in_ok-cloned.ensures.members q ∙ ap (λ ks. is_member g.K.PartialEq.eq (map deref ks) q) c.deref.ensures.value ∙ c.loop-looked.invariant.leading.begun few q h

pub returns-clause-sources : goal.returns-clause-sources
returns-clause-sources g c = λ t s h e.
    let eq = g.K.PartialEq.eq in
    let found = map deref c.loop-looked.found.keys.items in
    let past : length (map deref c.loop-looked.found.keys.items) ≤ c.loop-looked.looked = omega (arith, length-map c.loop-looked.found.keys.items deref) in
    let few : length (map deref c.loop-looked.found.keys.items) ≤ c.args.most = omega (arith, length-map c.loop-looked.found.keys.items deref) in
    c.in_ok-cloned.ensures.members s ∙ ap (λ ks. is_member eq (map deref ks) s) c.deref.ensures.value
    ∙ lead_ends g.met.K.Eq.laws (has_source g.K.Ord.cmp c.args.self.now) c.args.targets.now c.args.most (target_alike g.met.K.Eq.laws g.met.K.Ord.total g.met.K.Ord.matches_eq c.args.self.now)
    found c.loop-looked.looked past few c.loop-looked.invariant.leading t s (sym (c.in_ok-cloned.ensures.members t ∙ ap (λ ks. is_member eq (map deref ks) t) c.deref.ensures.value) ∙ h) e

pub returns-clause-only : goal.returns-clause-only
returns-clause-only g c = λ q h. c.loop-looked.invariant.leading.only q (sym (c.in_ok-cloned.ensures.members q ∙ ap (λ ks. is_member g.K.PartialEq.eq (map deref ks) q) c.deref.ensures.value) ∙ h)

pub returns-clause-once : goal.returns-clause-once
returns-clause-once g c =
    clones_apart g.met.K.Eq.laws (map deref c.loop-looked.found.keys.items) c.in_ok-cloned.field-0.items c.loop-looked.invariant.seen.distinct
    (λ q. c.in_ok-cloned.ensures.members q ∙ ap (λ ks. is_member g.K.PartialEq.eq (map deref ks) q) c.deref.ensures.value)
    (c.in_ok-cloned.ensures.len ∙ ap length c.deref.ensures.value ∙ sym (length-map c.loop-looked.found.keys.items deref))
