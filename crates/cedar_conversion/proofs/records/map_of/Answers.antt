-- Entries in order are what putting them one by one into nothing gives, or else a key stands twice.
use Rattle.std.proofs.Common.{◌≡◌, ◌∷◌, Err, sym, ap, ◌∙◌, subst, rules}
use Rattle.std.specs.Prelude.{cond}
use Rattle.std.specs.Rc.{rc_str_bytes}
use Rattle.cedar_grammar.specs.Build.{keys, put}
use Rattle.cedar_trees.proofs.Records.{all_put}
use Rattle.cedar_faults.proofs.Telling.{handed_on, tells_more}
use Rattle.cedar_conversion.specs.Entries.{keyed}
use Rattle.cedar_conversion.proofs.Ordering.{given, ordered_put}
use Rattle.cedar_conversion.proofs.Twice.{TwiceSoFar, none_twice, more_twice, is_twice}
use Rattle.cedar_conversion.proofs.records.map_of.Goals as goal

pub pairs-init : goal.pairs-init
pairs-init g c =
    let ps = c.args.pairs.items in
    let same : c.into_iter-key-iterator.result.rest.items ≡ ps = search rules in
    record {
      map = ordered_put (keyed ps) ∙ ap (λ es. given (all_put (keyed es) (keyed ps))) (sym c.new-map.ensures.empty) ∙ ap (λ es. given (all_put (keyed c.new-map.result.entries) (keyed es))) (sym same);
      twice = subst (λ es. TwiceSoFar (keys (keyed c.new-map.result.entries)) (keys (keyed es)) (keys (keyed ps))) (sym same) (subst (λ es. TwiceSoFar (keys (keyed es)) (keys (keyed ps)) (keys (keyed ps))) (sym c.new-map.ensures.empty) (none_twice (keys (keyed ps))));
    }

pub pairs-preserved : goal.pairs-preserved
pairs-preserved g c =
    let old = keyed c.pairs.map.entries in
    let t = rc_str_bytes c.in-Some.key in
    let rest = keyed c.next.new.self.rest.items in
    let cut : c.pairs.key-iterator.rest.items ≡ (c.in-Some.key, c.in-Some.expr) ∷ c.next.new.self.rest.items = search rules in
    let puts = c.in_ok-insert_new.ensures.put in
    record {
      map = c.pairs.invariant.map ∙ ap (λ ps. given (all_put old (keyed ps))) cut ∙ ap (λ b. given (cond b (Err t) (all_put (put (t, c.in-Some.expr) old) rest))) puts.0 ∙ ap (λ es. given (all_put es rest)) (sym puts.1);
      twice = subst (λ es. TwiceSoFar (keys es) (keys rest) (keys (keyed c.args.pairs.items))) (sym puts.1) (more_twice t c.in-Some.expr old (keys rest) _ (subst (λ ps. TwiceSoFar (keys old) (keys (keyed ps)) (keys (keyed c.args.pairs.items))) cut c.pairs.invariant.twice));
    }

pub returns-in_err-insert_new-clause-shown : goal.returns-in_err-insert_new-clause-shown
returns-in_err-insert_new-clause-shown g c =
    let cut : c.pairs.key-iterator.rest.items ≡ (c.in-Some.key, c.in-Some.expr) ∷ c.next.new.self.rest.items = search rules in
    handed_on c.from_residual.result c.in_err-insert_new.field-0.0 _ c.from_residual.ensures
    (tells_more _ _ _ (λ k s. is_twice (rc_str_bytes c.in-Some.key) (keys (keyed c.pairs.map.entries)) (keys (keyed c.next.new.self.rest.items)) _ k (subst (λ ps. TwiceSoFar (keys (keyed c.pairs.map.entries)) (keys (keyed ps)) (keys (keyed c.args.pairs.items))) cut c.pairs.invariant.twice) s.0 s.1) c.in_err-insert_new.ensures.shown)
