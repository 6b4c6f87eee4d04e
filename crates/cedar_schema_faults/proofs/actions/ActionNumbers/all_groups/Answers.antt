-- One row more stands behind the others.
use Rattle.std.proofs.Common.{◌≡◌, ◌+◌, ◌<◌, ◌≤◌, ℕ, List, [], ◌∷◌, ◌++◌, length, take, get_or, arith, sym, ap, ◌∙◌, subst}
use Rattle.std.specs.Prelude.{map}
use Rattle.std.specs.Global.{Vec}
use Rattle.std.proofs.lemmas.List.{map-append, take_more, take_all}
use Rattle.cedar_schema_resolution.specs.Declarations.{action_view}
use Rattle.cedar_schema_resolution.specs.declared.declarations.DeclaredAction.{DeclaredAction}
use Rattle.cedar_schema_faults.specs.Actions.{groups_in}
use Rattle.cedar_schema_faults.specs.declared.actions.ActionNumbers.{ActionNumbers}
use Rattle.cedar_schema_faults.proofs.actions.ActionNumbers.all_groups.Goals as goal

one_row : (c : ActionNumbers) (xs : List DeclaredAction) (i : ℕ) (x : DeclaredAction) (old new : List (Vec ℕ)) (row : Vec ℕ) → i < length xs → x ≡ get_or xs i x
    → map (λ (r : Vec ℕ). r.items) old ≡ map (groups_in c) (map action_view (take i xs)) → row.items ≡ groups_in c (action_view x) → new ≡ old ++ row ∷ []
    → map (λ (r : Vec ℕ). r.items) new ≡ map (groups_in c) (map action_view (take (i + 1) xs))
one_row c xs i x old new row low here e f put =
    let cut : map action_view (take (i + 1) xs) ≡ map action_view (take i xs) ++ action_view x ∷ []
    = ap (map action_view) (take_more xs i x low ∙ ap (λ y. take i xs ++ y ∷ []) (sym here)) ∙ map-append action_view (take i xs) (x ∷ []) in
    ap (map (λ (r : Vec ℕ). r.items)) put ∙ map-append (λ (r : Vec ℕ). r.items) old (row ∷ []) ∙ ap (λ rs. rs ++ row.items ∷ []) e
    ∙ ap (λ r. map (groups_in c) (map action_view (take i xs)) ++ r ∷ []) f
    ∙ sym (ap (map (groups_in c)) cut ∙ map-append (groups_in c) (map action_view (take i xs)) (action_view x ∷ []))

pub loop-action-preserved : goal.loop-action-preserved
loop-action-preserved c =
    let low : c.loop-action.action-index < length c.args.actions.now = omega arith in
    let here : c.action-item.result ≡ get_or c.args.actions.now c.loop-action.action-index c.action-item.result = cc in
    record {
      rows = one_row c.args.self.now c.args.actions.now c.loop-action.action-index c.action-item.result c.loop-action.all.items c.push.new.self.items
          c.in_ok-groups.field-0 low here c.loop-action.invariant.rows c.in_ok-groups.ensures c.in_ok-push.ensures.items;
    }

pub returns : goal.returns
returns c =
    let past : length c.args.actions.now ≤ c.loop-action.action-index = omega arith in
    subst (λ xs. map (λ (row : Vec ℕ). row.items) c.loop-action.all.items ≡ map (groups_in c.args.self.now) (map action_view xs))
    (take_all c.loop-action.action-index c.args.actions.now past) c.loop-action.invariant.rows
