-- One block more is told, if it is reserved.
use Rattle.std.proofs.Common.{◌≡◌, ◌+◌, ◌<◌, ◌≤◌, ℕ, List, [], ◌∷◌, ◌++◌, length, take, get_or, append_assoc, arith, sym, ap, ◌∙◌, subst}
use Rattle.std.specs.Prelude.{map}
use Rattle.std.proofs.lemmas.List.{append-nil, map-append, take_more, take_all}
use Rattle.cedar_schema_grammar.specs.Syntax.{Namespace}
use Rattle.cedar_schema_grammar.specs.Faults.{SchemaFault, faults_of_all, namespace_faults}
use Rattle.cedar_schema_syntax.specs.View.{namespace_view}
use Rattle.cedar_schema_faults.specs.Views.{faults_view}
use Rattle.cedar_schema_faults.proofs.Telling.{of_all_parts, of_one}
use Rattle.cedar_schema_faults.proofs.declarations.tell_reserved_namespaces.Goals as goal

next_told : {A X : Type 0} (view : X → A) (f : A → List SchemaFault) (xs : List X) (i : ℕ) (x : X) (old mid new : List SchemaFault) → i < length xs
    → x ≡ get_or xs i x → mid ≡ old ++ faults_of_all f (map view (take i xs)) → new ≡ mid ++ f (view x)
    → new ≡ old ++ faults_of_all f (map view (take (i + 1) xs))
next_told view f xs i x old mid new low here e g =
    let cut : map view (take (i + 1) xs) ≡ map view (take i xs) ++ view x ∷ []
    = ap (map view) (take_more xs i x low ∙ ap (λ y. take i xs ++ y ∷ []) (sym here)) ∙ map-append view (take i xs) (x ∷ []) in
    g ∙ ap (λ fs. fs ++ f (view x)) e ∙ append_assoc old (faults_of_all f (map view (take i xs))) (f (view x))
    ∙ ap (λ fs. old ++ fs) (sym (ap (faults_of_all f) cut ∙ of_all_parts f (map view (take i xs)) (view x ∷ [])
    ∙ ap (λ fs. faults_of_all f (map view (take i xs)) ++ fs) (of_one f (view x))))

pub loop-block-init : goal.loop-block-init
loop-block-init c = record { far = sym (append-nil (faults_view c.args.told.now)) }

pub loop-block-preserved : goal.loop-block-preserved
loop-block-preserved c =
    let low : c.loop-block.block-index < length c.args.blocks.now = omega arith in
    let here : c.block-item.result ≡ get_or c.args.blocks.now c.loop-block.block-index c.block-item.result = cc in
    record {
      far = next_told namespace_view namespace_faults c.args.blocks.now c.loop-block.block-index c.block-item.result (faults_view c.args.told.now)
          (faults_view c.loop-block.told) (faults_view c.tell_reserved_namespace.new.told) low here c.loop-block.invariant.far
          c.in_ok-tell_reserved_namespace.ensures;
    }

pub returns : goal.returns
returns c =
    let past : length c.args.blocks.now ≤ c.loop-block.block-index = omega arith in
    subst (λ xs. faults_view c.loop-block.told ≡ faults_view c.args.told.now ++ faults_of_all namespace_faults (map namespace_view xs))
    (take_all c.loop-block.block-index c.args.blocks.now past) c.loop-block.invariant.far
