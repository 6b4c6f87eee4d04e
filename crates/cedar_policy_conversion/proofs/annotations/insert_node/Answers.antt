-- One more annotation is made and put beside what was made of those before it.
use Rattle.std.proofs.Common.{◌≡◌, ◌⊎◌, inl, inr, Some, sym, ap, ◌∙◌, subst}
use Rattle.cedar_language.specs.Uid.{Text}
use Rattle.cedar_grammar.specs.Build.{keys}
use Rattle.cedar_grammar.specs.Loose as loose
use Rattle.cedar_cst.specs.View.{shown_annotation}
use Rattle.cedar_faults.proofs.Telling.{told_more}
use Rattle.cedar_policy_conversion.specs.Notes.{placed_note}
use Rattle.cedar_policy_conversion.specs.PartsShow.{annotation_key, again_shows}
use Rattle.cedar_policy_conversion.proofs.Making.{node_put, key_is}
use Rattle.cedar_policy_conversion.proofs.annotations.insert_node.Goals as goal

pub returns-clause-made : goal.returns-clause-made
returns-clause-made g c =
    node_put _ c.args.notes.now.entries c.insert_new.new.notes.entries (placed_note c.args.node.now) (c.in_ok-key.key, c.in_ok-key.value) c.insert_new.result c.in_ok-key.ensures.made c.insert_new.ensures.put

own_key : (x : loose.Annotation) (key k : Text) (among : Type 0) → annotation_key x ≡ Some key → (k ≡ key) ⊎ among → (annotation_key x ≡ Some k) ⊎ among
own_key x key k among is (inl same) = inl (is ∙ ap Some (sym same))
own_key x key k among is (inr other) = inr other

pub returns-clause-shown : goal.returns-clause-shown
returns-clause-shown g c =
    let x = shown_annotation c.args.node.now in
    let ks = keys c.args.notes.now.entries in
    let is : annotation_key x ≡ Some c.in_ok-key.key = key_is _ c.args.node.now (c.in_ok-key.key, c.in_ok-key.value) c.in_ok-key.ensures.made in
    told_more c.insert_new.result _ _ (λ k s. inr (subst (λ j. again_shows ks x j) (sym s.0) (is, s.1))) c.insert_new.ensures.kind

pub returns-clause-keys : goal.returns-clause-keys
returns-clause-keys g c k h =
    let x = shown_annotation c.args.node.now in
    let is : annotation_key x ≡ Some c.in_ok-key.key = key_is _ c.args.node.now (c.in_ok-key.key, c.in_ok-key.value) c.in_ok-key.ensures.made in
    own_key x c.in_ok-key.key k _ is (c.insert_new.ensures.keys k h)
