-- What is made of the answers of both walks, and why nothing is.
use Rattle.std.proofs.Common.{◌≡◌, Bool, true, false, Result, Ok, Err, sym, ap, subst, ◌∙◌, ℕ, Global}
use Rattle.std.specs.Result.{IsErrAnd}
use Rattle.std.specs.Rc.{rc_str_bytes}
use Rattle.std.specs.declared.rc.RcStr.{RcStr}
use Rattle.cedar_language.specs.Uid.{Uid}
use Rattle.cedar_extensions.specs.declared.evaluation_error.EvaluationError.{EvaluationError}
use Rattle.cedar_extensions.specs.Table.{Table}
use Rattle.cedar_entities.specs.Attributes.{Entries, seen_entries, attributes_of}
use Rattle.cedar_entities.specs.Data.{UidSet, EntityData}
use Rattle.cedar_entity_evaluation.specs.Evaluated.{Expressions, AreGiven, HoldsWhatIsGiven, IsEvaluated}
use Rattle.cedar_entity_evaluation.specs.Refused.{HaveValues, IsFirstRefused, IfNoValue, IsRefusedAmong, IsCreationRefusal}
use Rattle.cedar_entity_evaluation.specs.declared.evaluation_errors.EntityCreationError.{EntityCreationError}
use Rattle.cedar_entity_evaluation.specs.declared.evaluation_errors.EntityCreationError.TheVariants.{Evaluation, Memory}
use Rattle.cedar_entity_evaluation.proofs.Giving.{holds}

pub at_err : {T E : Type 0} (P : Result T E → Type 0) (Made : E → Type 0) (r : Result T E) → IsErrAnd r Made → ((e : E) → Made e → P (Err e)) → P r
at_err P Made (Ok x) h on = absurd h
at_err P Made (Err e) h on = on e h

module _ (table : Table) (depth : ℕ) where
  pub refused_at : (es : Expressions) (uid u : Uid) → u ≡ uid → (b : Bool) (k : RcStr Global) (x : EvaluationError) (r : EntityCreationError)
      → IfNoValue r (λ e. (e.uid ≡ u) × (e.was_attr ≡ b) × (e.attr_or_tag ≡ k) × (e.err ≡ x)) → IsFirstRefused table depth es (rc_str_bytes k) x
      → IfNoValue r (λ e. (e.uid ≡ uid) × (e.was_attr ≡ b) × IsFirstRefused table depth es (rc_str_bytes e.attr_or_tag) e.err)
  refused_at es uid u is b k x (Evaluation e) h f =
      (h.0 ∙ is, h.1, subst (λ y. IsFirstRefused table depth es (rc_str_bytes e.attr_or_tag) y) (sym h.3) (subst (λ l. IsFirstRefused table depth es (rc_str_bytes l) x) (sym h.2) f))
  refused_at es uid u is b k x (Memory e) h f = tt

  module _ (uid u : Uid) (is : u ≡ uid) (attributes tags : Expressions) where
    pub attribute_refused : (r : EntityCreationError) → IfNoValue r (λ e. (e.uid ≡ u) × (e.was_attr ≡ true) × IsFirstRefused table depth attributes (rc_str_bytes e.attr_or_tag) e.err) → IsCreationRefusal table depth uid attributes tags r
    attribute_refused (Evaluation e) h = (h.0 ∙ is, subst (λ b. IsRefusedAmong b table depth attributes tags (rc_str_bytes e.attr_or_tag) e.err) (sym h.1) h.2)
    attribute_refused (Memory e) h = tt

    pub tag_refused : HaveValues table attributes → (r : EntityCreationError) → IfNoValue r (λ e. (e.uid ≡ u) × (e.was_attr ≡ false) × IsFirstRefused table depth tags (rc_str_bytes e.attr_or_tag) e.err) → IsCreationRefusal table depth uid attributes tags r
    tag_refused values (Evaluation e) h = (h.0 ∙ is, subst (λ b. IsRefusedAmong b table depth attributes tags (rc_str_bytes e.attr_or_tag) e.err) (sym h.1) (values, h.2))
    tag_refused values (Memory e) h = tt

pub evaluated : (table : Table) (uid : Uid) (attributes tags : Expressions) (fs gs : Entries) (parents indirect : UidSet) (made : EntityData)
    → made ≡ record { uid = uid; attributes = attributes_of fs; tags = attributes_of gs; parents = parents; indirect = indirect }
    → AreGiven table attributes (seen_entries fs) → AreGiven table tags (seen_entries gs) → IsEvaluated table uid attributes tags parents indirect made
evaluated table uid attributes tags fs gs parents indirect made is given tagged = record {
  is_of = ap (λ (e : EntityData). e.uid) is;
  has_attributes = subst (HoldsWhatIsGiven table attributes) (sym (ap (λ (e : EntityData). e.attributes) is)) (holds table attributes fs given);
  has_tags = subst (HoldsWhatIsGiven table tags) (sym (ap (λ (e : EntityData). e.tags) is)) (holds table tags gs tagged);
  has_parents = ap (λ (e : EntityData). e.parents) is;
  has_indirect = ap (λ (e : EntityData). e.indirect) is;
}
