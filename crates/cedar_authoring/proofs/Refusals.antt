-- What a report says of a question that is answered, or of a text that is refused.
use Rattle.std.proofs.Common.{◌≡◌, ◌∙◌, ◌⊎◌, ℕ, Option, Some, None, Result, Ok, Err, IfOk, inl, inr, refl, subst, arith}
use Rattle.cedar_language.specs.Answering.{Decision, Allow, Deny}
use Rattle.cedar_language.specs.Uid.{Text}
use Rattle.cedar_frames.specs.declared.verb.Verb.{Verb}
use Rattle.cedar_replies.specs.Refusals.{refusal_of}
use Rattle.cedar_replies.specs.Replies.{accepted}
use Rattle.cedar_replies.specs.declared.answer.Reply.{Reply}
use Rattle.cedar_replies.specs.declared.answer.Reply.TheVariants.{Done, Ids, Answer}
use Rattle.cedar_replies.specs.declared.refusal.Refusal.{Refusal}
use Rattle.cedar_replies.specs.declared.refusal.Refusal.TheVariants as refusals
use Rattle.cedar_world.specs.Commands as world
use Rattle.cedar_world.specs.Setting.{Setting}
use Rattle.cedar_world.specs.Step.{Step}
use Rattle.cedar_world.specs.World.{World}
use Rattle.cedar_authoring.specs.Explaining.{status_of}
use Rattle.cedar_refusals.specs.RefusedBodies.{TellsBody}
use Rattle.cedar_authoring.specs.Scripts.{IsFed}
use Rattle.cedar_refusals.specs.declared.giving.Source.{Source}

pub never_one : (d : Option Decision) → status_of d ≡ 1 → ⊥
never_one (Some Allow) is = omega (arith, is)
never_one (Some Deny) is = omega (arith, is)
never_one None is = omega (arith, is)

pub some_status : (d : Option Decision) (s : ℕ) → s ≡ status_of d → (s ≡ 0) ⊎ (s ≡ 1) ⊎ (s ≡ 2) ⊎ (s ≡ 3)
some_status (Some Allow) s is = inl is
some_status (Some Deny) s is = inr (inr (inl is))
some_status None s is = inr (inr (inr is))

-- a refusal that isn't want of memory is another one in the world
pub other_refusal : (r : Refusal) → (r ≡ refusals.Memory → ⊥) → refusal_of r ≡ world.Memory → ⊥
other_refusal refusals.NotUtf8 other is = absurd (cc)
other_refusal refusals.Text other is = absurd (cc)
other_refusal refusals.Depth other is = absurd (cc)
other_refusal refusals.NotRestricted other is = absurd (cc)
other_refusal refusals.Shape other is = absurd (cc)
other_refusal refusals.Evaluation other is = absurd (cc)
other_refusal refusals.NotAValue other is = absurd (cc)
other_refusal refusals.BadUnknown other is = absurd (cc)
other_refusal refusals.Duplicate other is = absurd (cc)
other_refusal refusals.Cycle other is = absurd (cc)
other_refusal refusals.NoSuchTemplate other is = absurd (cc)
other_refusal refusals.NotTemplate other is = absurd (cc)
other_refusal refusals.Arity other is = absurd (cc)
other_refusal refusals.IdConflict other is = absurd (cc)
other_refusal refusals.NotLink other is = absurd (cc)
other_refusal refusals.NoSuchPolicy other is = absurd (cc)
other_refusal refusals.HasLinks other is = absurd (cc)
other_refusal refusals.NotStatic other is = absurd (cc)
other_refusal refusals.NoQuestion other is = absurd (cc)
other_refusal refusals.NoSuchUnknown other is = absurd (cc)
other_refusal refusals.AlreadyTold other is = absurd (cc)
other_refusal refusals.WrongKind other is = absurd (cc)
other_refusal refusals.Memory other is = other refl

-- ---- replies

pub accepted_fed : (r : Reply) → IsFed (accepted r)
accepted_fed Done is = absurd (cc)
accepted_fed (Ids ids) is = absurd (cc)
accepted_fed (Answer answer) is = absurd (cc)

pub refused_fed : (r : Refusal) → (r ≡ refusals.Memory → ⊥) → IsFed (world.Refused (refusal_of r))
refused_fed r other is = let same : refusal_of r ≡ world.Memory = cc in other_refusal r other same

-- ---- results

-- what follows of what is told where a refusal isn't want of memory
pub unless_memory : {A E : Type 0} (result : Result A E) (r s : Refusal) (P Q R : A → Type 0) → s ≡ r → IfOk result (λ x. s ≡ refusals.Memory → ⊥)
    → IfOk result Q → ((x : A) → (refusal_of r ≡ world.Memory → ⊥) → Q x → R x) → IfOk result (λ x. P x → R x)
unless_memory (Ok x) r s P Q R same other told make = λ is. make x (other_refusal r (λ e. other (same ∙ e))) told
unless_memory (Err e) r s P Q R same other told make = other

-- what is told of a body, by the source that a command has
pub body_told : (by : Setting) (s t : Source) (r q : Refusal) (told : Text) → s ≡ t → r ≡ q → TellsBody by s.name.now s.text.now (refusal_of r) told
    → TellsBody by t.name.now t.text.now (refusal_of q) told
body_told by s t r q told same is h =
    let P : Source → Type 0 = λ x. TellsBody by x.name.now x.text.now (refusal_of q) told in
    let Q : Refusal → Type 0 = λ x. TellsBody by s.name.now s.text.now (refusal_of x) told in
    subst P same (subst Q is h)

pub both_ok : {A E : Type 0} (result : Result A E) (P Q R : A → Type 0) → ((x : A) → P x → Q x → R x) → IfOk result P → IfOk result Q → IfOk result R
both_ok (Ok x) P Q R make p q = make x p q
both_ok (Err e) P Q R make p q = p

-- the step of a session, by its setting and from its world
pub stepped : (s by : Setting) (here old new : World) (verb : Verb) (text : Text) (reply : world.Reply) → s ≡ by → here ≡ old → Step s here verb text reply new → Step by old verb text reply new
stepped s by here old new verb text reply same is step =
    subst (λ (w : World). Step by w verb text reply new) is (subst (λ (t : Setting). Step t here verb text reply new) same step)
