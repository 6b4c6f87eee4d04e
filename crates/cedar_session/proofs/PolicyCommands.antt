-- Steps of a session that edits its policies by a body, the same for every command whose cases come behind those of any body.
use Rattle.std.proofs.Common.{◌≡◌, ◌≢◌, inl, ◌<◌, ◌≤◌, true, Option, Some, None, Ok, Err, refl, sym, subst, arith}
use Rattle.std.specs.Bool.{⊤}
use Rattle.cedar_language.specs.Uid as uid
use Rattle.cedar_language.specs.Tree.{Tree}
use Rattle.cedar_language.specs.Height.{height}
use Rattle.cedar_world.specs.World.{World, Policies}
use Rattle.cedar_world.specs.Bodies.{LinkBody, is_restricted, string_of, link_body}
use Rattle.cedar_world.specs.PolicyEdits.{Links, TakesAway}
use Rattle.cedar_world.specs.Setting.{Setting, IsBodyWithin, BodiesAreOne}
use Rattle.cedar_world.specs.Commands as commands
use Rattle.cedar_world.specs.Commands.{Verb, Link, Tell, Done, Refused, rank}
use Rattle.cedar_world.specs.Refusals.{Refuses, Stands, IsFirst, BodyStands, LinkCases, UnlinkCases, RemoveStaticCases, RemoveTemplateCases}
use Rattle.cedar_world.specs.Step.{Step, Does, Body, TakeAwaySays}
use Rattle.cedar_world.proofs.BodyCommands.{First, no_text, not_restricted, misshapen, stands_not, stands_first}
use Rattle.cedar_replies.specs.declared.refusal.Refusal.{Refusal}
use Rattle.cedar_replies.specs.declared.refusal.Refusal.TheVariants.{Text, Depth, NotRestricted, Shape, Memory}
use Rattle.cedar_replies.specs.Refusals.{refusal_of}
use Rattle.cedar_held.specs.PolicyEdits.{Edits, LinksBody}
use Rattle.cedar_session.specs.Reading.{ReadsId, IsValueBody}
use Rattle.cedar_session.specs.TextReading.{ReadsBody}

-- the world refuses so, or there was no memory
abbrev pub MayBe : (commands.Refusal → Type 0) → Refusal → Type 0
MayBe Refusing Memory = ⊤
MayBe Refusing r = Refusing (refusal_of r)

module _ (by : Setting) (old : World) (text : uid.Text) where
  -- ---- of any command but `tell`

  told : (verb : Verb) → verb ≢ Tell → (r : Refusal) → MayBe (Refuses by old text verb) r → Step by old verb text (Refused (refusal_of r)) old
  told Tell other r h = absurd (other refl)
  told verb other Memory h = (tt, refl)
  told verb other Depth h = (inl h, refl)
  told verb other r h = (h, refl)

  is_first : (verb : Verb) → verb ≢ Tell → (r : commands.Refusal) → IsFirst by old text verb r → Refuses by old text verb r
  is_first Tell other r h = absurd (other refl)
  is_first verb other commands.Depth h = h.0
  is_first verb other r h = h

  stands_too : (verb : Verb) → verb ≢ Tell → (r : commands.Refusal) → Refuses by old text verb r → Stands by old text verb r
  stands_too Tell other r h = absurd (other refl)
  stands_too verb other commands.Depth h = h
  stands_too verb other r h = h.0

  -- a text that is too deep is refused so, whatever else is wrong with it
  is_deep : (verb : Verb) → verb ≢ Tell → Stands by old text verb commands.Depth → Refuses by old text verb commands.Depth
  is_deep Tell other h = absurd (other refl)
  is_deep verb other h = h

  -- ---- of one that has a body of a shape

  module _ (verb : Verb) (other : verb ≢ Tell) {B : Type 0} (read : Tree → Option B) (cases : B → commands.Refusal → Type 0)
      (are : BodyStands by old text read cases ≡ Stands by old text verb) (late : (b : B) (r : commands.Refusal) → cases b r → 5 < rank r) (once : BodiesAreOne by) where
    utf8 : (b : B) → cases b commands.NotUtf8 → ⊥
    utf8 b h =
        let behind = late b commands.NotUtf8 h in
        omega arith

    refuses : (r : commands.Refusal) → First by old text read cases r → Refuses by old text verb r
    refuses r h = is_first verb other r (subst (λ S. S r × ((s : commands.Refusal) → rank s < rank r → S s → ⊥)) are h)

    pub unread : (r : Refusal) → ReadsBody by text (Err r) → Step by old verb text (Refused (refusal_of r)) old
    unread Text h = told verb other Text (refuses commands.Text (no_text by old text read cases utf8 h))
    unread Depth h = told verb other Depth (is_deep verb other (subst (λ S. S commands.Depth) are h))
    unread NotRestricted h = told verb other NotRestricted (refuses commands.NotRestricted (not_restricted by old text read cases utf8 once h.0 h.1 h.2 h.3))
    unread Memory h = told verb other Memory tt
    unread r h = absurd h

    module _ (tree : Tree) (reads : IsBodyWithin by by.depth text tree) (low : height tree ≤ by.depth) (restricted : is_restricted tree ≡ true) where
      pub shapeless : read tree ≡ None → Step by old verb text (Refused commands.Shape) old
      shapeless none = told verb other Shape (refuses commands.Shape (misshapen by old text read cases utf8 once tree reads low restricted none))

      module _ (b : B) (shape : read tree ≡ Some b) (Changes : Policies → Type 0) where
        fails : (r : Refusal) (new : Policies) → Edits (cases b) Changes old.policies (Err r) new → MayBe (Refuses by old text verb) r
        fails Memory new h = tt
        fails r new h = refuses (refusal_of r) (stands_first by old text read cases utf8 once tree reads low restricted b shape (refusal_of r) (late b (refusal_of r) h.0) h.0 h.1)

        keeps : (r : Refusal) (new : Policies) → Edits (cases b) Changes old.policies (Err r) new → new ≡ old.policies
        keeps Memory new h = h
        keeps r new h = h.2

        pub refused : (r : Refusal) (new : Policies) → Edits (cases b) Changes old.policies (Err r) new → Step by old verb text (Refused (refusal_of r)) (record old { policies = new })
        refused r new h =
            subst (λ p. Step by old verb text (Refused (refusal_of r)) (record old { policies = p })) (sym (keeps r new h)) (told verb other r (fails r new h))

        pub done : (new : Policies) → Edits (cases b) Changes old.policies (Ok tt) new → Does by old text (record old { policies = new; asked = None }) verb Done
            → Step by old verb text Done (record old { policies = new; asked = None })
        done new h does = (λ r s. stands_not by old text read cases utf8 once tree reads low restricted b shape r (h.0 r) (subst (λ S. S r) (sym are) (stands_too verb other r s)), does)

-- ---- the cases of each command come behind those of any body

pub link_is_late : (policies : Policies) (b : LinkBody) (r : commands.Refusal) → LinkCases policies b r → 5 < rank r
link_is_late policies b commands.NoSuchTemplate h = omega arith
link_is_late policies b commands.NotTemplate h = omega arith
link_is_late policies b commands.Arity h = omega arith
link_is_late policies b commands.IdConflict h = omega arith
link_is_late policies b r h = absurd h

pub unlink_is_late : (policies : Policies) (id : uid.Text) (r : commands.Refusal) → UnlinkCases policies id r → 5 < rank r
unlink_is_late policies id commands.NotLink h = omega arith
unlink_is_late policies id commands.NoSuchPolicy h = omega arith
unlink_is_late policies id r h = absurd h

pub remove_static_is_late : (policies : Policies) (id : uid.Text) (r : commands.Refusal) → RemoveStaticCases policies id r → 5 < rank r
remove_static_is_late policies id commands.NoSuchPolicy h = omega arith
remove_static_is_late policies id commands.NotStatic h = omega arith
remove_static_is_late policies id r h = absurd h

pub remove_template_is_late : (policies : Policies) (id : uid.Text) (r : commands.Refusal) → RemoveTemplateCases policies id r → 5 < rank r
remove_template_is_late policies id commands.NoSuchTemplate h = omega arith
remove_template_is_late policies id commands.NotTemplate h = omega arith
remove_template_is_late policies id commands.HasLinks h = omega arith
remove_template_is_late policies id r h = absurd h

-- ---- a link

module _ (by : Setting) (old : World) (text : uid.Text) (once : BodiesAreOne by) (tree : Tree) (reads : IsBodyWithin by by.depth text tree) (low : height tree ≤ by.depth) (restricted : is_restricted tree ≡ true)
    (b : LinkBody) (shape : link_body tree ≡ Some b) where
  pub link_refused : (r : Refusal) (new : Policies) → LinksBody b old.policies (Err r) new → Step by old Link text (Refused (refusal_of r)) (record old { policies = new })
  link_refused = refused by old text Link (λ h. cc) link_body (LinkCases old.policies) refl (link_is_late old.policies) once tree reads low restricted b shape (Links old.policies b.template b.id b.bindings)

  pub link_done : (new : Policies) → LinksBody b old.policies (Ok tt) new → Step by old Link text Done (record old { policies = new; asked = None })
  link_done new h =
      done by old text Link (λ h. cc) link_body (LinkCases old.policies) refl (link_is_late old.policies) once tree reads low restricted b shape (Links old.policies b.template b.id b.bindings) new h
      (tree, b, (by.depth, reads), shape, (h.1, refl))

-- ---- a command whose body states an id, and that takes away what stands under it

-- a body that isn't read states none
pub no_id : (by : Setting) (text : uid.Text) (r : Refusal) → ReadsBody by text (Err r) → ReadsId by text (Err r)
no_id by text Shape h = absurd h
no_id by text r h = h

module _ (by : Setting) (old : World) (text : uid.Text) (verb : Verb) (other : verb ≢ Tell) (cases : uid.Text → commands.Refusal → Type 0)
    (are : BodyStands by old text string_of cases ≡ Stands by old text verb) (late : (id : uid.Text) (r : commands.Refusal) → cases id r → 5 < rank r) (once : BodiesAreOne by) where
  pub id_unread : (r : Refusal) → ReadsId by text (Err r) → Step by old verb text (Refused (refusal_of r)) old
  id_unread Shape h = shapeless by old text verb other string_of cases are late once h.0 h.1 h.2 h.3.0 h.3.1
  id_unread Text h = unread by old text verb other string_of cases are late once Text h
  id_unread Depth h = unread by old text verb other string_of cases are late once Depth h
  id_unread NotRestricted h = unread by old text verb other string_of cases are late once NotRestricted h
  id_unread Memory h = unread by old text verb other string_of cases are late once Memory h
  id_unread r h = absurd h

  module _ (id : uid.Text) (reads : IsValueBody by text (λ tree. string_of tree ≡ Some id)) where
    pub id_refused : (r : Refusal) (new : Policies) → Edits (cases id) (TakesAway old.policies id) old.policies (Err r) new → Step by old verb text (Refused (refusal_of r)) (record old { policies = new })
    id_refused = refused by old text verb other string_of cases are late once reads.0 reads.1 reads.2 reads.3.0 id reads.3.1 (TakesAway old.policies id)

    pub id_done : (new : Policies) → (Body by old text (record old { policies = new; asked = None }) string_of (TakeAwaySays by old text (record old { policies = new; asked = None })) → Does by old text (record old { policies = new; asked = None }) verb Done)
        → Edits (cases id) (TakesAway old.policies id) old.policies (Ok tt) new → Step by old verb text Done (record old { policies = new; asked = None })
    id_done new does h =
        done by old text verb other string_of cases are late once reads.0 reads.1 reads.2 reads.3.0 id reads.3.1 (TakesAway old.policies id) new h
        (does (reads.0, id, (by.depth, reads.1), reads.3.1, (h.1, refl)))
