-- What commands by names are answered in a world whose policies have names, and what they leave: the session's own step, by ids, and an
-- answer in which each id is its name.
use Rattle.std.specs.Prelude.{◌≡◌, ◌≢◌, ◌⊎◌, ◌<◌, false, true, Option, Some, None, List, [], ◌∷◌, length, map, Result, Ok, Err}
use Rattle.std.specs.FinMap as finite
use Rattle.cedar_frames.specs.Heads.{body_limit}
use Rattle.cedar_grammar.specs.Syntax.{PolicySyntax}
use Rattle.cedar_json.specs.Values.{IsTextOf}
use Rattle.cedar_language.specs.Tree.{Lit, String}
use Rattle.cedar_language.specs.Uid.{Text}
use Rattle.cedar_language.specs.Value.{Kind}
use Rattle.cedar_replies.specs.Refusals.{refusal_of}
use Rattle.cedar_replies.specs.declared.refusal.Refusal.{Refusal}
use Rattle.cedar_replies.specs.declared.refusal.Refusal.TheVariants as refusal
use Rattle.cedar_world.specs.Answer.{Ids, Answer, ids_of}
use Rattle.cedar_world.specs.Commands as commands
use Rattle.cedar_world.specs.Commands.{Verb, Load, Link, RemoveTemplate, Reply, Done, Answered, Refused}
use Rattle.cedar_world.specs.OrdinaryReplies.{RepliesOrdinarily}
use Rattle.cedar_world.specs.Orders.{TextMap}
use Rattle.cedar_world.specs.PolicyEdits as edits
use Rattle.cedar_world.specs.Setting.{Setting, ArePolicies}
use Rattle.cedar_world.specs.Step.{Step}
use Rattle.cedar_world.specs.World.{World}
use Rattle.cedar_named_sessions.specs.Links.{link_by_slots, IsLinkText}
use Rattle.cedar_named_sessions.specs.NameLists.{Names, name_of, id_of, without}
use Rattle.cedar_named_sessions.specs.Named.{is_taken, placed, named}
use Rattle.cedar_named_sessions.specs.declared.refusals.NamedRefusal.{NamedRefusal}
use Rattle.cedar_named_sessions.specs.declared.refusals.NamedRefusal.TheVariants.{IdConflict, NotOne, Unsaid, Long, Untold, Refused as Other}

-- a world, and the names that were given there
pub record Named : Type 0 where
  pub world : World
  pub names : Names

-- ---- answers

abbrev pub named_ids : Names → Ids → Ids
named_ids names ids = ids_of (map (name_of names) (finite.keys ids))

abbrev pub named_erring : Names → TextMap Kind → TextMap Kind
named_erring names erring = finite.from_entries (map (λ e. (name_of names e.0, e.1)) (finite.entries erring))

-- an answer in which each id is its name
abbrev pub named_answer : Names → Answer → Answer
named_answer names answer = record {
  decision = answer.decision;
  must = named_ids names answer.must;
  may = named_ids names answer.may;
  erring = named_erring names answer.erring;
}

-- how a command is refused that names nothing
abbrev pub refused_unnamed : Verb → commands.Refusal
refused_unnamed RemoveTemplate = commands.NoSuchTemplate
refused_unnamed verb = commands.NoSuchPolicy

module _ (by : Setting) (old : Named) where
  -- the session may refuse the command so, and nothing changes
  abbrev pub IsRefused : Verb → Text → Refusal → Named → Type 0
  IsRefused verb text r new = Step by old.world verb text (Refused (refusal_of r)) old.world × (new ≡ old)

  -- ---- loads

  -- the text's policies, and the ids that a load of it gives them
  abbrev pub Puts : Text → List PolicySyntax → List Text → Type 0
  Puts text ss ids = ArePolicies by text ss × edits.Names old.world.policies (length ss) 0 0 ss ids

  -- Each policy of the text is given the name that `given` says, where it says one, and has its id or the name that it had else; the
  -- names are answered in the order of the text. Where one can't be given, nothing changes, and it is told.
  abbrev pub LoadStep : (PolicySyntax → Option Text) → Text → Result (List Text) NamedRefusal → Named → Type 0
  LoadStep given text (Ok names) new = (ss : List PolicySyntax) × (ids : List Text) × Puts text ss ids × Step by old.world Load text (commands.Named ids) new.world
      × (named old.world.policies old.names (placed given ids ss) ≡ Ok new.names) × (names ≡ map (name_of new.names) ids)
  LoadStep given text (Err (IdConflict name)) new = (ss : List PolicySyntax) × (ids : List Text) × Puts text ss ids
      × (named old.world.policies old.names (placed given ids ss) ≡ Err name) × (new ≡ old)
  LoadStep given text (Err (Other r)) new = IsRefused Load text r new
  LoadStep given text (Err _) new = ⊥

  -- the text is one policy or template, and is given this name
  abbrev pub LoadAsStep : Text → Text → Result (Unit {0}) NamedRefusal → Named → Type 0
  LoadAsStep name text (Ok done) new = ((s : PolicySyntax) × ArePolicies by text (s ∷ [])) × ((names : List Text) × LoadStep (λ s. Some name) text (Ok names) new)
  LoadAsStep name text (Err NotOne) new = (ss : List PolicySyntax) × ArePolicies by text ss × (length ss ≢ 1) × (new ≡ old)
  LoadAsStep name text (Err e) new = LoadStep (λ s. Some name) text (Err e) new

  -- ---- removals

  -- a text that states, as a body, the id for which the name stands
  abbrev pub States : Text → Text → Text → Type 0
  States name id text = (id_of old.names name ≡ Some id) × IsTextOf text (Lit (String id))

  abbrev pub TakeAwayStep : Verb → Text → Result (Unit {0}) NamedRefusal → Named → Type 0
  TakeAwayStep verb name (Ok done) new = (id text : Text) × States name id text × Step by old.world verb text Done new.world × (new.names ≡ without id old.names)
  TakeAwayStep verb name (Err Long) new = ((id text : Text) × States name id text × (body_limit < length text)) × (new ≡ old)
  TakeAwayStep verb name (Err (Other refusal.Memory)) new = new ≡ old
  TakeAwayStep verb name (Err (Other r)) new = (((id_of old.names name ≡ None) × (refusal_of r ≡ refused_unnamed verb)) ⊎ ((id text : Text) × States name id text × Step by old.world verb text (Refused (refusal_of r)) old.world)) × (new ≡ old)
  TakeAwayStep verb name (Err _) new = ⊥

  -- ---- links

  -- a text that states, as a body, the link of the template for whose id the name stands
  abbrev pub StatesLink : Text → Text → Text → Text → Type 0
  StatesLink name id json text = (template : Text) × (id_of old.names name ≡ Some template) × IsLinkText template id json text

  -- A link's name is its id, which is to be free as a name.
  abbrev pub LinkStep : Text → Text → Text → Result (Unit {0}) NamedRefusal → Named → Type 0
  LinkStep name id json (Ok done) new = (is_taken old.world.policies old.names id ≡ false)
      × ((text : Text) × StatesLink name id json text × Step by old.world Link text Done new.world) × (new.names ≡ old.names)
  LinkStep name id json (Err (IdConflict taken)) new = (taken ≡ id) × (is_taken old.world.policies old.names id ≡ true) × (new ≡ old)
  LinkStep name id json (Err Unsaid) new = ((template : Text) × (link_by_slots template id json ≡ None)) × (new ≡ old)
  LinkStep name id json (Err Long) new = ((text : Text) × StatesLink name id json text × (body_limit < length text)) × (new ≡ old)
  LinkStep name id json (Err (Other refusal.Memory)) new = new ≡ old
  LinkStep name id json (Err (Other r)) new =
      (((id_of old.names name ≡ None) × (refusal_of r ≡ commands.NoSuchTemplate))
      ⊎ ((text : Text) × StatesLink name id json text × Step by old.world Link text (Refused (refusal_of r)) old.world))
      × (new ≡ old)
  LinkStep name id json (Err _) new = ⊥

  -- ---- questions

  -- the command is answered so by ids; the names stay
  abbrev pub AnswersByIds : Verb → Text → Answer → Named → Type 0
  AnswersByIds verb text answer new = Step by old.world verb text (Answered answer) new.world × RepliesOrdinarily by old.world (Answered answer) verb × (new.names ≡ old.names)

  -- the answer is told by names, unless memory lacks for that
  abbrev pub AnswerStep : Verb → Text → Result Answer NamedRefusal → Named → Type 0
  AnswerStep verb text (Ok told) new = (answer : Answer) × AnswersByIds verb text answer new × (told ≡ named_answer old.names answer)
  AnswerStep verb text (Err Untold) new = (answer : Answer) × AnswersByIds verb text answer new
  AnswerStep verb text (Err (Other r)) new = IsRefused verb text r new
  AnswerStep verb text (Err _) new = ⊥

  -- ---- what speaks of no policy

  abbrev pub EditStep : Verb → Text → Reply → Named → Type 0
  EditStep verb text reply new = Step by old.world verb text reply new.world × (new.names ≡ old.names)
