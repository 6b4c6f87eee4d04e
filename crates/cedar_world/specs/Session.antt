-- A session: commands one after the other, and what holds after every list of them.
use Rattle.std.specs.Prelude.{◌≡◌, Option, Some, List, [], ◌∷◌, ◌++◌}
use Rattle.std.specs.FinMap as map
use Rattle.std.specs.FinSet as set
use Rattle.cedar_language.specs.Uid.{Text, Uid}
use Rattle.cedar_language.specs.Tree.{Tree}
use Rattle.cedar_language.specs.Authorization.{Known}
use Rattle.cedar_grammar.specs.Syntax.{PolicySyntax}
use Rattle.cedar_world.specs.Answer.{Answer}
use Rattle.cedar_world.specs.World.{World, Asked, Policies, Entities, IsCyclic, new_world}
use Rattle.cedar_world.specs.EntityEdits.{Version, Puts, Adds, Removes}
use Rattle.cedar_world.specs.PolicyEdits.{Loads, Links, TakesAway}
use Rattle.cedar_world.specs.Asking.{Question}
use Rattle.cedar_world.specs.Question.{IsKnown, Portion, told_with}
use Rattle.cedar_world.specs.Bodies.{LinkBody, EntityBody, Fields, string_of, uids_of, link_body, entity_bodies, ask_body, tell_body}
use Rattle.cedar_world.specs.Setting.{Setting, ArePolicies, IsBody}
use Rattle.cedar_world.specs.Fillings.{IsFilling}
use Rattle.cedar_world.specs.Answers.{IsKnownAnswer, IsFair, NamesNoGhosts, IsPromptButKinds, NamesKinds}
use Rattle.cedar_world.specs.Values.{values, versions}
use Rattle.cedar_world.specs.Commands.{Verb, Load, Link, Unlink, RemoveStatic, RemoveTemplate, Add, Put, Remove, Ask, Tell, Refusal, Reply, Done, Named, Answered, Refused}
use Rattle.cedar_world.specs.Step.{Step, IsLaterAnswer, opens}
use Rattle.cedar_world.specs.LinkLaws.{LinksAreWhole}

-- a verb and a text
abbrev pub Command : Type 0
Command = Verb × Text

-- A part of the world is edited by one command after the other.
abbrev pub Edited : {X : Type 0} → (X → Verb → Text → Reply → X → Type 0) → X → List Command → List Reply → X → Type 0
Edited Edits old [] [] new = new ≡ old
Edited {X} Edits old ((verb, text) ∷ commands) (reply ∷ replies) new = (mid : X) × Edits old verb text reply mid × Edited Edits mid commands replies new
Edited Edits old _ _ new = ⊥

module _ (by : Setting) where
  -- These commands have these replies, each in the world that the one before it left.
  pub data Answers : World → List Command → List Reply → World → Type 0 where
    no_command : {world : World} → Answers world [] [] world
    a_command : {old mid new : World} {verb : Verb} {text : Text} {reply : Reply} {commands : List Command} {replies : List Reply}
        → Step by old verb text reply mid → Answers mid commands replies new → Answers old ((verb, text) ∷ commands) (reply ∷ replies) new

  -- ---- what one command edits

  -- the text is a body that says this
  abbrev pub Says : {B : Type 0} → (Tree → Option B) → Text → B → Type 0
  Says read text b = (tree : Tree) × IsBody by text tree × (read tree ≡ Some b)

  -- the text is a body that lists these versions of entities
  abbrev pub Lists : Text → List Version → Type 0
  Lists text vs = (bs : List EntityBody) × Says entity_bodies text bs × (versions by bs ≡ Some vs)

  -- what the accepted commands do to the policies held; no other command changes them
  abbrev pub EditsPolicies : Policies → Verb → Text → Reply → Policies → Type 0
  EditsPolicies old Load text (Named ids) new = (ss : List PolicySyntax) × ArePolicies by text ss × Loads old ss ids new
  EditsPolicies old Link text Done new = (b : LinkBody) × Says link_body text b × Links old b.template b.id b.bindings new
  EditsPolicies old Unlink text Done new = (id : Text) × Says string_of text id × TakesAway old id new
  EditsPolicies old RemoveStatic text Done new = (id : Text) × Says string_of text id × TakesAway old id new
  EditsPolicies old RemoveTemplate text Done new = (id : Text) × Says string_of text id × TakesAway old id new
  EditsPolicies old verb text reply new = new ≡ old

  -- what the accepted commands do to the entities held; no other command changes them
  abbrev pub EditsEntities : Entities → Verb → Text → Reply → Entities → Type 0
  EditsEntities old Add text Done new = (vs : List Version) × Lists text vs × Adds old vs new
  EditsEntities old Put text Done new = (vs : List Version) × Lists text vs × Puts old vs new
  EditsEntities old Remove text Done new = (uids : List Uid) × Says uids_of text uids × Removes old (set.from_list uids) new
  EditsEntities old verb text reply new = new ≡ old

  -- ---- what holds after every list of commands

  -- The world holds the policies of the texts that were loaded and the links that were made, but for what was taken away, and
  -- the entities of the bodies that were accepted. Each link has its template, and no entity is its own ancestor.
  pub record IsReached (commands : List Command) (replies : List Reply) (world : World) : Type 0 where
    pub policies : Edited EditsPolicies map.empty commands replies world.policies
    pub entities : Edited EditsEntities map.empty commands replies world.entities
    pub links : LinksAreWhole world.policies
    pub no_cycle : IsCyclic world.entities → ⊥

  -- Nothing being unknown, the answer is what Cedar's rules say on the policies in force and the parent edges held. Any
  -- answer holds under all values of what is unknown, is as sharp as settling, names the kinds of errors to which conditions
  -- settle, and no policies but those in force.
  pub record IsAnsweredByTheRules (world : World) (text : Text) (answer : Answer) : Type 0 where
    pub question : Question
    pub asks : Says ask_body text question
    pub known : IsKnown question → (request : Known) × IsFilling by question map.empty request × IsKnownAnswer by world request answer
    pub fair : IsFair by world question map.empty answer
    pub prompt : IsPromptButKinds by world question map.empty answer
    pub kinds : NamesKinds by world question map.empty answer
    pub in_force : NamesNoGhosts by world answer

  -- An answer once more is told keeps what was said before, holds under all values of what is still unknown, is as sharp as
  -- settling, and says all that Cedar's rules say once nothing is unknown, kinds of errors aside. The question stays open.
  pub record IsToldByTheRules (world : World) (text : Text) (answer : Answer) (new : World) : Type 0 where
    pub asked : Asked
    pub fields : Fields
    pub portion : Portion
    pub was_open : world.asked ≡ Some asked
    pub says : Says tell_body text fields
    pub tells : values by fields ≡ Some portion
    pub later : IsLaterAnswer by world asked (told_with asked.told portion) answer
    pub stays_open : new ≡ opens world asked.question (told_with asked.told portion) answer

  pub record AreAnsweredByTheRules (commands : List Command) (replies : List Reply) (world : World) : Type 0 where
    pub reached : IsReached commands replies world
    pub ask : (text : Text) (answer : Answer) (new : World) → Step by world Ask text (Answered answer) new → IsAnsweredByTheRules world text answer
    pub tell : (text : Text) (answer : Answer) (new : World) → Step by world Tell text (Answered answer) new → IsToldByTheRules world text answer new
    pub refused : (verb : Verb) (text : Text) (r : Refusal) (new : World) → Step by world verb text (Refused r) new → new ≡ world

abbrev pub CommandsAreAnsweredByTheRules : Type 0
CommandsAreAnsweredByTheRules =
    (by : Setting) (commands : List Command) (replies : List Reply) (world : World) → Answers by new_world commands replies world → AreAnsweredByTheRules by commands replies world

-- Of a list in two parts the first is answered, and then the second.
abbrev pub PartsAreAnswered : Type 0
PartsAreAnswered =
    (by : Setting) (start end : World) (before after : List Command) (replies : List Reply) → Answers by start (before ++ after) replies end
    → (earlier later : List Reply) × (mid : World) × (replies ≡ earlier ++ later) × Answers by start before earlier mid × Answers by mid after later end
