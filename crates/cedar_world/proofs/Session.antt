-- What holds after every list of commands.
use Rattle.std.proofs.Common.{◌≡◌, List, [], ◌∷◌, ◌++◌, refl, sym, ◌∙◌, ap, subst}
use Rattle.std.specs.FinMap as map
use Rattle.cedar_language.specs.Uid.{Text}
use Rattle.cedar_world.specs.Orders.{text_cmp, uid_cmp}
use Rattle.cedar_world.specs.World.{World, IsCyclic, parents_at, new_world}
use Rattle.cedar_world.specs.Setting.{Setting}
use Rattle.cedar_world.specs.Commands.{Verb, Refusal, Reply, Refused}
use Rattle.cedar_world.specs.Step.{Step}
use Rattle.cedar_world.specs.LinkLaws.{LinksAreWhole}
use Rattle.cedar_world.specs.Session.{Command, Edited, Answers, no_command, a_command, EditsPolicies, EditsEntities, IsReached, AreAnsweredByTheRules, CommandsAreAnsweredByTheRules, PartsAreAnswered}
use Rattle.cedar_world.proofs.Steps.{policies_stay, edits_policies, entities_stay, edits_entities}
use Rattle.cedar_world.proofs.Parts.{not_none}
use Rattle.cedar_world.proofs.EntityRows.{no_edge, no_way}
use Rattle.cedar_world.proofs.Cycles.{cycles_stay_out}
use Rattle.cedar_world.proofs.WholeLinks.{links_stay_whole}

pub no_link : LinksAreWhole map.empty
no_link id template b e = absurd (not_none _ (sym (map.get-empty text_cmp id) ∙ e))

pub nothing_cyclic : IsCyclic map.empty → ⊥
nothing_cyclic cycle = no_way (parents_at map.empty) (λ c e. no_edge map.empty cycle.0 (map.get-empty uid_cmp cycle.0) c e) cycle.1

module _ (by : Setting) where
  -- ---- one command

  -- what a step does to what is held
  pub record Keeps (old new : World) (verb : Verb) (text : Text) (reply : Reply) : Type 0 where
    policies : EditsPolicies by old.policies verb text reply new.policies
    entities : EditsEntities by old.entities verb text reply new.entities
    links : LinksAreWhole old.policies → LinksAreWhole new.policies
    no_cycle : (IsCyclic old.entities → ⊥) → IsCyclic new.entities → ⊥

  pub unmoved : (old new : World) (verb : Verb) (text : Text) (r : Refusal) → new ≡ old → Keeps old new verb text (Refused r)
  unmoved old new verb text r e = record {
    policies = policies_stay by old.policies new.policies verb text r (ap (λ w. w.policies) e);
    entities = entities_stay by old.entities new.entities verb text r (ap (λ w. w.entities) e);
    links = λ whole. subst (λ (w : World). LinksAreWhole w.policies) (sym e) whole;
    no_cycle = λ none cycle. none (subst (λ (w : World). IsCyclic w.entities) e cycle);
  }

  pub stepped : (old new : World) (verb : Verb) (text : Text) (reply : Reply) → Step by old verb text reply new → Keeps old new verb text reply
  stepped old new verb text reply step = record {
    policies = edits_policies by old new verb text reply step;
    entities = edits_entities by old new verb text reply step;
    links = links_stay_whole by old new verb text reply step;
    no_cycle = cycles_stay_out by old new verb text reply step;
  }

  -- ---- steps, one after the other

  pub record Kept (start end : World) (commands : List Command) (replies : List Reply) : Type 0 where
    pub policies : Edited (EditsPolicies by) start.policies commands replies end.policies
    pub entities : Edited (EditsEntities by) start.entities commands replies end.entities
    pub links : LinksAreWhole start.policies → LinksAreWhole end.policies
    pub no_cycle : (IsCyclic start.entities → ⊥) → IsCyclic end.entities → ⊥

  pub none_kept : (world : World) → Kept world world [] []
  none_kept world = record { policies = refl; entities = refl; links = λ whole. whole; no_cycle = λ none. none }

  pub one_kept : (old mid end : World) (verb : Verb) (text : Text) (reply : Reply) (commands : List Command) (replies : List Reply)
      → Keeps old mid verb text reply → Kept mid end commands replies → Kept old end ((verb, text) ∷ commands) (reply ∷ replies)
  one_kept old mid end verb text reply commands replies first more = record {
    policies = (mid.policies, first.policies, more.policies);
    entities = (mid.entities, first.entities, more.entities);
    links = λ whole. more.links (first.links whole);
    no_cycle = λ none. more.no_cycle (first.no_cycle none);
  }

  kept : {start end : World} {commands : List Command} {replies : List Reply} → Answers by start commands replies end → Kept start end commands replies
  kept no_command = none_kept _
  kept (a_command {old = old} {mid = mid} {verb = verb} {text = text} {reply = reply} step more) = one_kept old mid _ verb text reply _ _ (stepped old mid verb text reply step) (kept more)

  reached : (commands : List Command) (replies : List Reply) (world : World) → Answers by new_world commands replies world → IsReached by commands replies world
  reached commands replies world answers =
      let all = kept answers in
      record { policies = all.policies; entities = all.entities; links = all.links no_link; no_cycle = all.no_cycle nothing_cyclic }

  -- ---- a list in two parts

  in_parts : (start end : World) (before after : List Command) (replies : List Reply) → Answers by start (before ++ after) replies end
      → (earlier later : List Reply) × (mid : World) × (replies ≡ earlier ++ later) × Answers by start before earlier mid × Answers by mid after later end
  in_parts start end [] after replies answers = ([], replies, start, refl, no_command, answers)
  in_parts start end (c ∷ before) after [] answers = elim answers [ ]
  in_parts start end (c ∷ before) after (reply ∷ replies) (a_command {mid = mid} step more) =
      let rest = in_parts mid end before after replies more in
      (reply ∷ rest.0, rest.1, rest.2, ap (λ rs. reply ∷ rs) rest.3, a_command step rest.4, rest.5)

pub from_reached : (by : Setting) (commands : List Command) (replies : List Reply) (world : World) → IsReached by commands replies world → AreAnsweredByTheRules by commands replies world
from_reached by commands replies world reached = record {
  reached = reached;
  ask = λ text answer new step. record {
    question = step.1.1;
    asks = (step.1.0, step.1.2, step.1.3);
    known = step.1.4.0.known;
    fair = step.1.4.0.fair;
    prompt = step.1.4.0.prompt;
    kinds = step.1.4.0.kinds;
    in_force = step.1.4.0.in_force;
  };
  tell = λ text answer new step. record {
    asked = step.1.4.0;
    fields = step.1.1;
    portion = step.1.4.1;
    was_open = step.1.4.2;
    says = (step.1.0, step.1.2, step.1.3);
    tells = step.1.4.3;
    later = step.1.4.4;
    stays_open = step.1.4.5;
  };
  refused = λ verb text r new step. step.1;
}

pub by_the_rules : CommandsAreAnsweredByTheRules
by_the_rules by commands replies world answers = from_reached by commands replies world (reached by commands replies world answers)

pub parts : PartsAreAnswered
parts by start end before after replies answers = in_parts by start end before after replies answers
