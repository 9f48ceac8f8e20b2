-- Messages are sent, and taken.
use Rattle.std.proofs.Common.{ℕ, ◌-◌, List, [], ◌∷◌, ◌++◌, take, drop, set, get_or}
use Rattle.std.specs.List.{AllByRecursion}
use Rattle.ag_model.specs.declared.message.Message.{Message}
use Rattle.ag_rules.specs.Group.{Group, replica, link, with_link}
use Rattle.ag_rules.specs.Plan.{Posting, posted}
use Rattle.ag_rules.specs.DeliverEvent.{taken}
use Rattle.ag_rules.specs.KeptLaw.{Confirmed}
use Rattle.ag_lists.proofs.Places.{at_set}
use Rattle.ag_lists.proofs.Each.{all_append, all_take, all_drop}
use Rattle.ag_laws.specs.Logs.{Logs}
use Rattle.ag_law_kept.specs.Past.{Past}
use Rattle.ag_law_kept.specs.Tells.{MessageTells}
use Rattle.ag_law_kept.specs.Holds.{Holds}

-- one link is set
pub holds_link : (past : Past) (cs : List Confirmed) (logs : Logs) (g : Group) (n m : ℕ) (ms : List Message) → Holds past cs logs g → AllByRecursion (MessageTells past logs n (replica g n) m (replica g m)) ms → Holds past cs logs (with_link g n m ms)
holds_link past cs logs g n m ms h new = record {
  asked = h.asked;
  knowing = h.knowing;
  states = h.states;
  leaders = h.leaders;
  messages =
      at_set (λ a (row : List (List Message)). (b : ℕ) → AllByRecursion (MessageTells past logs a (replica g a) b (replica g b)) (get_or row b [])) g.links [] n (set (get_or g.links n []) m ms) h.messages
      (at_set (λ b (l : List Message). AllByRecursion (MessageTells past logs n (replica g n) b (replica g b)) l) (get_or g.links n []) [] m ms (h.messages n) new);
  members = h.members;
  takens = h.takens;
  targets = h.targets;
  commits = h.commits;
}

-- messages that replica n may send
abbrev pub Sendable : Past → Logs → Group → ℕ → List Posting → Type 0
Sendable past logs g n ps = AllByRecursion (λ p. MessageTells past logs n (replica g n) p.to (replica g p.to) p.message) ps

pub holds_posted : (past : Past) (cs : List Confirmed) (logs : Logs) (n : ℕ) (ps : List Posting) (g : Group) → Holds past cs logs g → Sendable past logs g n ps → Holds past cs logs (posted n ps g)
holds_posted past cs logs n [] g h all = h
holds_posted past cs logs n (p ∷ ps) g h all =
    holds_posted past cs logs n ps (with_link g n p.to (link g n p.to ++ p.message ∷ []))
    (holds_link past cs logs g n p.to (link g n p.to ++ p.message ∷ []) h (all_append (MessageTells past logs n (replica g n) p.to (replica g p.to)) (link g n p.to) (p.message ∷ []) (h.messages n p.to) (all.0, tt))) all.1

pub holds_taken : (past : Past) (cs : List Confirmed) (logs : Logs) (g : Group) (n m i : ℕ) → Holds past cs logs g → Holds past cs logs (taken g n m i)
holds_taken past cs logs g n m i h =
    holds_link past cs logs g n m _ h (all_append (MessageTells past logs n (replica g n) m (replica g m)) (take (i - 1) (link g n m)) (drop i (link g n m)) (all_take _ (i - 1) _ (h.messages n m)) (all_drop _ i _ (h.messages n m)))
