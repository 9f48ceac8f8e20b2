-- What an event owes at its replica, so that the group stays good: once for all events.
use Rattle.std.proofs.Common.{◌≡◌, ◌≢◌, ℕ, zero, suc, ◌≤◌, List, [], ◌∷◌, take, true, refl, sym, subst, arith}
use Rattle.std.specs.List.{AllByRecursion}
use Rattle.ag_model.specs.declared.config.Ticket.{Ticket}
use Rattle.ag_model.specs.declared.answer.Answer.{Answer}
use Rattle.ag_model.specs.declared.answer.Answer.TheVariants.{No}
use Rattle.ag_rules.specs.Replica.{Replica, Kept, records, term_of_disk}
use Rattle.ag_rules.specs.Group.{Group}
use Rattle.ag_rules.specs.Plan.{Part, Posting, Write, Batch, Page_write, Note_write, Repaired_write, all_written, Check, at_once, unless}
use Rattle.ag_rules.specs.ResumeMessage.{waits_for}
use Rattle.ag_rules.specs.Next.{token}
use Rattle.ag_rules.specs.SessionLaw.{Reaches}
use Rattle.ag_laws.specs.Prefix.{IsPrefixOf}
use Rattle.ag_laws.specs.Fits.{MessageFits, IsGiven}
use Rattle.ag_laws.specs.Keeps.{Keeps, Later}
use Rattle.ag_laws.specs.Logs.{Logs, Setting, AreLogs}
use Rattle.ag_laws.specs.At.{At}
use Rattle.ag_laws.specs.Disk.{KeptAt}
use Rattle.ag_laws.specs.Good.{Good}
use Rattle.ag_laws.proofs.Prefix.{prefix_refl}
use Rattle.ag_laws.proofs.Plans.{Passes, unless_has}

-- how the logs may grow by an event of replica n that leaves it in this term: by records of the term, if it leads it
pub record Longer (s : Setting) (logs grown : Logs) (n term : ℕ) : Type 0 where
  pub longer : (t : ℕ) → IsPrefixOf (logs t) (grown t)
  pub others : (t : ℕ) → t ≢ term → logs t ≡ grown t
  pub mine : s.leader term ≢ n → logs term ≡ grown term
  pub are : AreLogs s grown

-- what a replica that waits for the ticket afterwards was before
pub record Waited (ticket : Ticket) (r after : Replica) : Type 0 where
  pub waited : waits_for r.following.ticket ticket ≡ true
  pub term : after.term ≡ r.term
  pub prefix : IsPrefixOf (records r) (records after)

-- how a replica may change, beside the tickets that it gave out
pub record Moves (r after : Replica) : Type 0 where
  pub given : (ticket : Ticket) → IsGiven ticket r → IsGiven ticket after
  pub waits : (ticket : Ticket) → IsGiven ticket r → waits_for after.following.ticket ticket ≡ true → Waited ticket r after

-- what a disk is after some writes, perhaps with logs that grew
pub record KeptKeeps (s : Setting) (logs : Logs) (n : ℕ) (old k : Kept) : Type 0 where
  pub grown : Logs
  pub grows : Longer s logs grown n (term_of_disk k)
  pub at : KeptAt s grown n k
  pub incarnation : old.master.incarnation ≤ k.master.incarnation

-- writes that leave log and master alone
abbrev pub IsSmall : Write → Type 0
IsSmall (Page_write p) = Unit {0}
IsSmall (Note_write p kind) = Unit {0}
IsSmall (Repaired_write p) = Unit {0}
IsSmall _ = ⊥

-- a batch has one write, or small ones alone
abbrev pub IsBatch : Batch → Type 0
IsBatch (w ∷ []) = Unit {0}
IsBatch ws = AllByRecursion IsSmall ws

-- a posting of replica n, whichever replica it comes to
abbrev pub PostingFits : Setting → Logs → (ℕ → Replica) → ℕ → Replica → Posting → Type 0
PostingFits s logs others n r p = (to : Replica) → (p.to ≢ n → to ≡ others p.to) → MessageFits s logs r p.to to p.message

-- what each event owes: what it does at replica n keeps the invariant, done whole and after each of its batches
pub record PartKeeps (s : Setting) (logs : Logs) (others : ℕ → Replica) (n : ℕ) (r : Replica) (part : Part) : Type 0 where
  pub grown : Logs
  pub grows : Longer s logs grown n part.after.term
  pub after : At s grown n part.after
  pub moves : Moves r part.after
  pub out : AllByRecursion (PostingFits s grown others n part.after) part.out
  pub batches : AllByRecursion IsBatch part.writes
  pub writes : (j : ℕ) → KeptKeeps s logs n r.kept (all_written r.kept (take j part.writes))

-- the group after is as good in the same setting
pub record Stays (s : Setting) (logs : Logs) (before after : Group) : Type 0 where
  pub grown : Logs
  pub later : Later s logs s grown after
  pub good : Good s grown after
  pub sessions : (x : ℕ) → Reaches (token before x) (token after x)

pub keeps_of : (s : Setting) (logs : Logs) (before after : Group) → Stays s logs before after → Keeps s logs before after
keeps_of s logs before after k = record { setting = s; step = omega arith; grown = k.grown; later = k.later; good = k.good; sessions = k.sessions }

pub moves_refl : (r : Replica) → Moves r r
moves_refl r = record { given = λ t g. g; waits = λ t g w. record { waited = w; term = refl; prefix = prefix_refl (records r) } }

pub longer_same : (s : Setting) (logs : Logs) (n term : ℕ) → AreLogs s logs → Longer s logs logs n term
longer_same s logs n term are = record { longer = λ t. prefix_refl (logs t); others = λ t _. refl; mine = λ _. refl; are = are }

-- an event that writes nothing
pub quiet : (s : Setting) (logs : Logs) (others : ℕ → Replica) (n : ℕ) (r : Replica) (part : Part) → AreLogs s logs → At s logs n r → At s logs n part.after → Moves r part.after → part.writes ≡ [] → AllByRecursion (PostingFits s logs others n part.after) part.out → PartKeeps s logs others n r part
quiet s logs others n r part are before after moves none out = record {
  grown = logs;
  grows = longer_same s logs n part.after.term are;
  after = after;
  moves = moves;
  out = out;
  batches = subst (λ (ws : List Batch). AllByRecursion IsBatch ws) (sym none) tt;
  writes = λ j. subst (λ (ws : List Batch). KeptKeeps s logs n r.kept (all_written r.kept (take j ws))) (sym none) (of_none j);
}
  where
    here : KeptKeeps s logs n r.kept r.kept
    here = record { grown = logs; grows = longer_same s logs n (term_of_disk r.kept) are; at = before.kept; incarnation = omega arith }

    of_none : (j : ℕ) → KeptKeeps s logs n r.kept (all_written r.kept (take j []))
    of_none zero = here
    of_none (suc j) = here

-- an answer that changes nothing
pub same_keeps : (s : Setting) (logs : Logs) (others : ℕ → Replica) (n : ℕ) (r : Replica) (a : Answer) → AreLogs s logs → At s logs n r → PartKeeps s logs others n r (at_once a r)
same_keeps s logs others n r a are at = quiet s logs others n r (at_once a r) are at at (moves_refl r) refl tt

-- an event with refusals
pub checked : (s : Setting) (logs : Logs) (others : ℕ → Replica) (n : ℕ) (r : Replica) (checks : List Check) (part : Part) → AreLogs s logs → At s logs n r → (Passes checks → PartKeeps s logs others n r part) → PartKeeps s logs others n r (unless checks r part)
checked s logs others n r checks part are at f = unless_has (PartKeeps s logs others n r) checks r part (λ why. same_keeps s logs others n r (No why) are at) f
