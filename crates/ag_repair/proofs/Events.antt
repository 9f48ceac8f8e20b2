-- The events do what these answers say.
use Rattle.std.proofs.Common.{◌≡◌, ℕ, [], ◌∷◌, Bool, true, false, refl, ◌∙◌, arith}
use Rattle.std.specs.Prelude.{not, ◌&&◌, ◌||◌, ◌==◌, if◌then◌else◌}
use Rattle.ag_repair.specs.declared.repair.Giving.TheVariants.{Give, Refuse, Nothing, Wait}
use Rattle.ag_repair.specs.declared.repair.Arrival.TheVariants.{Install, Hold, NotWanted}
use Rattle.ag_model.specs.declared.answer.Refusal.TheVariants.{Nothing as NothingRefusal, Wait as WaitRefusal}
use Rattle.ag_model.specs.declared.answer.Answer.TheVariants.{Gave, Refused}
use Rattle.ag_rules.specs.Replica.{Replica, is_bad, takes_foreign, is_wanted, applied_of}
use Rattle.ag_rules.specs.Plan.{Here, Part, unless, refused}
use Rattle.ag_rules.specs.Checks.{of_other_term}
use Rattle.ag_rules.specs.PageAskMessage.{page_ask_part, answers, no_page, given_page, says_nothing, cannot_give, must_wait}
use Rattle.ag_rules.specs.PageGiveMessage.{page_give_part, comes, installs, holds}
use Rattle.ag_rules.specs.Redo.{may_install}
use Rattle.ag_repair.specs.Pages.{giving_of, arrival_of}
use Rattle.ag_repair.specs.Parts.{part_of_giving, part_of_arrival}

-- a message of the replica's own term passes
own_term : (r : Replica) (part : Part) → unless (of_other_term r r.term ∷ []) r part ≡ part
own_term r part = passed (r.term == r.term) (grind arith)
  where
    passed : (b : Bool) → b ≡ true → (if not b then refused NothingRefusal r else part) ≡ part
    passed true e = refl
    passed false e = absurd (cc)

-- the part of each outcome of a question is the outcome of the parts
giving_parts : (h : Here) (n : ℕ) (r : Replica) (full : Bool) (p lsn : ℕ) (nobody refuses late : Bool) →
    (if nobody then refused NothingRefusal r else if refuses then answers h n r full (Refused p) (no_page r p) else if late then refused (WaitRefusal (applied_of r p) lsn) r else answers h n r full (Gave p (applied_of r p)) (given_page h.pages r p))
    ≡ part_of_giving (if nobody then Nothing else if refuses then Refuse else if late then Wait (applied_of r p) lsn else Give) h n r full p
giving_parts h n r full p lsn true refuses late = refl
giving_parts h n r full p lsn false true late = refl
giving_parts h n r full p lsn false false true = refl
giving_parts h n r full p lsn false false false = refl

pub give_agrees : (h : Here) (n : ℕ) (r : Replica) (full : Bool) (p lsn : ℕ) (primary : Bool) → page_ask_part h n r full r.term p lsn primary ≡ part_of_giving (giving_of (is_bad r p) r.state (not r.leads) primary (applied_of r p) lsn) h n r full p
unfolding page_ask_part
give_agrees h n r full p lsn primary =
    own_term r _ ∙ giving_parts h n r full p lsn (says_nothing (not r.leads) primary) (cannot_give (is_bad r p) r.state) (must_wait (not r.leads) (applied_of r p) lsn)

-- the same of a page that comes
arrival_parts : (r : Replica) (p lsn : ℕ) (wanted foreign near : Bool) → takes_foreign r.state ≡ foreign →
    (if not wanted then refused NothingRefusal r else if foreign then comes r p lsn else if near then installs r p lsn else holds r p lsn)
    ≡ part_of_arrival (if not wanted then NotWanted else if foreign then Install else if near then Install else Hold) r p lsn
arrival_parts r p lsn false foreign near s = refl
arrival_parts r p lsn true true near s = rw s refl
arrival_parts r p lsn true false true s = rw s refl
arrival_parts r p lsn true false false s = refl

pub arrive_agrees : (r : Replica) (p lsn : ℕ) → page_give_part r r.term p lsn ≡ part_of_arrival (arrival_of (is_wanted r p) r.state (applied_of r p) lsn) r p lsn
unfolding page_give_part
arrive_agrees r p lsn = own_term r _ ∙ arrival_parts r p lsn (is_wanted r p) (takes_foreign r.state) (may_install (applied_of r p) lsn) refl
