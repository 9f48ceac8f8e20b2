-- What a message that comes makes of the log of its replica, and the messages that tell of logs.
use Rattle.std.proofs.Common.{◌≡◌, ℕ, zero, suc, ◌+◌, List, [], ◌∷◌, ◌++◌, length, take, Bool, true, false, refl, ap, subst, arith}
use Rattle.std.specs.Prelude.{◌==◌, ◌||◌, not, Option, Some, None}
use Rattle.std.specs.List.{AllByRecursion}
use Rattle.std.proofs.lemmas.Bool.{or_parts, not-false, ltb-false, leb-false}
use Rattle.ag_model.specs.declared.message.Block.{Block}
use Rattle.ag_model.specs.declared.message.Body.{Body}
use Rattle.ag_model.specs.declared.message.Body.TheVariants.{Hello, Resume, Block as OfBlock, Ack, PageAsk, PageGive, PageNo}
use Rattle.ag_model.specs.declared.config.Ticket.{Ticket}
use Rattle.ag_model.specs.declared.config.TermStart.{TermStart}
use Rattle.ag_model.specs.declared.answer.Answer.{Answer}
use Rattle.ag_model.specs.declared.answer.Answer.TheVariants.{Installed, NoPage}
use Rattle.ag_model.specs.declared.answer.Refusal.TheVariants.{Nothing}
use Rattle.ag_rules.specs.Replica.{Replica, Master, end, peer, with_peer, page, with_page, applied_of, is_bad, is_wanted}
use Rattle.ag_rules.specs.Plan.{Here, Posting, Write, Block_write, Master_write, written, all_written, each_synced, writing, at_once}
use Rattle.ag_rules.specs.Messages.{ack_to}
use Rattle.ag_rules.specs.SendEvent.{send_part, checks_of_send, sends, with_sent, block_to_send}
use Rattle.ag_rules.specs.JoinEvent.{join_part, checks_of_join, next_ticket, joining}
use Rattle.ag_rules.specs.HelloMessage.{hello_part, checks_of_hello, fork_with, greeted}
use Rattle.ag_rules.specs.ResumeMessage.{resume_message_part, checks_of_resume_message, waits_for, goes_on, stays, may_follow, follows_from, reverts_from, foreign_from}
use Rattle.ag_rules.specs.BlockMessage.{block_part, cases_of_block, acks}
use Rattle.ag_rules.specs.AckMessage.{ack_message_part, checks_of_ack_message, known_peer}
use Rattle.ag_rules.specs.Checks.{of_other_term, link_is_full}
use Rattle.ag_rules.specs.PageAskMessage.{page_ask_part}
use Rattle.ag_rules.specs.PageGiveMessage.{page_give_part, comes, with_come, is_last, initialising}
use Rattle.ag_rules.specs.Redo.{install_of, installed}
use Rattle.ag_rules.specs.DeliverEvent.{arrives}
use Rattle.ag_lists.proofs.Tests.{if_has}
use Rattle.ag_lists.proofs.Each.{all_append}
use Rattle.ag_laws.specs.Logs.{Logs, Setting}
use Rattle.ag_laws.specs.At.{At}
use Rattle.ag_laws.specs.Fits.{IsAnswered, BlockFits, ResumeFits, BodyFits}
use Rattle.ag_laws.proofs.Plans.{case_has, question_has, arrival_has}
use Rattle.ag_laws.proofs.BlockKeeps.{same_term}
use Rattle.ag_laws.proofs.Steps.{IsSmall}
use Rattle.ag_laws.proofs.Disks.{install_is_small}
use Rattle.ag_law_proper.specs.Growth.{Told, LogGoes, Stands, Cuts, Comes, Follows, Posts, Plain, SaysHello, Answers, Sends}
use Rattle.ag_law_proper.proofs.Parts.{PartGoes, lead_same, quiet_goes, at_once_goes, same_goes, checked_goes, small_goes, remaster_goes}

sends_go : (logs : Logs) (told : Told) (pages : ℕ) (r : Replica) (m : ℕ) (o : Option ℕ) → r.leads ≡ true → block_to_send r m ≡ o → PartGoes logs told pages r (sends r m o)
sends_go logs told pages r m None leads e = same_goes logs told pages r _
sends_go logs told pages r m (Some last) leads e = quiet_goes logs told pages r _ refl refl (lead_same pages r (with_sent r m last) refl refl) (Sends m last leads e refl, tt)

pub send_goes : (logs : Logs) (told : Told) (pages m : ℕ) (h : Here) (r : Replica) (full : Bool) → PartGoes logs told pages r (send_part h r m full)
unfolding send_part
send_goes logs told pages m h r full = checked_goes logs told pages r (checks_of_send h r m full) _ (λ p. sends_go logs told pages r m (block_to_send r m) (not-false _ p.1.0) refl)

pub join_goes : (logs : Logs) (told : Told) (pages : ℕ) (h : Here) (r : Replica) (full : Bool) → PartGoes logs told pages r (join_part h r full)
unfolding join_part
join_goes logs told pages h r full = checked_goes logs told pages r (checks_of_join h r full) _ (λ p. quiet_goes logs told pages r _ refl refl (lead_same pages r (joining r) refl refl) (SaysHello (next_ticket r) (not-false _ p.0) refl, tt))

pub hello_goes : (logs : Logs) (told : Told) (pages n : ℕ) (h : Here) (r : Replica) (full : Bool) (term : ℕ) (ticket : Ticket) (its_end : ℕ) (starts : List TermStart) → told (record { term = term; body = Hello ticket its_end starts }) → PartGoes logs told pages r (hello_part h n r full term ticket its_end starts)
unfolding hello_part
hello_goes logs told pages n h r full term ticket its_end starts known =
    checked_goes logs told pages r (checks_of_hello h n r full term) _ (λ p.
    let one : (not r.leads ≡ false) × (not (term == r.term) ≡ false) = or_parts _ _ p.0 in
    let after : Replica = with_peer r n (greeted (fork_with r its_end starts)) in
    quiet_goes logs told pages r _ refl refl (lead_same pages r after refl refl)
    (Answers ticket its_end starts (subst (λ (t : ℕ). told (record { term = t; body = Hello ticket its_end starts })) (same_term term r.term one.1) known) (not-false _ one.0) refl, tt))

-- an accepted Resume: one write of the master
accepted_goes : (logs : Logs) (told : Told) (pages : ℕ) (r : Replica) (answer : Answer) (master : Master) (term fork its_end : ℕ) (ticket : Ticket) (then_ : Replica) → told (record { term = term; body = Resume ticket fork its_end }) → IsAnswered logs term fork r → then_.kept ≡ r.kept → then_.leads ≡ false
    → PartGoes logs told pages r (writing answer (each_synced (Master_write master fork ∷ [])) [] then_)
accepted_goes logs told pages r answer master term fork its_end ticket then_ known answered same follows = record {
  log = Cuts term fork its_end ticket known answered (ap (λ k. (written k (Master_write master fork)).log) same);
  lead = Follows follows;
  out = tt;
  batches = (tt, tt);
  writes = steps;
}
  where
    steps : (j : ℕ) → LogGoes logs told pages r (all_written r.kept (take j (each_synced (Master_write master fork ∷ [])))).log
    steps zero = Stands refl
    steps (suc zero) = Cuts term fork its_end ticket known answered refl
    steps (suc (suc j)) = Cuts term fork its_end ticket known answered refl

pub resume_goes : (s : Setting) (logs : Logs) (told : Told) (pages n m : ℕ) (h : Here) (r : Replica) (term : ℕ) (ticket : Ticket) (fork its_end : ℕ) → told (record { term = term; body = Resume ticket fork its_end }) → ResumeFits s logs m r term ticket fork → PartGoes logs told pages r (resume_message_part h n r term ticket fork its_end)
unfolding resume_message_part
resume_goes s logs told pages n m h r term ticket fork its_end known fits =
    let foreign : List ℕ = foreign_from h.pages r fork in
    checked_goes logs told pages r (checks_of_resume_message r ticket fork) _
    (λ p.
    let one : (r.leads ≡ false) × (not (waits_for r.following.ticket ticket) ≡ false) = or_parts _ _ p.0 in
    let answered : IsAnswered logs term fork r = fits.waits (not-false _ one.1) in
    if_has (PartGoes logs told pages r) (goes_on r term fork) (stays n r term fork) _
    (λ _. accepted_goes logs told pages r _ _ term fork its_end ticket _ known answered refl one.0)
    (λ _. if_has (PartGoes logs told pages r) (may_follow foreign) (follows_from n r term fork) (reverts_from n r term fork its_end foreign)
    (λ _. accepted_goes logs told pages r _ _ term fork its_end ticket _ known answered refl one.0)
    (λ _. accepted_goes logs told pages r _ _ term fork its_end ticket _ known answered refl one.0)))

acks_plain : (told : Told) (n hardened : ℕ) (r x : Replica) → AllByRecursion (λ (p : Posting). Posts told x p.message) (acks n r hardened)
acks_plain told n hardened r x = if_has (AllByRecursion (λ (p : Posting). Posts told x p.message)) (r.state == 1) (ack_to n r hardened) [] (λ _. (Plain refl, tt)) (λ _. tt)

pub block_goes : (s : Setting) (logs : Logs) (told : Told) (pages n m : ℕ) (h : Here) (r : Replica) (full : Bool) (term : ℕ) (b : Block) → told (record { term = term; body = OfBlock b }) → BlockFits s logs m term b → PartGoes logs told pages r (block_part h n r full term b)
unfolding block_part
block_goes s logs told pages n m h r full term b known fits =
    case_has (PartGoes logs told pages r) (cases_of_block h n r full term b) _
    ((λ _. same_goes logs told pages r _), ((λ _. same_goes logs told pages r _), ((λ _. same_goes logs told pages r _), ((λ _. quiet_goes logs told pages r _ refl refl (lead_same pages r r refl refl) (acks_plain told n (end r) r r)), ((λ _. same_goes logs told pages r _), tt)))))
    (λ p.
    let one : (r.leads ≡ false) × ((not (term == r.term) || ((r.state == 0) || (r.state == 3))) ≡ false) = or_parts _ _ p.0 in
    let two : (not (term == r.term) ≡ false) × (((r.state == 0) || (r.state == 3)) ≡ false) = or_parts _ _ one.1 in
    let same : term ≡ r.term = same_term term r.term two.0 in
    let goes : LogGoes logs told pages r (written r.kept (Block_write b.records)).log =
    Comes term b known one.0 same fits.part (omega (arith, ltb-false (end r + 1) b.first p.1.0, leb-false b.first (end r) p.1.1.1.0)) (ltb-false _ _ p.1.1.1.1.0) refl in
    record {
      log = goes;
      lead = Follows one.0;
      out = acks_plain told n (end r + length b.records) r r;
      batches = (tt, tt);
      writes = steps goes;
    })
  where
    steps : LogGoes logs told pages r (written r.kept (Block_write b.records)).log → (j : ℕ) → LogGoes logs told pages r (all_written r.kept (take j (each_synced (Block_write b.records ∷ [])))).log
    steps w zero = Stands refl
    steps w (suc zero) = w
    steps w (suc (suc j)) = w

ask_goes : (logs : Logs) (told : Told) (pages n : ℕ) (h : Here) (r : Replica) (full : Bool) (term p lsn : ℕ) (primary : Bool) → PartGoes logs told pages r (page_ask_part h n r full term p lsn primary)
unfolding page_ask_part
ask_goes logs told pages n h r full term p lsn primary =
    checked_goes logs told pages r (of_other_term r term ∷ []) _
    (λ _. question_has (PartGoes logs told pages r) _ _ _ _ (is_bad r p) r.state (not r.leads) primary (applied_of r p) lsn
    (same_goes logs told pages r _)
    (checked_goes logs told pages r (link_is_full h.number n full ∷ []) _ (λ _. quiet_goes logs told pages r _ refl refl (lead_same pages r r refl refl) (Plain refl, tt)))
    (same_goes logs told pages r _)
    (checked_goes logs told pages r (link_is_full h.number n full ∷ []) _ (λ _. quiet_goes logs told pages r _ refl refl (lead_same pages r r refl refl) (Plain refl, tt))))

comes_goes : (s : Setting) (logs : Logs) (told : Told) (pages m : ℕ) (r : Replica) (p lsn : ℕ) → At s logs m r → PartGoes logs told pages r (comes r p lsn)
comes_goes s logs told pages m r p lsn a =
    let then_ : Replica = with_come r p lsn in
    if_has (λ (ws : List Write). PartGoes logs told pages r (writing (Installed p lsn) (each_synced (install_of r p ++ ws)) [] then_)) (is_last r p) (Master_write (initialising r lsn) (end r) ∷ []) []
    (λ _. remaster_goes s logs told pages m r _ (install_of r p) (initialising r lsn) [] then_ a refl (install_is_small r p) (lead_same pages r then_ refl refl) tt)
    (λ _. small_goes logs told pages r _ (install_of r p ++ []) then_ refl (all_append IsSmall (install_of r p) [] (install_is_small r p) tt) (lead_same pages r then_ refl refl))

give_goes : (s : Setting) (logs : Logs) (told : Told) (pages m : ℕ) (r : Replica) (term p lsn : ℕ) → At s logs m r → PartGoes logs told pages r (page_give_part r term p lsn)
unfolding page_give_part
give_goes s logs told pages m r term p lsn a =
    let held : Replica = with_page r p (record (page r p) { held = Some lsn }) in
    checked_goes logs told pages r (of_other_term r term ∷ []) _
    (λ _. arrival_has (PartGoes logs told pages r) _ _ _ _ (is_wanted r p) r.state (applied_of r p) lsn
    (same_goes logs told pages r _)
    (λ _. comes_goes s logs told pages m r p lsn a)
    (small_goes logs told pages r _ (install_of r p) (installed (p ∷ []) r) refl (install_is_small r p) (lead_same pages r (installed (p ∷ []) r) refl refl))
    (at_once_goes logs told pages r _ held refl (lead_same pages r held refl refl)))

ack_goes : (logs : Logs) (told : Told) (pages n : ℕ) (r : Replica) (term hardened its_low : ℕ) → PartGoes logs told pages r (ack_message_part n r term hardened its_low)
unfolding ack_message_part
ack_goes logs told pages n r term hardened its_low =
    let after : Replica = with_peer r n (known_peer (peer r n) hardened its_low) in
    checked_goes logs told pages r (checks_of_ack_message n r term) _ (λ _. at_once_goes logs told pages r _ after refl (lead_same pages r after refl refl))

-- a message, whichever it is
pub arrives_goes : (s : Setting) (logs : Logs) (told : Told) (pages n m : ℕ) (h : Here) (from r : Replica) (full : Bool) (term : ℕ) (b : Body) → At s logs m r → told (record { term = term; body = b }) → BodyFits s logs from m r term b → PartGoes logs told pages r (arrives h n r full term b)
arrives_goes s logs told pages n m h from r full term (Hello ticket its_end starts) a known fits = hello_goes logs told pages n h r full term ticket its_end starts known
arrives_goes s logs told pages n m h from r full term (Resume ticket fork its_end) a known fits = resume_goes s logs told pages n m h r term ticket fork its_end known fits
arrives_goes s logs told pages n m h from r full term (OfBlock b) a known fits = block_goes s logs told pages n m h r full term b known fits
arrives_goes s logs told pages n m h from r full term (Ack hardened low) a known fits = ack_goes logs told pages n r term hardened low
arrives_goes s logs told pages n m h from r full term (PageAsk p lsn primary) a known fits = ask_goes logs told pages n h r full term p lsn primary
arrives_goes s logs told pages n m h from r full term (PageGive lsn v) a known fits = give_goes s logs told pages m r term v.page lsn a
arrives_goes s logs told pages n m h from r full term (PageNo p) a known fits = checked_goes logs told pages r (record { when = not (term == r.term); refusal = Nothing } ∷ []) (at_once (NoPage p) r) (λ _. same_goes logs told pages r _)
