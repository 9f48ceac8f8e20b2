-- Events of a primary, and of a replica that becomes one: an Ack comes, `mend`, `start` and the takeover of a failover.
use Rattle.std.proofs.Common.{◌≡◌, ℕ, zero, suc, ◌<◌, ◌≤◌, max, List, [], ◌∷◌, ◌++◌, length, map, take, get_or, Bool, true, false, inl, refl, sym, ap, ◌∙◌, subst, arith}
use Rattle.std.specs.Prelude.{Option, None, ◌==◌, ◌||◌, not, nat_le}
use Rattle.std.specs.List.{AllByRecursion}
use Rattle.std.proofs.lemmas.Bool.{false≢true, not-false, or_parts, eqb-true, leb-true, leb-false}
use Rattle.ag_model.specs.declared.record.Record.{Record}
use Rattle.ag_model.specs.declared.config.Mode.{Mode}
use Rattle.ag_model.specs.declared.config.Register.{Register}
use Rattle.ag_model.specs.declared.config.Ticket.{Ticket}
use Rattle.ag_model.specs.declared.event.Suffix.{Suffix}
use Rattle.ag_model.specs.declared.answer.Answer.TheVariants.{Mended}
use Rattle.ag_model.specs.declared.answer.Refusal.TheVariants.{Nothing}
use Rattle.ag_rules.specs.Replica.{Replica, Kept, Master, Peer, end, peer, no_peer, with_peer, is_reverting, stepped_down, all_at}
use Rattle.ag_rules.specs.Group.{Group, replica}
use Rattle.ag_rules.specs.Plan.{Here, Part, Write, Block_write, Master_write, written, all_written, each_synced, at_once, at_node}
use Rattle.ag_rules.specs.Cut.{cut}
use Rattle.ag_rules.specs.Redo.{notes_of, touched_up_to, redone}
use Rattle.ag_rules.specs.Promotion.{blocks_of, promotion_touches, promotion_writes, leads_now}
use Rattle.ag_rules.specs.AckMessage.{ack_message_part, checks_of_ack_message, known_peer}
use Rattle.ag_rules.specs.CutEvent.{mend_part, told}
use Rattle.ag_rules.specs.StartEvent.{start_part, checks_of_start, start_records, started_master, start_writes, starts_reverting, starts_first, starts_second, is_named, woken}
use Rattle.ag_rules.specs.Failover.{takes_over, target}
use Rattle.ag_rules.specs.ResumeMessage.{waits_for}
use Rattle.ag_rules.specs.KeptLaw.{Confirmed}
use Rattle.ag_lists.proofs.Tests.{by_bool, if_has}
use Rattle.ag_lists.proofs.Places.{at_set}
use Rattle.ag_laws.specs.Logs.{Logs}
use Rattle.ag_laws.proofs.Prefix.{prefix_refl, prefix_trans}
use Rattle.ag_laws.proofs.Plans.{unless_has}
use Rattle.ag_laws.proofs.Disks.{core_refl, small_all, small_some, each_batches, notes_are_small}
use Rattle.ag_laws.proofs.Blocks.{small_then, small_then_all}
use Rattle.ag_laws.proofs.BlockKeeps.{same_term}
use Rattle.ag_laws.proofs.Steps.{IsSmall}
use Rattle.ag_law_kept.specs.Known.{IsKnown}
use Rattle.ag_law_kept.specs.Past.{Past}
use Rattle.ag_law_kept.specs.Holds.{IsSaved, IsLeader, Holds}
use Rattle.ag_law_kept.proofs.Known.{known_none}
use Rattle.ag_law_kept.proofs.World.{IsWorld, AreGrown}
use Rattle.ag_law_kept.proofs.Longer.{leader_longer}
use Rattle.ag_law_kept.proofs.Goes.{DiskGoes, disk_core, ReplicaGoes, Fit, leader_on, PartGoes, Outcome, cut_holds}
use Rattle.ag_law_kept.proofs.Calm.{PartCalm, disk_refl, still, same_calm, goes_core}
use Rattle.ag_law_kept.proofs.Grows.{log_goes, master_goes}

-- an event after which a replica that acts as primary holds what one has to
pub record PartFits (past : Past) (logs : Logs) (store : Register) (pages n : ℕ) (r : Replica) (part : Part) : Type 0 where
  pub goes : PartGoes pages r part
  pub leads : part.after.leads ≡ true → IsLeader past logs store n part.after

pub fits_of_calm : (past : Past) (logs : Logs) (store : Register) (pages n : ℕ) (r : Replica) (part : Part) → (r.leads ≡ true → IsLeader past logs store n r) → PartCalm pages r part → PartFits past logs store pages n r part
fits_of_calm past logs store pages n r part old calm = record { goes = calm.goes; leads = λ e. leader_on past logs logs store n r part.after (λ t. prefix_refl (logs t)) (calm.leads e) old }

-- such an event, cut short anywhere
pub cut_fits : (past : Past) (cs : List Confirmed) (logs grown : Logs) (g : Group) (n : ℕ) (part : Part) (suffix : Suffix) → IsWorld past logs g → Holds past cs logs g → n < length g.replicas → PartFits past logs g.register g.config.pages n (replica g n) part
    → IsWorld past grown (cut suffix (at_node g n part)).after → AreGrown past logs grown (cut suffix (at_node g n part)).after → Outcome past cs grown (cut suffix (at_node g n part)).after
cut_fits past cs logs grown g n part suffix w h there fits w2 gr =
    cut_holds past cs logs grown g n w h there part suffix fits.goes (λ longer e. leader_longer past logs grown longer g.register n part.after (fits.leads e)) w2 gr

pub cut_calm : (past : Past) (cs : List Confirmed) (logs grown : Logs) (g : Group) (n : ℕ) (part : Part) (suffix : Suffix) → IsWorld past logs g → Holds past cs logs g → n < length g.replicas → PartCalm g.config.pages (replica g n) part
    → IsWorld past grown (cut suffix (at_node g n part)).after → AreGrown past logs grown (cut suffix (at_node g n part)).after → Outcome past cs grown (cut suffix (at_node g n part)).after
cut_calm past cs logs grown g n part suffix w h there calm =
    cut_fits past cs logs grown g n part suffix w h there (fits_of_calm past logs g.register g.config.pages n (replica g n) part (h.leaders n) calm)

-- a primary that knows something else of a replica
pub leader_knows : (past : Past) (logs : Logs) (store : Register) (m n : ℕ) (r : Replica) (new : Peer) → IsLeader past logs store m r → IsKnown (past.told n r.term) (logs r.term) new.hardened → IsLeader past logs store m (with_peer r n new)
leader_knows past logs store m n r new l k = record {
  stale = l.stale;
  primary = l.primary;
  copy = l.copy;
  old = l.old;
  peers = at_set (λ i (x : Peer). IsKnown (past.told i r.term) (logs r.term) x.hardened) r.leading.peers no_peer n new l.peers k;
  free = l.free;
  normal = l.normal;
}

known_max : (told log : List Record) (a b : ℕ) → IsKnown told log a → IsKnown told log b → IsKnown told log (max a b)
known_max told log a b p q =
    by_bool (nat_le a b) (λ v. nat_le a b ≡ v → IsKnown told log (max a b))
    (λ _ e. let same : b ≡ max a b = omega (arith, leb-true a b e) in subst (IsKnown told log) same q)
    (λ _ e. let same : a ≡ max a b = omega (arith, leb-false a b e) in subst (IsKnown told log) same p)
    refl

-- an Ack of replica n comes
pub ack_fits : (past : Past) (logs : Logs) (store : Register) (pages n m : ℕ) (r : Replica) (term hardened its_low : ℕ) → Fit pages r → (r.leads ≡ true → IsLeader past logs store m r) → IsKnown (past.told n term) (logs term) hardened → PartFits past logs store pages m r (ack_message_part n r term hardened its_low)
unfolding ack_message_part
ack_fits past logs store pages n m r term hardened its_low f leads known =
    let r2 : Replica = with_peer r n (known_peer (peer r n) hardened its_low) in
    unless_has (PartFits past logs store pages m r) (checks_of_ack_message n r term) r _
    (λ why. fits_of_calm past logs store pages m r _ leads (same_calm pages r _ f))
    (λ p.
    let one : (not r.leads ≡ false) × ((not (term == r.term) || not (peer r n).connected) ≡ false) = or_parts _ _ p.0 in
    let two : (not (term == r.term) ≡ false) × (not (peer r n).connected ≡ false) = or_parts _ _ one.1 in
    let same : term ≡ r.term = same_term term r.term two.0 in
    let l : IsLeader past logs store m r = leads (not-false _ one.0) in
    let k : IsKnown (past.told n r.term) (logs r.term) hardened = subst (λ (t : ℕ). IsKnown (past.told n t) (logs t) hardened) same known in
    record {
      goes = record { batches = tt; writes = no_writes; after = still pages r r2 f refl refl refl; out = inl tt };
      leads = λ e. leader_knows past logs store m n r (known_peer (peer r n) hardened its_low) l (known_max (past.told n r.term) (logs r.term) (peer r n).hardened hardened (l.peers n) k);
    })
  where
    no_writes : (j : ℕ) → DiskGoes pages r.kept (all_written r.kept (take j []))
    no_writes zero = disk_refl pages r.kept f.disk
    no_writes (suc j) = disk_refl pages r.kept f.disk

-- a primary that steps down
pub down_goes : (pages : ℕ) (r : Replica) (cut_off : Bool) → Fit pages r → is_reverting r.state ≡ false → ReplicaGoes pages r (stepped_down (record r { cut_off = cut_off }))
down_goes pages r cut_off f normal = record {
  disk = disk_refl pages r.kept f.disk;
  low = λ e. omega arith;
  saved = f.saved ∙ normal;
  normal = λ e. refl;
  waits = λ t w. absurd (false≢true w);
  follows = λ e. refl;
  whole = λ e t w. absurd (false≢true w);
}

pub mend_fits : (past : Past) (logs : Logs) (n : ℕ) (h : Here) (r : Replica) → Fit h.pages r → h.number ≡ n → (r.leads ≡ true → IsLeader past logs h.store n r) → PartFits past logs h.store h.pages n r (mend_part h r)
unfolding mend_part
mend_fits past logs n h r f number leads =
    let back : Replica = record r { cut_off = false } in
    let known : Replica = told h.store.synced back in
    unless_has (PartFits past logs h.store h.pages n r) (record { when = not r.cut_off; refusal = Nothing } ∷ []) r _
    (λ why. fits_of_calm past logs h.store h.pages n r _ leads (same_calm h.pages r _ f))
    (λ _. if_has (λ (x : Replica). PartFits past logs h.store h.pages n r (at_once Mended x)) r.leads _ back
    (λ e.
    let l : IsLeader past logs h.store n r = leads e in
    if_has (λ (x : Replica). PartFits past logs h.store h.pages n r (at_once Mended x)) (h.store.primary == h.number) known (stepped_down back)
    (λ t.
    let now : r.term ≡ h.store.term = l.primary (eqb-true h.store.primary h.number t ∙ number) in
    record {
      goes = record { batches = tt; writes = no_writes; after = still h.pages r known f refl refl refl; out = inl tt };
      leads = λ _. record { stale = λ _. now; primary = λ _. now; copy = λ _. refl; old = λ low safe. absurd (omega (arith, low, now)); peers = l.peers; free = l.free; normal = l.normal };
    })
    (λ _. record { goes = record { batches = tt; writes = no_writes; after = down_goes h.pages r false f l.normal; out = inl tt }; leads = λ q. absurd (false≢true q) }))
    (λ e. record { goes = record { batches = tt; writes = no_writes; after = still h.pages r back f refl refl refl; out = inl tt }; leads = λ q. absurd (false≢true (sym e ∙ q)) }))
  where
    no_writes : (j : ℕ) → DiskGoes h.pages r.kept (all_written r.kept (take j []))
    no_writes zero = disk_refl h.pages r.kept f.disk
    no_writes (suc j) = disk_refl h.pages r.kept f.disk

pub disk_trans : (pages : ℕ) (a b c : Kept) → DiskGoes pages a b → DiskGoes pages b c → DiskGoes pages a c
disk_trans pages a b c p q = record {
  prefix = prefix_trans a.log.records b.log.records c.log.records p.prefix q.prefix;
  term = omega (arith, p.term, q.term);
  saved = q.saved;
  normal = λ e. q.normal (p.normal e);
}

-- the disk after some blocks, and after all
blocks_some : (pages : ℕ) (k : Kept) (bs : List (List Record)) (j : ℕ) → IsSaved pages k.master → DiskGoes pages k (all_written k (take j (each_synced (map Block_write bs))))
blocks_some pages k [] zero s = disk_refl pages k s
blocks_some pages k [] (suc j) s = disk_refl pages k s
blocks_some pages k (b ∷ bs) zero s = disk_refl pages k s
blocks_some pages k (b ∷ bs) (suc j) s = disk_trans pages k (written k (Block_write b)) _ (log_goes pages k (written k (Block_write b)) s (b, refl) refl) (blocks_some pages (written k (Block_write b)) bs j s)

blocks_all : (pages : ℕ) (k : Kept) (bs : List (List Record)) → IsSaved pages k.master → DiskGoes pages k (all_written k (each_synced (map Block_write bs))) × ((all_written k (each_synced (map Block_write bs))).master ≡ k.master)
blocks_all pages k [] s = (disk_refl pages k s, refl)
blocks_all pages k (b ∷ bs) s =
    let rest : DiskGoes pages (written k (Block_write b)) (all_written (written k (Block_write b)) (each_synced (map Block_write bs))) × ((all_written (written k (Block_write b)) (each_synced (map Block_write bs))).master ≡ k.master) = blocks_all pages (written k (Block_write b)) bs s in
    (disk_trans pages k (written k (Block_write b)) _ (log_goes pages k (written k (Block_write b)) s (b, refl) refl) rest.0, rest.1)

-- the writes of a promotion: notes, and then blocks
promotion_some : (pages : ℕ) (k : Kept) (notes : List Write) (bs : List (List Record)) (j : ℕ) → IsSaved pages k.master → AllByRecursion IsSmall notes → DiskGoes pages k (all_written k (take j (each_synced (notes ++ map Block_write bs))))
promotion_some pages k notes bs j s small =
    small_then (DiskGoes pages k) k notes (map Block_write bs) j small
    (λ k2 c i. disk_trans pages k k2 _ (disk_core pages k k k2 c (disk_refl pages k s)) (blocks_some pages k2 bs i (subst (λ (m : Master). IsSaved pages m) c.master s)))

promotion_all : (pages : ℕ) (k : Kept) (notes : List Write) (bs : List (List Record)) → IsSaved pages k.master → AllByRecursion IsSmall notes → (let after = all_written k (each_synced (notes ++ map Block_write bs)) in DiskGoes pages k after × (after.master ≡ k.master))
promotion_all pages k notes bs s small =
    small_then_all (λ (after : Kept). DiskGoes pages k after × (after.master ≡ k.master)) k notes (map Block_write bs) small
    (λ k2 c.
    let b : DiskGoes pages k2 (all_written k2 (each_synced (map Block_write bs))) × ((all_written k2 (each_synced (map Block_write bs))).master ≡ k2.master) = blocks_all pages k2 bs (subst (λ (m : Master). IsSaved pages m) c.master s) in
    (disk_trans pages k k2 _ (disk_core pages k k k2 c (disk_refl pages k s)) b.0, b.1 ∙ sym c.master))

no_peers : (ms : List Mode) (m : ℕ) → (get_or (map (λ (x : Mode). no_peer) ms) m no_peer).hardened ≡ 0
no_peers [] m = refl
no_peers (x ∷ ms) zero = refl
no_peers (x ∷ ms) (suc m) = no_peers ms m

-- a replica that becomes primary of the store's term
pub leads_fresh : (past : Past) (logs : Logs) (n : ℕ) (h : Here) (new : List Record) (r : Replica) (k : Kept) → r.following.ticket ≡ None → IsLeader past logs h.store n (record (leads_now h new r) { kept = k })
leads_fresh past logs n h new r k free = record {
  stale = λ _. refl;
  primary = λ _. refl;
  copy = λ _. refl;
  old = λ low safe. absurd (omega (arith, low));
  peers = λ m. subst (IsKnown (past.told m h.store.term) (logs h.store.term)) (sym (no_peers h.modes m)) (known_none (past.told m h.store.term) (logs h.store.term));
  free = free;
  normal = refl;
}

pub takes_over_fits : (past : Past) (logs : Logs) (n : ℕ) (h : Here) (new : List Record) (r : Replica) → Fit h.pages r → is_reverting r.state ≡ false → PartFits past logs h.store h.pages n r (takes_over h new (target r))
takes_over_fits past logs n h new r f normal =
    let notes : List Write = notes_of (target r) (promotion_touches h.pages new (target r)) in
    let small : AllByRecursion IsSmall notes = notes_are_small (target r) (promotion_touches h.pages new (target r)) in
    let k : Kept = all_written r.kept (each_synced (promotion_writes h.pages new (target r))) in
    let all : DiskGoes h.pages r.kept k × (k.master ≡ r.kept.master) = promotion_all h.pages r.kept notes (blocks_of new) f.disk small in
    record {
      goes = record {
        batches = each_batches (promotion_writes h.pages new (target r));
        writes = λ j. promotion_some h.pages r.kept notes (blocks_of new) j f.disk small;
        after = record {
          disk = all.0;
          low = λ e. omega arith;
          saved = ap (λ (m : Master). is_reverting m.state) all.1 ∙ f.saved ∙ normal;
          normal = λ e. refl;
          waits = λ t w. absurd (false≢true w);
          follows = λ e. refl;
          whole = λ e t w. absurd (false≢true w);
        };
        out = inl tt;
      };
      leads = λ _. leads_fresh past logs n h new (target r) k refl;
    }

-- the writes of a start
start_some : (pages : ℕ) (r : Replica) (more : List Write) → IsSaved pages r.kept.master → ((j : ℕ) → DiskGoes pages r.kept (all_written (written r.kept (Master_write (started_master r) (end r))) (take j (each_synced more)))) → (j : ℕ) → DiskGoes pages r.kept (all_written r.kept (take j (start_writes r more)))
start_some pages r more s f zero = disk_refl pages r.kept s
start_some pages r more s f (suc zero) = disk_refl pages r.kept s
start_some pages r more s f (suc (suc j)) = f j

pub start_fits : (past : Past) (logs : Logs) (n : ℕ) (h : Here) (r : Replica) → Fit h.pages r → r.kept.master.term ≤ r.term → (r.up ≡ false → r.following.ticket ≡ None) → (r.leads ≡ true → r.up ≡ true) → (r.leads ≡ true → IsLeader past logs h.store n r) → PartFits past logs h.store h.pages n r (start_part h r)
unfolding start_part
start_fits past logs n h r f saved_term free up leads =
    let new : List Record = start_records h r in
    let m : Master = started_master r in
    let k : Kept = written r.kept (Master_write m (end r)) in
    let s : IsSaved h.pages m = record { none = f.disk.none; some = f.disk.some } in
    let first : DiskGoes h.pages r.kept k = master_goes h.pages r.kept r.kept m (end r) (core_refl r.kept r.kept refl refl) refl saved_term s (λ e. e) in
    unless_has (PartFits past logs h.store h.pages n r) (checks_of_start h r new) r _
    (λ why. fits_of_calm past logs h.store h.pages n r _ leads (same_calm h.pages r _ f))
    (λ p.
    let none : r.following.ticket ≡ None = free p.0 in
    let not_leading : r.leads ≡ true → ⊥ = λ e. false≢true (sym p.0 ∙ up e) in
    let no_wait : (t : Ticket) → waits_for r.following.ticket t ≡ true → ⊥ = λ t w. false≢true (sym (ap (λ (o : Option Ticket). waits_for o t) none) ∙ w) in
    if_has (PartFits past logs h.store h.pages n r) (is_reverting r.state) (starts_reverting r) _
    (λ t. record {
      goes = record {
        batches = (tt, (tt, tt));
        writes = start_some h.pages r [] f.disk (λ j. disk_core h.pages r.kept k _ (small_some k [] j tt) first);
        after = record { disk = first; low = f.low; saved = f.saved; normal = λ e. e; waits = λ t w. w; follows = f.follows; whole = λ e t w. absurd (no_wait t w) };
        out = inl tt;
      };
      leads = λ e. absurd (not_leading e);
    })
    (λ normal. if_has (PartFits past logs h.store h.pages n r) (is_named h) (starts_first h r new) (starts_second r (touched_up_to h.pages (end r) r))
    (λ _.
    let notes : List Write = notes_of r (promotion_touches h.pages new r) in
    let small : AllByRecursion IsSmall notes = notes_are_small r (promotion_touches h.pages new r) in
    let after : Kept = all_written k (each_synced (promotion_writes h.pages new r)) in
    let all : DiskGoes h.pages k after × (after.master ≡ m) = promotion_all h.pages k notes (blocks_of new) s small in
    record {
      goes = record {
        batches = (tt, (tt, each_batches (promotion_writes h.pages new r)));
        writes = start_some h.pages r (promotion_writes h.pages new r) f.disk (λ j. disk_trans h.pages r.kept k _ first (promotion_some h.pages k notes (blocks_of new) j s small));
        after = record {
          disk = disk_trans h.pages r.kept k after first all.0;
          low = λ e. omega arith;
          saved = ap (λ (x : Master). is_reverting x.state) all.1 ∙ f.saved ∙ normal;
          normal = λ e. refl;
          waits = λ t w. w;
          follows = λ e. absurd (omega (arith, e));
          whole = λ e t w. absurd (no_wait t w);
        };
        out = inl tt;
      };
      leads = λ _. leads_fresh past logs n h new (woken r) after none;
    })
    (λ _.
    let notes : List Write = notes_of r (touched_up_to h.pages (end r) r) in
    let small : AllByRecursion IsSmall notes = notes_are_small r (touched_up_to h.pages (end r) r) in
    let r2 : Replica = record (redone (touched_up_to h.pages (end r) r) (woken r)) { stripes = all_at (end r) } in
    record {
      goes = record {
        batches = (tt, (tt, each_batches notes));
        writes = start_some h.pages r notes f.disk (λ j. disk_core h.pages r.kept k _ (small_some k notes j small) first);
        after = goes_core h.pages r r2 k (all_written k (each_synced notes)) (small_all k notes small)
            (record { disk = first; low = f.low; saved = f.saved; normal = λ e. e; waits = λ t w. w; follows = f.follows; whole = λ e t w. absurd (no_wait t w) });
        out = inl tt;
      };
      leads = λ e. absurd (not_leading e);
    })))
