-- A Hello comes: what the primary then knows is so, and the Resume that it sends cuts nothing that may be known.
use Rattle.std.proofs.Common.{◌≡◌, ◌≢◌, ℕ, ◌+◌, ◌-◌, ◌<◌, ◌≤◌, List, [], ◌∷◌, length, take, Bool, true, false, refl, sym, ap, ◌∙◌, subst, arith, take_all, length-take-le}
use Rattle.std.specs.Prelude.{◌==◌, not, nat_le, nat_lt}
use Rattle.std.proofs.lemmas.Bool.{not-false, or_parts, leb-true, leb-false, ltb-true}
use Rattle.std.proofs.lemmas.List.{get_or-set_other}
use Rattle.ag_model.specs.declared.record.Record.{Record}
use Rattle.ag_model.specs.declared.config.Ticket.{Ticket}
use Rattle.ag_model.specs.declared.config.TermStart.{TermStart}
use Rattle.ag_model.specs.declared.event.Suffix.{Suffix}
use Rattle.ag_model.specs.declared.event.Suffix.TheVariants.{Whole, Stop, Fail}
use Rattle.ag_model.specs.Starts.{term_starts, last_term, fork_of_starts}
use Rattle.ag_rules.specs.Replica.{Replica, Peer, records, end, with_peer}
use Rattle.ag_rules.specs.Group.{Group, replica, with_replica, nobody}
use Rattle.ag_rules.specs.Plan.{Plan, Batch, here, at_node}
use Rattle.ag_rules.specs.Cut.{cut, stopped, failed, all_writes, stopped_disk, disk_before}
use Rattle.std.specs.List.{sum_by}
use Rattle.ag_rules.specs.HelloMessage.{hello_part, checks_of_hello, fork_with, greeted, greets, resume_message}
use Rattle.ag_rules.specs.KeptLaw.{Confirmed}
use Rattle.ag_lists.proofs.Tests.{by_bool, if_has}
use Rattle.ag_laws.specs.Prefix.{IsPrefixOf}
use Rattle.ag_laws.specs.Logs.{Logs, IsTraced}
use Rattle.ag_laws.proofs.Prefix.{prefix_refl, prefix_length, take_prefix}
use Rattle.ag_laws.proofs.Plans.{unless_has}
use Rattle.ag_laws.proofs.Starts.{Agree, agree}
use Rattle.ag_laws.proofs.BlockKeeps.{same_term}
use Rattle.ag_law_forks.proofs.Forks.{told_most}
use Rattle.ag_law_kept.specs.Known.{IsKnown, AtMost}
use Rattle.ag_law_kept.specs.Past.{Past}
use Rattle.ag_law_kept.specs.Tells.{HelloTells, ResumeTells}
use Rattle.ag_law_kept.specs.Holds.{IsLeader, Holds}
use Rattle.ag_law_kept.proofs.Known.{same_beginning, most_longer}
use Rattle.ag_laws.proofs.Grow.{take_is_prefix}
use Rattle.ag_law_kept.proofs.World.{AreTraced, HasOwn, Acts, IsWorld, AreGrown, last_rises}
use Rattle.ag_law_kept.proofs.Longer.{leader_longer}
use Rattle.ag_law_kept.proofs.Goes.{fit_of, Outcome, new_replica, tells_holds, first_world, first_same}
use Rattle.ag_law_kept.proofs.Calm.{still, same_calm}
use Rattle.ag_law_kept.proofs.Leads.{cut_calm, leader_knows}

-- an event without writes isn't cut short
pub cut_quiet : (suffix : Suffix) (p : Plan) → p.writes ≡ [] → cut suffix p ≡ p
cut_quiet Whole p none = refl
cut_quiet (Stop w mask) p none =
    if_has (λ (q : Plan). q ≡ p) (nat_lt (w - 1) (length (all_writes p.writes))) (stopped (w - 1) mask p (stopped_disk mask (w - 1) (disk_before p) p.writes)) p
    (λ e. absurd (omega (arith, ltb-true (w - 1) (length (all_writes p.writes)) e, ap (λ (ws : List Batch). length (all_writes ws)) none))) (λ _. refl)
cut_quiet (Fail c) p none =
    if_has (λ (q : Plan). q ≡ p) (nat_lt (c - 1) (sum_by (λ (b : Batch). length b + 1) p.writes)) (failed (c - 1) p) p
    (λ e. absurd (omega (arith, ltb-true (c - 1) (sum_by (λ (b : Batch). length b + 1) p.writes) e, ap (λ (ws : List Batch). sum_by (λ (b : Batch). length b + 1) ws) none))) (λ _. refl)

-- the fork with a log that was told, at the replica that has the whole log of the term
record IsFork (told whole : List Record) (fork : ℕ) : Type 0 where
  known : IsKnown told whole fork
  most : AtMost told whole fork

is_fork : (logs : Logs) (now t : ℕ) (told : List Record) → AreTraced logs now → 0 < t → last_term (logs t) ≡ t → IsTraced logs told → last_term told ≤ t → IsFork told (logs t) (fork_of_starts (term_starts (logs t)) (length (logs t)) (term_starts told) (length told))
is_fork logs now t told are some begun traced low =
    let whole : List Record = logs t in
    let fork : ℕ = fork_of_starts (term_starts whole) (length whole) (term_starts told) (length told) in
    let a : Agree whole told fork = agree logs whole told (are.traced t) traced in
    record {
      known = (a.two, subst (λ (l : List Record). IsPrefixOf l whole) a.same (take_is_prefix fork whole));
      most = λ g up f k.
          by_bool (nat_le f (length whole)) (λ v. nat_le f (length whole) ≡ v → f ≤ fork)
          (λ _ e.
          let short : f ≤ length whole = leb-true f (length whole) e in
          told_most f whole told short k.0 (sym (same_beginning f told whole g k.0 short k.1 up)))
          (λ _ e.
          let long : length whole < f = omega (arith, leb-false f (length whole) e) in
          absurd (too_long g up f k long))
          refl;
    }
  where
    -- a longer log would start a later term
    too_long : (g : List Record) → IsPrefixOf (logs t) g → (f : ℕ) → IsKnown told g f → length (logs t) < f → ⊥
    too_long g up f k long =
        let cut : List Record = take f told in
        let size : length cut ≡ f = length-take-le f told k.0 in
        let in_cut : IsPrefixOf (logs t) cut = subst (λ (l : List Record). IsPrefixOf l cut) (same_whole cut (omega (arith, size, long)) k.1) (take_is_prefix (length (logs t)) cut) in
        let own : IsPrefixOf cut (logs (last_term cut)) = traced f in
        let rises : t ≤ last_term cut = omega (arith, begun, last_rises logs now (last_term cut) (logs t) cut are in_cut own) in
        let all : IsPrefixOf told (logs (last_term told)) = subst (λ (l : List Record). IsPrefixOf l (logs (last_term l))) (take_all (length told) told (omega arith)) (traced (length told)) in
        let falls : last_term cut ≤ last_term told = last_rises logs now (last_term told) cut told are (take_is_prefix f told) all in
        let same : last_term cut ≡ t = omega (arith, rises, falls, low) in
        omega (arith, long, size, prefix_length cut (logs t) (subst (λ (u : ℕ). IsPrefixOf cut (logs u)) same own))
      where
        same_whole : (cut : List Record) → length (logs t) ≤ length cut → IsPrefixOf cut g → take (length (logs t)) cut ≡ logs t
        same_whole cut h p = take_prefix (length (logs t)) cut g h p ∙ sym (take_prefix (length (logs t)) (logs t) g (omega arith) up) ∙ take_all (length (logs t)) (logs t) (omega arith)

module _ (past : Past) (cs : List Confirmed) (logs grown : Logs) (g : Group) (n m : ℕ) (w : IsWorld past logs g) (h : Holds past cs logs g) (there : m < length g.replicas) (apart : n ≢ m) where
  -- the primary answers
  greets_holds : (term : ℕ) (ticket : Ticket) (its_end : ℕ) (starts : List TermStart) → (replica g m).leads ≡ true → term ≡ (replica g m).term → HelloTells past logs n (replica g n) term ticket its_end starts
      → (let after = (at_node g m (greets n (replica g m) ticket (fork_with (replica g m) its_end starts))).after in IsWorld past grown after → AreGrown past logs grown after → Outcome past cs grown after)
  greets_holds term ticket its_end starts leads same tells w2 gr =
      let r : Replica = replica g m in
      let t : ℕ = r.term in
      let fork : ℕ = fork_with r its_end starts in
      let new : Peer = greeted fork in
      let r2 : Replica = with_peer r n new in
      let acts : Acts past m r = (w.each m).acts leads in
      let own : HasOwn logs r = (w.each m).own acts.target in
      let l : IsLeader past logs g.register m r = h.leaders m leads in
      let is : fork ≡ fork_of_starts (term_starts (logs t)) (length (logs t)) (term_starts tells.log) (length tells.log) =
      ap (λ e. fork_of_starts (term_starts (records r)) (end r) starts e) tells.long
      ∙ ap (λ ss. fork_of_starts (term_starts (records r)) (end r) ss (length tells.log)) tells.lists
      ∙ ap (λ (a : List Record). fork_of_starts (term_starts a) (length a) (term_starts tells.log) (length tells.log)) own.whole in
      let f : IsFork tells.log (logs t) fork = subst (IsFork tells.log (logs t)) (sym is) (is_fork logs g.register.term t tells.log w.are acts.some (ap (λ (a : List Record). last_term a) (sym own.whole) ∙ own.begun) tells.traced (omega (arith, tells.low, same))) in
      let known : IsKnown (past.told n t) (logs t) fork = subst (λ (u : ℕ). IsKnown tells.log (logs u) fork → IsKnown (past.told n u) (logs u) fork) same (tells.covers (logs term) (prefix_refl (logs term)) fork) f.known in
      let still_there : replica (with_replica g m r2) n ≡ replica g n = get_or-set_other g.replicas m n r2 nobody apart in
      let resume : ResumeTells past grown n (replica (with_replica g m r2) n) t ticket fork =
      subst (λ (x : Replica). ResumeTells past grown n x t ticket fork) (sym still_there)
      (λ q.
      let told : (past.told n term ≡ tells.log) × (term ≡ past.asked n) = tells.waits q in (
        most_longer (past.told n t) (logs t) (grown t) fork (gr.longer t) (subst (λ (u : ℕ). AtMost (past.told n u) (logs t) fork) same (subst (λ (l : List Record). AtMost l (logs t) fork) (sym told.0) f.most)),
        sym same ∙ told.1,
      )) in
      tells_holds past cs logs grown g m w h there r2 ((record { to = n; message = resume_message r ticket fork }) ∷ []) (at_node g m (greets n r ticket fork)).after refl w2 gr
      (new_replica past cs logs grown g m w h there r2 (with_replica g m r2) (first_world past cs logs grown g m w h there r2 ((record { to = n; message = resume_message r ticket fork }) ∷ []) (at_node g m (greets n r ticket fork)).after refl w2) gr.longer (first_same past cs logs grown g m w h there r2) refl (still g.config.pages r r2 (fit_of past m g.config.pages r (h.states m)) refl refl refl)
      (λ e. leader_longer past logs grown gr.longer g.register m r2 (leader_knows past logs g.register m n r new l known)))
      (λ ticket2 q. q) (λ _. prefix_refl (records r))
      (resume, tt)

  pub hello_holds : (full : Bool) (term : ℕ) (ticket : Ticket) (its_end : ℕ) (starts : List TermStart) (suffix : Suffix) → HelloTells past logs n (replica g n) term ticket its_end starts
      → (let after = (cut suffix (at_node g m (hello_part (here g m) n (replica g m) full term ticket its_end starts))).after in IsWorld past grown after → AreGrown past logs grown after → Outcome past cs grown after)
  unfolding hello_part
  hello_holds full term ticket its_end starts suffix tells =
      let r : Replica = replica g m in
      unless_has (λ part. IsWorld past grown (cut suffix (at_node g m part)).after → AreGrown past logs grown (cut suffix (at_node g m part)).after → Outcome past cs grown (cut suffix (at_node g m part)).after)
      (checks_of_hello (here g m) n r full term) r (greets n r ticket (fork_with r its_end starts))
      (λ why. cut_calm past cs logs grown g m _ suffix w h there (same_calm g.config.pages r _ (fit_of past m g.config.pages r (h.states m))))
      (λ p.
      let one : (not r.leads ≡ false) × (not (term == r.term) ≡ false) = or_parts _ _ p.0 in
      subst (λ (q : Plan). IsWorld past grown q.after → AreGrown past logs grown q.after → Outcome past cs grown q.after) (sym (cut_quiet suffix (at_node g m (greets n r ticket (fork_with r its_end starts))) refl))
      (greets_holds term ticket its_end starts (not-false _ one.0) (same_term term r.term one.1) tells))
