-- A Resume comes: the replica keeps all that may be known of it, and a member of the set doesn't begin to revert.
use Rattle.std.specs.Prelude.{◌==◌, not, nat_le, None, ◌&&◌, ◌||◌}
use Rattle.std.proofs.Common.{◌≡◌, ◌≢◌, ℕ, zero, suc, ◌<◌, ◌≤◌, List, [], ◌∷◌, length, take, map, true, false, inl, inr, ◌⊎◌, refl, sym, ap, ◌∙◌, subst, arith, length-take-le, take_all}
use Rattle.std.specs.List.{filter, list_any}
use Rattle.std.proofs.lemmas.Bool.{false≢true, not-false, or_parts, and_parts, eqb-true, eqb-false}
use Rattle.std.proofs.lemmas.List.{drop_all}
use Rattle.ag_model.specs.declared.record.Record.{Record}
use Rattle.ag_model.specs.declared.record.Log.{Log}
use Rattle.ag_model.specs.declared.config.Ticket.{Ticket}
use Rattle.ag_model.specs.declared.event.Suffix.{Suffix}
use Rattle.ag_model.specs.declared.answer.Answer.{Answer}
use Rattle.ag_model.specs.Rows.{contains, page_numbers, touches}
use Rattle.ag_model.specs.Starts.{last_term}
use Rattle.ag_rules.specs.Replica.{Replica, Kept, Master, records, end, is_reverting, is_foreign, fallen, term_of_disk, clean_page, all_at}
use Rattle.ag_rules.specs.Group.{Group, replica, with_replica, has}
use Rattle.ag_rules.specs.Plan.{Check, Part, Master_write, here, at_node, written, all_written, each_synced}
use Rattle.ag_rules.specs.Cut.{cut}
use Rattle.ag_rules.specs.ResumeMessage.{resume_message_part, checks_of_resume_message, stays, follows_from, reverts_from, goes_on, master_at, reverting_master, lowered, page_in_term, foreign_from, may_follow, is_touched_after, waits_for, accepting}
use Rattle.ag_rules.specs.KeptLaw.{Confirmed}
use Rattle.ag_lists.proofs.Tests.{by_bool, if_has}
use Rattle.ag_laws.specs.Prefix.{IsPrefixOf}
use Rattle.ag_laws.specs.Logs.{Logs}
use Rattle.ag_laws.specs.Fits.{IsAnswered}
use Rattle.ag_laws.proofs.Prefix.{prefix_refl, take_prefix}
use Rattle.ag_laws.proofs.Plans.{unless_has}
use Rattle.ag_laws.proofs.Disks.{SameCore, core_refl, core_trans}
use Rattle.ag_laws.proofs.Cuts.{cut_has, stop_has, fail_has}
use Rattle.ag_law_kept.specs.Known.{AtMost}
use Rattle.ag_law_kept.specs.Past.{Past}
use Rattle.ag_law_kept.specs.Tells.{ResumeTells}
use Rattle.ag_law_kept.specs.Holds.{IsSaved, Holds}
use Rattle.ag_law_kept.proofs.Known.{most_longer, nil_prefix}
use Rattle.ag_law_kept.proofs.World.{IsWorld, AreGrown}
use Rattle.ag_law_kept.proofs.Told.{no_wait}
use Rattle.ag_law_kept.proofs.Goes.{disk_core, Fit, fit_of, Outcome, sent_holds, fallen_holds}
use Rattle.ag_law_kept.proofs.Calm.{disk_refl, same_calm}
use Rattle.ag_law_kept.proofs.Leads.{cut_calm}
use Rattle.ag_law_kept.proofs.Foreign.{Passing, some_passes, passing_some, kept_inside, none_pass}

-- the term of a disk that a Resume cut
abbrev IsCut : Replica → Master → ℕ → Kept → Type 0
IsCut r master fork k = SameCore (written r.kept (Master_write master fork)) k

-- a replica that took a Resume, or went down after its write
record TookResume (pages : ℕ) (r : Replica) (term fork : ℕ) (r2 : Replica) : Type 0 where
  records : records r2 ≡ take fork (records r)
  at : r2.term ≡ term
  leads : r2.leads ≡ false
  ticket : r2.following.ticket ≡ None
  disk : IsSaved pages r2.kept.master
  low : is_reverting r2.state ≡ false → r2.state ≤ 1
  saved : is_reverting r2.kept.master.state ≡ is_reverting r2.state

module _ (past : Past) (cs : List Confirmed) (logs grown : Logs) (g : Group) (n m : ℕ) (w : IsWorld past logs g) (h : Holds past cs logs g) (there : m < length g.replicas) (term fork undo : ℕ) (ticket : Ticket)
    (waits : waits_for (replica g m).following.ticket ticket ≡ true) (other : past.target term ≢ m) (high : term ≤ g.register.term) (answer : IsAnswered logs term fork (replica g m)) (most : AtMost (past.told m term) (logs term) fork) (asked : term ≡ past.asked m) where
  took_holds : (r2 : Replica) (after : Group) → with_replica g m r2 ≡ after → IsWorld past grown after → AreGrown past logs grown after → TookResume g.config.pages (replica g m) term fork r2 → (has g.register.synced m ≡ true → is_reverting r2.state ≡ false) → Outcome past cs grown after
  took_holds r2 after is w2 gr t normal =
      sent_holds past cs logs grown g m w h there r2 [] after is w2 gr
      (record {
        knowing = record {
          here = subst (λ (u : ℕ). AtMost (past.told m u) (grown u) (length (records r2))) (sym t.at)
              (subst (AtMost (past.told m term) (grown term)) (sym size) (most_longer (past.told m term) (logs term) (grown term) fork (gr.longer term) most));
          before = λ u e. subst (λ (l : List Record). IsPrefixOf l (records r2)) (sym (later u (omega (arith, e, t.at)))) (nil_prefix (records r2));
          asks = λ u _ e. later u (omega (arith, e, t.at));
        };
        state = record { disk = t.disk; low = t.low; saved = t.saved; follows = λ _. t.ticket; whole = λ e x q. absurd (no_wait r2.following.ticket x t.ticket q) };
        leader = λ e. absurd (false≢true (sym t.leads ∙ e));
        term = omega (arith, t.at, answer.not_past);
        reached = omega (arith, t.at, high);
        normal = normal;
      })
      (λ x q. absurd (no_wait r2.following.ticket x t.ticket q))
      (λ e. absurd (other (ap past.target (sym t.at) ∙ e)))
      (inl tt)
    where
      size : length (records r2) ≡ fork
      size = ap length t.records ∙ length-take-le fork (records (replica g m)) answer.within

      later : (u : ℕ) → term < u → past.told m u ≡ []
      later u e = (h.knowing m).asks u (omega (arith, e, asked)) (omega (arith, e, answer.not_past))

  -- the term of the disk that is cut
  cut_term : (k : Kept) → k.master.term ≡ term → k.log.records ≡ take fork (records (replica g m)) → term_of_disk k ≡ term
  cut_term k same is =
      let l : List Record = take fork (records (replica g m)) in
      let whole : take (length l) (logs term) ≡ l = sym (take_prefix (length l) l (logs term) (omega arith) answer.prefix) ∙ take_all (length l) l (omega arith) in
      let bounded : last_term l ≤ term = omega (arith, w.are.bounded term (length l), ap (λ (x : List Record). last_term x) whole) in
      omega (arith, same, bounded, ap (λ (x : List Record). last_term x) is)

  -- the whole event, or one that is cut short before or after its write
  resumed_holds : (answered : Answer) (master : Master) (r2 : Replica) (suffix : Suffix) → master.term ≡ term → IsSaved g.config.pages master → (has g.register.synced m ≡ true → is_reverting master.state ≡ false)
      → TookResume g.config.pages (replica g m) term fork (record r2 { kept = written (replica g m).kept (Master_write master fork) }) → (has g.register.synced m ≡ true → is_reverting r2.state ≡ false)
      → (let part : Part = record { answer = answered; writes = each_synced (Master_write master fork ∷ []); out = []; after = record r2 { kept = written (replica g m).kept (Master_write master fork) } } in
      IsWorld past grown (cut suffix (at_node g m part)).after → AreGrown past logs grown (cut suffix (at_node g m part)).after → Outcome past cs grown (cut suffix (at_node g m part)).after)
  resumed_holds answered master r2 suffix same saved normal took fine =
      let part : Part = record { answer = answered; writes = each_synced (Master_write master fork ∷ []); out = []; after = record r2 { kept = written (replica g m).kept (Master_write master fork) } } in
      cut_has (λ q. IsWorld past grown q.after → AreGrown past logs grown q.after → Outcome past cs grown q.after) suffix (at_node g m part)
      (λ i mask w2 gr. fell _ w2 gr (stop_has MayBe may_core mask i (replica g m).kept part.writes (tt, tt) some))
      (λ c w2 gr. fell _ w2 gr (fail_has MayBe c (replica g m).kept part.writes some))
      (λ w2 gr. took_holds part.after (with_replica g m part.after) refl w2 gr took fine)
    where
      MayBe : Kept → Type 0
      MayBe k = SameCore (replica g m).kept k ⊎ IsCut (replica g m) master fork k

      may_core : (k j : Kept) → SameCore k j → MayBe k → MayBe j
      may_core k j c p = elim p [ inl a ↦ inl (core_trans (replica g m).kept k j a c) | inr b ↦ inr (core_trans (written (replica g m).kept (Master_write master fork)) k j b c) ]

      some : (j : ℕ) → MayBe (all_written (replica g m).kept (take j (each_synced (Master_write master fork ∷ []))))
      some zero = inl (core_refl (replica g m).kept (replica g m).kept refl refl)
      some (suc zero) = inr (core_refl (written (replica g m).kept (Master_write master fork)) (written (replica g m).kept (Master_write master fork)) refl refl)
      some (suc (suc j)) = inr (core_refl (written (replica g m).kept (Master_write master fork)) (written (replica g m).kept (Master_write master fork)) refl refl)

      fell : (k : Kept) → IsWorld past grown (with_replica g m (fallen (replica g m) k)) → AreGrown past logs grown (with_replica g m (fallen (replica g m) k)) → MayBe k → Outcome past cs grown (with_replica g m (fallen (replica g m) k))
      fell k w2 gr p = elim p [
        | inl c ↦ fallen_holds past cs logs grown g m w h there k w2 gr (disk_core g.config.pages (replica g m).kept (replica g m).kept k c (disk_refl g.config.pages (replica g m).kept (h.states m).disk))
        | inr c ↦
            let is : k.master ≡ master = sym c.master in
            let log : k.log.records ≡ take fork (records (replica g m)) = ap (λ (l : Log). l.records) (sym c.log) in
            let s : IsSaved g.config.pages k.master = subst (λ (x : Master). IsSaved g.config.pages x) (sym is) saved in
            took_holds (fallen (replica g m) k) (with_replica g m (fallen (replica g m) k)) refl w2 gr
            (record {
              records = log;
              at = cut_term k (ap (λ (x : Master). x.term) is ∙ same) log;
              leads = refl;
              ticket = refl;
              disk = s;
              low = λ e. omega (arith, (s.none e).1);
              saved = refl;
            })
            (λ e. ap (λ (x : Master). is_reverting x.state) is ∙ normal e)
      ]

-- the masters that a Resume writes
at_saved : (pages : ℕ) (r : Replica) (term fork : ℕ) → IsSaved pages r.kept.master → IsSaved pages (master_at r term fork)
at_saved pages r term fork s = record { none = s.none; some = s.some }

-- the foreign pages of a replica that reverts are still so
foreign_more : (pages : ℕ) (r : Replica) (fork : ℕ) → Fit pages r → is_reverting r.kept.master.state ≡ true → 0 < length (foreign_from pages r fork)
foreign_more pages r fork f e =
    let p : Passing (λ p. contains p r.kept.master.foreign) (page_numbers pages) = some_passes (λ p. contains p r.kept.master.foreign) (page_numbers pages) (f.disk.some e) in
    passing_some (λ p. is_foreign r p || is_touched_after pages (records r) fork p) (page_numbers pages) p.page p.inside (ap (λ b. b || is_touched_after pages (records r) fork p.page) p.passes)

foreign_kept : (pages : ℕ) (r : Replica) (fork : ℕ) → 0 < length (foreign_from pages r fork) → 0 < length (filter (λ p. contains p (foreign_from pages r fork)) (page_numbers pages))
foreign_kept pages r fork some =
    let p : Passing (λ p. is_foreign r p || is_touched_after pages (records r) fork p) (page_numbers pages) = some_passes (λ p. is_foreign r p || is_touched_after pages (records r) fork p) (page_numbers pages) some in
    passing_some (λ p. contains p (foreign_from pages r fork)) (page_numbers pages) p.page p.inside (kept_inside (λ p. is_foreign r p || is_touched_after pages (records r) fork p) (page_numbers pages) p.page p.inside p.passes)

-- no page is foreign where nothing is cut and none was
foreign_none : (pages : ℕ) (r : Replica) (fork : ℕ) → r.kept.master.foreign ≡ [] → end r ≤ fork → foreign_from pages r fork ≡ []
foreign_none pages r fork none whole =
    none_pass (λ p. is_foreign r p || is_touched_after pages (records r) fork p) (page_numbers pages)
    (λ p. ap (λ (ps : List ℕ). contains p ps || is_touched_after pages (records r) fork p) none ∙ ap (λ (l : List Record). list_any (touches pages p) l) (drop_all fork (records r) whole))

pub resume_holds : (past : Past) (cs : List Confirmed) (logs grown : Logs) (g : Group) (n m : ℕ) (term fork undo : ℕ) (ticket : Ticket) (suffix : Suffix) → IsWorld past logs g → Holds past cs logs g → m < length g.replicas → past.target term ≢ m → term ≤ g.register.term
    → (waits_for (replica g m).following.ticket ticket ≡ true → IsAnswered logs term fork (replica g m)) → ResumeTells past logs m (replica g m) term ticket fork
    → (let after = (cut suffix (at_node g m (resume_message_part (here g m) n (replica g m) term ticket fork undo))).after in IsWorld past grown after → AreGrown past logs grown after → Outcome past cs grown after)
unfolding resume_message_part
resume_holds past cs logs grown g n m term fork undo ticket suffix w h there other high answers tells =
    let r : Replica = replica g m in
    let pages : ℕ = g.config.pages in
    let f : Fit pages r = fit_of past m pages r (h.states m) in
    let foreign : List ℕ = foreign_from pages r fork in
    unless_has Good checks r _
    (λ why. cut_calm past cs logs grown g m _ suffix w h there (same_calm pages r _ f))
    (λ p.
    let one : (r.leads ≡ false) × (not (waits_for r.following.ticket ticket) ≡ false) = or_parts _ _ p.0 in
    let waits : waits_for r.following.ticket ticket ≡ true = not-false _ one.1 in
    let answer : IsAnswered logs term fork r = answers waits in
    let told : AtMost (past.told m term) (logs term) fork × (term ≡ past.asked m) = tells waits in
    if_has Good (goes_on r term fork) (stays n r term fork) _
    (λ e.
    let two : ((r.state == 4) ≡ true) × (((r.term == term) && (fork == end r)) ≡ true) = and_parts _ _ e in
    let three : ((r.term == term) ≡ true) × ((fork == end r) ≡ true) = and_parts _ _ two.1 in
    resumed_holds past cs logs grown g n m w h there term fork undo ticket waits other high answer told.0 told.1 _ (master_at r term fork) (record r { following = accepting n r.following }) suffix refl (at_saved pages r term fork f.disk) (λ i. f.saved ∙ (h.members m i).normal)
    (record { records = refl; at = eqb-true r.term term three.0; leads = one.0; ticket = refl; disk = at_saved pages r term fork f.disk; low = f.low; saved = f.saved })
    (λ i. (h.members m i).normal))
    (λ _. if_has Good (may_follow foreign) (follows_from n r term fork) (reverts_from n r term fork undo foreign)
    (λ e.
    let empty : length foreign ≡ 0 = eqb-true (length foreign) 0 e in
    let normal : is_reverting r.kept.master.state ≡ false =
    by_bool (is_reverting r.kept.master.state) (λ v. is_reverting r.kept.master.state ≡ v → is_reverting r.kept.master.state ≡ false) (λ _ y. absurd (omega (arith, empty, foreign_more pages r fork f y))) (λ _ y. y) refl in
    resumed_holds past cs logs grown g n m w h there term fork undo ticket waits other high answer told.0 told.1 _ (master_at r term fork)
    (record r {
      state = 1;
      term = term;
      pages = map (page_in_term (not (term == r.term))) r.pages;
      stripes = map (lowered fork) r.stripes;
      following = record (accepting n r.following) { snapshots = filter (λ s. nat_le s.lsn fork) r.following.snapshots };
    })
    suffix refl (at_saved pages r term fork f.disk) (λ _. normal)
    (record { records = refl; at = refl; leads = one.0; ticket = refl; disk = at_saved pages r term fork f.disk; low = λ _. omega arith; saved = normal })
    (λ _. refl))
    (λ e.
    let some : 0 < length foreign = omega (arith, eqb-false (length foreign) 0 e) in
    let saved : IsSaved pages (reverting_master r term fork undo foreign) = record { none = λ q. absurd (false≢true (sym q)); some = λ _. foreign_kept pages r fork some } in
    let outside : has g.register.synced m ≡ true → ⊥ = λ i. omega (arith, some, ap length (foreign_none pages r fork (none_foreign i) (whole_kept i waits answer told.0 told.1))) in
    resumed_holds past cs logs grown g n m w h there term fork undo ticket waits other high answer told.0 told.1 _ (reverting_master r term fork undo foreign)
    (record r {
      state = 3;
      term = term;
      pages = map (λ x. clean_page) r.pages;
      stripes = all_at (master_at r term fork).redo_start;
      following = record (accepting n r.following) { snapshots = []; given = 0 };
    })
    suffix refl saved (λ i. absurd (outside i))
    (record { records = refl; at = refl; leads = one.0; ticket = refl; disk = saved; low = λ q. absurd (false≢true (sym q)); saved = refl })
    (λ i. absurd (outside i)))))
  where
    Good : Part → Type 0
    Good part = IsWorld past grown (cut suffix (at_node g m part)).after → AreGrown past logs grown (cut suffix (at_node g m part)).after → Outcome past cs grown (cut suffix (at_node g m part)).after

    checks : List Check
    checks = checks_of_resume_message (replica g m) ticket fork

    none_foreign : has g.register.synced m ≡ true → (replica g m).kept.master.foreign ≡ []
    none_foreign i = ((h.states m).disk.none ((h.states m).saved ∙ (h.members m i).normal)).0

    -- a member that waits is in state 0, and has told its whole log
    whole_kept : has g.register.synced m ≡ true → waits_for (replica g m).following.ticket ticket ≡ true → IsAnswered logs term fork (replica g m) → AtMost (past.told m term) (logs term) fork → term ≡ past.asked m → end (replica g m) ≤ fork
    whole_kept i waits answer most asked =
        let r : Replica = replica g m in
        let low : r.state ≤ 1 = (h.states m).low (h.members m i).normal in
        let zero_is : r.state ≡ 0 = omega (arith, low, not_one r.state (λ e. no_wait r.following.ticket ticket ((h.states m).follows e) waits)) in
        let told : past.told m term ≡ records r = ap (past.told m) asked ∙ (h.states m).whole zero_is ticket waits in
        let at : r.term ≡ term = omega (arith, (h.members m i).term, answer.not_past, high) in
        most (logs term) (prefix_refl (logs term)) (end r) (omega (arith, ap length told), subst (λ (l : List Record). IsPrefixOf (take (end r) l) (logs term)) (sym told) (subst (λ (l : List Record). IsPrefixOf l (logs term)) (sym (take_all (end r) (records r) (omega arith))) (subst (λ (u : ℕ). IsPrefixOf (records r) (logs u)) at (w.each m).prefix)))
      where
        not_one : (s : ℕ) → (s ≡ 1 → ⊥) → s ≢ 1
        not_one s f = f
