-- What a new master makes of an image.
use Rattle.std.proofs.Common.{◌≡◌, ◌⊎◌, ℕ, ◌<◌, ◌≤◌, length, Some, Bool, false, if◌then◌else◌, refl, sym, ap, ◌∙◌, subst, arith, inl, inr}
use Rattle.std.specs.Prelude.{Contains}
use Rattle.std.proofs.lemmas.Bool.{eq-eqb, ne_eqb}
use Rattle.ag_model.specs.declared.record.Log.{Log}
use Rattle.ag_model.specs.Blocks.{cut_at}
use Rattle.ag_outside.specs.Disks.{Image, or_zeros}
use Rattle.ag_master.specs.declared.master.Master.{Master as SectorMaster}
use Rattle.ag_master.specs.Spelling.{spelling, HasSpelling}
use Rattle.ag_logblock.specs.Fitting.{header_of}
use Rattle.ag_logstore.specs.LogKept.{RisesTo}
use Rattle.ag_logstore.specs.Stored.{IsLogSector}
use Rattle.ag_logstore.specs.LogOf.{IsLogOf}
use Rattle.ag_logstore.specs.Stores.{StoreView, IsCurrent}
use Rattle.ag_logstore.proofs.Chains.{ends_of, region_alone, current_alone}
use Rattle.ag_logstore.proofs.Raising.{raises}
use Rattle.ag_kept.specs.Kept.{master_on}
use Rattle.ag_kept.specs.Standing.{HasLog}
use Rattle.ag_kept.specs.Starting.{own_log, with_master}
use Rattle.ag_kept.proofs.Homes.{cut_at_end}
use Rattle.ag_suspect.specs.Rows.{suspects_on}
use Rattle.ag_rules.specs.Replica.{Master}
use Rattle.ag_keeping.specs.Keeping.{cells_on, kept_on, IsKeeping, store_on}
use Rattle.ag_keeping.specs.Cutting.{sector_master, CanCut}
use Rattle.ag_keeping.specs.Meaning.{Says}
use Rattle.ag_keeping.proofs.Built.{says_so, master_is, log_is}
use Rattle.ag_keeping.proofs.Frames.{pages_stay}
use Rattle.ag_keeping.proofs.Suspects.{rows_stay, suspects_stay}

-- a greater incarnation is another one
greater : (a b : ℕ) → a < b → b ≡ a → ⊥
greater a b lt e = omega (arith, lt, e)

module _ (pages replica : ℕ) (image : Image) (h : IsKeeping pages replica image) (m : Master) (end : ℕ) (can : CanCut (master_on image) (own_log image) m end) (fits : HasSpelling (sector_master (master_on image) m end)) where
  abbrev old : SectorMaster
  old = master_on image

  abbrev next : SectorMaster
  next = sector_master (master_on image) m end

  abbrev now : Image
  now = with_master image (sector_master (master_on image) m end)

  -- the master's sector is no other
  apart : (at : ℕ) → 1 ≤ at → now at ≡ image at
  apart at le = ap (λ (b : Bool). if b then Some (spelling next) else image at) (ne_eqb at 0 (λ e. absurd (omega (arith, e, le))))

  same_log_sector : (at : ℕ) → IsLogSector at → or_zeros (now at) ≡ or_zeros (image at)
  same_log_sector at is = ap or_zeros (apart at (omega (arith, is.0)))

  rises : RisesTo 0 (length (own_log image).records) (own_log image).ends
  rises = (ends_of image old.cut old.incarnation (own_log image) h.log.is).rises

  -- the cut stays with the incarnation
  cut_stays : m.incarnation ≡ old.incarnation → next.cut ≡ old.cut
  cut_stays same = ap (λ (b : Bool). if b then old.cut else end) (eq-eqb m.incarnation old.incarnation same)

  cut_there : old.incarnation < m.incarnation → next.cut ≡ end
  cut_there up = ap (λ (b : Bool). if b then old.cut else end) (ne_eqb m.incarnation old.incarnation (greater old.incarnation m.incarnation up))

  -- a store that goes on, or that begins anew after a cut
  abbrev Goes : Image → Type 0
  Goes i = HasLog i next.cut next.incarnation (cut_at end (own_log image))

  stays : m.incarnation ≡ old.incarnation → end ≡ length (own_log image).records → Goes now
  stays same is =
      let log : cut_at end (own_log image) ≡ own_log image = ap (λ (n : ℕ). cut_at n (own_log image)) is ∙ cut_at_end (own_log image) rises in
      let one : IsLogOf now old.cut old.incarnation (own_log image) = region_alone image now old.cut old.incarnation (own_log image) h.log.is same_log_sector in
      let two : IsLogOf now next.cut old.incarnation (own_log image) = subst (λ (c : ℕ). IsLogOf now c old.incarnation (own_log image)) (sym (cut_stays same)) one in
      let three : IsLogOf now next.cut next.incarnation (own_log image) = subst (λ (n : ℕ). IsLogOf now next.cut n (own_log image)) (sym same) two in
      record {
        is = subst (IsLogOf now next.cut next.incarnation) (sym log) three;
        greatest = λ at is_log. omega (arith, same, h.log.greatest at is_log, ap (λ bytes. (header_of bytes).head.incarnation) (same_log_sector at is_log));
      }

  raised_store : (up : old.incarnation < m.incarnation) → (end ≡ 0) ⊎ Contains (own_log image).ends end → IsCurrent now (record { log = cut_at end (own_log image); cut = end; incarnation = m.incarnation; is_closed = false })
  raised_store up block =
      let s : StoreView = record { log = own_log image; cut = old.cut; incarnation = old.incarnation; is_closed = false } in
      current_alone image now (record { log = cut_at end (own_log image); cut = end; incarnation = m.incarnation; is_closed = false })
      (raises image s end m.incarnation h.log.is block up (λ at is. omega (arith, up, h.log.greatest at is))) same_log_sector

  has : Goes now
  has = elim can [
    | inl same ↦ stays same.0 same.1
    | inr up ↦
        let cur = raised_store up.0 up.1 in
        record { is = subst (λ (c : ℕ). IsLogOf now c m.incarnation (cut_at end (own_log image))) (sym (cut_there up.0)) cur.log; greatest = cur.greatest }
  ]

  least : 1 ≤ m.incarnation
  least = elim can [ inl same ↦ omega (arith, same.0, h.least) | inr up ↦ omega (arith, up.0) ]

  others : (at : ℕ) → 1 ≤ at → at < 64 → or_zeros (now at) ≡ or_zeros (image at)
  others at low high = ap or_zeros (apart at low)

  -- the master is new, and the log is cut
  pub master_says : Says pages replica now (record (kept_on pages image) { master = m; log = cut_at end (own_log image) })
  master_says = says_so pages replica now next fits refl (cut_at end (own_log image)) has h.few h.pages_named h.replica_named least
      (suspects_on image) (suspects_stay image now others) (rows_stay image now (suspects_on image) others h.suspects)
      (cells_on pages image) (pages_stay image now pages h.few (λ at low high. apart at (omega (arith, low))))

  -- the sector's master then
  pub master_now : master_on now ≡ next
  master_now = master_is pages replica now next fits refl

  -- a store that could append still can, and after a cut for a greater incarnation it can
  pub master_current : IsCurrent image (store_on image) ⊎ (old.incarnation < m.incarnation) → IsCurrent now (store_on now)
  master_current either =
      let log : own_log now ≡ cut_at end (own_log image) = log_is pages replica now next fits refl (cut_at end (own_log image)) has in
      let made : Log → ℕ → ℕ → StoreView = λ l c n. record { log = l; cut = c; incarnation = n; is_closed = false } in
      let from : IsCurrent now (made (cut_at end (own_log image)) next.cut next.incarnation) = elim can [
        | inl same ↦ elim either [
          | inl cur ↦
              let kept_log : cut_at end (own_log image) ≡ own_log image = ap (λ (n : ℕ). cut_at n (own_log image)) same.1 ∙ cut_at_end (own_log image) rises in
              subst (λ (l : Log). IsCurrent now (made l next.cut next.incarnation)) (sym kept_log)
              (subst (λ (c : ℕ). IsCurrent now (made (own_log image) c next.incarnation)) (sym (cut_stays same.0))
              (subst (λ (n : ℕ). IsCurrent now (made (own_log image) old.cut n)) (sym same.0) (current_alone image now (store_on image) cur same_log_sector)))
          | inr up ↦ absurd (greater old.incarnation m.incarnation up same.0)
        ]
        | inr up ↦ subst (λ (c : ℕ). IsCurrent now (made (cut_at end (own_log image)) c m.incarnation)) (sym (cut_there up.0)) (raised_store up.0 up.1)
      ] in
      subst (λ (l : Log). IsCurrent now (made l (master_on now).cut (master_on now).incarnation)) (sym log)
      (subst (λ (x : SectorMaster). IsCurrent now (made (cut_at end (own_log image)) x.cut x.incarnation)) (sym master_now) from)

  abbrev made : Log → ℕ → ℕ → StoreView
  made l c n = record { log = l; cut = c; incarnation = n; is_closed = false }

  store_now : store_on now ≡ made (cut_at end (own_log image)) next.cut m.incarnation
  store_now =
      ap (λ (l : Log). made l (master_on now).cut (master_on now).incarnation) (log_is pages replica now next fits refl (cut_at end (own_log image)) has)
      ∙ ap (λ (x : SectorMaster). made (cut_at end (own_log image)) x.cut x.incarnation) master_now

  -- memory's log, where the incarnation stays
  pub store_same : m.incarnation ≡ old.incarnation → store_on now ≡ store_on image
  store_same same = elim can [
    | inl stays_ ↦ store_now
        ∙ ap (λ (l : Log). made l next.cut m.incarnation) (ap (λ (n : ℕ). cut_at n (own_log image)) stays_.1 ∙ cut_at_end (own_log image) rises)
        ∙ ap (λ (c : ℕ). made (own_log image) c m.incarnation) (cut_stays same)
        ∙ ap (made (own_log image) old.cut) same
    | inr up ↦ absurd (greater old.incarnation m.incarnation up.0 same)
  ]

  -- and where it is greater
  pub store_cut : old.incarnation < m.incarnation → store_on now ≡ made (cut_at end (own_log image)) end m.incarnation
  store_cut up = store_now ∙ ap (λ (c : ℕ). made (cut_at end (own_log image)) c m.incarnation) (cut_there up)
