-- What the sectors that a mask keeps make of an image.
use Rattle.std.proofs.Common.{◌≡◌, ◌⊎◌, ℕ, suc, ◌+◌, ◌<◌, ◌≤◌, List, [], ◌∷◌, length, Bool, true, false, if◌then◌else◌, refl, sym, ap, ◌∙◌, subst, arith, inl, inr}
use Rattle.std.specs.Prelude.{◌&&◌}
use Rattle.std.specs.List.{list_all, range_with_len}
use Rattle.std.proofs.lemmas.Bool.{and_parts}
use Rattle.ag_model.specs.Cells.{keeps, keeps_all}
use Rattle.ag_outside.specs.declared.disk.SectorWrite.{SectorWrite}
use Rattle.ag_outside.specs.Disks.{Content, Image, writes, put, put_all, WroteSo}
use Rattle.ag_outside.specs.Scripts.{kept}
use Rattle.ag_outside.specs.Shown.{was_or_wrote}
use Rattle.ag_logstore.specs.Stored.{Stored, sectors_of, IsLogSector, incarnation_at}
use Rattle.ag_logstore.specs.LogOf.{IsLogOf}
use Rattle.ag_logstore.specs.Stores.{StoreView, sector_after, IsCurrent, IsTorn, Follows}
use Rattle.ag_logstore.proofs.Standing.{count_of_block, put_stands, wrote_within}
use Rattle.ag_logstore.proofs.Written.{is_writable, whole, torn_log, still_greatest, torn_by_writes}
use Rattle.ag_kept.specs.Stopping.{stopped_image, log_where, keeps_block}

-- a mask that keeps each sector keeps all writes
pub kept_whole : (mask from at : ℕ) (ss : List (List ℕ)) → keeps_all mask from (length ss) ≡ true → kept mask from (writes at ss) ≡ writes at ss
kept_whole mask from at [] h = refl
kept_whole mask from at (s ∷ ss) h =
    let p = and_parts (keeps mask from) (list_all (keeps mask) (range_with_len (from + 1) (length ss))) h in
    let next : from + 1 ≡ suc from = omega arith in
    let rest = kept_whole mask (suc from) (suc at) ss (subst (λ n. keeps_all mask n (length ss) ≡ true) next p.1) in
    let w : SectorWrite = record { at = at; sector = s } in
    ap (λ (b : Bool). if b then w ∷ kept mask (suc from) (writes (suc at) ss) else kept mask (suc from) (writes (suc at) ss)) p.0 ∙ ap (λ ws. w ∷ ws) rest

-- what a mask keeps was written
one_kept : (b : Bool) (w : SectorWrite) (ws : List SectorWrite) (x : ℕ) (content : Content) → WroteSo (if b then w ∷ ws else ws) x content → WroteSo (w ∷ ws) x content
one_kept true w ws x content wrote = wrote
one_kept false w ws x content wrote = inr wrote

pub kept_wrote : (mask from : ℕ) (ws : List SectorWrite) (x : ℕ) (content : Content) → WroteSo (kept mask from ws) x content → WroteSo ws x content
kept_wrote mask from [] x content wrote = wrote
kept_wrote mask from (w ∷ ws) x content wrote = elim (one_kept (keeps mask from) w (kept mask (suc from) ws) x content wrote) [
  | inl here ↦ inl here
  | inr later ↦ inr (kept_wrote mask (suc from) ws x content later)
]

-- each sector is as before or new
pub torn_by_mask : (image : Image) (mask at : ℕ) (ss : List (List ℕ)) → IsTorn image at ss (put_all image (kept mask 0 (writes at ss)))
torn_by_mask image mask at ss x = elim (was_or_wrote (kept mask 0 (writes at ss)) image x) [
  | inl was ↦ inl was
  | inr wrote ↦ inr (kept_wrote mask 0 (writes at ss) x _ wrote)
]

-- a sector before these is as it was
pub below_stays : (image : Image) (mask from at x : ℕ) (ss : List (List ℕ)) → x < at → put_all image (kept mask from (writes at ss)) x ≡ image x
below_stays image mask from at x ss lt = elim (was_or_wrote (kept mask from (writes at ss)) image x) [
  | inl was ↦ was
  | inr wrote ↦ absurd (omega (arith, lt, (wrote_within at x ss _ (kept_wrote mask from (writes at ss) x _ wrote)).0))
]

-- a write changes no other sector
put_other : (image : Image) (at x : ℕ) (s : List ℕ) → at < x → put image (record { at = at; sector = s }) x ≡ image x
put_other image at x s lt = elim (was_or_wrote (record { at = at; sector = s } ∷ []) image x) [
  | inl was ↦ was
  | inr wrote ↦ elim wrote [ inl here ↦ absurd (omega (arith, here.0, lt)) | inr none ↦ absurd none ]
]

-- one of these sectors is as it was
pub record OneStays (image after : Image) (at count : ℕ) : Type 0 where
  pub place : ℕ
  pub low : at ≤ place
  pub high : place < at + count
  pub stays : after place ≡ image place

pub not_all : (b c : Bool) → (b && c) ≡ false → (b ≡ false) ⊎ ((b ≡ true) × (c ≡ false))
not_all true c e = inr (refl, e)
not_all false c e = inl refl

-- a mask that doesn't keep each sector leaves one as it was
pub one_dropped : (image : Image) (mask from at : ℕ) (ss : List (List ℕ)) → keeps_all mask from (length ss) ≡ false → OneStays image (put_all image (kept mask from (writes at ss))) at (length ss)
one_dropped image mask from at [] h = absurd (cc h)
one_dropped image mask from at (s ∷ ss) h =
    let w : SectorWrite = record { at = at; sector = s } in
    let rest : List SectorWrite = kept mask (suc from) (writes (suc at) ss) in
    let next : from + 1 ≡ suc from = omega arith in
    elim (not_all (keeps mask from) (list_all (keeps mask) (range_with_len (from + 1) (length ss))) h) [
      | inl dropped ↦ record {
        place = at;
        low = omega arith;
        high = omega arith;
        stays = ap (λ (b : Bool). put_all image (if b then w ∷ rest else rest) at) dropped ∙ below_stays image mask (suc from) (suc at) at ss (omega arith);
      }
      | inr later ↦
          let one = one_dropped (put image w) mask (suc from) (suc at) ss (subst (λ n. keeps_all mask n (length ss) ≡ false) next later.1) in
          record {
            place = one.place;
            low = omega (arith, one.low);
            high = omega (arith, one.high);
            stays = ap (λ (b : Bool). put_all image (if b then w ∷ rest else rest) one.place) later.0 ∙ one.stays ∙ put_other image at one.place s (omega (arith, one.low));
          }
    ]

pub decide : (b : Bool) → (b ≡ true) ⊎ (b ≡ false)
decide true = inl refl
decide false = inr refl

-- the law of a stop
pub stopped_log : (image : Image) (s : StoreView) (b : Stored) (mask : ℕ) → IsCurrent image s → Follows s b → IsLogOf (stopped_image image s b mask) s.cut s.incarnation (log_where (keeps_block mask b) s b)
stopped_log image s b mask cur f =
    let at = sector_after s.log in
    let ss = sectors_of b in
    let count = count_of_block b (is_writable s b f) in
    elim (decide (keeps_block mask b)) [
      | inl all ↦
          let kept_all = kept_whole mask 0 at ss (subst (λ n. keeps_all mask 0 n ≡ true) (sym count) all) in
          let log = whole image (put_all image (writes at ss)) s b cur f (torn_by_writes image at ss) (put_stands image at ss) in
          subst (λ (w : Bool). IsLogOf (stopped_image image s b mask) s.cut s.incarnation (log_where w s b)) (sym all)
          (subst (λ ws. IsLogOf (put_all image ws) s.cut s.incarnation (log_where true s b)) (sym kept_all) log)
      | inr some ↦
          let one = one_dropped image mask 0 at ss (subst (λ n. keeps_all mask 0 n ≡ false) (sym count) some) in
          let log = torn_log image (stopped_image image s b mask) s b cur f (torn_by_mask image mask at ss) one.place one.low (omega (arith, one.high, count)) one.stays in
          subst (λ (w : Bool). IsLogOf (stopped_image image s b mask) s.cut s.incarnation (log_where w s b)) (sym some) log
    ]

-- no sector of the log names a greater incarnation then
pub stopped_greatest : (image : Image) (s : StoreView) (b : Stored) (mask : ℕ) → IsCurrent image s → Follows s b → (x : ℕ) → IsLogSector x → incarnation_at (stopped_image image s b mask) x ≤ s.incarnation
stopped_greatest image s b mask cur f = still_greatest image (stopped_image image s b mask) s b cur f (torn_by_mask image mask (sector_after s.log) (sectors_of b))
