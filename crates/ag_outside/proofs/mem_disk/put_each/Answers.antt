use Rattle.std.proofs.Common.{◌≡◌, ◌+◌, List, [], ◌∷◌, Some, drop, get_or, refl, sym, ap, ◌∙◌, subst, arith, inl, inr}
use Rattle.ag_outside.specs.declared.disk.SectorWrite.{SectorWrite}
use Rattle.ag_outside.specs.Disks.{Image, put_all, writes, WroteSo}
use Rattle.ag_outside.specs.MemDisks.{bytes_at, image_of}
use Rattle.ag_outside.proofs.Went.{goes_on_to, stays_at, next_writes}
use Rattle.ag_outside.proofs.mem_disk.put_each.Goals as goal

pub returns-in_err-put-clause-crash : goal.returns-in_err-put-clause-crash
returns-in_err-put-clause-crash c = (stays_at _ _ _ _ _ _ _ _ c.sectors.invariant.went c.in_err-put.ensures.same c.in_err-put.ensures.same_past).crash

pub sectors-preserved : goal.sectors-preserved
sectors-preserved c =
    let inv = c.sectors.invariant in
    let from = c.args.from.now in
    let i = c.sectors.sector-index in
    let at = c.sectors.at in
    let w : SectorWrite = record { at = at; sector = get_or from i [] } in
    let next : writes at (drop i from) ≡ w ∷ writes (at + 1) (drop (i + 1) from) = next_writes at i from c.sectors-test.true in
    record {
      place = omega (arith, inv.place);
      written = ap (λ (im : Image). put_all im (writes (at + 1) (drop (i + 1) from))) c.in_ok-put.ensures.written ∙ ap (put_all (image_of c.sectors.sectors)) (sym next) ∙ inv.written;
      among = λ a content wrote. inv.among a content (subst (λ (ws : List SectorWrite). WroteSo ws a content) (sym next) (inr wrote));
      went = goes_on_to c.args.traced _ _ _ _ _ w (bytes_at c.sectors.sectors at) _ _ inv.went refl (inv.among at _ (subst (λ (ws : List SectorWrite). WroteSo ws at (Some w.sector)) (sym next) (inl (refl, refl)))) c.in_ok-put.ensures.written c.in_ok-put.ensures.past;
    }
