-- The log of a store that opened and hardened a block.
use Rattle.std.proofs.Common.{◌≤◌, ℕ, zero, suc, eqb, inl, inr, refl, arith}
use Rattle.std.proofs.lemmas.Bool.{cases_Bool}
use Rattle.ag_model.specs.Page.{value}
use Rattle.ag_model.specs.Proper.{IsProper}
use Rattle.ag_model.specs.Sizes.{block_sectors, free_sectors, versions_size}
use Rattle.ag_record.specs.Spelling.{ArePayload}
use Rattle.ag_stripe.specs.Spelled.{AreSpelled}
use Rattle.ag_kept.specs.Kept.{opening_kept}
use Rattle.ag_store_t.specs.Parts.{new_log, new_records}

-- each page has room, where the one version is on page 21
room : (n page : ℕ) → versions_size (value 16 new_log.records n page).versions ≤ 8144
unfolding value
room zero page = omega arith
room (suc zero) page = omega arith
room (suc (suc zero)) page = elim (cases_Bool (eqb page 21)) [ inl e ↦ simp e (omega arith) | inr e ↦ simp e (omega arith) ]
room (suc (suc (suc zero))) page = elim (cases_Bool (eqb page 21)) [ inl e ↦ simp e (omega arith) | inr e ↦ simp e (omega arith) ]
room (suc (suc (suc (suc n)))) page = elim (cases_Bool (eqb page 21)) [ inl e ↦ simp e (omega arith) | inr e ↦ simp e (omega arith) ]

pub proper : IsProper 16 new_log
proper = record {
  first = refl;
  terms = (omega arith, tt);
  each = (tt, (tt, ((refl, refl), tt)));
  room = room;
  ends = (omega arith, (omega arith, tt));
  last = refl;
  most = omega arith;
}

pub payload : ArePayload new_records
payload = record {
  fit = ((omega arith, omega arith, record { room = refl; most = omega arith; zeros = refl }), ((omega arith, record { least = omega arith; most = omega arith; each = ((omega arith, omega arith), tt); rising = (omega arith, tt) }), tt));
  least = omega arith;
  most = omega arith;
}

pub small : block_sectors new_records ≤ free_sectors (opening_kept 16 0).log
small = omega arith

pub spelled : AreSpelled new_log.records
spelled = (tt, (refl, (tt, tt)))
