-- A part that is cut by a suffix.
use Rattle.std.proofs.lemmas.Bool.{cases_Bool, leb-true}
use Rattle.std.proofs.lemmas.Bool.Decides.{nat_tests}
use Rattle.std.proofs.Common.{inl, inr, ◌⊎◌, ◌≤◌, ◌≡◌, ℕ, zero, suc, ◌+◌, ◌-◌, List, [], ◌∷◌, length, Bool, true, false, refl, sym, ap, ◌∙◌, arith}
use Rattle.std.specs.Prelude.{nat_lt, nat_le, not, ◌&&◌, if◌then◌else◌}
use Rattle.std.specs.List.{filter, sum_by}
use Rattle.ag_model.specs.declared.event.Suffix.{Suffix}
use Rattle.ag_model.specs.declared.event.Suffix.TheVariants.{Whole, Stop, Fail}
use Rattle.ag_model.specs.declared.answer.Answer.TheVariants.{Stopped, DeviceFailed}
use Rattle.ag_model.specs.Rows.{page_numbers, contains}
use Rattle.ag_model.specs.Cells.{is_sound, keeps_all}
use Rattle.ag_rules.specs.Replica.{Replica, Kept, Master, fallen, image}
use Rattle.ag_rules.specs.Plan.{Part, Batch, Write, Block_write, Master_write, at_once, written}
use Rattle.ag_rules.specs.Cut.{all_writes, failed_disk, failed_steps, torn_pages}
use Rattle.ag_model.specs.declared.record.Record.{Record}
use Rattle.ag_model.specs.Sizes.{block_sectors}
use Rattle.ag_kept.specs.declared.reach.Reach.{Reach}
use Rattle.ag_kept.specs.declared.reach.Reach.TheVariants.{Stop as StopReach}
use Rattle.ag_node.specs.Suffixes.{cut_part, stopped_part, failed_part}
use Rattle.ag_node.proofs.StartSteps.{not_below}
use Rattle.ag_kept.specs.Reaching.{how_far}
use Rattle.ag_node.specs.Reaching.{part_reached}

if_false : (b : Bool) (x y : Part) → b ≡ false → (if b then x else y) ≡ y
if_false true x y e = absurd cc
if_false false x y e = refl

-- a part that writes nothing is never cut
pub uncut : (pages n : ℕ) (s : Suffix) (r : Replica) (part : Part) → part.writes ≡ [] → cut_part pages n s r part ≡ part
uncut pages n Whole r part e = refl
uncut pages n (Stop w mask) r part e = if_false (nat_lt (w - 1) (length (all_writes part.writes))) (stopped_part pages (w - 1) mask r part) part (ap (λ (ws : List Batch). nat_lt (w - 1) (length (all_writes ws))) e ∙ not_below (w - 1))
uncut pages n (Fail c) r part e = if_false (nat_lt (c - 1) (sum_by (λ b. length b + 1) part.writes)) (failed_part n (c - 1) r part) part (ap (λ (ws : List Batch). nat_lt (c - 1) (sum_by (λ b. length b + 1) ws)) e ∙ not_below (c - 1))

-- no page is torn where none was written
none_torn : (k : Kept) (ps : List ℕ) → filter (λ p. contains p [] && not (is_sound (image k p))) ps ≡ []
none_torn k [] = refl
none_torn k (p ∷ ps) = none_torn k ps

-- a part that is stopped in its one write
stop_is : (pages n : ℕ) (r : Replica) (part : Part) (w : Write) (whole : Bool) →
    at_once (Stopped 1 ((if whole then 1 else 0) + 0) (torn_pages pages (if whole then written r.kept w else r.kept) [])) (fallen r (if whole then written r.kept w else r.kept)) ≡ part_reached n r part w (StopReach whole)
stop_is pages n r part w true = ap (λ (torn : List ℕ). at_once (Stopped 1 1 torn) (fallen r (written r.kept w))) (none_torn (written r.kept w) (page_numbers pages))
stop_is pages n r part w false = ap (λ (torn : List ℕ). at_once (Stopped 1 0 torn) (fallen r r.kept)) (none_torn r.kept (page_numbers pages))

stop_master_is : (pages n : ℕ) (r : Replica) (part : Part) (w : Write) (whole : Bool) →
    at_once (Stopped 1 (0 + ((if whole then 1 else 0) + 0)) (torn_pages pages (if whole then written r.kept w else r.kept) [])) (fallen r (if whole then written r.kept w else r.kept)) ≡ part_reached n r part w (StopReach whole)
stop_master_is pages n r part w true = ap (λ (torn : List ℕ). at_once (Stopped 1 1 torn) (fallen r (written r.kept w))) (none_torn (written r.kept w) (page_numbers pages))
stop_master_is pages n r part w false = ap (λ (torn : List ℕ). at_once (Stopped 1 0 torn) (fallen r r.kept)) (none_torn r.kept (page_numbers pages))

first_only : (w : ℕ) → nat_lt (w - 1) 1 ≡ nat_le w 1
first_only w = grind (arith, nat_tests)

first_two : (c : ℕ) → nat_lt (c - 1) 2 ≡ nat_le c 2
first_two c = grind (arith, nat_tests)

first_three : (c : ℕ) → nat_lt (c - 1) 3 ≡ nat_le c 3
first_three c = grind (arith, nat_tests)

-- a part that writes a block
pub cut_block : (pages n : ℕ) (s : Suffix) (r : Replica) (part : Part) (new : List Record) → part.writes ≡ (Block_write new ∷ []) ∷ [] → cut_part pages n s r part ≡ part_reached n r part (Block_write new) (how_far s (block_sectors new) 2)
cut_block pages n Whole r part new e = refl
cut_block pages n (Stop w mask) r part new e = elim (cases_Bool (nat_le w 1)) [
  | inl t ↦ let z : w - 1 ≡ 0 = omega (arith, leb-true w 1 t) in rw (e, z, t) (stop_is pages n r part (Block_write new) (keeps_all mask 0 (block_sectors new)))
  | inr f ↦ let past : nat_lt (w - 1) 1 ≡ false = first_only w ∙ f in rw (e, past, f) refl
]
cut_block pages n (Fail c) r part new e = elim (cases_Bool (nat_le c 2)) [
  | inl t ↦ let reached : nat_lt (c - 1) 2 ≡ true = first_two c ∙ t in rw (e, reached, t) refl
  | inr f ↦ let past : nat_lt (c - 1) 2 ≡ false = first_two c ∙ f in rw (e, past, f) refl
]

fail_second : (n c : ℕ) (r : Replica) (part : Part) (w : Write) → (c ≡ 0) ⊎ (c ≡ 1) ⊎ (c ≡ 2) → (writes : List Batch) → writes ≡ [] ∷ (w ∷ []) ∷ [] → at_once (DeviceFailed n (failed_steps c writes)) (fallen r (failed_disk c r.kept writes)) ≡ at_once (DeviceFailed n 0) (fallen r r.kept)
fail_second n c r part w (inl z) writes e = rw (e, z) refl
fail_second n c r part w (inr (inl z)) writes e = rw (e, z) refl
fail_second n c r part w (inr (inr z)) writes e = rw (e, z) refl

up_to_two : (c : ℕ) → c ≤ 3 → (c - 1 ≡ 0) ⊎ (c - 1 ≡ 1) ⊎ (c - 1 ≡ 2)
up_to_two zero h = inl refl
up_to_two (suc zero) h = inl refl
up_to_two (suc (suc zero)) h = inr (inl refl)
up_to_two (suc (suc (suc zero))) h = inr (inr refl)
up_to_two (suc (suc (suc (suc c)))) h = absurd (omega (arith, h))

-- a part that syncs, and then writes a master
pub cut_master : (pages n : ℕ) (s : Suffix) (r : Replica) (part : Part) (m : Master) (log_end : ℕ) → part.writes ≡ [] ∷ (Master_write m log_end ∷ []) ∷ [] → cut_part pages n s r part ≡ part_reached n r part (Master_write m log_end) (how_far s 1 3)
cut_master pages n Whole r part m log_end e = refl
cut_master pages n (Stop w mask) r part m log_end e = elim (cases_Bool (nat_le w 1)) [
  | inl t ↦ let z : w - 1 ≡ 0 = omega (arith, leb-true w 1 t) in rw (e, z, t) (stop_master_is pages n r part (Master_write m log_end) (keeps_all mask 0 1))
  | inr f ↦ let past : nat_lt (w - 1) 1 ≡ false = first_only w ∙ f in rw (e, past, f) refl
]
cut_master pages n (Fail c) r part m log_end e = elim (cases_Bool (nat_le c 3)) [
  | inl t ↦
      let reached : nat_lt (c - 1) (sum_by (λ b. length b + 1) part.writes) ≡ true = ap (λ (ws : List Batch). nat_lt (c - 1) (sum_by (λ b. length b + 1) ws)) e ∙ first_three c ∙ t in
      rw (reached, t) (fail_second n (c - 1) r part (Master_write m log_end) (up_to_two c (leb-true c 3 t)) part.writes e)
  | inr f ↦ let past : nat_lt (c - 1) (sum_by (λ b. length b + 1) part.writes) ≡ false = ap (λ (ws : List Batch). nat_lt (c - 1) (sum_by (λ b. length b + 1) ws)) e ∙ first_three c ∙ f in rw (past, f) refl
]

-- how far a part comes that writes a block of so many sectors, where that is known
pub cut_at_block : (pages n : ℕ) (s : Suffix) (r : Replica) (part : Part) (new : List Record) (sectors : ℕ) (x y : Reach) → part.writes ≡ (Block_write new ∷ []) ∷ [] → sectors ≡ block_sectors new → x ≡ how_far s sectors 2 → x ≡ y
    → cut_part pages n s r part ≡ part_reached n r part (Block_write new) y
cut_at_block pages n s r part new sectors x y e f h is =
    cut_block pages n s r part new e ∙ ap (part_reached n r part (Block_write new)) (ap (λ k. how_far s k 2) (sym f) ∙ sym h ∙ is)

-- the same of a part that writes a master
pub cut_at_master : (pages n : ℕ) (s : Suffix) (r : Replica) (part : Part) (m : Master) (log_end : ℕ) (x y : Reach) → part.writes ≡ [] ∷ (Master_write m log_end ∷ []) ∷ [] → x ≡ how_far s 1 3 → x ≡ y
    → cut_part pages n s r part ≡ part_reached n r part (Master_write m log_end) y
cut_at_master pages n s r part m log_end x y e h is = cut_master pages n s r part m log_end e ∙ ap (part_reached n r part (Master_write m log_end)) (sym h ∙ is)
