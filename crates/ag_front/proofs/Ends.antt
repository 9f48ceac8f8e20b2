-- The ends of a log by their places.
use Rattle.std.proofs.Common.{◌≡◌, ℕ, zero, suc, ◌+◌, ◌<◌, ◌≤◌, List, [], ◌∷◌, ◌++◌, length, get_or, take, drop, refl, sym, ap, subst, ◌∙◌, arith}
use Rattle.std.specs.Prelude.{Option, Some, None, nat_le}
use Rattle.std.specs.List.{filter, last_or}
use Rattle.std.proofs.lemmas.Bool.{le-leb}
use Rattle.std.proofs.lemmas.List.{length-take, length-append, take-take, take-append-drop}
use Rattle.ag_model.specs.declared.message.Block.{Block}
use Rattle.ag_model.specs.declared.record.Log.{Log}
use Rattle.ag_model.specs.declared.record.Record.{Record}
use Rattle.ag_model.specs.Blocks.{with_block, cut_at, after_to}
use Rattle.ag_model.specs.Prefixes.{end_of, IsBlockEnd, IsPrefix, HasBlock}
use Rattle.ag_model.specs.Proper.{IsProper, RisesFrom}
use Rattle.ag_model.specs.Rows.{contains}
use Rattle.ag_model.specs.Starts.{last_term}
use Rattle.ag_ends.proofs.Places.{above, strictly, contains-at}
use Rattle.ag_front.specs.Fetches.{IsBlockAfter}
use Rattle.ag_model.proofs.Prefixes.{prefix_at, cut_length, end_low}
use Rattle.ag_model.proofs.Rising.{filter-none}

-- the ends up to the next one
next_ends : (low i : ℕ) (es : List ℕ) → RisesFrom low es → suc i < length es
    → filter (λ e. nat_le e (get_or es (suc i) 0)) es ≡ filter (λ e. nat_le e (get_or es i 0)) es ++ get_or es (suc i) 0 ∷ []
next_ends low i [] p h = absurd (omega (arith, h))
next_ends low zero (e ∷ []) p h = absurd (omega (arith, h))
next_ends low zero (e ∷ f ∷ es) p h = first e f es p.1
  where
    first : (e f : ℕ) (es : List ℕ) → RisesFrom e (f ∷ es) → filter (λ x. nat_le x f) (e ∷ f ∷ es) ≡ filter (λ x. nat_le x e) (e ∷ f ∷ es) ++ f ∷ []
    first e f es p =
        let a = le-leb e f (omega (arith, p.0)) in let b = le-leb f f (omega arith) in let c = le-leb e e (omega arith) in
        let d = filter-none f f es p.1 (omega arith) in let g = filter-none e e (f ∷ es) p (omega arith) in
        rw (a, b, c, d, g) refl
next_ends low (suc i) (e ∷ es) p h =
    let lt : suc i < length es = omega (arith, h) in
    let a = le-leb e (get_or es i 0) (omega (arith, above e i es p.1 (omega (arith, h)))) in
    let b = le-leb e (get_or es (suc i) 0) (omega (arith, above e (suc i) es p.1 lt)) in
    let ih = next_ends e i es p.1 lt in
    rw (a, b) (ap (λ (xs : List ℕ). e ∷ xs) ih)

-- the last end, by its place, is the log's
last-at : (low i : ℕ) (o : Option ℕ) (es : List ℕ) (n : ℕ) → i < length es → length es ≤ i + 1 → last_or o es ≡ Some n → get_or es i 0 ≡ n
last-at low i o [] n h k l = absurd (omega (arith, h))
last-at low zero o (e ∷ []) n h k l = cc l
last-at low zero o (e ∷ f ∷ es) n h k l = absurd (omega (arith, k))
last-at low (suc i) o (e ∷ es) n h k l = last-at e i (Some e) es n (omega (arith, h)) (omega (arith, k)) l

pub at_the_end : (pages : ℕ) (log : Log) (i lsn : ℕ) → IsProper pages log → i < length log.ends → length log.ends ≤ i + 1 → get_or log.ends i 0 ≡ lsn → end_of log ≡ lsn
at_the_end pages log i lsn p h k at = sym (last-at 0 i None log.ends (end_of log) h k p.last) ∙ at

-- where the block after an end ends
pub next_end_there : (pages : ℕ) (log : Log) (i j lsn last : ℕ) → IsProper pages log → j ≡ suc i → j < length log.ends → get_or log.ends i 0 ≡ lsn → last ≡ get_or log.ends j 0 → (lsn < last) × (last ≤ end_of log)
next_end_there pages log i j lsn last p next h at is =
    let e : get_or log.ends j 0 ≡ get_or log.ends (suc i) 0 = ap (λ (k : ℕ). get_or log.ends k 0) next in
    (omega (arith, strictly 0 i (suc i) log.ends p.ends (omega arith) (omega arith)), omega (arith, end_low pages log (get_or log.ends j 0) p (contains-at j log.ends h)))

-- the block between an end and the next one stands in the log
pub block_there : (pages : ℕ) (log : Log) (i j lsn last : ℕ) (block : Block) → IsProper pages log → j ≡ suc i → j < length log.ends → get_or log.ends i 0 ≡ lsn → last ≡ get_or log.ends j 0
    → block.first ≡ lsn + 1 → block.records ≡ after_to lsn last log.records → HasBlock log block × (lsn + length block.records ≡ last)
block_there pages log i j lsn last block p next h at is first records =
    let within = next_end_there pages log i j lsn last p next h at is in
    let lt = within.0 in let top = within.1 in
    let at_j : get_or log.ends j 0 ≡ get_or log.ends (suc i) 0 = ap (λ (k : ℕ). get_or log.ends k 0) next in
    let e : IsBlockEnd log lsn = ap (λ (k : ℕ). contains k log.ends) (sym at) ∙ contains-at i log.ends (omega arith) in
    let f : IsBlockEnd log last = ap (λ (k : ℕ). contains k log.ends) is ∙ contains-at j log.ends h in
    let long = cut_length pages log lsn p e in
    let joined : take lsn log.records ++ block.records ≡ take last log.records =
    ap (λ (xs : List Record). take lsn log.records ++ xs) records
    ∙ ap (λ (xs : List Record). xs ++ drop lsn (take last log.records)) (sym (take-take lsn last log.records (omega arith)))
    ∙ take-append-drop lsn (take last log.records) in
    let size : end_of (cut_at lsn log) + length block.records ≡ last =
    (let a = ap length joined in omega (arith, length-append (take lsn log.records) block.records, length-take last log.records)) in
    let ends : filter (λ e. nat_le e lsn) log.ends ++ last ∷ [] ≡ filter (λ e. nat_le e last) log.ends =
    (λ k. filter (λ e. nat_le e (sym at k)) log.ends ++ (is ∙ at_j) k ∷ []) ∙ sym (next_ends 0 i log.ends p.ends (omega arith)) ∙ (λ k. filter (λ e. nat_le e (sym (is ∙ at_j) k)) log.ends) in
    let whole : with_block (cut_at lsn log) block.records ≡ cut_at last log =
    λ k. record { records = joined k; ends = (ap (λ (m : ℕ). filter (λ e. nat_le e lsn) log.ends ++ m ∷ []) size ∙ ends) k } in (
      record {
        before = cut_at lsn log;
        prefix = prefix_at pages log lsn p e;
        with_it = subst (λ (x : Log). IsPrefix x log) (sym whole) (prefix_at pages log last p f);
        first = first ∙ ap (λ (m : ℕ). m + 1) (sym long);
      },
      omega arith,
    )

-- it is the block after that end
pub block_after_there : (pages : ℕ) (log : Log) (i j lsn last : ℕ) (block : Block) → IsProper pages log → j ≡ suc i → j < length log.ends → get_or log.ends i 0 ≡ lsn → last ≡ get_or log.ends j 0
    → block.first ≡ lsn + 1 → block.records ≡ after_to lsn last log.records → block.term ≡ last_term (take last log.records) → IsBlockAfter log lsn block
block_after_there pages log i j lsn last block p next h at is first records term =
    let there = block_there pages log i j lsn last block p next h at is first records in
    let lt = (next_end_there pages log i j lsn last p next h at is).0 in
    let size = there.1 in
    record {
      stands_in = there.0;
      first = first;
      some = omega arith;
      term = term ∙ ap (λ (n : ℕ). last_term (take n log.records)) (sym size);
    }
