-- A row that was written is read again, also in a sector.
use Rattle.std.proofs.Common.{◌≡◌, ℕ, zero, suc, ◌+◌, ◌-◌, ◌*◌, ◌<◌, ◌≤◌, Bool, true, false, List, [], ◌∷◌, ◌++◌, length, get_or, take, drop, replicate, refl, sym, ap, ◌∙◌, arith, append_assoc, length-append}
use Rattle.std.proofs.lemmas.List.{take_at, take_all, take_more, drop_at, drop-drop, drop-replicate, take-replicate, length-take, flat_map_more}
use Rattle.std.specs.Prelude.{if◌then◌else◌, ◌==◌}
use Rattle.std.specs.Int.{w16, w32}
use Rattle.std.specs.List.{AllByRecursion, flat_map}
use Rattle.ag_model.specs.declared.answer.SuspectRow.{SuspectRow}
use Rattle.ag_model.proofs.Numbers.{front_number-written}
use Rattle.ag_suspect.specs.Rows.{IsRow, number, row_spelling, row_in, rows_sector}

-- what stands in zeros
abbrev pub free_row : SuspectRow
free_row = record { page = 0; kind = 0; repaired = false; count = 0 }

pub length-row_spelling : (row : SuspectRow) → length (row_spelling row) ≡ 32
unfolding row_spelling
length-row_spelling row = refl

flag : (b : Bool) → ((if b then 1 else 0) == 1) ≡ b
flag true = refl
flag false = refl

pub row_in-row_spelling : (row : SuspectRow) → IsRow row → row_in (row_spelling row) ≡ row
unfolding row_spelling row_in
row_in-row_spelling row h =
    let s = row_spelling row in
    let page : number w16 s ≡ row.page = front_number-written w16 row.page (drop 2 s) (omega (arith, h.page)) in
    let count : number w32 (drop 4 s) ≡ row.count = front_number-written w32 row.count (drop 8 s) (omega (arith, h.count)) in
    let repaired = flag row.repaired in
    λ i. record { page = page i; kind = row.kind; repaired = repaired i; count = count i }

pub row_in-zeros : row_in (replicate 32 0) ≡ free_row
unfolding row_in
row_in-zeros = refl

-- what stands at a place of some rows with zeros behind them
in_rows : (rows : List SuspectRow) (k n : ℕ) → AllByRecursion IsRow rows → 32 * (k + 1) ≤ 32 * length rows + n
    → row_in (take 32 (drop (32 * k) (flat_map row_spelling rows ++ replicate n 0))) ≡ get_or rows k free_row
in_rows [] k n fit room =
    let long : 32 ≤ n - 32 * k = omega arith in
    ap (λ (bytes : List ℕ). row_in (take 32 bytes)) (drop-replicate (32 * k) n 0) ∙ ap row_in (take-replicate 32 (n - 32 * k) 0 long) ∙ row_in-zeros
in_rows (row ∷ rows) zero n fit room =
    let parts : flat_map row_spelling (row ∷ rows) ++ replicate n 0 ≡ row_spelling row ++ (flat_map row_spelling rows ++ replicate n 0) = append_assoc (row_spelling row) (flat_map row_spelling rows) (replicate n 0) in
    ap (λ (bytes : List ℕ). row_in (take 32 bytes)) parts ∙ ap row_in (take_at (row_spelling row) (flat_map row_spelling rows ++ replicate n 0) 32 (length-row_spelling row)) ∙ row_in-row_spelling row fit.0
in_rows (row ∷ rows) (suc k) n fit room =
    let rest = flat_map row_spelling rows ++ replicate n 0 in
    let parts : flat_map row_spelling (row ∷ rows) ++ replicate n 0 ≡ row_spelling row ++ rest = append_assoc (row_spelling row) (flat_map row_spelling rows) (replicate n 0) in
    let place : 32 * suc k ≡ 32 + 32 * k = omega arith in
    let behind : drop (32 * suc k) (row_spelling row ++ rest) ≡ drop (32 * k) rest =
    ap (λ (m : ℕ). drop m (row_spelling row ++ rest)) place ∙ sym (drop-drop (32 * k) 32 (row_spelling row ++ rest)) ∙ ap (drop (32 * k)) (drop_at (row_spelling row) rest 32 (length-row_spelling row)) in
    ap (λ (bytes : List ℕ). row_in (take 32 (drop (32 * suc k) bytes))) parts ∙ ap (λ (bytes : List ℕ). row_in (take 32 bytes)) behind ∙ in_rows rows k n fit.1 (omega arith)

-- what stands at a place of a sector
pub in_sector : (rows : List SuspectRow) (k : ℕ) → AllByRecursion IsRow rows → length rows ≤ 16 → k < 16 → row_in (take 32 (drop (32 * k) (rows_sector rows))) ≡ get_or rows k free_row
unfolding rows_sector
in_sector rows k fit few within = in_rows rows k (512 - 32 * length rows) fit (omega arith)

length-rows : (rows : List SuspectRow) → length (flat_map row_spelling rows) ≡ 32 * length rows
length-rows [] = omega arith
length-rows (row ∷ rows) = let ih = length-rows rows in omega (arith, length-append (row_spelling row) (flat_map row_spelling rows), length-row_spelling row)

-- one row more, written over zeros
pub one_more : (rows : List SuspectRow) (i : ℕ) (bytes more : List ℕ) → i < length rows → length rows ≤ 16 → bytes ≡ flat_map row_spelling (take i rows) ++ replicate (512 - 32 * i) 0
    → more ≡ take (32 * i) bytes ++ (row_spelling (get_or rows i free_row) ++ drop (32 * i + 32) bytes) → more ≡ flat_map row_spelling (take (i + 1) rows) ++ replicate (512 - 32 * (i + 1)) 0
one_more rows i bytes more lt few is put =
    let done : List ℕ = flat_map row_spelling (take i rows) in
    let row : List ℕ = row_spelling (get_or rows i free_row) in
    let zeros : List ℕ = replicate (512 - 32 * i) 0 in
    let long : length done ≡ 32 * i = omega (arith, length-rows (take i rows), length-take i rows) in
    let front : take (32 * i) bytes ≡ done = ap (take (32 * i)) is ∙ take_at done zeros (32 * i) long in
    let back : drop (32 * i + 32) bytes ≡ replicate (512 - 32 * (i + 1)) 0 =
    ap (drop (32 * i + 32)) is ∙ sym (drop-drop 32 (32 * i) (done ++ zeros)) ∙ ap (drop 32) (drop_at done zeros (32 * i) long) ∙ drop-replicate 32 (512 - 32 * i) 0 ∙ ap (λ (n : ℕ). replicate n 0) (omega arith) in
    let rows_more : flat_map row_spelling (take (i + 1) rows) ≡ done ++ row = ap (flat_map row_spelling) (take_more rows i free_row lt) ∙ sym (flat_map_more row_spelling [] (take i rows) (get_or rows i free_row)) in
    put ∙ ap (λ (zs : List ℕ). zs ++ (row ++ drop (32 * i + 32) bytes)) front ∙ ap (λ (zs : List ℕ). done ++ (row ++ zs)) back ∙ sym (append_assoc done row (replicate (512 - 32 * (i + 1)) 0))
    ∙ ap (λ (zs : List ℕ). zs ++ replicate (512 - 32 * (i + 1)) 0) (sym rows_more)

-- all rows were written
pub all_put : (rows : List SuspectRow) (i : ℕ) → i ≡ length rows → flat_map row_spelling (take i rows) ++ replicate (512 - 32 * i) 0 ≡ flat_map row_spelling rows ++ replicate (512 - 32 * length rows) 0
all_put rows i is =
    ap (λ (rs : List SuspectRow). flat_map row_spelling rs ++ replicate (512 - 32 * i) 0) (take_all i rows (omega arith)) ∙ ap (λ (n : ℕ). flat_map row_spelling rows ++ replicate (512 - 32 * n) 0) is
