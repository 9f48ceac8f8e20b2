-- The sectors that a log takes, where it goes on by blocks or is cut, and how many records they have.
use Rattle.std.proofs.Common.{◌≡◌, ℕ, ◌+◌, ◌-◌, ◌*◌, ◌≤◌, List, [], ◌∷◌, ◌++◌, length, take, drop, refl, sym, ap, ◌∙◌, subst, arith, length-append}
use Rattle.std.specs.Prelude.{Some, nat_le}
use Rattle.std.specs.List.{filter, last_or}
use Rattle.std.proofs.lemmas.Bool.{leb-true, leb-false}
use Rattle.std.proofs.lemmas.List.{take-append-le, take_all, length-take-le, length-drop, drop-append-le, nil_from_length, take-take, drop-take}
use Rattle.std.proofs.lemmas.List.Sums.{sum_by-append}
use Rattle.ag_model.specs.declared.record.Record.{Record}
use Rattle.ag_model.specs.declared.record.Record.TheVariants.{Put, Del, Commit, Abort, Trim, Term}
use Rattle.ag_model.specs.declared.record.Log.{Log}
use Rattle.ag_model.specs.Blocks.{with_block, cut_at}
use Rattle.ag_model.specs.Sizes.{record_size, records_size, block_sectors, blocks_sectors, sectors_to, log_sectors}
use Rattle.ag_model.specs.Proper.{RisesFrom}
use Rattle.ag_model.proofs.Rising.{filter-none}
use Rattle.ag_lists.proofs.Tests.{if_has}
use Rattle.ag_laws.specs.Ends.{EndsIn}
use Rattle.ag_laws.proofs.Ends.{ends_le}

-- the last end is the end of these records, which start after `start`
abbrev pub IsWhole : ℕ → List ℕ → List Record → Type 0
IsWhole start es rs = EndsIn start es (start + length rs) × (last_or (Some start) es ≡ Some (start + length rs))

-- the records after the first block
rest_long : (start x : ℕ) (rs : List Record) → start ≤ x → x ≤ start + length rs → x + length (drop (x - start) rs) ≡ start + length rs
rest_long start x rs low high = omega (arith, length-drop (x - start) rs, low, high)

whole_rest : (start x : ℕ) (xs : List ℕ) (rs : List Record) → IsWhole start (x ∷ xs) rs → IsWhole x xs (drop (x - start) rs)
whole_rest start x xs rs w =
    let high : x ≤ start + length rs = ends_le x (start + length rs) xs w.0.1 in
    let e : start + length rs ≡ x + length (drop (x - start) rs) = sym (rest_long start x rs w.0.0 high) in
    (subst (λ (n : ℕ). EndsIn x xs n) e w.0.1, w.1 ∙ ap Some e)

-- one block more
sectors_push : (start : ℕ) (es : List ℕ) (rs b : List Record) → IsWhole start es rs → sectors_to start (es ++ (start + length rs + length b) ∷ []) (rs ++ b) ≡ sectors_to start es rs + block_sectors b
sectors_push start [] rs b w =
    let same : start ≡ start + length rs = cc in
    let none : rs ≡ [] = nil_from_length rs (omega (arith, same)) in
    let all : take (start + length rs + length b - start) (rs ++ b) ≡ b = ap (λ (l : List Record). take (start + length l + length b - start) (l ++ b)) none ∙ take_all (start + 0 + length b - start) b (omega arith) in
    let one : block_sectors (take (start + length rs + length b - start) (rs ++ b)) ≡ block_sectors b = ap block_sectors all in
    omega (arith, one)
sectors_push start (x ∷ xs) rs b w =
    let high : x ≤ start + length rs = ends_le x (start + length rs) xs w.0.1 in
    let rest : List Record = drop (x - start) rs in
    let e : x + length rest ≡ start + length rs = rest_long start x rs w.0.0 high in
    let one : block_sectors (take (x - start) (rs ++ b)) ≡ block_sectors (take (x - start) rs) = ap block_sectors (take-append-le (x - start) rs b (omega (arith, high, w.0.0))) in
    let two : sectors_to x (xs ++ (start + length rs + length b) ∷ []) (drop (x - start) (rs ++ b)) ≡ sectors_to x xs rest + block_sectors b =
    ap (λ l. sectors_to x (xs ++ (start + length rs + length b) ∷ []) l) (drop-append-le (x - start) rs b (omega (arith, high, w.0.0)))
    ∙ ap (λ n. sectors_to x (xs ++ (n + length b) ∷ []) (rest ++ b)) (sym e) ∙ sectors_push x xs rest b (whole_rest start x xs rs w) in
    omega (arith, one, two)

pub block_more : (l : Log) (b : List Record) → IsWhole 0 l.ends l.records → log_sectors (with_block l b) ≡ log_sectors l + block_sectors b
block_more l b w =
    let same : 0 + length l.records ≡ length l.records = omega arith in
    subst (λ (n : ℕ). sectors_to 0 (l.ends ++ (n + length b) ∷ []) (l.records ++ b) ≡ sectors_to 0 l.ends l.records + block_sectors b) same (sectors_push 0 l.ends l.records b w)

pub blocks_cons : (b : List Record) (bs : List (List Record)) → blocks_sectors (b ∷ bs) ≡ block_sectors b + blocks_sectors bs
blocks_cons b bs =
    let one : 0 + block_sectors b ≡ block_sectors b = omega arith in
    sum_by-append block_sectors (b ∷ []) bs ∙ ap (λ n. n + blocks_sectors bs) one

-- one block more ends where the records end
ends_more : (low start len more : ℕ) (es : List ℕ) → EndsIn start es len → len ≤ more → EndsIn start (es ++ more ∷ []) more
ends_more low start len more [] p h = (omega (arith, p, h), omega arith)
ends_more low start len more (e ∷ es) p h = (p.0, ends_more low e len more es p.1 h)

last_more : (o : ℕ) (es : List ℕ) (e : ℕ) → last_or (Some o) (es ++ e ∷ []) ≡ Some e
last_more o [] e = refl
last_more o (x ∷ es) e = last_more x es e

pub whole_more : (l : Log) (b : List Record) → IsWhole 0 l.ends l.records → IsWhole 0 (with_block l b).ends (with_block l b).records
whole_more l b w =
    let long : length l.records + length b ≡ 0 + length (l.records ++ b) = omega (arith, length-append l.records b) in (
      subst (λ (n : ℕ). EndsIn 0 (l.ends ++ (length l.records + length b) ∷ []) n) long (ends_more 0 0 (0 + length l.records) (length l.records + length b) l.ends w.0 (omega arith)),
      last_more 0 l.ends (length l.records + length b) ∙ ap Some long,
    )

sectors_cut : (f start : ℕ) (es : List ℕ) (rs : List Record) → RisesFrom start es → sectors_to start (filter (λ e. nat_le e f) es) (take (f - start) rs) ≤ sectors_to start es rs
sectors_cut f start [] rs r = omega arith
sectors_cut f start (x ∷ xs) rs r =
    if_has (λ (l : List ℕ). sectors_to start l (take (f - start) rs) ≤ sectors_to start (x ∷ xs) rs) (nat_le x f) (x ∷ filter (λ e. nat_le e f) xs) (filter (λ e. nat_le e f) xs)
    (λ e.
    let h : x ≤ f = leb-true x f e in
    let span : f - start ≡ (x - start) + (f - x) = omega (arith, h, r.0) in
    let one : block_sectors (take (x - start) (take (f - start) rs)) ≡ block_sectors (take (x - start) rs) = ap block_sectors (take-take (x - start) (f - start) rs (omega (arith, h))) in
    let two : sectors_to x (filter (λ e. nat_le e f) xs) (drop (x - start) (take (f - start) rs)) ≤ sectors_to x xs (drop (x - start) rs) =
    subst (λ (l : List Record). sectors_to x (filter (λ e. nat_le e f) xs) l ≤ sectors_to x xs (drop (x - start) rs))
    (sym (ap (λ k. drop (x - start) (take k rs)) span ∙ drop-take (x - start) (f - x) rs))
    (sectors_cut f x xs (drop (x - start) rs) r.1) in
    omega (arith, one, two))
    (λ e. subst (λ (l : List ℕ). sectors_to start l (take (f - start) rs) ≤ sectors_to start (x ∷ xs) rs) (sym (filter-none f x xs r.1 (omega (arith, leb-false x f e)))) (omega arith))

pub cut_less : (l : Log) (fork : ℕ) → RisesFrom 0 l.ends → log_sectors (cut_at fork l) ≤ log_sectors l
cut_less l fork r =
    let same : fork - 0 ≡ fork = omega arith in
    subst (λ (n : ℕ). sectors_to 0 (filter (λ e. nat_le e fork) l.ends) (take n l.records) ≤ sectors_to 0 l.ends l.records) same (sectors_cut fork 0 l.ends l.records r)

-- each record takes at least nine bytes
record_some : (r : Record) → 9 ≤ record_size r
record_some (Put t k v) = omega arith
record_some (Del t k) = omega arith
record_some (Commit t ps) = omega arith
record_some (Abort t ps) = omega arith
record_some (Trim p h) = omega arith
record_some (Term t) = omega arith

cons_size : (r : Record) (rs : List Record) → records_size (r ∷ rs) ≡ record_size r + records_size rs
cons_size r rs =
    let one : 0 + record_size r ≡ record_size r = omega arith in
    sum_by-append record_size (r ∷ []) rs ∙ ap (λ n. n + records_size rs) one

pub records_some : (rs : List Record) → 9 * length rs ≤ records_size rs
records_some [] = omega arith
records_some (r ∷ rs) = let more : 9 * length rs ≤ records_size rs = records_some rs in omega (arith, more, record_some r, cons_size r rs)

block_long : (rs : List Record) → 9 * length rs ≤ 484 * block_sectors rs
block_long rs = let more : 9 * length rs ≤ records_size rs = records_some rs in omega (arith, more)

-- so many sectors have so many records at most
sectors_long : (start : ℕ) (es : List ℕ) (rs : List Record) → IsWhole start es rs → 9 * length rs ≤ 484 * sectors_to start es rs
sectors_long start [] rs w = let same : start ≡ start + length rs = cc in omega (arith, same)
sectors_long start (x ∷ xs) rs w =
    let high : x ≤ start + length rs = ends_le x (start + length rs) xs w.0.1 in
    let rest : List Record = drop (x - start) rs in
    let more : 9 * length rest ≤ 484 * sectors_to x xs rest = sectors_long x xs rest (whole_rest start x xs rs w) in
    let one : 9 * length (take (x - start) rs) ≤ 484 * block_sectors (take (x - start) rs) = block_long (take (x - start) rs) in
    omega (arith, more, one, length-take-le (x - start) rs (omega (arith, high, w.0.0)), length-drop (x - start) rs, high, w.0.0)

pub log_long : (l : Log) → IsWhole 0 l.ends l.records → 9 * length l.records ≤ 484 * log_sectors l
log_long l w = sectors_long 0 l.ends l.records w
