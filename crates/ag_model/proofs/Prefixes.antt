-- Prefixes of logs, and block ends.
use Rattle.std.proofs.Common.{◌≡◌, ℕ, ◌+◌, ◌<◌, ◌≤◌, true, false, eqb, List, [], ◌∷◌, ◌++◌, length, take, refl, sym, ap, ◌∙◌, inl, inr, arith}
use Rattle.std.specs.Prelude.{Some, None, nat_le, max}
use Rattle.std.specs.List.{filter, last_or, fold, flat_map}
use Rattle.std.proofs.lemmas.Bool.{or_cases, or_left, or_right, eqb-true}
use Rattle.std.proofs.lemmas.List.{length-take, take-take, take_all, length-append}
use Rattle.ag_model.specs.declared.message.Block.{Block}
use Rattle.ag_model.specs.declared.record.Log.{Log}
use Rattle.ag_model.specs.declared.record.Record.{Record}
use Rattle.ag_model.specs.Blocks.{with_block, cut_at}
use Rattle.ag_model.specs.declared.value.PageValue.{PageValue}
use Rattle.ag_model.specs.Page.{value, last_touch, numbered, horizons, untrimmed, all_versions}
use Rattle.ag_model.specs.Prefixes.{end_of, IsBlockEnd, IsPrefix, HasBlock}
use Rattle.ag_model.specs.Proper.{IsProper, RisesFrom}
use Rattle.ag_model.specs.Rows.{contains, rows, committed, committed_by, changed, empty_table, Table}
use Rattle.ag_model.specs.Stripes.{Standing, StandsFor}
use Rattle.ag_model.proofs.Rising.{filter-twice, filter-contains, filter-below, filter-whole, filter-none, last-within, rises-above}

pub end_last : (pages : ℕ) (log : Log) → IsProper pages log → IsBlockEnd log (end_of log)
end_last pages log p = go log.ends p.last
  where
    go : (es : List ℕ) → last_or None es ≡ Some (end_of log) → contains (end_of log) es ≡ true
    go [] l = cc
    go (e ∷ es) l = last-within e (end_of log) es l

pub whole_ends : (n : ℕ) (es : List ℕ) → RisesFrom 0 es → last_or None es ≡ Some n → filter (λ e. nat_le e n) es ≡ es
whole_ends n [] h l = refl
whole_ends n (e ∷ es) h l = filter-whole n e es h.1 l

pub end_low : (pages : ℕ) (log : Log) (n : ℕ) → IsProper pages log → IsBlockEnd log n → n ≤ end_of log
end_low pages log n p e = filter-below n (end_of log) log.ends (ap (contains n) (whole_ends (end_of log) log.ends p.ends p.last) ∙ e)

pub end_positive : (pages : ℕ) (log : Log) (n : ℕ) → IsProper pages log → IsBlockEnd log n → 0 < n
end_positive pages log n p e = rises-above 0 n log.ends p.ends e

pub prefix_refl : (pages : ℕ) (log : Log) → IsProper pages log → IsPrefix log log
prefix_refl pages log p = record {
  end = or_right (eqb (end_of log) 0) (contains (end_of log) log.ends) (end_last pages log p);
  cut = λ i. record { records = sym (take_all (end_of log) log.records (omega arith)) i; ends = sym (whole_ends (end_of log) log.ends p.ends p.last) i };
}

cut_twice : (n m : ℕ) (log : Log) → n ≤ m → cut_at n (cut_at m log) ≡ cut_at n log
cut_twice n m log le = λ i. record { records = take-take n m log.records le i; ends = filter-twice n m le log.ends i }

pub prefix_length : (a b : Log) → IsPrefix a b → end_of a ≤ end_of b
prefix_length a b p = let e = ap end_of p.cut in omega (arith, length-take (end_of a) b.records)

pub prefix_trans : (a b c : Log) → IsPrefix a b → IsPrefix b c → IsPrefix a c
prefix_trans a b c p q =
    let le = prefix_length a b p in
    record {
      end = elim (or_cases (eqb (end_of a) 0) (contains (end_of a) b.ends) p.end) [
        | inl t ↦ or_left (eqb (end_of a) 0) (contains (end_of a) c.ends) t
        | inr r ↦ or_right (eqb (end_of a) 0) (contains (end_of a) c.ends) (sym (filter-contains (end_of a) (end_of b) le c.ends) ∙ sym (ap (λ (l : Log). contains (end_of a) l.ends) q.cut) ∙ r)
      ];
      cut = p.cut ∙ ap (cut_at (end_of a)) q.cut ∙ cut_twice (end_of a) (end_of b) c le;
    }

-- of two prefixes of one log the shorter is a prefix of the longer
pub prefix_both : (a b c : Log) → IsPrefix a c → IsPrefix b c → end_of a ≤ end_of b → IsPrefix a b
prefix_both a b c p q le = record {
  end = elim (or_cases (eqb (end_of a) 0) (contains (end_of a) c.ends) p.end) [
    | inl t ↦ or_left (eqb (end_of a) 0) (contains (end_of a) b.ends) t
    | inr r ↦ or_right (eqb (end_of a) 0) (contains (end_of a) b.ends) (ap (λ (l : Log). contains (end_of a) l.ends) q.cut ∙ filter-contains (end_of a) (end_of b) le c.ends ∙ r)
  ];
  cut = p.cut ∙ sym (cut_twice (end_of a) (end_of b) c le) ∙ sym (ap (cut_at (end_of a)) q.cut);
}

-- two prefixes of one log and one length are one
pub prefix_same : (a b c : Log) → IsPrefix a c → IsPrefix b c → end_of a ≡ end_of b → a ≡ b
prefix_same a b c p q e = p.cut ∙ ap (λ n. cut_at n c) e ∙ sym q.cut

-- a prefix as long as the log is the log
pub prefix_whole : (pages : ℕ) (a log : Log) → IsProper pages log → IsPrefix a log → end_of log ≤ end_of a → a ≡ log
prefix_whole pages a log proper p le = prefix_same a log log p (prefix_refl pages log proper) (omega (arith, prefix_length a log p))

-- a proper log cut at the end of a block
pub cut_length : (pages : ℕ) (log : Log) (n : ℕ) → IsProper pages log → IsBlockEnd log n → end_of (cut_at n log) ≡ n
cut_length pages log n p e = omega (arith, length-take n log.records, end_low pages log n p e)

pub prefix_at : (pages : ℕ) (log : Log) (n : ℕ) → IsProper pages log → IsBlockEnd log n → IsPrefix (cut_at n log) log
prefix_at pages log n p e =
    let long = cut_length pages log n p e in
    record {
      end = or_right (eqb (end_of (cut_at n log)) 0) (contains (end_of (cut_at n log)) log.ends) (ap (λ k. contains k log.ends) long ∙ e);
      cut = ap (λ k. cut_at k log) (sym long);
    }

pub prefix_empty : (pages : ℕ) (log : Log) → IsProper pages log → IsPrefix (record { records = []; ends = [] }) log
prefix_empty pages log p = record { end = refl; cut = λ i. record { records = []; ends = sym (filter-none 0 0 log.ends p.ends (omega arith)) i } }

-- a block end of a prefix is one of the log
pub end_later : (a log : Log) (n : ℕ) → IsPrefix a log → IsBlockEnd a n → IsBlockEnd log n
end_later a log n p e =
    let f : contains n (filter (λ e. nat_le e (end_of a)) log.ends) ≡ true = sym (ap (λ (l : Log). contains n l.ends) p.cut) ∙ e in
    sym (filter-contains n (end_of a) (filter-below n (end_of a) log.ends f) log.ends) ∙ f

-- a block end of the log that is not above a prefix's end is one of the prefix
pub end_earlier : (a log : Log) (n : ℕ) → IsPrefix a log → IsBlockEnd log n → n ≤ end_of a → IsBlockEnd a n
end_earlier a log n p e le = ap (λ (l : Log). contains n l.ends) p.cut ∙ filter-contains n (end_of a) le log.ends ∙ e

-- the value of a page after all of these records
abbrev pub taken_value : ℕ → ℕ → List Record → PageValue
taken_value pages page log = record {
  page = page;
  lsn = last_touch pages page (numbered log);
  horizon = fold max 0 (horizons page log);
  versions = untrimmed (horizons page log) (all_versions pages page log);
}

pub value_prefix : (pages page n : ℕ) (a log : Log) → IsPrefix a log → n ≤ end_of a → value pages a.records n page ≡ value pages log.records n page
unfolding value
value_prefix pages page n a log p le =
    let same : take n a.records ≡ take n log.records = ap (λ (l : Log). take n l.records) p.cut ∙ take-take n (end_of a) log.records le in
    ap (taken_value pages page) same

-- the rows after all of these records
abbrev taken_rows : List Record → Table
taken_rows log = fold changed empty_table (flat_map (committed_by log) log)

pub rows_prefix : (n : ℕ) (a log : Log) → IsPrefix a log → n ≤ end_of a → rows a.records n ≡ rows log.records n
unfolding rows committed
rows_prefix n a log p le =
    let same : take n a.records ≡ take n log.records = ap (λ (l : Log). take n l.records) p.cut ∙ take-take n (end_of a) log.records le in
    ap taken_rows same

pub stands_later : (s : Standing) (a log : Log) → IsPrefix a log → StandsFor s a → s.applied ≤ end_of a → StandsFor s log
stands_later s a log p h le = record {
  applied = end_later a log s.applied p h.applied;
  values = λ page own sound. h.values page own sound ∙ value_prefix s.pages page s.applied a log p le;
}

pub stands_earlier : (s : Standing) (a log : Log) → IsPrefix a log → StandsFor s log → s.applied ≤ end_of a → StandsFor s a
stands_earlier s a log p h le = record {
  applied = end_earlier a log s.applied p h.applied le;
  values = λ page own sound. h.values page own sound ∙ sym (value_prefix s.pages page s.applied a log p le);
}

-- no block ends inside of a block
pub no_end_inside : (log : Log) (block : Block) (n : ℕ) → (h : HasBlock log block) → IsBlockEnd log n → n < end_of h.before + length block.records → n ≤ end_of h.before
no_end_inside log block n h e lt =
    let within : IsBlockEnd (with_block h.before block.records) n = end_earlier (with_block h.before block.records) log n h.with_it e (omega (arith, length-append h.before.records block.records)) in
    let early = go h.before.ends within in
    filter-below n (end_of h.before) log.ends (sym (ap (λ (l : Log). contains n l.ends) h.prefix.cut) ∙ early)
  where
    go : (es : List ℕ) → contains n (es ++ (end_of h.before + length block.records) ∷ []) ≡ true → contains n es ≡ true
    go [] c = elim (or_cases (eqb n (end_of h.before + length block.records)) false c) [
      | inl t ↦ (let s = eqb-true n (end_of h.before + length block.records) t in absurd (omega arith))
      | inr f ↦ f
    ]
    go (x ∷ es) c = elim (or_cases (eqb n x) (contains n (es ++ (end_of h.before + length block.records) ∷ [])) c) [
      | inl t ↦ or_left (eqb n x) (contains n es) t
      | inr r ↦ or_right (eqb n x) (contains n es) (go es r)
    ]
