-- The two laws of records: what is read is spelled so, and what is spelled so is read.
use Rattle.std.proofs.Common.{◌≡◌, ℕ, ◌-◌, ◌^◌, ◌<◌, ◌≤◌, true, cond, eqb, List, [], ◌∷◌, ◌++◌, length, drop, Result, Ok, Err, inl, inr, refl, sym, ap, subst, ◌∙◌, append_assoc, arith}
use Rattle.std.specs.Prelude.{IfOk}
use Rattle.std.specs.Int.{w16, w32, w64, to_be_bytes}
use Rattle.std.proofs.lemmas.Bool.{eqb-true}
use Rattle.std.proofs.lemmas.List.{length-append, length-take, drop_at}
use Rattle.ag_model.specs.Bytes.{AreBytes}
use Rattle.ag_model.specs.Sizes.{record_size}
use Rattle.ag_model.proofs.Numbers.{AreBytes-rest}
use Rattle.ag_model.specs.declared.record.Record.{Record}
use Rattle.ag_model.specs.declared.record.Record.TheVariants.{Put, Del, Commit, Abort, Trim, Term}
use Rattle.ag_record.specs.declared.fault.RecordFault.{RecordFault}
use Rattle.ag_record.specs.declared.fault.RecordFault.TheVariants.{Short, BadKind, BadPage}
use Rattle.ag_record.specs.Spelling.{spelling, value_spelling, pages_spelling, HasSpelling, ArePages}
use Rattle.ag_record.specs.Steps.{◌>>=◌, number_at}
use Rattle.ag_record.specs.Reading.{Answers, value_at, is_page, list_at, put_at, del_at, ending_at, trim_at, term_at, fields_at, record_at, reading}
use Rattle.ag_record.proofs.Steps.{bind_ok, when_ok, chosen, ok_is, Takes, Takes-then, Takes-kind, number_takes, number_again}
use Rattle.ag_record.proofs.Fields.{value_takes, value_again, list_takes, list_again, is_page-IsPage, IsPage-is_page, length-pages}

-- a record was read from bytes
abbrev Reads : List ℕ → Record × List ℕ → Type 0
Reads bytes x = Takes bytes (spelling x.0) x.1 × HasSpelling x.0

put_takes : (bytes : List ℕ) (x : Record × List ℕ) → AreBytes bytes → put_at bytes ≡ Ok x → Reads (1 ∷ bytes) x
unfolding put_at
put_takes bytes x fits e =
    let a = bind_ok (number_at Short w64 bytes) (λ txn. number_at Short w32 txn.1 >>= λ key. value_at key.1 >>= λ value. Ok (Put txn.0 key.0 value.0, value.1)) x e in
    let b = bind_ok (number_at Short w32 a.0.1) (λ key. value_at key.1 >>= λ value. Ok (Put a.0.0 key.0 value.0, value.1)) x a.2 in
    let c = bind_ok (value_at b.0.1) (λ value. Ok (Put a.0.0 b.0.0 value.0, value.1)) x b.2 in
    let t0 = number_takes Short w64 bytes a.0 fits a.1 in
    let t1 = number_takes Short w32 a.0.1 b.0 t0.0.left b.1 in
    let t2 = value_takes b.0.1 c.0 t1.0.left c.1 in
    let e12 = Takes-then a.0.1 (to_be_bytes w32 b.0.0) b.0.1 (value_spelling c.0.0) c.0.1 t1.0 t2.0 in
    let e02 = Takes-then bytes (to_be_bytes w64 a.0.0) a.0.1 (to_be_bytes w32 b.0.0 ++ value_spelling c.0.0) c.0.1 t0.0 e12 in
    let made : Record × List ℕ = (Put a.0.0 b.0.0 c.0.0, c.0.1) in
    subst (Reads (1 ∷ bytes)) (ok_is made x c.2) (Takes-kind 1 bytes (to_be_bytes w64 a.0.0 ++ (to_be_bytes w32 b.0.0 ++ value_spelling c.0.0)) c.0.1 e02, (t0.1, t1.1, t2.1))

del_takes : (bytes : List ℕ) (x : Record × List ℕ) → AreBytes bytes → del_at bytes ≡ Ok x → Reads (2 ∷ bytes) x
unfolding del_at
del_takes bytes x fits e =
    let a = bind_ok (number_at Short w64 bytes) (λ txn. number_at Short w32 txn.1 >>= λ key. Ok (Del txn.0 key.0, key.1)) x e in
    let b = bind_ok (number_at Short w32 a.0.1) (λ key. Ok (Del a.0.0 key.0, key.1)) x a.2 in
    let t0 = number_takes Short w64 bytes a.0 fits a.1 in
    let t1 = number_takes Short w32 a.0.1 b.0 t0.0.left b.1 in
    let e01 = Takes-then bytes (to_be_bytes w64 a.0.0) a.0.1 (to_be_bytes w32 b.0.0) b.0.1 t0.0 t1.0 in
    let made : Record × List ℕ = (Del a.0.0 b.0.0, b.0.1) in
    subst (Reads (2 ∷ bytes)) (ok_is made x b.2) (Takes-kind 2 bytes (to_be_bytes w64 a.0.0 ++ to_be_bytes w32 b.0.0) b.0.1 e01, (t0.1, t1.1))

-- the fields of a Commit or an Abort
record Ending (make : ℕ → List ℕ → Record) (bytes : List ℕ) (x : Record × List ℕ) : Type 0 where
  txn : ℕ
  pages : List ℕ
  is : make txn pages ≡ x.0
  takes : Takes bytes (to_be_bytes w64 txn ++ pages_spelling pages) x.1
  txn_fits : txn < 2 ^ 64
  pages_fit : ArePages pages

ending_takes : (make : ℕ → List ℕ → Record) (bytes : List ℕ) (x : Record × List ℕ) → AreBytes bytes → ending_at make bytes ≡ Ok x → Ending make bytes x
unfolding ending_at
ending_takes make bytes x fits e =
    let a = bind_ok (number_at Short w64 bytes) (λ txn. list_at txn.1 >>= λ pages. Ok (make txn.0 pages.0, pages.1)) x e in
    let b = bind_ok (list_at a.0.1) (λ pages. Ok (make a.0.0 pages.0, pages.1)) x a.2 in
    let t0 = number_takes Short w64 bytes a.0 fits a.1 in
    let t1 = list_takes a.0.1 b.0 t0.0.left b.1 in
    let e01 = Takes-then bytes (to_be_bytes w64 a.0.0) a.0.1 (pages_spelling b.0.0) b.0.1 t0.0 t1.0 in
    let made : Record × List ℕ = (make a.0.0 b.0.0, b.0.1) in
    subst (Ending make bytes) (ok_is made x b.2) (record { txn = a.0.0; pages = b.0.0; is = refl; takes = e01; txn_fits = t0.1; pages_fit = t1.1 })

commit_takes : (bytes : List ℕ) (x : Record × List ℕ) → AreBytes bytes → ending_at Commit bytes ≡ Ok x → Reads (3 ∷ bytes) x
commit_takes bytes x fits e =
    let t = ending_takes Commit bytes x fits e in
    subst (λ (r : Record). Reads (3 ∷ bytes) (r, x.1)) t.is (Takes-kind 3 bytes (to_be_bytes w64 t.txn ++ pages_spelling t.pages) x.1 t.takes, (t.txn_fits, t.pages_fit))

abort_takes : (bytes : List ℕ) (x : Record × List ℕ) → AreBytes bytes → ending_at Abort bytes ≡ Ok x → Reads (4 ∷ bytes) x
abort_takes bytes x fits e =
    let t = ending_takes Abort bytes x fits e in
    subst (λ (r : Record). Reads (4 ∷ bytes) (r, x.1)) t.is (Takes-kind 4 bytes (to_be_bytes w64 t.txn ++ pages_spelling t.pages) x.1 t.takes, (t.txn_fits, t.pages_fit))

trim_takes : (bytes : List ℕ) (x : Record × List ℕ) → AreBytes bytes → trim_at bytes ≡ Ok x → Reads (5 ∷ bytes) x
unfolding trim_at
trim_takes bytes x fits e =
    let a = bind_ok (number_at Short w16 bytes) (λ page. number_at Short w64 page.1 >>= λ horizon. cond (is_page page.0) (Ok (Trim page.0 horizon.0, horizon.1)) (Err BadPage)) x e in
    let b = bind_ok (number_at Short w64 a.0.1) (λ horizon. cond (is_page a.0.0) (Ok (Trim a.0.0 horizon.0, horizon.1)) (Err BadPage)) x a.2 in
    let g = when_ok (is_page a.0.0) BadPage (Ok (Trim a.0.0 b.0.0, b.0.1)) x b.2 in
    let t0 = number_takes Short w16 bytes a.0 fits a.1 in
    let t1 = number_takes Short w64 a.0.1 b.0 t0.0.left b.1 in
    let e01 = Takes-then bytes (to_be_bytes w16 a.0.0) a.0.1 (to_be_bytes w64 b.0.0) b.0.1 t0.0 t1.0 in
    let made : Record × List ℕ = (Trim a.0.0 b.0.0, b.0.1) in
    subst (Reads (5 ∷ bytes)) (ok_is made x g.1) (Takes-kind 5 bytes (to_be_bytes w16 a.0.0 ++ to_be_bytes w64 b.0.0) b.0.1 e01, (is_page-IsPage a.0.0 g.0, t1.1))

term_takes : (bytes : List ℕ) (x : Record × List ℕ) → AreBytes bytes → term_at bytes ≡ Ok x → Reads (6 ∷ bytes) x
unfolding term_at
term_takes bytes x fits e =
    let a = bind_ok (number_at Short w64 bytes) (λ term. Ok (Term term.0, term.1)) x e in
    let t0 = number_takes Short w64 bytes a.0 fits a.1 in
    let made : Record × List ℕ = (Term a.0.0, a.0.1) in
    subst (Reads (6 ∷ bytes)) (ok_is made x a.2) (Takes-kind 6 bytes (to_be_bytes w64 a.0.0) a.0.1 t0.0, t0.1)

-- a byte that is no kind
no_kind : {A : Type 0} (x : A) → Err BadKind ≡ Ok x → ⊥
no_kind x e = cc

fields_take : (kind : ℕ) (bytes : List ℕ) (x : Record × List ℕ) → AreBytes bytes → fields_at kind bytes ≡ Ok x → Reads (kind ∷ bytes) x
unfolding fields_at
fields_take kind bytes x fits e =
    let is = λ (n : ℕ) (h : eqb kind n ≡ true) (t : Reads (n ∷ bytes) x). subst (λ (k : ℕ). Reads (k ∷ bytes) x) (sym (eqb-true kind n h)) t in
    let e6 = cond (eqb kind 6) (term_at bytes) (Err BadKind) in
    let e5 = cond (eqb kind 5) (trim_at bytes) e6 in
    let e4 = cond (eqb kind 4) (ending_at Abort bytes) e5 in
    let e3 = cond (eqb kind 3) (ending_at Commit bytes) e4 in
    let e2 = cond (eqb kind 2) (del_at bytes) e3 in
    elim (chosen (eqb kind 1) (put_at bytes) e2 x e) [
      | inl p ↦ is 1 p.0 (put_takes bytes x fits p.1)
      | inr q ↦ elim (chosen (eqb kind 2) (del_at bytes) e3 x q) [
        | inl p ↦ is 2 p.0 (del_takes bytes x fits p.1)
        | inr q ↦ elim (chosen (eqb kind 3) (ending_at Commit bytes) e4 x q) [
          | inl p ↦ is 3 p.0 (commit_takes bytes x fits p.1)
          | inr q ↦ elim (chosen (eqb kind 4) (ending_at Abort bytes) e5 x q) [
            | inl p ↦ is 4 p.0 (abort_takes bytes x fits p.1)
            | inr q ↦ elim (chosen (eqb kind 5) (trim_at bytes) e6 x q) [
              | inl p ↦ is 5 p.0 (trim_takes bytes x fits p.1)
              | inr q ↦ elim (chosen (eqb kind 6) (term_at bytes) (Err BadKind) x q) [
                | inl p ↦ is 6 p.0 (term_takes bytes x fits p.1)
                | inr q ↦ absurd (no_kind x q)
              ]
            ]
          ]
        ]
      ]
    ]

-- what is read is spelled so
pub record_takes : (bytes : List ℕ) (x : Record × List ℕ) → AreBytes bytes → record_at bytes ≡ Ok x → Takes bytes (spelling x.0) x.1 × HasSpelling x.0
unfolding record_at
record_takes [] x fits e = absurd cc
record_takes (kind ∷ bytes) x fits e = fields_take kind bytes x (AreBytes-rest kind bytes fits) e

-- what is spelled so is read
pub record_again : (r : Record) (rest : List ℕ) → HasSpelling r → record_at (spelling r ++ rest) ≡ Ok (r, rest)
unfolding record_at fields_at put_at del_at ending_at trim_at term_at
record_again (Put txn key value) rest h =
    let regrouped : (to_be_bytes w64 txn ++ (to_be_bytes w32 key ++ value_spelling value)) ++ rest ≡ to_be_bytes w64 txn ++ (to_be_bytes w32 key ++ (value_spelling value ++ rest)) = append_assoc (to_be_bytes w64 txn) (to_be_bytes w32 key ++ value_spelling value) rest ∙ ap (λ (z : List ℕ). to_be_bytes w64 txn ++ z) (append_assoc (to_be_bytes w32 key) (value_spelling value) rest) in
    ap put_at regrouped ∙ (rw (number_again Short w64 txn (to_be_bytes w32 key ++ (value_spelling value ++ rest)) h.0, number_again Short w32 key (value_spelling value ++ rest) h.1, value_again value rest h.2) refl)
record_again (Del txn key) rest h =
    ap del_at (append_assoc (to_be_bytes w64 txn) (to_be_bytes w32 key) rest) ∙ (rw (number_again Short w64 txn (to_be_bytes w32 key ++ rest) h.0, number_again Short w32 key rest h.1) refl)
record_again (Commit txn pages) rest h =
    ap (ending_at Commit) (append_assoc (to_be_bytes w64 txn) (pages_spelling pages) rest) ∙ (rw (number_again Short w64 txn (pages_spelling pages ++ rest) h.0, list_again pages rest h.1) refl)
record_again (Abort txn pages) rest h =
    ap (ending_at Abort) (append_assoc (to_be_bytes w64 txn) (pages_spelling pages) rest) ∙ (rw (number_again Short w64 txn (pages_spelling pages ++ rest) h.0, list_again pages rest h.1) refl)
record_again (Trim page horizon) rest h =
    let fits : page < 2 ^ 16 = omega (arith, h.0) in
    ap trim_at (append_assoc (to_be_bytes w16 page) (to_be_bytes w64 horizon) rest) ∙ (rw (number_again Short w16 page (to_be_bytes w64 horizon ++ rest) fits, number_again Short w64 horizon rest h.1, IsPage-is_page page h.0) refl)
record_again (Term term) rest h = rw (number_again Short w64 term rest h) refl

-- a spelling has the size of its record
pub length-spelling : (r : Record) → HasSpelling r → length (spelling r) ≡ record_size r
length-spelling (Put txn key value) h = omega (arith, length-take value.len value.bytes, h.2.most, h.2.room)
length-spelling (Del txn key) h = refl
length-spelling (Commit txn pages) h = omega (arith, length-pages pages)
length-spelling (Abort txn pages) h = omega (arith, length-pages pages)
length-spelling (Trim page horizon) h = refl
length-spelling (Term term) h = refl

-- what is spelled so is read, with its length
pub reading_again : (r : Record) (rest : List ℕ) → HasSpelling r → reading (spelling r ++ rest) ≡ Ok (r, record_size r)
reading_again r rest h =
    let size : length (spelling r ++ rest) - length rest ≡ record_size r = omega (arith, length-append (spelling r) rest, length-spelling r h) in
    rw (record_again r rest h, size) refl

-- no spelling begins another one
pub spelling-once : (r s : Record) (x y : List ℕ) → HasSpelling r → HasSpelling s → spelling r ++ x ≡ spelling s ++ y → (r ≡ s) × (x ≡ y)
spelling-once r s x y h k e =
    let same : (r, x) ≡ (s, y) = ok_is (r, x) (s, y) (sym (record_again r x h) ∙ ap record_at e ∙ record_again s y k) in
    (ap (λ (p : Record × List ℕ). p.0) same, ap (λ (p : Record × List ℕ). p.1) same)

-- what is left is no longer than what there was
pub left_is_less : (bytes : List ℕ) (x : Record × List ℕ) → AreBytes bytes → record_at bytes ≡ Ok x → length x.1 ≤ length bytes
left_is_less bytes x fits e = let t = record_takes bytes x fits e in omega (arith, ap length t.0.parts, length-append (spelling x.0) x.1)

-- the record that was read, when reading gave it with its length
read_record : (bytes : List ℕ) (x : Record × ℕ) → AreBytes bytes → reading bytes ≡ Ok x → HasSpelling x.0 × (bytes ≡ spelling x.0 ++ drop x.1 bytes) × (x.1 ≡ record_size x.0)
read_record bytes x fits e =
    let a = bind_ok (record_at bytes) (λ y. Ok (y.0, length bytes - length y.1)) x e in
    let y = a.0 in
    let t = record_takes bytes y fits a.1 in
    let size : length bytes - length y.1 ≡ record_size y.0 = omega (arith, ap length t.0.parts, length-append (spelling y.0) y.1, length-spelling y.0 t.1) in
    let after : drop (record_size y.0) bytes ≡ y.1 = ap (drop (record_size y.0)) t.0.parts ∙ drop_at (spelling y.0) y.1 (record_size y.0) (length-spelling y.0 t.1) in
    let made : Record × ℕ = (y.0, length bytes - length y.1) in
    subst (λ (z : Record × ℕ). HasSpelling z.0 × (bytes ≡ spelling z.0 ++ drop z.1 bytes) × (z.1 ≡ record_size z.0)) (ok_is made x a.2)
    (t.1, rw (size, after) t.0.parts, size)

-- the same of an answer
pub read_is : (bytes : List ℕ) (r : Result (Record × ℕ) RecordFault) → AreBytes bytes → Answers r (reading bytes) → IfOk r (λ x. HasSpelling x.0 × (bytes ≡ spelling x.0 ++ drop x.1 bytes) × (x.1 ≡ record_size x.0))
read_is bytes (Ok x) fits e = read_record bytes x fits e
read_is bytes (Err f) fits e = tt
