-- The edit by a record that touches a page gives the value of the page after this record.
use Rattle.std.proofs.Common.{◌≡◌, ℕ, ◌+◌, ◌-◌, max, Bool, true, cond, List, [], ◌∷◌, ◌++◌, length, map, take, refl, sym, ap, subst, ◌∙◌, arith}
use Rattle.std.specs.List.{fold}
use Rattle.std.proofs.lemmas.Bool.{eq-eqb}
use Rattle.std.proofs.lemmas.List.{append-nil, length-take}
use Rattle.std.proofs.lemmas.List.Concat.{flat_map-append}
use Rattle.std.proofs.lemmas.List.Sums.{fold_push}
use Rattle.ag_lists.proofs.Each.{all_map}
use Rattle.ag_model.specs.declared.value.Change.{Change}
use Rattle.ag_model.specs.declared.value.Change.TheVariants.{Put as PutChange, Del as DelChange}
use Rattle.ag_model.specs.declared.value.Version.{Version}
use Rattle.ag_model.specs.declared.value.PageValue.{PageValue}
use Rattle.ag_model.specs.declared.record.Record.{Record}
use Rattle.ag_model.specs.declared.record.Record.TheVariants.{Commit, Abort, Trim}
use Rattle.ag_model.specs.Rows.{touches}
use Rattle.ag_model.specs.Page.{numbered, commit_of, horizon_by, horizons, last_touch, all_versions, untrimmed, value}
use Rattle.ag_model.specs.Txns.{txn_of}
use Rattle.ag_version.specs.Edits.{new_version, stamped, without_txn, after_change, after_commit, after_abort, after_trim, left_by_trim}
use Rattle.ag_version.specs.Steps.{record_of, IsDue}
use Rattle.ag_version.proofs.Endings.{IsOpen, commit_of-open, numbered_push}
use Rattle.ag_version.proofs.Versions.{IsCommitted, versions-committed, versions_neutral, versions_change, versions_commit, versions_abort}
use Rattle.ag_version.proofs.Untrimmed.{AreBelow, HaveOpen, untrimmed_push, untrimmed_stamped, untrimmed_without, untrimmed_trim}
use Rattle.ag_version.proofs.Prefixes.{take-at, length-before, open-before, horizons-below}

-- a page value, by its parts
abbrev pub parts : ℕ → ℕ → ℕ → List Version → PageValue
parts page lsn horizon versions = record { page = page; lsn = lsn; horizon = horizon; versions = versions }

-- the value of a page after all records of a log
abbrev pub value_at_end : ℕ → ℕ → List Record → PageValue
value_at_end pages page log = parts page (last_touch pages page (numbered log)) (fold max 0 (horizons page log)) (untrimmed (horizons page log) (all_versions pages page log))

pub value-is : (pages page n : ℕ) (log : List Record) → value pages log n page ≡ value_at_end pages page (take n log)
unfolding value
value-is pages page n log = refl

same-parts : (page l m h k : ℕ) (xs ys : List Version) → l ≡ m → h ≡ k → xs ≡ ys → parts page l h xs ≡ parts page m k ys
same-parts page l m h k xs ys a b c = ap (λ (z : ℕ). parts page z h xs) a ∙ ap (λ (z : ℕ). parts page m z xs) b ∙ ap (parts page m k) c

pub touch_push : (pages page : ℕ) (log : List Record) (r : Record) → last_touch pages page (numbered (log ++ r ∷ [])) ≡ cond (touches pages page r) (1 + length log) (last_touch pages page (numbered log))
touch_push pages page log r =
    ap (last_touch pages page) (numbered_push log r) ∙ fold_push (λ (last : ℕ) (x : ℕ × Record). cond (touches pages page x.1) x.0 last) 0 (numbered log) (1 + length log, r)

touched-last : (pages page : ℕ) (log : List Record) (r : Record) → touches pages page r ≡ true → last_touch pages page (numbered (log ++ r ∷ [])) ≡ 1 + length log
touched-last pages page log r e = touch_push pages page log r ∙ ap (λ (b : Bool). cond b (1 + length log) (last_touch pages page (numbered log))) e

pub horizons_push : (page : ℕ) (log : List Record) (r : Record) → horizons page (log ++ r ∷ []) ≡ horizons page log ++ horizon_by page r
horizons_push page log r = flat_map-append (horizon_by page) log (r ∷ []) ∙ ap (λ (z : List ℕ). horizons page log ++ z) (append-nil (horizon_by page r))

horizons-same : (page : ℕ) (log : List Record) (r : Record) → horizon_by page r ≡ [] → horizons page (log ++ r ∷ []) ≡ horizons page log
horizons-same page log r e = horizons_push page log r ∙ ap (λ (z : List ℕ). horizons page log ++ z) e ∙ append-nil (horizons page log)

pub have-open : (pages page t : ℕ) (log : List Record) → IsOpen t log → HaveOpen t (all_versions pages page log)
have-open pages page t log free =
    all_map (IsCommitted log) (λ v. v.txn ≡ t → v.commit ≡ 0) (λ v is own. is ∙ ap (λ (u : ℕ). commit_of u (numbered log)) own ∙ commit_of-open t log free) (all_versions pages page log) (versions-committed pages page log)

-- ---- one record more, at the end of a log

no_horizon : (change : Change) (page t key : ℕ) → horizon_by page (record_of t key change) ≡ []
no_horizon (PutChange value) page t key = refl
no_horizon DelChange page t key = refl

pub end_change : (change : Change) (pages page t key : ℕ) (log : List Record) → IsOpen t log → touches pages page (record_of t key change) ≡ true →
    after_change (1 + length log) t key change (value_at_end pages page log) ≡ value_at_end pages page (log ++ record_of t key change ∷ [])
end_change change pages page t key log free on =
    let r = record_of t key change in
    let hs : horizons page (log ++ r ∷ []) ≡ horizons page log = horizons-same page log r (no_horizon change page t key) in
    let vs : untrimmed (horizons page (log ++ r ∷ [])) (all_versions pages page (log ++ r ∷ [])) ≡ untrimmed (horizons page log) (all_versions pages page log) ++ new_version (1 + length log) t key change ∷ [] =
    ap (λ (z : List ℕ). untrimmed z (all_versions pages page (log ++ r ∷ []))) hs ∙ ap (untrimmed (horizons page log)) (versions_change change pages page log t key free on)
    ∙ untrimmed_push (horizons page log) (all_versions pages page log) (new_version (1 + length log) t key change) refl in
    same-parts page _ _ _ _ _ _ (sym (touched-last pages page log r on)) (ap (fold max 0) (sym hs)) (sym vs)

pub end_commit : (pages page t : ℕ) (listed : List ℕ) (log : List Record) → IsOpen t log → AreBelow (1 + length log) (horizons page log) → touches pages page (Commit t listed) ≡ true →
    after_commit (1 + length log) t (value_at_end pages page log) ≡ value_at_end pages page (log ++ Commit t listed ∷ [])
end_commit pages page t listed log free below on =
    let r = Commit t listed in
    let hs : horizons page (log ++ r ∷ []) ≡ horizons page log = horizons-same page log r refl in
    let vs : untrimmed (horizons page (log ++ r ∷ [])) (all_versions pages page (log ++ r ∷ [])) ≡ map (stamped (1 + length log) t) (untrimmed (horizons page log) (all_versions pages page log)) =
    ap (λ (z : List ℕ). untrimmed z (all_versions pages page (log ++ r ∷ []))) hs ∙ ap (untrimmed (horizons page log)) (versions_commit pages page log t listed free)
    ∙ untrimmed_stamped (1 + length log) t (horizons page log) (all_versions pages page log) (have-open pages page t log free) below in
    same-parts page _ _ _ _ _ _ (sym (touched-last pages page log r on)) (ap (fold max 0) (sym hs)) (sym vs)

pub end_abort : (pages page t : ℕ) (listed : List ℕ) (log : List Record) → IsOpen t log → touches pages page (Abort t listed) ≡ true →
    after_abort (1 + length log) t (value_at_end pages page log) ≡ value_at_end pages page (log ++ Abort t listed ∷ [])
end_abort pages page t listed log free on =
    let r = Abort t listed in
    let hs : horizons page (log ++ r ∷ []) ≡ horizons page log = horizons-same page log r refl in
    let vs : untrimmed (horizons page (log ++ r ∷ [])) (all_versions pages page (log ++ r ∷ [])) ≡ without_txn t (untrimmed (horizons page log) (all_versions pages page log)) =
    ap (λ (z : List ℕ). untrimmed z (all_versions pages page (log ++ r ∷ []))) hs ∙ ap (untrimmed (horizons page log)) (versions_abort pages page log t listed)
    ∙ untrimmed_without t (horizons page log) (all_versions pages page log) (have-open pages page t log free) in
    same-parts page _ _ _ _ _ _ (sym (touched-last pages page log r on)) (ap (fold max 0) (sym hs)) (sym vs)

pub end_trim : (pages page h : ℕ) (log : List Record) → after_trim (1 + length log) h (value_at_end pages page log) ≡ value_at_end pages page (log ++ Trim page h ∷ [])
end_trim pages page h log =
    let r = Trim page h in
    let on : touches pages page r ≡ true = eq-eqb page page refl in
    let hs : horizons page (log ++ r ∷ []) ≡ horizons page log ++ h ∷ [] = horizons_push page log r ∙ ap (λ (b : Bool). horizons page log ++ cond b (h ∷ []) []) on in
    let vs : untrimmed (horizons page (log ++ r ∷ [])) (all_versions pages page (log ++ r ∷ [])) ≡ left_by_trim h (untrimmed (horizons page log) (all_versions pages page log)) =
    ap (λ (z : List ℕ). untrimmed z (all_versions pages page (log ++ r ∷ []))) hs ∙ ap (untrimmed (horizons page log ++ h ∷ [])) (versions_neutral pages page log r (λ u n later. refl) (λ u. refl) refl)
    ∙ untrimmed_trim (horizons page log) h (all_versions pages page log) in
    same-parts page _ _ _ _ _ _ (sym (touched-last pages page log r on)) (sym (ap (fold max 0) hs ∙ fold_push max 0 (horizons page log) h)) (sym vs)

-- ---- a record within a log

-- an edit that is right at the end of a log is right within it
within : (edit : PageValue → PageValue) (pages n : ℕ) (log : List Record) (r : Record) (v : PageValue) → IsDue pages log n r v → edit (value_at_end pages v.page (take (n - 1) log)) ≡ value_at_end pages v.page (take (n - 1) log ++ r ∷ []) → edit v ≡ value pages log n v.page
within edit pages n log r v due e =
    ap edit (due.before ∙ value-is pages v.page (n - 1) log) ∙ e ∙ ap (value_at_end pages v.page) (sym (take-at log n r due.here)) ∙ sym (value-is pages v.page n log)

abbrev EditAt : ℕ → (ℕ → PageValue → PageValue) → ℕ → ℕ → List Record → Record → Type 0
EditAt n edit pages page log r = edit n (value_at_end pages page log) ≡ value_at_end pages page (log ++ r ∷ [])

at_lsn : (edit : ℕ → PageValue → PageValue) (pages n : ℕ) (log : List Record) (r : Record) (v : PageValue) → IsDue pages log n r v → EditAt (1 + length (take (n - 1) log)) edit pages v.page (take (n - 1) log) r → edit n v ≡ value pages log n v.page
at_lsn edit pages n log r v due e = within (edit n) pages n log r v due (subst (λ (k : ℕ). EditAt k edit pages v.page (take (n - 1) log) r) (length-before log n r due.here) e)

txn_of-change : (change : Change) (t key : ℕ) → txn_of (record_of t key change) ≡ t ∷ []
txn_of-change (PutChange value) t key = refl
txn_of-change DelChange t key = refl

pub redo_change : (change : Change) (pages n t key : ℕ) (log : List Record) (v : PageValue) → IsDue pages log n (record_of t key change) v → after_change n t key change v ≡ value pages log n v.page
redo_change change pages n t key log v due =
    at_lsn (λ k w. after_change k t key change w) pages n log (record_of t key change) v due
    (end_change change pages v.page t key (take (n - 1) log) (open-before pages log n (record_of t key change) t due.proper due.here (txn_of-change change t key)) due.touched)

below : (pages n : ℕ) (log : List Record) (r : Record) (v : PageValue) → IsDue pages log n r v → AreBelow (1 + length (take (n - 1) log)) (horizons v.page (take (n - 1) log))
below pages n log r v due =
    let is = length-before log n r due.here in
    subst (λ (k : ℕ). AreBelow k (horizons v.page (take (n - 1) log))) (sym is) (horizons-below pages v.page log n due.proper (omega (arith, length-take (n - 1) log)))

pub redo_commit : (pages n t : ℕ) (listed : List ℕ) (log : List Record) (v : PageValue) → IsDue pages log n (Commit t listed) v → after_commit n t v ≡ value pages log n v.page
redo_commit pages n t listed log v due =
    at_lsn (λ k w. after_commit k t w) pages n log (Commit t listed) v due
    (end_commit pages v.page t listed (take (n - 1) log) (open-before pages log n (Commit t listed) t due.proper due.here refl) (below pages n log (Commit t listed) v due) due.touched)

pub redo_abort : (pages n t : ℕ) (listed : List ℕ) (log : List Record) (v : PageValue) → IsDue pages log n (Abort t listed) v → after_abort n t v ≡ value pages log n v.page
redo_abort pages n t listed log v due =
    at_lsn (λ k w. after_abort k t w) pages n log (Abort t listed) v due
    (end_abort pages v.page t listed (take (n - 1) log) (open-before pages log n (Abort t listed) t due.proper due.here refl) due.touched)

pub redo_trim : (pages n h : ℕ) (log : List Record) (v : PageValue) → IsDue pages log n (Trim v.page h) v → after_trim n h v ≡ value pages log n v.page
redo_trim pages n h log v due = at_lsn (λ k w. after_trim k h w) pages n log (Trim v.page h) v due (end_trim pages v.page h (take (n - 1) log))
