-- The versions of a page in a log with one more record.
use Rattle.std.proofs.Common.{◌≡◌, ℕ, ◌+◌, Bool, true, false, not, ◌||◌, cond, eqb, List, [], ◌∷◌, ◌++◌, length, map, refl, sym, ap, ◌∙◌, arith}
use Rattle.std.specs.List.{AllByRecursion, flat_map, list_any}
use Rattle.std.proofs.lemmas.Bool.{eqb-true}
use Rattle.std.proofs.lemmas.Bool.Decides.{nat_tests}
use Rattle.std.proofs.lemmas.List.{append-nil}
use Rattle.std.proofs.lemmas.List.Concat.{flat_map-append}
use Rattle.std.proofs.Math.Bool.{or-false}
use Rattle.ag_lists.proofs.Each.{all_flat_map, all_always}
use Rattle.ag_model.specs.declared.value.Change.{Change}
use Rattle.ag_model.specs.declared.value.Change.TheVariants.{Put as PutChange, Del as DelChange}
use Rattle.ag_model.specs.declared.value.Version.{Version}
use Rattle.ag_model.specs.declared.record.Record.{Record}
use Rattle.ag_model.specs.declared.record.Record.TheVariants.{Put, Del, Commit, Abort, Trim, Term}
use Rattle.ag_model.specs.Rows.{page_of, touches}
use Rattle.ag_model.specs.Page.{numbered, commit_here, commit_of, is_abort_of, version_of, version_here, version_by, all_versions}
use Rattle.ag_version.specs.Edits.{new_version, stamped, without_txn}
use Rattle.ag_version.specs.Steps.{record_of}
use Rattle.ag_version.proofs.Lists.{flat_map-agree, flat_map-of_map, flat_map-of_filter}
use Rattle.ag_version.proofs.Endings.{IsOpen, commit_of-open, aborted-open, numbered_push, commit_of_push, commit_of_commit, aborted_push}

-- what a version of a transaction is, by the Aborts and the Commit of a log
abbrev made : Bool → ℕ → ℕ → ℕ → ℕ → Change → List Version
made aborted commit lsn txn key change = cond aborted [] (record { lsn = lsn; txn = txn; commit = commit; key = key; change = change } ∷ [])

-- a function that keeps each version list as `version_of` makes it keeps what each record makes
by_record : (f : List Version → List Version) → f [] ≡ [] → (log more : List Record) → ((lsn txn key : ℕ) (change : Change) → version_of more lsn txn key change ≡ f (version_of log lsn txn key change)) →
    (pages page : ℕ) (x : ℕ × Record) → version_by pages page more x ≡ f (version_by pages page log x)
by_record f none log more e pages page x = by_kind f none log more e pages page x.0 x.1
  where
    by_page : (f : List Version → List Version) → f [] ≡ [] → (b : Bool) (xs ys : List Version) → ys ≡ f xs → cond b ys [] ≡ f (cond b xs [])
    by_page f none true xs ys e = e
    by_page f none false xs ys e = sym none

    by_kind : (f : List Version → List Version) → f [] ≡ [] → (log more : List Record) → ((lsn txn key : ℕ) (change : Change) → version_of more lsn txn key change ≡ f (version_of log lsn txn key change)) →
        (pages page lsn : ℕ) (r : Record) → version_here pages page more lsn r ≡ f (version_here pages page log lsn r)
    by_kind f none log more e pages page lsn (Put txn key value) = by_page f none (eqb page (page_of pages key)) (version_of log lsn txn key (PutChange value)) (version_of more lsn txn key (PutChange value)) (e lsn txn key (PutChange value))
    by_kind f none log more e pages page lsn (Del txn key) = by_page f none (eqb page (page_of pages key)) (version_of log lsn txn key DelChange) (version_of more lsn txn key DelChange) (e lsn txn key DelChange)
    by_kind f none log more e pages page lsn (Commit txn listed) = sym none
    by_kind f none log more e pages page lsn (Abort txn listed) = sym none
    by_kind f none log more e pages page lsn (Trim trimmed horizon) = sym none
    by_kind f none log more e pages page lsn (Term term) = sym none

-- ---- a record that ends no transaction

version_of-kept : (log : List Record) (r : Record) → ((u n later : ℕ) → commit_here u r n later ≡ later) → ((u : ℕ) → is_abort_of u r ≡ false) → (lsn txn key : ℕ) (change : Change) → version_of (log ++ r ∷ []) lsn txn key change ≡ version_of log lsn txn key change
version_of-kept log r e a lsn txn key change =
    let gone : list_any (is_abort_of txn) (log ++ r ∷ []) ≡ list_any (is_abort_of txn) log = aborted_push txn log r ∙ ap (λ (b : Bool). list_any (is_abort_of txn) log || (b || false)) (a txn) ∙ or-false (list_any (is_abort_of txn) log) in
    ap (λ (b : Bool). made b (commit_of txn (numbered (log ++ r ∷ []))) lsn txn key change) gone ∙ ap (λ (c : ℕ). made (list_any (is_abort_of txn) log) c lsn txn key change) (commit_of_push txn log r (e txn))

-- the versions of a log with one more record are those that its records make, and those that this one makes
versions_push : (f : List Version → List Version) (pages page : ℕ) (log : List Record) (r : Record) → ((x : ℕ × Record) → version_by pages page (log ++ r ∷ []) x ≡ f (version_by pages page log x)) →
    all_versions pages page (log ++ r ∷ []) ≡ flat_map (λ x. f (version_by pages page log x)) (numbered log) ++ version_by pages page (log ++ r ∷ []) (1 + length log, r)
versions_push f pages page log r e =
    let g = version_by pages page (log ++ r ∷ []) in
    ap (flat_map g) (numbered_push log r) ∙ flat_map-append g (numbered log) ((1 + length log, r) ∷ []) ∙ ap (λ (z : List Version). flat_map g (numbered log) ++ z) (append-nil (g (1 + length log, r)))
    ∙ ap (λ (z : List Version). z ++ g (1 + length log, r)) (flat_map-agree g (λ x. f (version_by pages page log x)) e (numbered log))

-- what a record makes that is neither a Put nor a Del of the page
pub versions_neutral : (pages page : ℕ) (log : List Record) (r : Record) → ((u n later : ℕ) → commit_here u r n later ≡ later) → ((u : ℕ) → is_abort_of u r ≡ false) → version_here pages page (log ++ r ∷ []) (1 + length log) r ≡ [] → all_versions pages page (log ++ r ∷ []) ≡ all_versions pages page log
versions_neutral pages page log r e a none =
    versions_push (λ z. z) pages page log r (by_record (λ z. z) refl log (log ++ r ∷ []) (version_of-kept log r e a) pages page) ∙ ap (λ (z : List Version). all_versions pages page log ++ z) none ∙ append-nil (all_versions pages page log)

-- ---- a Put or a Del

pub here-change : (change : Change) (u n t key later : ℕ) → commit_here u (record_of t key change) n later ≡ later
here-change (PutChange value) u n t key later = refl
here-change DelChange u n t key later = refl

pub abort-change : (change : Change) (u t key : ℕ) → is_abort_of u (record_of t key change) ≡ false
abort-change (PutChange value) u t key = refl
abort-change DelChange u t key = refl

new-made : (change : Change) (pages page : ℕ) (log : List Record) (n t key : ℕ) → touches pages page (record_of t key change) ≡ true → version_here pages page log n (record_of t key change) ≡ version_of log n t key change
new-made (PutChange value) pages page log n t key e = rw e refl
new-made DelChange pages page log n t key e = rw e refl

-- it adds a version
pub versions_change : (change : Change) (pages page : ℕ) (log : List Record) (t key : ℕ) → IsOpen t log → touches pages page (record_of t key change) ≡ true →
    all_versions pages page (log ++ record_of t key change ∷ []) ≡ all_versions pages page log ++ new_version (1 + length log) t key change ∷ []
versions_change change pages page log t key free on =
    let r = record_of t key change in
    let kept = version_of-kept log r (λ u n later. here-change change u n t key later) (λ u. abort-change change u t key) in
    let one : version_by pages page (log ++ r ∷ []) (1 + length log, r) ≡ new_version (1 + length log) t key change ∷ [] =
    new-made change pages page (log ++ r ∷ []) (1 + length log) t key on ∙ kept (1 + length log) t key change
    ∙ ap (λ (b : Bool). made b (commit_of t (numbered log)) (1 + length log) t key change) (aborted-open t log free) ∙ ap (λ (c : ℕ). made false c (1 + length log) t key change) (commit_of-open t log free) in
    versions_push (λ z. z) pages page log r (by_record (λ z. z) refl log (log ++ r ∷ []) kept pages page) ∙ ap (λ (z : List Version). all_versions pages page log ++ z) one

-- ---- a Commit

eqb-sym : (a b : ℕ) → eqb a b ≡ eqb b a
eqb-sym a b = grind (arith, nat_tests)

stamp-made : (n t : ℕ) (b aborted : Bool) (c d lsn u key : ℕ) (change : Change) → eqb u t ≡ b → d ≡ cond b n c → made aborted d lsn u key change ≡ map (stamped n t) (made aborted c lsn u key change)
stamp-made n t true true c d lsn u key change e k = refl
stamp-made n t false true c d lsn u key change e k = refl
stamp-made n t true false c d lsn u key change e k = rw (e, k) refl
stamp-made n t false false c d lsn u key change e k = rw (e, k) refl

commit-after : (n t : ℕ) (log : List Record) (listed : List ℕ) → n ≡ 1 + length log → IsOpen t log → (u : ℕ) (b : Bool) → eqb u t ≡ b → commit_of u (numbered (log ++ Commit t listed ∷ [])) ≡ cond b n (commit_of u (numbered log))
commit-after n t log listed is free u true e = ap (λ (z : ℕ). commit_of z (numbered (log ++ Commit t listed ∷ []))) (eqb-true u t e) ∙ commit_of_commit t log listed free ∙ sym is
commit-after n t log listed is free u false e = commit_of_push u log (Commit t listed) (λ m later. ap (λ (b : Bool). cond b m later) e)

-- it stamps the versions of its transaction
pub versions_commit : (pages page : ℕ) (log : List Record) (t : ℕ) (listed : List ℕ) → IsOpen t log → all_versions pages page (log ++ Commit t listed ∷ []) ≡ map (stamped (1 + length log) t) (all_versions pages page log)
versions_commit pages page log t listed free =
    let n = 1 + length log in
    let r = Commit t listed in
    let each : (lsn u key : ℕ) (change : Change) → version_of (log ++ r ∷ []) lsn u key change ≡ map (stamped n t) (version_of log lsn u key change) = λ lsn u key change.
    ap (λ (b : Bool). made b (commit_of u (numbered (log ++ r ∷ []))) lsn u key change) (aborted_push u log r ∙ or-false (list_any (is_abort_of u) log))
    ∙ stamp-made n t (eqb u t) (list_any (is_abort_of u) log) (commit_of u (numbered log)) (commit_of u (numbered (log ++ r ∷ []))) lsn u key change refl (commit-after n t log listed refl free u (eqb u t) refl) in
    versions_push (map (stamped n t)) pages page log r (by_record (map (stamped n t)) refl log (log ++ r ∷ []) each pages page) ∙ append-nil (flat_map (λ x. map (stamped n t) (version_by pages page log x)) (numbered log)) ∙ flat_map-of_map (stamped n t) (version_by pages page log) (numbered log)

-- ---- an Abort

abort-made : (t : ℕ) (b aborted : Bool) (c d lsn u key : ℕ) (change : Change) → eqb u t ≡ b → d ≡ c → made (aborted || (b || false)) d lsn u key change ≡ without_txn t (made aborted c lsn u key change)
abort-made t true true c d lsn u key change e k = refl
abort-made t false true c d lsn u key change e k = refl
abort-made t true false c d lsn u key change e k = rw e refl
abort-made t false false c d lsn u key change e k = rw (e, k) refl

-- it takes the versions of its transaction off
pub versions_abort : (pages page : ℕ) (log : List Record) (t : ℕ) (listed : List ℕ) → all_versions pages page (log ++ Abort t listed ∷ []) ≡ without_txn t (all_versions pages page log)
versions_abort pages page log t listed =
    let r = Abort t listed in
    let each : (lsn u key : ℕ) (change : Change) → version_of (log ++ r ∷ []) lsn u key change ≡ without_txn t (version_of log lsn u key change) = λ lsn u key change.
    ap (λ (b : Bool). made b (commit_of u (numbered (log ++ r ∷ []))) lsn u key change) (aborted_push u log r)
    ∙ abort-made t (eqb u t) (list_any (is_abort_of u) log) (commit_of u (numbered log)) (commit_of u (numbered (log ++ r ∷ []))) lsn u key change refl (commit_of_push u log r (λ m later. refl)) in
    versions_push (without_txn t) pages page log r (by_record (without_txn t) refl log (log ++ r ∷ []) each pages page) ∙ append-nil (flat_map (λ x. without_txn t (version_by pages page log x)) (numbered log)) ∙ flat_map-of_filter (λ w. not (eqb w.txn t)) (version_by pages page log) (numbered log)

-- ---- the commits of versions

-- a version is committed as its transaction is
abbrev pub IsCommitted : List Record → Version → Type 0
IsCommitted log v = v.commit ≡ commit_of v.txn (numbered log)

made-committed : (log : List Record) (aborted : Bool) (lsn txn key : ℕ) (change : Change) → AllByRecursion (IsCommitted log) (made aborted (commit_of txn (numbered log)) lsn txn key change)
made-committed log true lsn txn key change = tt
made-committed log false lsn txn key change = (refl, tt)

pub versions-committed : (pages page : ℕ) (log : List Record) → AllByRecursion (IsCommitted log) (all_versions pages page log)
versions-committed pages page log = all_flat_map (IsCommitted log) (version_by pages page log) (numbered log) (all_always (λ x. AllByRecursion (IsCommitted log) (version_by pages page log x)) (λ x. by_kind log pages page x.0 x.1) (numbered log))
  where
    by_page : (log : List Record) (b : Bool) (xs : List Version) → AllByRecursion (IsCommitted log) xs → AllByRecursion (IsCommitted log) (cond b xs [])
    by_page log true xs h = h
    by_page log false xs h = tt

    by_kind : (log : List Record) (pages page lsn : ℕ) (r : Record) → AllByRecursion (IsCommitted log) (version_here pages page log lsn r)
    by_kind log pages page lsn (Put txn key value) = by_page log (eqb page (page_of pages key)) (version_of log lsn txn key (PutChange value)) (made-committed log (list_any (is_abort_of txn) log) lsn txn key (PutChange value))
    by_kind log pages page lsn (Del txn key) = by_page log (eqb page (page_of pages key)) (version_of log lsn txn key DelChange) (made-committed log (list_any (is_abort_of txn) log) lsn txn key DelChange)
    by_kind log pages page lsn (Commit txn listed) = tt
    by_kind log pages page lsn (Abort txn listed) = tt
    by_kind log pages page lsn (Trim trimmed horizon) = tt
    by_kind log pages page lsn (Term term) = tt
