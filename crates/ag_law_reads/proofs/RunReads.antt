-- Each row that a run's reads and views were answered is right.
use Rattle.std.proofs.Common.{◌≡◌, ℕ, ◌<◌, ◌≤◌, List, [], ◌∷◌, length, refl, sym, ap, ◌∙◌, subst, arith}
use Rattle.std.specs.Prelude.{◌==◌}
use Rattle.std.specs.List.{AllByRecursion}
use Rattle.ag_model.specs.declared.config.Config.{Config}
use Rattle.ag_model.specs.declared.record.Record.{Record}
use Rattle.ag_model.specs.declared.value.Row.{Row}
use Rattle.ag_model.specs.declared.value.Row.TheVariants.{Found, Absent}
use Rattle.ag_model.specs.declared.event.Suffix.{Suffix}
use Rattle.ag_model.specs.declared.event.Event.{Event}
use Rattle.ag_model.specs.declared.event.Event.TheVariants.{Read, View}
use Rattle.ag_model.specs.Rows.{rows, page_of}
use Rattle.ag_rules.specs.Replica.{Replica, Snapshot, records, end, front, is_reverting, page_value, term_of_disk}
use Rattle.ag_rules.specs.Group.{Group, replica}
use Rattle.ag_rules.specs.Plan.{Part, Check, at_once, unless, here}
use Rattle.ag_rules.specs.Cut.{cut}
use Rattle.ag_rules.specs.Next.{named, token, at_session, done}
use Rattle.ag_rules.specs.ReadEvent.{read_part, view_part, checks_of_read, checks_of_view, reads_at, row_answer, is_too_old, snapshots_of, snapshot_lsn}
use Rattle.ag_rules.specs.Run.{Moment, moment, run}
use Rattle.ag_rules.specs.Script.{IsEvent, IsScript}
use Rattle.ag_rules.specs.Seen.{SeenRow, row_by, row_seen_at, rows_seen}
use Rattle.ag_rules.specs.TermLog.{term_log}
use Rattle.ag_rules.specs.ReadsRight.{ReadsRight, IsRowOf}
use Rattle.ag_lists.proofs.Filters.{all_filter}
use Rattle.ag_lists.proofs.Each.{all_map}
use Rattle.ag_laws.specs.Prefix.{IsPrefixOf}
use Rattle.ag_laws.specs.Logs.{Setting, Logs}
use Rattle.ag_laws.specs.At.{At}
use Rattle.ag_laws.specs.Good.{Good}
use Rattle.ag_laws.proofs.Prefix.{prefix_length, rows_prefix}
use Rattle.ag_laws.proofs.Plans.{unless_has}
use Rattle.ag_laws.proofs.SessionKeeps.{access_answer, front_le}
use Rattle.ag_laws.proofs.Cuts.{cut_has}
use Rattle.ag_laws.proofs.Runs.{in_run}

-- a row that was read at this replica
record RowAt (r : Replica) (y : SeenRow) : Type 0 where
  term : y.term ≡ r.term
  right : IsRowOf (records r) y

row_at : (r : Replica) (lsn key : ℕ) (row : Row) → lsn ≤ end r → row ≡ rows (records r) lsn key → AllByRecursion (RowAt r) (row_by r.term key (row_answer lsn row))
row_at r lsn key (Found value) h e = (record { term = refl; right = record { within = h; row = e } }, tt)
row_at r lsn key Absent h e = (record { term = refl; right = record { within = h; row = e } }, tt)

reads_rows : (g : Group) (n lsn key : ℕ) → lsn ≤ end (replica g n) → AllByRecursion (RowAt (replica g n)) (row_by (replica g n).term key (reads_at (here g n) (replica g n) lsn key).answer)
reads_rows g n lsn key h =
    let r : Replica = replica g n in
    let checks : List Check = is_too_old lsn (page_value g.config.pages r (page_of g.config.pages key)).horizon ∷ [] in
    let answer : Part = at_once (row_answer lsn (rows (records r) lsn key)) r in
    access_answer (λ a. AllByRecursion (RowAt r) (row_by r.term key a)) r (page_of g.config.pages key) (unless checks r answer) (λ why. tt)
    (unless_has (λ part. AllByRecursion (RowAt r) (row_by r.term key part.answer)) checks r answer (λ why. tt) (λ _. row_at r lsn key (rows (records r) lsn key) h refl))

snapshot_le : (e : ℕ) (xs : List Snapshot) → AllByRecursion (λ x. x.lsn ≤ e) xs → snapshot_lsn xs ≤ e
snapshot_le e [] p = omega arith
snapshot_le e (x ∷ xs) p = p.0

-- what a read is answered
read_rows : (s : Setting) (logs : Logs) (g : Group) (n x key : ℕ) → Good s logs g → AllByRecursion (RowAt (replica g n)) (row_by (replica g n).term key (read_part (here g n) (replica g n) (token g x) key).answer)
unfolding read_part
read_rows s logs g n x key good =
    let r : Replica = replica g n in
    unless_has (λ part. AllByRecursion (RowAt r) (row_by r.term key part.answer)) (checks_of_read (here g n) r (token g x)) r _ (λ why. tt)
    (λ _. reads_rows g n (front r) key (front_le (is_reverting r.state) (end r) r.stripes (good.each n).stripes))

-- what a view is answered
view_rows : (s : Setting) (logs : Logs) (g : Group) (n x key : ℕ) → Good s logs g → AllByRecursion (RowAt (replica g n)) (row_by (replica g n).term key (view_part (here g n) (replica g n) (token g x) x key).answer)
unfolding view_part
view_rows s logs g n x key good =
    let r : Replica = replica g n in
    unless_has (λ part. AllByRecursion (RowAt r) (row_by r.term key part.answer)) (checks_of_view (here g n) r (token g x) (snapshots_of r x)) r _ (λ why. tt)
    (λ _. reads_rows g n (snapshot_lsn (snapshots_of r x)) key (snapshot_le (end r) (snapshots_of r x) (all_filter _ (λ y. y.session == x) r.following.snapshots (good.each n).snapshots)))

-- where it is cut short, no row is answered
session_rows : (g : Group) (n x key : ℕ) (part : Part) (suffix : Suffix) → AllByRecursion (RowAt (replica g n)) (row_by (replica g n).term key part.answer) → AllByRecursion (RowAt (replica g n)) (row_by (replica g n).term key (cut suffix (at_session g n x part)).answer)
session_rows g n x key part suffix p = cut_has (λ q. AllByRecursion (RowAt (replica g n)) (row_by (replica g n).term key q.answer)) suffix (at_session g n x part) (λ w mask. tt) (λ c. tt) p

-- a row of a log is a row of a log that goes on
row_longer : (a b : List Record) (y : SeenRow) → IsPrefixOf a b → IsRowOf a y → IsRowOf b y
row_longer a b y prefix p = record {
  within = omega (arith, p.within, prefix_length a b prefix);
  row = p.row ∙ ap (λ t. t y.key) (rows_prefix y.front a b p.within prefix);
}

-- a row that is right by these logs, in a term of them
record RowIn (logs : Logs) (now : ℕ) (y : SeenRow) : Type 0 where
  past : y.term ≤ now
  right : IsRowOf (logs y.term) y

-- a replica's log is a beginning of the log of its term
row_in : (s : Setting) (logs : Logs) (n : ℕ) (r : Replica) (y : SeenRow) → At s logs n r → RowAt r y → RowIn logs s.now y
row_in s logs n r y a p =
    let same : y.term ≡ term_of_disk r.kept = p.term ∙ a.term in
    record {
      past = omega (arith, same, a.kept.past);
      right = row_longer (records r) (logs y.term) y (subst (λ (t : ℕ). IsPrefixOf (records r) (logs t)) (sym same) a.kept.prefix) p.right;
    }

-- the row that a moment tells
abbrev row_of : Moment → List SeenRow
row_of m = row_seen_at m.before m.event m.answer

-- at each event, by the logs before it
rows_in : (s : Setting) (logs : Logs) (g : Group) (e : Event) → Good s logs g → IsEvent s.config e → AllByRecursion (RowIn logs s.now) (row_of (moment g e))
unfolding done
rows_in s logs g (Read w x key suffix) good is = all_map (RowAt (replica g (named g w))) (RowIn logs s.now) (λ y p. row_in s logs (named g w) (replica g (named g w)) y (good.each (named g w)) p) _ (session_rows g (named g w) x key (read_part (here g (named g w)) (replica g (named g w)) (token g x) key) suffix (read_rows s logs g (named g w) x key good))
rows_in s logs g (View w x key suffix) good is = all_map (RowAt (replica g (named g w))) (RowIn logs s.now) (λ y p. row_in s logs (named g w) (replica g (named g w)) y (good.each (named g w)) p) _ (session_rows g (named g w) x key (view_part (here g (named g w)) (replica g (named g w)) (token g x) x key) suffix (view_rows s logs g (named g w) x key good))
rows_in s logs g _ good is = tt

rows_more : (a b : Logs) (low high : ℕ) → ((t : ℕ) → t ≤ low → IsPrefixOf (a t) (b t)) → low ≤ high → (y : SeenRow) → RowIn a low y → RowIn b high y
rows_more a b low high more h y p = record { past = omega (arith, p.past); right = row_longer (a y.term) (b y.term) y (more y.term p.past) p.right }

-- in the whole run, by the logs of its terms
pub reads_are_right : (c : Config) (es : List Event) → 0 < length c.modes → IsScript c es → ReadsRight (run c es)
reads_are_right c es h is =
    let ms : List Moment = run c es in
    let r : (now : ℕ) × AllByRecursion (RowIn (term_log ms) now) (rows_seen ms) = in_run SeenRow row_of RowIn rows_more rows_in c es h is in
    all_map (RowIn (term_log ms) r.0) (λ y. IsRowOf (term_log ms y.term) y) (λ y p. p.right) (rows_seen ms) r.1
