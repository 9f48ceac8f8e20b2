-- Each event keeps the marks of the log that it changes.
use Rattle.std.specs.Prelude.{if◌then◌else◌}
use Rattle.std.proofs.Common.{◌≡◌, ℕ, zero, suc, ◌+◌, ◌-◌, ◌<◌, ◌≤◌, List, [], ◌∷◌, ◌++◌, length, take, map, true, false, inl, inr, refl, sym, ap, ◌∙◌, subst, arith, length-append}
use Rattle.std.specs.Prelude.{◌==◌, ◌||◌, ◌⊎◌, nat_lt, Some}
use Rattle.std.specs.List.{AllByRecursion, last_or}
use Rattle.std.proofs.lemmas.Bool.{false≢true, eqb-true, eqb-false, ltb-false}
use Rattle.ag_model.specs.declared.record.Record.{Record}
use Rattle.ag_model.specs.declared.record.Record.TheVariants.{Term}
use Rattle.ag_model.specs.declared.record.Log.{Log}
use Rattle.ag_model.specs.Blocks.{with_block, cut_at}
use Rattle.ag_model.specs.Rows.{contains}
use Rattle.ag_model.specs.Starts.{last_term}
use Rattle.ag_model.specs.Txns.{open_in}
use Rattle.ag_rules.specs.Replica.{Replica, Kept, records, end, term_of_disk}
use Rattle.ag_rules.specs.Group.{Group, replica}
use Rattle.ag_rules.specs.Promotion.{promotion_records, abort_of}
use Rattle.ag_model.specs.Proper.{RisesFrom}
use Rattle.ag_model.specs.Sizes.{block_sectors, blocks_sectors, log_sectors}
use Rattle.std.proofs.lemmas.List.Sums.{sum_by-append}
use Rattle.ag_lists.proofs.Tests.{by_bool}
use Rattle.ag_lists.proofs.Each.{all_take, all_left}
use Rattle.ag_lists.proofs.Places.{take_past}
use Rattle.ag_laws.specs.Ends.{EndsIn}
use Rattle.ag_laws.specs.Prefix.{IsPrefixOf}
use Rattle.ag_laws.specs.Logs.{Setting, Logs}
use Rattle.ag_laws.specs.Disk.{IsOwn}
use Rattle.ag_laws.specs.At.{At, NoTerm}
use Rattle.ag_laws.specs.Good.{Good}
use Rattle.ag_laws.specs.Keeps.{Keeps}
use Rattle.ag_laws.proofs.Prefix.{prefix_length}
use Rattle.ag_laws.proofs.Parts.{part_after}
use Rattle.ag_laws.proofs.Blocks.{flat}
use Rattle.ag_laws.proofs.Grow.{last_quiet, last_begun, records_traced}
use Rattle.ag_law_proper.specs.Growth.{LogGoes, Stands, Cuts, Hardens, Promotes, Comes, with_blocks, LogFits}
use Rattle.ag_law_proper.proofs.Lifts.{GroupGoes}
use Rattle.ag_law_proper.proofs.TakesGoes.{records_of_blocks}
use Rattle.ag_law_proper.proofs.Runs.{promoted_front}
use Rattle.ag_laws.proofs.Promoted.{aborts_quiet}
use Rattle.ag_law_proper.proofs.Numbers.{apart}
use Rattle.ag_law_blocks.specs.Marks.{Marks, mark_at, Begins, Marked, MessageMarked}
use Rattle.ag_law_blocks.proofs.Ends.{Extends, extends_one, extends_all, blocks_some, promotion_small, contains_push, none_past}
use Rattle.std.proofs.Math.Bool.{or-false}
use Rattle.ag_law_blocks.proofs.Sectors.{IsWhole, block_more, blocks_cons, whole_more, cut_less}
use Rattle.ag_laws.proofs.Ends.{ends_le}
use Rattle.ag_law_blocks.proofs.Grown.{Between, grown_marks, mark_new, between, traced_within, same_mark, mark_longer, still_marked, cut_marked, grown_marked}

-- records that a primary appends: their last term is this one, and a term starts at the first of them alone
record Appended (term : ℕ) (base tail : List Record) : Type 0 where
  last : (k : ℕ) → 0 < k → k ≤ length tail → last_term (base ++ take k tail) ≡ term
  first : (first : List Record) (u : ℕ) (back : List Record) → tail ≡ first ++ Term u ∷ back → first ≡ []

no_term_at : (tail first : List Record) (u : ℕ) (back : List Record) → NoTerm tail → tail ≡ first ++ Term u ∷ back → ⊥
no_term_at tail first u back none e = false≢true (sym (at first (subst (λ (l : List Record). NoTerm l) e none)))
  where
    at : (first : List Record) → NoTerm (first ++ Term u ∷ back) → true ≡ false
    at [] p = p.0
    at (x ∷ first) p = at first p.1

quiet_appended : (term : ℕ) (base tail : List Record) → last_term base ≡ term → NoTerm tail → Appended term base tail
quiet_appended term base tail e none = record { last = λ k h w. last_quiet base (take k tail) (all_take _ k tail none) ∙ e; first = λ first u back p. absurd (no_term_at tail first u back none p) }

begun_appended : (term : ℕ) (base tail : List Record) → NoTerm tail → Appended term base (Term term ∷ tail)
begun_appended term base tail none = record { last = last; first = first }
  where
    last : (k : ℕ) → 0 < k → k ≤ length (Term term ∷ tail) → last_term (base ++ take k (Term term ∷ tail)) ≡ term
    last zero h w = absurd (omega arith)
    last (suc k) h w = last_begun base (take k tail) term (all_take _ k tail none)

    first : (first : List Record) (u : ℕ) (back : List Record) → Term term ∷ tail ≡ first ++ Term u ∷ back → first ≡ []
    first [] u back p = refl
    first (x ∷ xs) u back p = let rest : tail ≡ xs ++ Term u ∷ back = cc in absurd (no_term_at tail xs u back none rest)

-- a beginning of the records of a promotion
front_appended : (pages term : ℕ) (log tail rest : List Record) → last_term log ≤ term → tail ++ rest ≡ promotion_records pages term log → Appended term log tail
unfolding promotion_records
front_appended pages term log tail rest low is =
    let aborts : List Record = map (abort_of pages log) (open_in log) in
    by_bool (nat_lt (last_term log) term) (λ v. nat_lt (last_term log) term ≡ v → tail ++ rest ≡ (if v then Term term ∷ [] else []) ++ aborts → Appended term log tail)
    (λ _ _ q. by_first tail aborts (aborts_quiet pages log (open_in log)) q)
    (λ _ e q. quiet_appended term log tail (omega (arith, low, ltb-false (last_term log) term e)) (all_left _ tail rest (subst (λ (l : List Record). NoTerm l) (sym q) (aborts_quiet pages log (open_in log)))))
    refl is
  where
    by_first : (tail aborts : List Record) → NoTerm aborts → tail ++ rest ≡ Term term ∷ aborts → Appended term log tail
    by_first [] aborts none q = record { last = λ k h w. absurd (omega (arith, h, w)); first = λ first u back p. absurd (no_term_at [] first u back tt p) }
    by_first (x ∷ tail) aborts none q =
        let same : Term term ≡ x = cc in
        let others : tail ++ rest ≡ aborts = cc in
        subst (λ (y : Record). Appended term log (y ∷ tail)) same (begun_appended term log tail (all_left _ tail rest (subst (λ (l : List Record). NoTerm l) (sym others) none)))

-- what is known around one event
pub record Around (marks : Marks) (s : Setting) (logs : Logs) (g after : Group) : Type 0 where
  pub good : Good s logs g
  pub keeps : Keeps s logs g after
  pub goes : GroupGoes logs (MessageMarked marks logs) g after
  pub marked : (n : ℕ) → Marked marks (replica g n).kept.log
  pub pages : g.config.pages ≤ 2048

-- the marks after the event
abbrev pub marks_after : (marks : Marks) (s : Setting) (logs : Logs) (g after : Group) → Around marks s logs g after → Marks
marks_after marks s logs g after a = grown_marks marks logs a.keeps.setting.leader after

pub between_of : (marks : Marks) (s : Setting) (logs : Logs) (g after : Group) (a : Around marks s logs g after) → Between marks logs (marks_after marks s logs g after a) a.keeps.grown
between_of marks s logs g after a = between marks logs a.keeps.grown a.keeps.setting.leader after a.keeps.later.longer a.good.are.traced

-- a log of a term that goes past what it was is that of the writer
leader_wrote : (marks : Marks) (s : Setting) (logs : Logs) (g after : Group) (a : Around marks s logs g after) (u n : ℕ) → length (logs u) < n → n ≤ length (a.keeps.grown u) → a.keeps.setting.leader u ≡ a.goes.writer
leader_wrote marks s logs g after a u n low high =
    let m : ℕ = a.keeps.setting.leader u in
    by_bool ((replica after m).term == u) (λ v. ((replica after m).term == u) ≡ v → m ≡ a.goes.writer)
    (λ _ y. by_bool (m == a.goes.writer) (λ v. (m == a.goes.writer) ≡ v → m ≡ a.goes.writer)
    (λ _ e. eqb-true m a.goes.writer e)
    (λ _ e.
    let after_at : At a.keeps.setting a.keeps.grown m (replica after m) = a.keeps.good.each m in
    let before_at : At s logs m (replica g m) = a.good.each m in
    let same : (replica after m).kept ≡ (replica g m).kept = a.goes.others m (eqb-false m a.goes.writer e) in
    let disk : term_of_disk (replica after m).kept ≡ u = sym after_at.term ∙ eqb-true (replica after m).term u y in
    let whole : (replica after m).kept.log.records ≡ a.keeps.grown u = (after_at.kept.own (ap a.keeps.setting.leader disk)).whole ∙ ap a.keeps.grown disk in
    let old : IsPrefixOf (records (replica g m)) (logs u) = subst (λ (t : ℕ). IsPrefixOf (records (replica g m)) (logs t)) (ap term_of_disk (sym same) ∙ disk) before_at.kept.prefix in
    absurd (omega (arith, low, high, ap length whole, ap (λ (k : Kept). length k.log.records) same, prefix_length (records (replica g m)) (logs u) old)))
    refl)
    (λ _ f. absurd (omega (arith, low, high, ap length (a.keeps.later.others u (eqb-false (replica after m).term u f)))))
    refl

-- the marks past the old log, where the writer appended records of this term
own_marks : (marks : Marks) (s : Setting) (logs : Logs) (g after : Group) (a : Around marks s logs g after) (term : ℕ) (base tail : List Record) → base ≡ records (replica g a.goes.writer) → records (replica after a.goes.writer) ≡ base ++ tail → length (logs term) ≤ length base → Appended term base tail
    → (n : ℕ) → length base < n → n ≤ length (records (replica after a.goes.writer)) → mark_at (marks_after marks s logs g after a) (records (replica after a.goes.writer)) n ≡ contains n (0 ∷ (replica after a.goes.writer).kept.log.ends)
own_marks marks s logs g after a term base tail old is short app n low high =
    let w : ℕ = a.goes.writer in
    let more : List Record = records (replica after w) in
    let size : length more ≡ length base + length tail = ap length is ∙ length-append base tail in
    let last : last_term (take n more) ≡ term = ap (λ l. last_term (take n l)) is ∙ ap (λ l. last_term l) (take_past n base tail (omega (arith, low))) ∙ app.last (n - length base) (omega (arith, low)) (omega (arith, high, size)) in
    let within : n ≤ length (a.keeps.grown term) = subst (λ (t : ℕ). n ≤ length (a.keeps.grown t)) last (traced_within a.keeps.grown more n (records_traced a.keeps.setting a.keeps.grown after w a.keeps.good) high) in
    let past : length (logs term) < n = omega (arith, short, low) in
    ap (λ t. marks_after marks s logs g after a t n) last ∙ mark_new marks logs a.keeps.setting.leader after term n past
    ∙ ap (λ (m : ℕ). contains n (0 ∷ (replica after m).kept.log.ends)) (leader_wrote marks s logs g after a term n past within)

-- the log of the writer after the event
pub writer_marked : (marks : Marks) (s : Setting) (logs : Logs) (g after : Group) (a : Around marks s logs g after) → Marked (marks_after marks s logs g after a) (replica after a.goes.writer).kept.log
writer_marked marks s logs g after a = by_case a.goes.log
  where
    by_case : LogGoes logs (MessageMarked marks logs) g.config.pages (replica g a.goes.writer) (replica after a.goes.writer).kept.log → Marked (marks_after marks s logs g after a) (replica after a.goes.writer).kept.log
    by_case (Stands e) = subst (Marked (marks_after marks s logs g after a)) (sym e) (still_marked marks logs (marks_after marks s logs g after a) a.keeps.grown (replica g a.goes.writer).kept.log (between_of marks s logs g after a) (records_traced s logs g a.goes.writer a.good) (a.marked a.goes.writer))
    by_case (Cuts term fork its_end ticket told answered e) =
        subst (Marked (marks_after marks s logs g after a)) (sym e)
        (cut_marked marks logs (marks_after marks s logs g after a) a.keeps.grown (replica g a.goes.writer).kept.log term fork (between_of marks s logs g after a) (records_traced s logs g a.goes.writer a.good) answered.within answered.prefix told (a.marked a.goes.writer))
    by_case (Hardens leads some fits e) =
        let r : Replica = replica g a.goes.writer in
        let at : At s logs a.goes.writer r = a.good.each a.goes.writer in
        let m : Marked marks r.kept.log = a.marked a.goes.writer in
        let own : IsOwn (logs (term_of_disk r.kept)) (term_of_disk r.kept) r.kept = at.kept.own (ap s.leader (sym at.term) ∙ (at.leads leads).leader) in
        let x : Extends r.kept.log (replica after a.goes.writer).kept.log = subst (Extends r.kept.log) (sym e) (extends_one r.kept.log r.leading.buffer m.rises at.kept.ends some) in
        let is : records (replica after a.goes.writer) ≡ records r ++ r.leading.buffer = ap (λ (l : Log). l.records) e in
        let app : Appended r.term (records r) r.leading.buffer = quiet_appended r.term (records r) r.leading.buffer (own.begun ∙ sym at.term) (at.leads leads).buffer in
        let short : length (logs r.term) ≤ length (records r) = omega (arith, ap length own.whole, ap (λ (t : ℕ). length (logs t)) at.term) in
        grown_marked marks logs (marks_after marks s logs g after a) a.keeps.grown r.kept.log (replica after a.goes.writer).kept.log r.leading.buffer (between_of marks s logs g after a) (records_traced s logs g a.goes.writer a.good) m x is
        (own_marks marks s logs g after a r.term (records r) r.leading.buffer refl is short app) app.first
    by_case (Promotes term some rest low whole fits is_blocks e) =
        let r : Replica = replica g a.goes.writer in
        let at : At s logs a.goes.writer r = a.good.each a.goes.writer in
        let m : Marked marks r.kept.log = a.marked a.goes.writer in
        let full : AllByRecursion (λ (b : List Record). 0 < length b) (some ++ rest) = subst (AllByRecursion (λ (b : List Record). 0 < length b)) (sym is_blocks) (blocks_some (promotion_records g.config.pages term (records r)) (promotion_small g.config.pages term (records r) a.pages)) in
        let x : Extends r.kept.log (replica after a.goes.writer).kept.log = subst (Extends r.kept.log) (sym e) (extends_all r.kept.log some m.rises at.kept.ends m.whole (all_front some rest full)) in
        let is : records (replica after a.goes.writer) ≡ records r ++ flat some = ap (λ (l : Log). l.records) e ∙ records_of_blocks r.kept.log some in
        let app : Appended term (records r) (flat some) = front_appended g.config.pages term (records r) (flat some) (flat rest) low (promoted_front g.config.pages term (records r) some rest is_blocks) in
        grown_marked marks logs (marks_after marks s logs g after a) a.keeps.grown r.kept.log (replica after a.goes.writer).kept.log (flat some) (between_of marks s logs g after a) (records_traced s logs g a.goes.writer a.good) m x is
        (own_marks marks s logs g after a term (records r) (flat some) refl is (shorter whole) app) app.first
      where
        all_front : (xs ys : List (List Record)) → AllByRecursion (λ (b : List Record). 0 < length b) (xs ++ ys) → AllByRecursion (λ (b : List Record). 0 < length b) xs
        all_front [] ys p = tt
        all_front (b ∷ xs) ys p = (p.0, all_front xs ys p.1)

        shorter : (logs term ≡ []) ⊎ (logs term ≡ records (replica g a.goes.writer)) → length (logs term) ≤ length (records (replica g a.goes.writer))
        shorter (inl q) = omega (arith, ap length q)
        shorter (inr q) = omega (arith, ap length q)
    by_case (Comes term b told follows same part first fits e) =
        let r : Replica = replica g a.goes.writer in
        let at : At s logs a.goes.writer r = a.good.each a.goes.writer in
        let m : Marked marks r.kept.log = a.marked a.goes.writer in
        let x : Extends r.kept.log (replica after a.goes.writer).kept.log = subst (Extends r.kept.log) (sym e) (extends_one r.kept.log b.records m.rises at.kept.ends told.some) in
        let is : records (replica after a.goes.writer) ≡ records r ++ b.records = ap (λ (l : Log). l.records) e in
        let prefix : IsPrefixOf (records (replica after a.goes.writer)) (logs term) = subst (λ (l : List Record). IsPrefixOf l (logs term)) (sym is) (part_after (records r) (logs term) b (subst (λ (t : ℕ). IsPrefixOf (records r) (logs t)) (sym (same ∙ at.term)) at.kept.prefix) part first) in
        let size : length (records (replica after a.goes.writer)) ≡ end r + length b.records = ap length is ∙ length-append (records r) b.records in
        let start : b.first - 1 ≡ end r = omega (arith, first) in
        grown_marked marks logs (marks_after marks s logs g after a) a.keeps.grown r.kept.log (replica after a.goes.writer).kept.log b.records (between_of marks s logs g after a) (records_traced s logs g a.goes.writer a.good) m x is
        (λ n low high.
        let there : n ≤ length (logs term) = omega (arith, high, prefix_length (records (replica after a.goes.writer)) (logs term) prefix) in
        sym (mark_longer (marks_after marks s logs g after a) (records (replica after a.goes.writer)) (logs term) n prefix high)
        ∙ same_mark marks logs (marks_after marks s logs g after a) a.keeps.grown (logs term) n (between_of marks s logs g after a) (a.good.are.traced term) there
        ∙ told.ends n (omega (arith, start, low)) (omega (arith, start, high, size))
        ∙ ap (λ (k : ℕ). (n == k) || (n == k + length b.records)) start
        ∙ ap (λ t. t || (n == end r + length b.records)) (apart n (end r) (λ q. omega (arith, low, q)))
        ∙ sym (ap (λ (l : Log). contains n (0 ∷ l.ends)) e ∙ contains_push n (end r + length b.records) r.kept.log.ends
        ∙ ap (λ t. (t || contains n r.kept.log.ends) || (n == end r + length b.records)) (apart n 0 (λ q. omega (arith, low, q)))
        ∙ ap (λ t. t || (n == end r + length b.records)) (none_past n 0 (end r) r.kept.log.ends at.kept.ends low)))
        (λ front u back p. told.terms front u back p)

-- each log after the event
pub all_marked : (marks : Marks) (s : Setting) (logs : Logs) (g after : Group) (a : Around marks s logs g after) (n : ℕ) → Marked (marks_after marks s logs g after a) (replica after n).kept.log
all_marked marks s logs g after a n =
    by_bool (n == a.goes.writer) (λ v. (n == a.goes.writer) ≡ v → Marked (marks_after marks s logs g after a) (replica after n).kept.log)
    (λ _ y. let same : a.goes.writer ≡ n = sym (eqb-true n a.goes.writer y) in subst (λ (i : ℕ). Marked (marks_after marks s logs g after a) (replica after i).kept.log) same (writer_marked marks s logs g after a))
    (λ _ f. subst (λ (k : Kept). Marked (marks_after marks s logs g after a) k.log) (sym (a.goes.others n (eqb-false n a.goes.writer f))) (still_marked marks logs (marks_after marks s logs g after a) a.keeps.grown (replica g n).kept.log (between_of marks s logs g after a) (records_traced s logs g n a.good) (a.marked n)))
    refl

-- the first term stays
begins_more : (a b : List Record) → Begins a → Begins (a ++ b)
begins_more a b p = (p.0 ++ b, ap (λ l. l ++ b) p.1)

begins_cut : (fork : ℕ) (log : List Record) → 0 < fork → Begins log → Begins (take fork log)
begins_cut zero log h p = absurd (omega arith)
begins_cut (suc fork) log h p = (take fork p.0, ap (take (suc fork)) p.1)

log_begins : (marks : Marks) (logs : Logs) (pages : ℕ) (r : Replica) (l : Log) → Begins (records r) → LogGoes logs (MessageMarked marks logs) pages r l → Begins l.records
log_begins marks logs pages r l p (Stands e) = subst (λ (x : Log). Begins x.records) (sym e) p
log_begins marks logs pages r l p (Cuts term fork its_end ticket told answered e) = subst (λ (x : Log). Begins x.records) (sym e) (begins_cut fork (records r) told.some p)
log_begins marks logs pages r l p (Hardens leads some fits e) = subst (λ (x : Log). Begins x.records) (sym e) (begins_more (records r) r.leading.buffer p)
log_begins marks logs pages r l p (Promotes term some rest low whole fits is e) = subst (λ (x : Log). Begins x.records) (sym e) (subst Begins (sym (records_of_blocks r.kept.log some)) (begins_more (records r) (flat some) p))
log_begins marks logs pages r l p (Comes term b told follows same part first fits e) = subst (λ (x : Log). Begins x.records) (sym e) (begins_more (records r) b.records p)

pub all_begin : (marks : Marks) (s : Setting) (logs : Logs) (g after : Group) (a : Around marks s logs g after) → ((n : ℕ) → n < length g.replicas → Begins (records (replica g n))) → (n : ℕ) → n < length after.replicas → Begins (records (replica after n))
all_begin marks s logs g after a old n h =
    let there : n < length g.replicas = omega (arith, h, a.goes.count) in
    by_bool (n == a.goes.writer) (λ v. (n == a.goes.writer) ≡ v → Begins (records (replica after n)))
    (λ _ y. let same : n ≡ a.goes.writer = eqb-true n a.goes.writer y in
    subst (λ (i : ℕ). Begins (records (replica after i))) (sym same) (log_begins marks logs g.config.pages (replica g a.goes.writer) (replica after a.goes.writer).kept.log (old a.goes.writer (omega (arith, there, same))) a.goes.log))
    (λ _ f. subst (λ (k : Kept). Begins k.log.records) (sym (a.goes.others n (eqb-false n a.goes.writer f))) (old n there))
    refl

-- the last of the ends
last_is : (low len : ℕ) (xs : List ℕ) → RisesFrom low xs → EndsIn low xs len → contains len (low ∷ xs) ≡ true → last_or (Some low) xs ≡ Some len
last_is low len [] r e c = let same : len ≡ low = eqb-true len low (sym (or-false (len == low)) ∙ c) in ap Some (sym same)
last_is low len (x ∷ xs) r e c = last_is x len xs r.1 e.1 (sym (ap (λ b. b || contains len (x ∷ xs)) (apart len low (λ q. let h : x ≤ len = ends_le x len xs e.1 in omega (arith, q, h, r.0)))) ∙ c)

-- a log in whole blocks
pub whole_of : (marks : Marks) (l : Log) → EndsIn 0 l.ends (length l.records) → Marked marks l → IsWhole 0 l.ends l.records
whole_of marks l ends m =
    let same : length l.records ≡ 0 + length l.records = omega arith in
    (subst (λ (n : ℕ). EndsIn 0 l.ends n) same ends, last_is 0 (length l.records) l.ends m.rises ends m.whole ∙ ap Some same)

blocks_more : (l : Log) (bs : List (List Record)) → IsWhole 0 l.ends l.records → log_sectors l + blocks_sectors bs ≤ 262144 → log_sectors (with_blocks l bs) ≤ 262144
blocks_more l [] w h = omega (arith, h)
blocks_more l (b ∷ bs) w h =
    let e : blocks_sectors (b ∷ bs) ≡ block_sectors b + blocks_sectors bs = blocks_cons b bs in
    blocks_more (with_block l b) bs (whole_more l b w) (omega (arith, h, e, block_more l b w))

-- the room of the log after the event
pub log_fits : (marks : Marks) (s : Setting) (logs : Logs) (g after : Group) (a : Around marks s logs g after) → ((n : ℕ) → log_sectors (replica g n).kept.log ≤ 262144) → (n : ℕ) → log_sectors (replica after n).kept.log ≤ 262144
log_fits marks s logs g after a old n =
    by_bool (n == a.goes.writer) (λ v. (n == a.goes.writer) ≡ v → log_sectors (replica after n).kept.log ≤ 262144)
    (λ _ y. let same : n ≡ a.goes.writer = eqb-true n a.goes.writer y in subst (λ (i : ℕ). log_sectors (replica after i).kept.log ≤ 262144) (sym same) (by_case a.goes.log))
    (λ _ f. subst (λ (k : Kept). log_sectors k.log ≤ 262144) (sym (a.goes.others n (eqb-false n a.goes.writer f))) (old n))
    refl
  where
    more : (b : List Record) → LogFits (replica g a.goes.writer).kept.log (b ∷ []) → log_sectors (with_block (replica g a.goes.writer).kept.log b) ≤ 262144
    more b fits =
        let l : Log = (replica g a.goes.writer).kept.log in
        let low : log_sectors l ≤ 262144 = old a.goes.writer in
        let room : blocks_sectors (b ∷ []) ≤ 262144 - log_sectors l = fits in
        blocks_more l (b ∷ []) (whole_of marks l (a.good.each a.goes.writer).kept.ends (a.marked a.goes.writer)) (omega (arith, room, low))

    by_case : LogGoes logs (MessageMarked marks logs) g.config.pages (replica g a.goes.writer) (replica after a.goes.writer).kept.log → log_sectors (replica after a.goes.writer).kept.log ≤ 262144
    by_case (Stands e) = subst (λ (l : Log). log_sectors l ≤ 262144) (sym e) (old a.goes.writer)
    by_case (Cuts term fork its_end ticket told answered e) =
        let less : log_sectors (cut_at fork (replica g a.goes.writer).kept.log) ≤ log_sectors (replica g a.goes.writer).kept.log = cut_less (replica g a.goes.writer).kept.log fork (a.marked a.goes.writer).rises in
        let low : log_sectors (replica g a.goes.writer).kept.log ≤ 262144 = old a.goes.writer in
        subst (λ (l : Log). log_sectors l ≤ 262144) (sym e) (omega (arith, less, low))
    by_case (Hardens leads some fits e) = subst (λ (l : Log). log_sectors l ≤ 262144) (sym e) (more (replica g a.goes.writer).leading.buffer fits)
    by_case (Promotes term some rest low whole fits is e) =
        let l : Log = (replica g a.goes.writer).kept.log in
        let old_low : log_sectors l ≤ 262144 = old a.goes.writer in
        let sum : blocks_sectors (some ++ rest) ≡ blocks_sectors some + blocks_sectors rest = sum_by-append block_sectors some rest in
        subst (λ (x : Log). log_sectors x ≤ 262144) (sym e) (blocks_more l some (whole_of marks l (a.good.each a.goes.writer).kept.ends (a.marked a.goes.writer)) (let room : blocks_sectors (some ++ rest) ≤ 262144 - log_sectors l = fits in omega (arith, room, sum, old_low)))
    by_case (Comes term b told follows same part first fits e) = subst (λ (l : Log). log_sectors l ≤ 262144) (sym e) (more b.records fits)
