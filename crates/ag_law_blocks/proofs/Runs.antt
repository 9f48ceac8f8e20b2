-- The hardened log of each replica of each group of a run is in whole blocks.
use Rattle.std.proofs.Common.{◌≡◌, ℕ, zero, suc, ◌+◌, ◌<◌, ◌≤◌, List, [], ◌∷◌, ◌++◌, length, take, get_or, map, replicate, true, false, inl, inr, refl, sym, ap, ◌∙◌, subst, arith}
use Rattle.std.specs.Prelude.{◌⊎◌, Some, None}
use Rattle.std.specs.List.{AllByRecursion, last_or}
use Rattle.ag_model.specs.declared.config.Config.{Config}
use Rattle.ag_model.specs.declared.config.Mode.{Mode}
use Rattle.ag_model.specs.declared.record.Record.{Record}
use Rattle.ag_model.specs.declared.record.Record.TheVariants.{Term}
use Rattle.ag_model.specs.declared.record.Log.{Log}
use Rattle.ag_model.specs.declared.event.Event.{Event}
use Rattle.ag_model.specs.declared.message.Message.{Message}
use Rattle.ag_model.specs.Rows.{contains}
use Rattle.ag_model.specs.Sizes.{log_sectors}
use Rattle.ag_rules.specs.Replica.{records}
use Rattle.ag_rules.specs.Group.{Group, replica, link, opening, opening_replica, opening_replicas, nobody}
use Rattle.ag_rules.specs.Next.{done}
use Rattle.ag_rules.specs.Run.{moments_from, run}
use Rattle.ag_rules.specs.Script.{IsEvent, IsScript}
use Rattle.ag_rules.specs.TermLog.{groups}
use Rattle.ag_lists.proofs.Each.{all_map}
use Rattle.ag_lists.proofs.Places.{at_replicate}
use Rattle.ag_laws.specs.Logs.{Setting, Logs}
use Rattle.ag_laws.specs.At.{At}
use Rattle.ag_laws.specs.Good.{Good}
use Rattle.ag_laws.specs.First.{first_setting, first_logs}
use Rattle.ag_laws.specs.Keeps.{Keeps}
use Rattle.ag_laws.proofs.Events.{next_keeps}
use Rattle.ag_laws.proofs.Opening.{opening_good}
use Rattle.ag_law_proper.specs.Growth.{Posts}
use Rattle.ag_law_proper.proofs.Lifts.{AllTold, GroupGoes}
use Rattle.ag_law_proper.proofs.Events.{next_goes}
use Rattle.ag_law_blocks.specs.Blocked.{IsBlocked, AreBlocked}
use Rattle.ag_law_blocks.specs.Marks.{Marks, Begins, Marked, MessageMarked}
use Rattle.ag_law_blocks.proofs.Grown.{body_grows}
use Rattle.ag_law_blocks.proofs.Steps.{Around, marks_after, between_of, all_marked, all_begin, whole_of, log_fits}
use Rattle.ag_laws.proofs.Grow.{records_traced}
use Rattle.ag_law_blocks.proofs.Sectors.{IsWhole, log_long}
use Rattle.ag_law_blocks.proofs.Sent.{posted_marked, up_there}

-- what holds of a group: the marks of each log and each message, the first term, and the room of each log
record Ended (marks : Marks) (logs : Logs) (g : Group) : Type 0 where
  marked : (n : ℕ) → Marked marks (replica g n).kept.log
  begins : (n : ℕ) → n < length g.replicas → Begins (records (replica g n))
  told : AllTold (MessageMarked marks logs) g
  sectors : (n : ℕ) → log_sectors (replica g n).kept.log ≤ 262144

next_ended : (marks : Marks) (s : Setting) (logs : Logs) (g : Group) (e : Event) → Good s logs g → IsEvent s.config e → g.config.pages ≤ 2048 → Ended marks logs g → (k : Keeps s logs g (done g e).after) → (new : Marks) × Ended new k.grown (done g e).after
next_ended marks s logs g e good is pages ended k =
    let after : Group = (done g e).after in
    let goes : GroupGoes logs (MessageMarked marks logs) g after = next_goes s logs (MessageMarked marks logs) g e good ended.told is in
    let a : Around marks s logs g after = record { good = good; keeps = k; goes = goes; marked = ended.marked; pages = pages } in
    let new : Marks = marks_after marks s logs g after a in (
      new,
      record {
        marked = all_marked marks s logs g after a;
        begins = all_begin marks s logs g after a ended.begins;
        told = λ x y. all_map (λ m. MessageMarked marks logs m ⊎ Posts (MessageMarked marks logs) (replica g x) m) (MessageMarked new k.grown)
            (λ m p. body_grows marks logs new k.grown m.term m.body (between_of marks s logs g after a) (one_of x m p)) (link after x y) (goes.links x y);
        sectors = log_fits marks s logs g after a ended.sectors;
      },
    )
  where
    one_of : (x : ℕ) (m : Message) → MessageMarked marks logs m ⊎ Posts (MessageMarked marks logs) (replica g x) m → MessageMarked marks logs m
    one_of x m (inl p) = p
    one_of x m (inr p) = posted_marked marks s logs x (replica g x) m good.are (good.each x) (λ up. ended.begins x (up_there g.replicas x up)) (ended.marked x) (records_traced s logs g x good) p

some_last : (len : ℕ) (xs : List ℕ) → 0 < len → last_or (Some 0) xs ≡ Some len → last_or None xs ≡ Some len
some_last len [] h e = let same : 0 ≡ len = cc in absurd (omega (arith, h, same))
some_last len (x ∷ xs) h e = e

blocked : (marks : Marks) (s : Setting) (logs : Logs) (g : Group) (n : ℕ) → Good s logs g → Marked marks (replica g n).kept.log → Begins (records (replica g n)) → log_sectors (replica g n).kept.log ≤ 262144 → IsBlocked (replica g n).kept.log
blocked marks s logs g n good m b room =
    let l : Log = (replica g n).kept.log in
    let a : At s logs n (replica g n) = good.each n in
    let whole : IsWhole 0 l.ends l.records = whole_of marks l a.kept.ends m in
    let zero_plus : 0 + length l.records ≡ length l.records = omega arith in
    record {
      first = ap (take 1) b.1;
      ends = m.rises;
      last = some_last (length l.records) l.ends (subst (λ (x : List Record). 0 < length x) (sym b.1) (omega arith)) (whole.1 ∙ ap Some zero_plus);
      terms = m.terms;
      sectors = room;
      short = omega (arith, log_long l whole, room);
      most = omega (arith, log_long l whole, room);
    }

are_blocked : (marks : Marks) (s : Setting) (logs : Logs) (g : Group) → Good s logs g → Ended marks logs g → AreBlocked g
are_blocked marks s logs g good ended n h = blocked marks s logs g n good (ended.marked n) (ended.begins n h) (ended.sectors n)

from_group : (marks : Marks) (s : Setting) (logs : Logs) (g : Group) (es : List Event) → Good s logs g → IsScript s.config es → s.config.pages ≤ 2048 → Ended marks logs g → AllByRecursion AreBlocked (groups (moments_from g es))
from_group marks s logs g [] good is pages ended = tt
from_group marks s logs g (e ∷ es) good is pages ended =
    let k : Keeps s logs g (done g e).after = next_keeps s logs g e good is.0 in
    let more : (new : Marks) × Ended new k.grown (done g e).after = next_ended marks s logs g e good is.0 (subst (λ (c : Config). c.pages ≤ 2048) (sym good.config) pages) ended k in (
      are_blocked marks s logs g good ended,
      (
        are_blocked more.0 k.setting k.grown (done g e).after k.good more.1,
        from_group more.0 k.setting k.grown (done g e).after es k.good (subst (λ (c : Config). IsScript c es) k.later.config is.1) (subst (λ (c : Config). c.pages ≤ 2048) k.later.config pages) more.1,
      ),
    )

-- the marks at the opening: the first record ends a block
abbrev first_marks : Marks
first_marks u n = true

one_marked : Marked first_marks (record { records = Term 1 ∷ []; ends = 1 ∷ [] })
one_marked = record { same = same; rises = (omega arith, tt); whole = refl; terms = terms }
  where
    same : (n : ℕ) → n ≤ 1 → contains n (0 ∷ 1 ∷ []) ≡ true
    same zero h = refl
    same (suc zero) h = refl
    same (suc (suc n)) h = absurd (omega arith)

    terms : (front : List Record) (t : ℕ) (back : List Record) → Term 1 ∷ [] ≡ front ++ Term t ∷ back → contains (length front) (0 ∷ 1 ∷ []) ≡ true
    terms [] t back e = refl
    terms (x ∷ []) t back e = refl
    terms (x ∷ y ∷ front) t back e = absurd (cc)

none_marked : Marked first_marks (record { records = []; ends = [] })
none_marked = record { same = same; rises = tt; whole = refl; terms = terms }
  where
    same : (n : ℕ) → n ≤ 0 → contains n (0 ∷ []) ≡ true
    same zero h = refl
    same (suc n) h = absurd (omega arith)

    terms : (front : List Record) (t : ℕ) (back : List Record) → (let nil : List Record = [] in nil ≡ front ++ Term t ∷ back) → contains (length front) (0 ∷ []) ≡ true
    terms [] t back e = refl
    terms (x ∷ front) t back e = absurd (cc)

others_marked : (c : Config) (ms : List Mode) (n : ℕ) → Marked first_marks (get_or (map (λ (m : Mode). opening_replica c false) ms) n nobody).kept.log
unfolding opening_replica
others_marked c [] n = none_marked
others_marked c (m ∷ ms) zero = one_marked
others_marked c (m ∷ ms) (suc n) = others_marked c ms n

replicas_marked : (c : Config) (ms : List Mode) (n : ℕ) → Marked first_marks (get_or (opening_replicas c ms) n nobody).kept.log
unfolding opening_replica
replicas_marked c [] n = none_marked
replicas_marked c (m ∷ ms) zero = one_marked
replicas_marked c (m ∷ ms) (suc n) = others_marked c ms n

others_begin : (c : Config) (ms : List Mode) (n : ℕ) → n < length (map (λ (m : Mode). opening_replica c false) ms) → Begins (get_or (map (λ (m : Mode). opening_replica c false) ms) n nobody).kept.log.records
unfolding opening_replica
others_begin c [] n h = absurd (omega arith)
others_begin c (m ∷ ms) zero h = ([], refl)
others_begin c (m ∷ ms) (suc n) h = others_begin c ms n (omega arith)

replicas_begin : (c : Config) (ms : List Mode) (n : ℕ) → n < length (opening_replicas c ms) → Begins (get_or (opening_replicas c ms) n nobody).kept.log.records
unfolding opening_replica
replicas_begin c [] n h = absurd (omega arith)
replicas_begin c (m ∷ ms) zero h = ([], refl)
replicas_begin c (m ∷ ms) (suc n) h = others_begin c ms n (omega arith)

others_fit : (c : Config) (ms : List Mode) (n : ℕ) → log_sectors (get_or (map (λ (m : Mode). opening_replica c false) ms) n nobody).kept.log ≤ 262144
unfolding opening_replica
others_fit c [] n = omega arith
others_fit c (m ∷ ms) zero = omega arith
others_fit c (m ∷ ms) (suc n) = others_fit c ms n

replicas_fit : (c : Config) (ms : List Mode) (n : ℕ) → log_sectors (get_or (opening_replicas c ms) n nobody).kept.log ≤ 262144
unfolding opening_replica
replicas_fit c [] n = omega arith
replicas_fit c (m ∷ ms) zero = omega arith
replicas_fit c (m ∷ ms) (suc n) = others_fit c ms n

first_ended : (c : Config) → Ended first_marks first_logs (opening c)
unfolding opening
first_ended c = record {
  marked = replicas_marked c c.modes;
  begins = replicas_begin c c.modes;
  sectors = replicas_fit c c.modes;
  told = λ a b.
      at_replicate (λ (row : List (List Message)). AllByRecursion (MessageMarked first_marks first_logs) (get_or row b [])) (length c.modes) (replicate (length c.modes) []) [] a tt
      (at_replicate (λ (l : List Message). AllByRecursion (MessageMarked first_marks first_logs) l) (length c.modes) [] [] b tt tt);
}

pub blocks_in_run : (c : Config) (es : List Event) → c.pages ≤ 2048 → 0 < length c.modes → IsScript c es → AllByRecursion AreBlocked (groups (run c es))
blocks_in_run c es pages h is = from_group first_marks (first_setting c) first_logs (opening c) es (opening_good c h) is pages (first_ended c)
