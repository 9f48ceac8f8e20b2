-- Each log of each run is proper: the laws of its records, its room and its blocks, put together.
use Rattle.std.proofs.Common.{◌≡◌, ℕ, zero, suc, ◌<◌, ◌≤◌, List, [], ◌∷◌, ◌++◌, length, take, get_or, true, inl, inr, refl, ap, arith, length-append}
use Rattle.std.specs.Prelude.{nat_lt}
use Rattle.std.specs.List.{AllByRecursion}
use Rattle.std.proofs.lemmas.Bool.{false≢true, ltb-true, ltb-false}
use Rattle.ag_model.specs.declared.config.Config.{Config}
use Rattle.ag_model.specs.declared.record.Record.{Record}
use Rattle.ag_model.specs.declared.record.Record.TheVariants.{Term}
use Rattle.ag_model.specs.declared.event.Event.{Event}
use Rattle.ag_model.specs.Proper.{IsProper}
use Rattle.ag_model.specs.Sizes.{records_size}
use Rattle.ag_rules.specs.Replica.{Replica, records, full_log}
use Rattle.ag_rules.specs.Group.{Group, replica, nobody}
use Rattle.ag_rules.specs.Run.{run}
use Rattle.ag_rules.specs.Script.{IsConfig, IsScript}
use Rattle.ag_rules.specs.TermLog.{groups, term_log}
use Rattle.ag_lists.proofs.Tests.{by_bool}
use Rattle.ag_lists.proofs.Each.{all_map, all_both}
use Rattle.ag_law_proper.specs.LogsHave.{HardenedHave}
use Rattle.ag_law_proper.specs.Places.{EachPlace}
use Rattle.ag_law_proper.proofs.Runs.{Held, in_run, term_log_has}
use Rattle.ag_law_proper.proofs.Rising.{TermPlace, rise_law, rising_terms}
use Rattle.ag_law_proper.proofs.Both.{proper_records}
use Rattle.ag_law_room.proofs.Found.{FoundLog, FoundLead, found_law, has_room}
use Rattle.ag_law_blocks.specs.Blocked.{IsBlocked, AreBlocked}
use Rattle.ag_law_blocks.proofs.Runs.{blocks_in_run}
use Rattle.ag_law_blocks.proofs.Sectors.{records_some}
use Rattle.ag_law_logs.specs.ProperRecords.{HasProperRecords, HardenedAreProper, BufferedAreProper, IsTermLog}
use Rattle.ag_law_logs.proofs.Buffers.{Buffered, AnyLog, buffer_law}

-- what the laws say of one group
record OfGroup (pages : ℕ) (g : Group) : Type 0 where
  rising : Held (EachPlace TermPlace) (λ x. EachPlace TermPlace x.log) g
  found : Held (FoundLog pages) (FoundLead pages) g
  buffers : Held AnyLog Buffered g
  blocked : AreBlocked g

of_groups : (c : Config) (es : List Event) → IsConfig c → IsScript c es → AllByRecursion (OfGroup c.pages) (groups (run c es))
of_groups c es config is =
    let h : 0 < length c.modes = omega (arith, config.replicas.0) in
    let gs : List Group = groups (run c es) in
    all_map (λ g. (Held (EachPlace TermPlace) (λ x. EachPlace TermPlace x.log) g × Held (FoundLog c.pages) (FoundLead c.pages) g) × (Held AnyLog Buffered g × AreBlocked g)) (OfGroup c.pages)
    (λ g p. record { rising = p.0.0; found = p.0.1; buffers = p.1.0; blocked = p.1.1 }) gs
    (all_both (λ g. Held (EachPlace TermPlace) (λ x. EachPlace TermPlace x.log) g × Held (FoundLog c.pages) (FoundLead c.pages) g) (λ g. Held AnyLog Buffered g × AreBlocked g) gs
    (all_both (Held (EachPlace TermPlace) (λ x. EachPlace TermPlace x.log)) (Held (FoundLog c.pages) (FoundLead c.pages)) gs
    (in_run (EachPlace TermPlace) (λ x. EachPlace TermPlace x.log) c es (rise_law c.pages) h is) (in_run (FoundLog c.pages) (FoundLead c.pages) c es (found_law c.pages) h is))
    (all_both (Held AnyLog Buffered) AreBlocked gs (in_run AnyLog Buffered c es (buffer_law c.pages) h is) (blocks_in_run c es config.pages.1 h is)))

-- the hardened log of a replica of the group
proper_of : (pages : ℕ) (g : Group) (n : ℕ) → OfGroup pages g → n < length g.replicas → IsProper pages (replica g n).kept.log
proper_of pages g n p h =
    let b : IsBlocked (replica g n).kept.log = p.blocked n h in
    record {
      first = b.first;
      terms = rising_terms (records (replica g n)) (p.rising.hardened n);
      each = proper_records pages (records (replica g n)) (p.found.hardened n).0;
      room = has_room pages (records (replica g n)) (p.found.hardened n);
      ends = b.ends;
      last = b.last;
      most = b.most;
    }

there : (rs : List Replica) (n : ℕ) → (get_or rs n nobody).leads ≡ true → n < length rs
there [] n e = absurd (false≢true e)
there (r ∷ rs) zero e = omega arith
there (r ∷ rs) (suc n) e = let h : n < length rs = there rs n e in omega (arith, h)

first_more : (a b : List Record) → take 1 a ≡ Term 1 ∷ [] → take 1 (a ++ b) ≡ Term 1 ∷ []
first_more [] b e = absurd (cc)
first_more (x ∷ a) b e = e

-- the log of a primary with its buffer
buffered_of : (pages : ℕ) (g : Group) (n : ℕ) → OfGroup pages g → (replica g n).leads ≡ true → HasProperRecords pages (full_log (replica g n))
buffered_of pages g n p leads =
    let r : Replica = replica g n in
    let b : IsBlocked r.kept.log = p.blocked n (there g.replicas n leads) in
    let found : FoundLead pages _ = p.found.leads n leads in
    let log : FoundLog pages (full_log r) = (found_law pages).log _ found in
    let low : records_size r.leading.buffer ≤ 15488 = p.buffers.leads n leads in
    record {
      first = first_more (records r) r.leading.buffer b.first;
      terms = rising_terms (full_log r) (p.rising.leads n leads);
      each = proper_records pages (full_log r) log.0;
      room = has_room pages (full_log r) log;
      most = omega (arith, low, records_some r.leading.buffer, b.short, length-append (records r) r.leading.buffer);
    }

-- the hardened log of any replica, also of one that isn't there
any_of : (pages : ℕ) (g : Group) (n : ℕ) → OfGroup pages g → IsTermLog pages (records (replica g n))
any_of pages g n p =
    by_bool (nat_lt n (length g.replicas)) (λ v. nat_lt n (length g.replicas) ≡ v → IsTermLog pages (records (replica g n)))
    (λ _ y. let q : IsProper pages (replica g n).kept.log = proper_of pages g n p (ltb-true n (length g.replicas) y) in inr (record { first = q.first; terms = q.terms; each = q.each; room = q.room; most = q.most }))
    (λ _ f. inl (ap (λ (r : Replica). records r) (absent g.replicas n (ltb-false n (length g.replicas) f))))
    refl
  where
    absent : (rs : List Replica) (n : ℕ) → length rs ≤ n → get_or rs n nobody ≡ nobody
    absent [] n h = refl
    absent (r ∷ rs) zero h = absurd (omega arith)
    absent (r ∷ rs) (suc n) h = absent rs n (omega arith)

pub hardened_proper : (c : Config) (es : List Event) → IsConfig c → IsScript c es → AllByRecursion (HardenedAreProper c.pages) (groups (run c es))
hardened_proper c es config is = all_map (OfGroup c.pages) (HardenedAreProper c.pages) (λ g p n h. proper_of c.pages g n p h) (groups (run c es)) (of_groups c es config is)

pub buffered_proper : (c : Config) (es : List Event) → IsConfig c → IsScript c es → AllByRecursion (BufferedAreProper c.pages) (groups (run c es))
buffered_proper c es config is = all_map (OfGroup c.pages) (BufferedAreProper c.pages) (λ g p n e. buffered_of c.pages g n p e) (groups (run c es)) (of_groups c es config is)

pub terms_proper : (c : Config) (es : List Event) → IsConfig c → IsScript c es → (t : ℕ) → IsTermLog c.pages (term_log (run c es) t)
terms_proper c es config is t =
    term_log_has (IsTermLog c.pages) (run c es) t (inl refl)
    (all_map (OfGroup c.pages) (HardenedHave (IsTermLog c.pages)) (λ g p n. any_of c.pages g n p) (groups (run c es)) (of_groups c es config is))
