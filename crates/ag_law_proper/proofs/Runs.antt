-- From laws of logs to runs: what each event keeps holds of each log of each run.
use Rattle.std.proofs.Common.{◌≡◌, ℕ, zero, suc, ◌<◌, List, [], ◌∷◌, ◌++◌, length, take, drop, get_or, map, true, false, refl, sym, ap, ◌∙◌, subst, append_assoc}
use Rattle.std.specs.Prelude.{Option, Some, None, ◌==◌, nat_lt}
use Rattle.std.specs.List.{AllByRecursion, filter, fold}
use Rattle.std.proofs.lemmas.Bool.{false≢true, eqb-true, eqb-false}
use Rattle.std.proofs.lemmas.List.{take-append-drop}
use Rattle.std.proofs.lemmas.List.Concat.{flat_map-append}
use Rattle.ag_model.specs.declared.config.Config.{Config}
use Rattle.ag_model.specs.declared.config.Mode.{Mode}
use Rattle.ag_model.specs.declared.record.Record.{Record}
use Rattle.ag_model.specs.declared.record.Record.TheVariants.{Term}
use Rattle.ag_model.specs.declared.record.Log.{Log}
use Rattle.ag_model.specs.declared.event.Event.{Event}
use Rattle.ag_model.specs.declared.message.Message.{Message}
use Rattle.ag_rules.specs.Replica.{Replica, records, full_log, term_of_disk}
use Rattle.ag_rules.specs.Group.{Group, replica, link, opening, opening_replica, opening_replicas, nobody}
use Rattle.ag_rules.specs.Promotion.{promotion_records, blocks_of}
use Rattle.ag_rules.specs.Next.{done}
use Rattle.ag_rules.specs.Run.{Moment, moments_from, run}
use Rattle.ag_rules.specs.Script.{IsEvent, IsScript}
use Rattle.ag_rules.specs.TermLog.{groups, primary_of, longer, log_of_primary, term_log}
use Rattle.ag_lists.proofs.Tests.{by_bool, if_has}
use Rattle.ag_lists.proofs.Each.{all_map}
use Rattle.ag_laws.specs.Prefix.{IsPrefixOf}
use Rattle.ag_laws.specs.Logs.{Setting, Logs}
use Rattle.ag_laws.specs.At.{At}
use Rattle.ag_laws.specs.Good.{Good}
use Rattle.ag_laws.specs.First.{first_setting, first_logs}
use Rattle.ag_laws.specs.Keeps.{Keeps}
use Rattle.ag_laws.proofs.Parts.{part_after}
use Rattle.ag_laws.proofs.Blocks.{flat, blocks_whole}
use Rattle.ag_laws.proofs.Events.{next_keeps}
use Rattle.ag_laws.proofs.Opening.{opening_good}
use Rattle.ag_law_proper.specs.Growth.{Lead, lead_of, first_lead, promoted_lead, Told, LogGoes, Stands, Cuts, Hardens, Promotes, Comes, LeadGoes, Follows, Leads, Takes}
use Rattle.ag_law_proper.specs.Law.{Law}
use Rattle.ag_law_proper.specs.LogsHave.{HardenedHave, BufferedHave, LogsHave}
use Rattle.ag_law_proper.proofs.TakesGoes.{records_of_blocks}
use Rattle.ag_law_proper.proofs.Lifts.{AllTold, GroupGoes}
use Rattle.ag_law_proper.proofs.Events.{next_goes}

-- what holds of the logs of the terms, and of each primary
record Holds (R : List Record → Type 0) (W : Lead → Type 0) (logs : Logs) (g : Group) : Type 0 where
  terms : (t : ℕ) → R (logs t)
  leads : (n : ℕ) → (replica g n).leads ≡ true → W (lead_of (replica g n))

-- nothing is asked of messages
abbrev pub untold : Told
untold m = Unit {0}

all_untold : (ms : List Message) → AllByRecursion untold ms
all_untold [] = tt
all_untold (m ∷ ms) = (tt, all_untold ms)

pub links_untold : (g : Group) → AllTold untold g
links_untold g a b = all_untold (link g a b)

-- the log of a replica, by the log of its term
hardened_has : (pages : ℕ) (R : List Record → Type 0) (W : Lead → Type 0) (s : Setting) (logs : Logs) (n : ℕ) (r : Replica) → Law pages R W → At s logs n r → ((t : ℕ) → R (logs t)) → R (records r)
hardened_has pages R W s logs n r law a terms = law.shorter (records r) (logs (term_of_disk r.kept)) a.kept.prefix (terms (term_of_disk r.kept))

-- some of the records of a promotion
pub promoted_front : (pages term : ℕ) (log : List Record) (some rest : List (List Record)) → some ++ rest ≡ blocks_of (promotion_records pages term log) → flat some ++ flat rest ≡ promotion_records pages term log
promoted_front pages term log some rest e = sym (flat_map-append (λ (b : List Record). b) some rest) ∙ ap flat e ∙ blocks_whole (promotion_records pages term log)

log_has : (pages : ℕ) (R : List Record → Type 0) (W : Lead → Type 0) (s : Setting) (logs : Logs) (told : Told) (n : ℕ) (r : Replica) (l : Log) → Law pages R W → At s logs n r → ((t : ℕ) → R (logs t)) → (r.leads ≡ true → W (lead_of r)) → LogGoes logs told pages r l → R l.records
log_has pages R W s logs told n r l law a terms leads (Stands e) = subst (λ (x : Log). R x.records) (sym e) (hardened_has pages R W s logs n r law a terms)
log_has pages R W s logs told n r l law a terms leads (Cuts term fork its_end ticket known answered e) =
    subst (λ (x : Log). R x.records) (sym e) (law.shorter (take fork (records r)) (records r) (drop fork (records r), take-append-drop fork (records r)) (hardened_has pages R W s logs n r law a terms))
log_has pages R W s logs told n r l law a terms leads (Hardens lead some fits e) = subst (λ (x : Log). R x.records) (sym e) (law.log (lead_of r) (leads lead))
log_has pages R W s logs told n r l law a terms leads (Promotes term some rest low whole fits is e) =
    let new : List Record = promotion_records pages term (records r) in
    let front : flat some ++ flat rest ≡ new = promoted_front pages term (records r) some rest is in
    law.shorter l.records (records r ++ new)
    (flat rest, ap (λ (x : Log). x.records ++ flat rest) e ∙ ap (λ x. x ++ flat rest) (records_of_blocks r.kept.log some) ∙ append_assoc (records r) (flat some) (flat rest) ∙ ap (λ x. records r ++ x) front)
    (law.log (promoted_lead pages term (records r)) (law.takes term (records r) low (hardened_has pages R W s logs n r law a terms)))
log_has pages R W s logs told n r l law a terms leads (Comes term b known follows same part first fits e) =
    subst (λ (x : Log). R x.records) (sym e)
    (law.shorter (records r ++ b.records) (logs term) (part_after (records r) (logs term) b (subst (λ (t : ℕ). IsPrefixOf (records r) (logs t)) (sym (same ∙ a.term)) a.kept.prefix) part first) (terms term))

lead_has : (pages : ℕ) (R : List Record → Type 0) (W : Lead → Type 0) (r after : Replica) → Law pages R W → R (records r) → (r.leads ≡ true → W (lead_of r)) → LeadGoes pages r after → after.leads ≡ true → W (lead_of after)
lead_has pages R W r after law log leads (Follows f) e = absurd (false≢true (sym f ∙ e))
lead_has pages R W r after law log leads (Leads l step) e = law.steps (lead_of r) (lead_of after) step (leads l)
lead_has pages R W r after law log leads (Takes term low is) e = subst W (sym is) (law.takes term (records r) low log)

-- what one event keeps
next_holds : (pages : ℕ) (R : List Record → Type 0) (W : Lead → Type 0) (s : Setting) (logs : Logs) (g : Group) (e : Event) → Law pages R W → g.config.pages ≡ pages → Good s logs g → IsEvent s.config e → (k : Keeps s logs g (done g e).after) → Holds R W logs g → Holds R W k.grown (done g e).after
next_holds pages R W s logs g e law same good is k holds =
    let after : Group = (done g e).after in
    let goes : GroupGoes logs untold g after = next_goes s logs untold g e good (links_untold g) is in
    let law2 : Law g.config.pages R W = subst (λ (p : ℕ). Law p R W) (sym same) law in
    let all : (n : ℕ) → R (records (replica after n)) = λ n.
    by_bool (n == goes.writer) (λ v. (n == goes.writer) ≡ v → R (records (replica after n)))
    (λ _ y. let it : goes.writer ≡ n = sym (eqb-true n goes.writer y) in
    subst (λ (i : ℕ). R (records (replica after i))) it
    (log_has g.config.pages R W s logs untold goes.writer (replica g goes.writer) (replica after goes.writer).kept.log law2 (good.each goes.writer) holds.terms (holds.leads goes.writer) goes.log))
    (λ _ f. subst (λ x. R x.log.records) (sym (goes.others n (eqb-false n goes.writer f))) (hardened_has g.config.pages R W s logs n (replica g n) law2 (good.each n) holds.terms))
    refl in
    record {
      terms = λ t.
          let n : ℕ = k.setting.leader t in
          by_bool ((replica after n).term == t) (λ v. ((replica after n).term == t) ≡ v → R (k.grown t))
          (λ _ y.
          let a : At k.setting k.grown n (replica after n) = k.good.each n in
          let here : (replica after n).term ≡ t = eqb-true (replica after n).term t y in
          let disk : term_of_disk (replica after n).kept ≡ t = sym a.term ∙ here in
          subst R ((a.kept.own (ap k.setting.leader disk)).whole ∙ ap k.grown disk) (all n))
          (λ _ f. subst R (k.later.others t (eqb-false (replica after n).term t f)) (holds.terms t))
          refl;
      leads = λ n. lead_has g.config.pages R W (replica g n) (replica after n) law2 (hardened_has g.config.pages R W s logs n (replica g n) law2 (good.each n) holds.terms) (holds.leads n) (goes.leads n);
    }

-- what holds of each group
pub record Held (R : List Record → Type 0) (W : Lead → Type 0) (g : Group) : Type 0 where
  pub hardened : (n : ℕ) → R (records (replica g n))
  pub leads : (n : ℕ) → (replica g n).leads ≡ true → W (lead_of (replica g n))

held : (pages : ℕ) (R : List Record → Type 0) (W : Lead → Type 0) (s : Setting) (logs : Logs) (g : Group) → Law pages R W → Good s logs g → Holds R W logs g → Held R W g
held pages R W s logs g law good holds = record { hardened = λ n. hardened_has pages R W s logs n (replica g n) law (good.each n) holds.terms; leads = holds.leads }

from_group : (pages : ℕ) (R : List Record → Type 0) (W : Lead → Type 0) (s : Setting) (logs : Logs) (g : Group) (es : List Event) → Law pages R W → s.config.pages ≡ pages → Good s logs g → IsScript s.config es → Holds R W logs g → AllByRecursion (Held R W) (groups (moments_from g es))
from_group pages R W s logs g [] law same good is holds = tt
from_group pages R W s logs g (e ∷ es) law same good is holds =
    let k : Keeps s logs g (done g e).after = next_keeps s logs g e good is.0 in
    let more : Holds R W k.grown (done g e).after = next_holds pages R W s logs g e law (ap (λ (c : Config). c.pages) good.config ∙ same) good is.0 k holds in (
      held pages R W s logs g law good holds,
      (
        held pages R W k.setting k.grown (done g e).after law k.good more,
        from_group pages R W k.setting k.grown (done g e).after es law (ap (λ (c : Config). c.pages) (sym k.later.config) ∙ same) k.good (subst (λ (c : Config). IsScript c es) k.later.config is.1) more,
      ),
    )

first_leads_of : (W : Lead → Type 0) (c : Config) (ms : List Mode) (n : ℕ) → W first_lead → (get_or (opening_replicas c ms) n nobody).leads ≡ true → W (lead_of (get_or (opening_replicas c ms) n nobody))
unfolding opening_replica
first_leads_of W c [] n p e = absurd (false≢true e)
first_leads_of W c (m ∷ ms) zero p e = p
first_leads_of W c (m ∷ ms) (suc n) p e = absurd (false≢true (sym (follows ms n) ∙ e))
  where
    follows : (xs : List Mode) (i : ℕ) → (get_or (map (λ (x : Mode). opening_replica c false) xs) i nobody).leads ≡ false
    follows [] i = refl
    follows (x ∷ xs) zero = refl
    follows (x ∷ xs) (suc i) = follows xs i

first_leads : (W : Lead → Type 0) (c : Config) (n : ℕ) → W first_lead → (replica (opening c) n).leads ≡ true → W (lead_of (replica (opening c) n))
unfolding opening
first_leads W c n p e = first_leads_of W c c.modes n p e

first_holds : (R : List Record → Type 0) (W : Lead → Type 0) (c : Config) → Law c.pages R W → Holds R W first_logs (opening c)
first_holds R W c law = record {
  terms = λ t. if_has R (t == 1) (Term 1 ∷ []) [] (λ _. law.log first_lead law.first) (λ _. law.none);
  leads = λ n e. first_leads W c n law.first e;
}

-- each group of a run
pub in_run : (R : List Record → Type 0) (W : Lead → Type 0) (c : Config) (es : List Event) → Law c.pages R W → 0 < length c.modes → IsScript c es → AllByRecursion (Held R W) (groups (run c es))
in_run R W c es law h is = from_group c.pages R W (first_setting c) first_logs (opening c) es law refl (opening_good c h) is (first_holds R W c law)

-- the longest log is one of them
longest_has : (R : List Record → Type 0) (t n : ℕ) (log : List Record) (gs : List Group) → R log → AllByRecursion (HardenedHave R) gs → R (fold (λ l g. longer l (records (replica g n))) log (filter (λ g. (replica g n).term == t) gs))
longest_has R t n log [] p all = p
longest_has R t n log (g ∷ gs) p all =
    if_has (λ (xs : List Group). R (fold (λ l x. longer l (records (replica x n))) log xs)) ((replica g n).term == t) (g ∷ filter (λ x. (replica x n).term == t) gs) (filter (λ x. (replica x n).term == t) gs)
    (λ _. longest_has R t n (longer log (records (replica g n))) gs (if_has R (nat_lt (length log) (length (records (replica g n)))) (records (replica g n)) log (λ _. all.0 n) (λ _. p)) all.1)
    (λ _. longest_has R t n log gs p all.1)

of_primary : (R : List Record → Type 0) (t : ℕ) (gs : List Group) (o : Option ℕ) → R [] → AllByRecursion (HardenedHave R) gs → R (log_of_primary t gs o)
of_primary R t gs None p all = p
of_primary R t gs (Some n) p all = longest_has R t n [] gs p all

pub term_log_has : (R : List Record → Type 0) (ms : List Moment) (t : ℕ) → R [] → AllByRecursion (HardenedHave R) (groups ms) → R (term_log ms t)
unfolding term_log
term_log_has R ms t p all = of_primary R t (groups ms) (primary_of t (groups ms)) p all

-- each log of a run has what the law says
pub logs_have : (P R : List Record → Type 0) (W : Lead → Type 0) (c : Config) (es : List Event) → Law c.pages R W → ((log : List Record) → R log → P log) → 0 < length c.modes → IsScript c es → LogsHave P (run c es)
logs_have P R W c es law tells h is =
    let all : AllByRecursion (Held R W) (groups (run c es)) = in_run R W c es law h is in
    let hardened : AllByRecursion (HardenedHave R) (groups (run c es)) = all_map (Held R W) (HardenedHave R) (λ g p. p.hardened) (groups (run c es)) all in
    record {
      hardened = all_map (Held R W) (HardenedHave P) (λ g p n. tells (records (replica g n)) (p.hardened n)) (groups (run c es)) all;
      buffered = all_map (Held R W) (BufferedHave P) (λ g p n e. tells (full_log (replica g n)) (law.log (lead_of (replica g n)) (p.leads n e))) (groups (run c es)) all;
      terms = λ t. tells (term_log (run c es) t) (term_log_has R (run c es) t law.none hardened);
    }
