use Rattle.std.proofs.Common.{rules, ◌≤◌, ◌≡◌, ◌+◌, ◌-◌, ◌++◌, length, sym, ap, ◌∙◌, subst, arith, [], List, ℕ}
use Rattle.std.specs.Prelude.{None}
use Rattle.std.specs.List.{All}
use Rattle.std.proofs.lemmas.List.{with_items_is}
use Rattle.std.proofs.lemmas.Grind.{common_steps}
use Rattle.ag_model.specs.declared.record.Record.{Record}
use Rattle.ag_model.specs.Sizes.{records_size}
use Rattle.ag_rules.specs.Replica.{full_end}
use Rattle.ag_rules.specs.SetEvent.{records_of_set}
use Rattle.ag_node.specs.View.{node_of, stripes_in}
use Rattle.ag_node.specs.Sites.{here_at}
use Rattle.ag_node.specs.Room.{first_full, used_after}
use Rattle.ag_node.specs.Nodes.{leading_of}
use Rattle.ag_node.proofs.NodeSteps.{pages_are}
use Rattle.ag_node.proofs.NodeSets.{set_of, set_by_room, set_refused, set_full, set_done, set_nothing, node_after_set}
use Rattle.ag_node.proofs.Views.{replica_is}
use Rattle.ag_node.proofs.node.Node.set_pairs.Goals as goal

pub returns-in-Some-clause-answer : goal.returns-in-Some-clause-answer
returns-in-Some-clause-answer g c =
    let n = c.self.inside in
    (set_refused _ c.args.self.now.replica _ _ _ c.in-Some.why (replica_is c.self.view_is)
    (set_by_room n.home n.published n.buffer n.buffered n.last_txn n.synced n.peers.items n.used.items c.args.self.now.replica (here_at c.args.site.now) c.args.pairs.now (replica_is c.self.view_is) c.requires.pages c.self.invariant c.requires.leads)
    (sym (c.first_full.ensures ∙ ap (λ (x : List ℕ). first_full c.args.site.now.pages x [] c.args.pairs.now) c.as_slice.ensures.value) ∙ c.in-Some.is)).answered

pub returns-in-Some-clause-after : goal.returns-in-Some-clause-after
returns-in-Some-clause-after g c =
    let n = c.self.inside in
    (set_refused _ c.args.self.now.replica _ _ _ c.in-Some.why (replica_is c.self.view_is)
    (set_by_room n.home n.published n.buffer n.buffered n.last_txn n.synced n.peers.items n.used.items c.args.self.now.replica (here_at c.args.site.now) c.args.pairs.now (replica_is c.self.view_is) c.requires.pages c.self.invariant c.requires.leads)
    (sym (c.first_full.ensures ∙ ap (λ (x : List ℕ). first_full c.args.site.now.pages x [] c.args.pairs.now) c.as_slice.ensures.value) ∙ c.in-Some.is)).left

pub returns-then-free-need-clause-answer : goal.returns-then-free-need-clause-answer
returns-then-free-need-clause-answer g c =
    let n = c.self.inside in
    let none : c.first_full.result ≡ None = c.in_default.is in
    let fits : first_full c.args.site.now.pages n.used.items [] c.args.pairs.now ≡ None = sym (c.first_full.ensures ∙ ap (λ (x : List ℕ). first_full c.args.site.now.pages x [] c.args.pairs.now) c.as_slice.ensures.value) ∙ none in
    let txn : c.in_ok-txn.txn ≡ n.last_txn + 1 = first_of (search rules, grind (arith, common_steps)) in
    let new : c.in_ok-new.new ≡ records_of_set c.args.site.now.pages (n.last_txn + 1) c.args.pairs.now = c.in_ok-new.ensures.is ∙ ap (λ (x : ℕ). records_of_set c.args.site.now.pages x c.args.pairs.now) txn in
    let need : c.in_ok-need.need ≡ records_size c.in_ok-new.new = c.in_ok-need.ensures ∙ ap records_size c.as_slice-2.ensures in
    let free : c.saturating_sub-free.result ≡ 15488 - records_size n.buffer = first_of (search rules, omega (arith, c.saturating_sub-free.ensures, c.self.invariant.counted)) in
    let by = set_by_room n.home n.published n.buffer n.buffered n.last_txn n.synced n.peers.items n.used.items c.args.self.now.replica (here_at c.args.site.now) c.args.pairs.now (replica_is c.self.view_is) c.requires.pages c.self.invariant c.requires.leads in
    (set_full _ c.args.self.now.replica _ _ (records_of_set c.args.site.now.pages (n.last_txn + 1) c.args.pairs.now) c.in_ok-need.need c.saturating_sub-free.result (replica_is c.self.view_is) by fits (need ∙ ap records_size new) free c.if-free-need.true).answered

pub returns-then-free-need-clause-after : goal.returns-then-free-need-clause-after
returns-then-free-need-clause-after g c =
    let n = c.self.inside in
    let none : c.first_full.result ≡ None = c.in_default.is in
    let fits : first_full c.args.site.now.pages n.used.items [] c.args.pairs.now ≡ None = sym (c.first_full.ensures ∙ ap (λ (x : List ℕ). first_full c.args.site.now.pages x [] c.args.pairs.now) c.as_slice.ensures.value) ∙ none in
    let txn : c.in_ok-txn.txn ≡ n.last_txn + 1 = first_of (search rules, grind (arith, common_steps)) in
    let new : c.in_ok-new.new ≡ records_of_set c.args.site.now.pages (n.last_txn + 1) c.args.pairs.now = c.in_ok-new.ensures.is ∙ ap (λ (x : ℕ). records_of_set c.args.site.now.pages x c.args.pairs.now) txn in
    let need : c.in_ok-need.need ≡ records_size c.in_ok-new.new = c.in_ok-need.ensures ∙ ap records_size c.as_slice-2.ensures in
    let free : c.saturating_sub-free.result ≡ 15488 - records_size n.buffer = first_of (search rules, omega (arith, c.saturating_sub-free.ensures, c.self.invariant.counted)) in
    let by = set_by_room n.home n.published n.buffer n.buffered n.last_txn n.synced n.peers.items n.used.items c.args.self.now.replica (here_at c.args.site.now) c.args.pairs.now (replica_is c.self.view_is) c.requires.pages c.self.invariant c.requires.leads in
    (set_full _ c.args.self.now.replica _ _ (records_of_set c.args.site.now.pages (n.last_txn + 1) c.args.pairs.now) c.in_ok-need.need c.saturating_sub-free.result (replica_is c.self.view_is) by fits (need ∙ ap records_size new) free c.if-free-need.true).left

pub invariant_of-self-2 : goal.invariant_of-self-2
invariant_of-self-2 g c =
    let n = c.self.inside in
    let none : c.first_full.result ≡ None = c.in_default.is in
    let fits : first_full c.args.site.now.pages n.used.items [] c.args.pairs.now ≡ None = sym (c.first_full.ensures ∙ ap (λ (x : List ℕ). first_full c.args.site.now.pages x [] c.args.pairs.now) c.as_slice.ensures.value) ∙ none in
    let txn : c.in_ok-txn.txn ≡ n.last_txn + 1 = first_of (search rules, grind (arith, common_steps)) in
    let new : c.in_ok-new.new ≡ records_of_set c.args.site.now.pages (n.last_txn + 1) c.args.pairs.now = c.in_ok-new.ensures.is ∙ ap (λ (x : ℕ). records_of_set c.args.site.now.pages x c.args.pairs.now) txn in
    let need : c.in_ok-need.need ≡ records_size c.in_ok-new.new = c.in_ok-need.ensures ∙ ap records_size c.as_slice-2.ensures in
    let free : c.saturating_sub-free.result ≡ 15488 - records_size n.buffer = first_of (search rules, omega (arith, c.saturating_sub-free.ensures, c.self.invariant.counted)) in
    let by = set_by_room n.home n.published n.buffer n.buffered n.last_txn n.synced n.peers.items n.used.items c.args.self.now.replica (here_at c.args.site.now) c.args.pairs.now (replica_is c.self.view_is) c.requires.pages c.self.invariant c.requires.leads in
    let long : length c.spend.new.used ≡ n.used.len = omega (arith, c.spend.auto.used, c.as_mut_slice.ensures.len) in
    let items = with_items_is n.used c.spend.new.used long in
    let few : c.args.site.now.pages ≡ n.home.pages = pages_are n.home _ (leading_of n.buffer n.last_txn n.synced n.peers.items) c.args.self.now.replica c.args.site.now.pages (replica_is c.self.view_is) c.requires.pages c.self.invariant.home in
    let bytes : c.in_ok-buffered.buffered ≡ n.buffered + c.in_ok-need.need = first_of (search rules, grind (arith, common_steps)) in
    node_after_set n.home n.published n.buffer c.append.new.self c.in_ok-new.new n.buffered c.in_ok-buffered.buffered n.last_txn c.in_ok-txn.txn n.used.items _ c.args.pairs.now c.self.invariant
    c.in_ok-append.ensures.ok (c.in_ok-new.ensures.is ∙ (λ i. records_of_set (few i) c.in_ok-txn.txn c.args.pairs.now)) txn (bytes ∙ ap (λ (x : ℕ). n.buffered + x) need)
    (items ∙ c.spend.ensures.after ∙ (λ i. used_after (few i) c.args.pairs.now (c.as_mut_slice.ensures.value i))) (subst (λ (x : List ℕ). All (λ b. b ≤ 8144) x) (sym items) c.spend.ensures.small)
    (omega (arith, bytes, c.if-free-need.false, c.saturating_sub-free.ensures, c.self.invariant.most)) (c.in_ok-new.ensures.fits c.requires.some c.requires.values)

pub returns-clause-answer : goal.returns-clause-answer
returns-clause-answer g c =
    let n = c.self.inside in
    let none : c.first_full.result ≡ None = c.in_default.is in
    let fits : first_full c.args.site.now.pages n.used.items [] c.args.pairs.now ≡ None = sym (c.first_full.ensures ∙ ap (λ (x : List ℕ). first_full c.args.site.now.pages x [] c.args.pairs.now) c.as_slice.ensures.value) ∙ none in
    let txn : c.in_ok-txn.txn ≡ n.last_txn + 1 = first_of (search rules, grind (arith, common_steps)) in
    let new : c.in_ok-new.new ≡ records_of_set c.args.site.now.pages (n.last_txn + 1) c.args.pairs.now = c.in_ok-new.ensures.is ∙ ap (λ (x : ℕ). records_of_set c.args.site.now.pages x c.args.pairs.now) txn in
    let need : c.in_ok-need.need ≡ records_size c.in_ok-new.new = c.in_ok-need.ensures ∙ ap records_size c.as_slice-2.ensures in
    let free : c.saturating_sub-free.result ≡ 15488 - records_size n.buffer = first_of (search rules, omega (arith, c.saturating_sub-free.ensures, c.self.invariant.counted)) in
    let by = set_by_room n.home n.published n.buffer n.buffered n.last_txn n.synced n.peers.items n.used.items c.args.self.now.replica (here_at c.args.site.now) c.args.pairs.now (replica_is c.self.view_is) c.requires.pages c.self.invariant c.requires.leads in
    let lsn : c.in_ok-lsn.lsn ≡ full_end c.args.self.now.replica + length (records_of_set c.args.site.now.pages (n.last_txn + 1) c.args.pairs.now) = c.in_ok-lsn.ensures ∙ ap (λ (x : ℕ). full_end c.args.self.now.replica + x) (c.len.ensures ∙ ap length new) in
    let pushed : c.append.new.self ≡ n.buffer ++ records_of_set c.args.site.now.pages (n.last_txn + 1) c.args.pairs.now = c.in_ok-append.ensures.ok ∙ ap (λ (x : List Record). n.buffer ++ x) new in
    (set_done _ c.args.self.now.replica _ _ _ (records_of_set c.args.site.now.pages (n.last_txn + 1) c.args.pairs.now) c.in_ok-need.need c.saturating_sub-free.result c.in_ok-lsn.lsn (replica_is c.self.view_is) by fits (need ∙ ap records_size new) free c.if-free-need.false lsn
    (λ i. node_of n.home (stripes_in n.home n.published) (leading_of (pushed i) (txn i) n.synced n.peers.items))).answered

pub returns-clause-after : goal.returns-clause-after
returns-clause-after g c =
    let n = c.self.inside in
    let none : c.first_full.result ≡ None = c.in_default.is in
    let fits : first_full c.args.site.now.pages n.used.items [] c.args.pairs.now ≡ None = sym (c.first_full.ensures ∙ ap (λ (x : List ℕ). first_full c.args.site.now.pages x [] c.args.pairs.now) c.as_slice.ensures.value) ∙ none in
    let txn : c.in_ok-txn.txn ≡ n.last_txn + 1 = first_of (search rules, grind (arith, common_steps)) in
    let new : c.in_ok-new.new ≡ records_of_set c.args.site.now.pages (n.last_txn + 1) c.args.pairs.now = c.in_ok-new.ensures.is ∙ ap (λ (x : ℕ). records_of_set c.args.site.now.pages x c.args.pairs.now) txn in
    let need : c.in_ok-need.need ≡ records_size c.in_ok-new.new = c.in_ok-need.ensures ∙ ap records_size c.as_slice-2.ensures in
    let free : c.saturating_sub-free.result ≡ 15488 - records_size n.buffer = first_of (search rules, omega (arith, c.saturating_sub-free.ensures, c.self.invariant.counted)) in
    let by = set_by_room n.home n.published n.buffer n.buffered n.last_txn n.synced n.peers.items n.used.items c.args.self.now.replica (here_at c.args.site.now) c.args.pairs.now (replica_is c.self.view_is) c.requires.pages c.self.invariant c.requires.leads in
    let lsn : c.in_ok-lsn.lsn ≡ full_end c.args.self.now.replica + length (records_of_set c.args.site.now.pages (n.last_txn + 1) c.args.pairs.now) = c.in_ok-lsn.ensures ∙ ap (λ (x : ℕ). full_end c.args.self.now.replica + x) (c.len.ensures ∙ ap length new) in
    let pushed : c.append.new.self ≡ n.buffer ++ records_of_set c.args.site.now.pages (n.last_txn + 1) c.args.pairs.now = c.in_ok-append.ensures.ok ∙ ap (λ (x : List Record). n.buffer ++ x) new in
    (set_done _ c.args.self.now.replica _ _ _ (records_of_set c.args.site.now.pages (n.last_txn + 1) c.args.pairs.now) c.in_ok-need.need c.saturating_sub-free.result c.in_ok-lsn.lsn (replica_is c.self.view_is) by fits (need ∙ ap records_size new) free c.if-free-need.false lsn
    (λ i. node_of n.home (stripes_in n.home n.published) (leading_of (pushed i) (txn i) n.synced n.peers.items))).left

pub returns-in-Some-clause-writes : goal.returns-in-Some-clause-writes
returns-in-Some-clause-writes g c =
    let n = c.self.inside in
    set_nothing (node_of n.home (stripes_in n.home n.published) (leading_of n.buffer n.last_txn n.synced n.peers.items)) (set_of (here_at c.args.site.now) c.args.self.now.replica c.args.pairs.now) (first_full c.args.site.now.pages n.used.items [] c.args.pairs.now) (records_of_set c.args.site.now.pages (n.last_txn + 1) c.args.pairs.now)
    (set_by_room n.home n.published n.buffer n.buffered n.last_txn n.synced n.peers.items n.used.items c.args.self.now.replica (here_at c.args.site.now) c.args.pairs.now (replica_is c.self.view_is) c.requires.pages c.self.invariant c.requires.leads)

pub returns-then-free-need-clause-writes : goal.returns-then-free-need-clause-writes
returns-then-free-need-clause-writes g c =
    let n = c.self.inside in
    set_nothing (node_of n.home (stripes_in n.home n.published) (leading_of n.buffer n.last_txn n.synced n.peers.items)) (set_of (here_at c.args.site.now) c.args.self.now.replica c.args.pairs.now) (first_full c.args.site.now.pages n.used.items [] c.args.pairs.now) (records_of_set c.args.site.now.pages (n.last_txn + 1) c.args.pairs.now)
    (set_by_room n.home n.published n.buffer n.buffered n.last_txn n.synced n.peers.items n.used.items c.args.self.now.replica (here_at c.args.site.now) c.args.pairs.now (replica_is c.self.view_is) c.requires.pages c.self.invariant c.requires.leads)

pub returns-clause-writes : goal.returns-clause-writes
returns-clause-writes g c =
    let n = c.self.inside in
    set_nothing (node_of n.home (stripes_in n.home n.published) (leading_of n.buffer n.last_txn n.synced n.peers.items)) (set_of (here_at c.args.site.now) c.args.self.now.replica c.args.pairs.now) (first_full c.args.site.now.pages n.used.items [] c.args.pairs.now) (records_of_set c.args.site.now.pages (n.last_txn + 1) c.args.pairs.now)
    (set_by_room n.home n.published n.buffer n.buffered n.last_txn n.synced n.peers.items n.used.items c.args.self.now.replica (here_at c.args.site.now) c.args.pairs.now (replica_is c.self.view_is) c.requires.pages c.self.invariant c.requires.leads)
