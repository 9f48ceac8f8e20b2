use Rattle.std.proofs.Common.{◌≡◌, false, List, subst, sym, ap, ◌∙◌, [], ◌∷◌, map, arith}
use Rattle.std.specs.Prelude.{nat_lt}
use Rattle.ag_model.specs.declared.value.Version.{Version}
use Rattle.ag_model.specs.declared.value.PageValue.{PageValue}
use Rattle.ag_model.specs.Sizes.{change_size, free_bytes, records_size}
use Rattle.ag_rules.specs.PutEvent.{record_of, is_locked, last_commit, conflicts, page_is_full}
use Rattle.ag_rules.specs.GetEvent.{snapshot_in}
use Rattle.ag_txn.specs.Checks.{buffer_is_full, snapshot_of}
use Rattle.ag_txn.specs.View.{TxnsView, plain, seen}
use Rattle.ag_txn.specs.declared.opened.OpenTxn.{OpenTxn}
use Rattle.ag_model.specs.declared.record.Record.{Record}
use Rattle.ag_txn.proofs.Refused.{fourth_check}
use Rattle.ag_txn.proofs.txns.Txns.check_put.Goals as goal

pub returns-in-Err-clause-refused : goal.returns-in-Err-clause-refused
returns-in-Err-clause-refused c =
    let t : TxnsView = c.args.self.now in
    let v : PageValue = seen t c.args.page.now in
    let versions : c.as_slice.result.now ≡ v.versions = c.as_slice.ensures ∙ ap (λ (w : PageValue). w.versions) c.seen-seen.ensures in
    let versions2 : c.as_slice-2.result.now ≡ v.versions = c.as_slice-2.ensures ∙ ap (λ (w : PageValue). w.versions) c.seen-seen.ensures in
    let snapshot : c.snapshot_of-snapshot.result ≡ snapshot_of t c.args.txn =
    c.snapshot_of-snapshot.ensures ∙ ap (λ (ts : List OpenTxn). snapshot_in c.args.txn (map plain ts)) c.deref.ensures.value ∙ ap (λ (w : TxnsView). snapshot_of w c.args.txn) c.self.view_is in
    let free : c.free_bytes.result ≡ free_bytes v = c.free_bytes.ensures ∙ ap free_bytes c.seen-seen.ensures in
    let added : Record = record_of c.args.txn c.args.key c.args.change.now in
    let size : records_size (added ∷ []) ≡ c.change_record_size.result = omega (arith, c.change_record_size.ensures.size c.args.txn c.args.key) in
    let unlocked : (is_locked c.args.txn c.args.key v.versions).when ≡ false = subst (λ (vs : List Version). (is_locked c.args.txn c.args.key vs).when ≡ false) versions c.in_ok-check_lock.ensures in
    let quiet : (conflicts c.args.key (snapshot_of t c.args.txn) v.versions).when ≡ false = sym (λ i. nat_lt (snapshot i) (last_commit c.args.key (versions2 i))) ∙ c.in_ok-check_conflict.ensures in
    let roomy : (page_is_full (change_size c.args.change.now) (free_bytes v)).when ≡ false = sym (λ i. nat_lt (free i) (c.change_size.ensures i)) ∙ c.in_ok-check_room.ensures in
    fourth_check (is_locked c.args.txn c.args.key v.versions) (conflicts c.args.key (snapshot_of t c.args.txn) v.versions) (page_is_full (change_size c.args.change.now) (free_bytes v))
    (buffer_is_full t.buffer (added ∷ [])) c.in-Err.fault unlocked quiet roomy (c.in-Err.ensures.checked (added ∷ []) size)
