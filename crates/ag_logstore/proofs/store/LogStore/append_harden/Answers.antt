use Rattle.std.proofs.Common.{◌≡◌, ◌+◌, ◌/◌, ◌≤◌, ℕ, List, length, false, sym, ap, subst, ◌∙◌, arith}
use Rattle.ag_model.specs.declared.record.Record.{Record}
use Rattle.ag_model.specs.Blocks.{with_block}
use Rattle.ag_model.specs.Sizes.{records_size, block_sectors, free_sectors}
use Rattle.ag_outside.specs.Moments.{LeavesOnly}
use Rattle.ag_logstore.specs.LogOf.{IsLogOf}
use Rattle.ag_logstore.specs.Stores.{StoreView, IsReady, IsBeforeOrAfter, stored_by}
use Rattle.ag_logstore.proofs.Fitting.{payload_small}
use Rattle.ag_logstore.proofs.Storing.{follows, current_after, ready_after, in_call, no_call}
use Rattle.ag_logstore.proofs.store.LogStore.append_harden.Goals as goal

-- how many sectors are needed
need_is : (records slice : List Record) (bytes need : ℕ) → bytes ≡ records_size slice → slice ≡ records → need ≡ (bytes + 483) / 484 → need ≡ block_sectors records
need_is records slice bytes need a b n = n ∙ ap (λ x. (x + 483) / 484) (a ∙ ap records_size b)

pub small_size-requires : goal.small_size-requires
small_size-requires g c = rw c.as_slice.ensures (payload_small c.args.block.now.records c.requires.payload)

pub overflow_cast-need : goal.overflow_cast-need
overflow_cast-need g c =
    let small = payload_small c.args.block.now.records c.requires.payload in
    let need = need_is c.args.block.now.records c.as_slice.result.now c.small_size.result c.block_sectors_of-need.result c.small_size.ensures c.as_slice.ensures c.block_sectors_of-need.ensures in
    record { fits = omega (arith, need, small) }

pub harden-requires : goal.harden-requires
harden-requires g c =
    let d = g.D.Disk in
    let n = c.self.inside in
    let s = c.args.self.now in
    let v : StoreView = record { log = n.log; cut = n.cut; incarnation = n.incarnation; is_closed = n.is_closed } in
    let is : v ≡ s = c.self.view_is in
    let open_ : s.is_closed ≡ false = ap (λ (x : StoreView). x.is_closed) (sym is) ∙ c.if-self.false in
    let ready = subst (IsReady (d.keeps c.args.disk.now) (d.reads c.args.disk.now) (d.may_hold c.args.disk.now)) (sym is) (c.requires.ready open_) in
    let need = need_is c.args.block.now.records c.as_slice.result.now c.small_size.result c.block_sectors_of-need.result c.small_size.ensures c.as_slice.ensures c.block_sectors_of-need.ensures in
    let free = c.free-free.ensures ∙ ap (λ (x : StoreView). free_sectors x.log) (sym is) in
    let room : block_sectors c.args.block.now.records ≤ free_sectors n.log = omega (arith, need, free, c.if-free-need.false) in
    record { place = c.requires.place; payload = c.requires.payload; least = ready.least; room = room }

pub returns-in-Ok-clause-log : goal.returns-in-Ok-clause-log
returns-in-Ok-clause-log g c =
    let d = g.D.Disk in
    let n = c.self.inside in
    let s = c.args.self.now in
    let v : StoreView = record { log = n.log; cut = n.cut; incarnation = n.incarnation; is_closed = n.is_closed } in
    let is : v ≡ s = c.self.view_is in
    let open_ : s.is_closed ≡ false = ap (λ (x : StoreView). x.is_closed) (sym is) ∙ c.if-self.false in
    let ready = subst (IsReady (d.keeps c.args.disk.now) (d.reads c.args.disk.now) (d.may_hold c.args.disk.now)) (sym is) (c.requires.ready open_) in
    let need = need_is c.args.block.now.records c.as_slice.result.now c.small_size.result c.block_sectors_of-need.result c.small_size.ensures c.as_slice.ensures c.block_sectors_of-need.ensures in
    let free = c.free-free.ensures ∙ ap (λ (x : StoreView). free_sectors x.log) (sym is) in
    let room : block_sectors c.args.block.now.records ≤ free_sectors n.log = omega (arith, need, free, c.if-free-need.false) in
    let first : c.args.block.now.first ≡ length n.log.records + 1 = c.requires.first ∙ ap (λ (x : StoreView). length x.log.records + 1) (sym is) in
    let b = stored_by n.incarnation c.args.block.now in
    let f = follows v c.args.block.now c.requires.payload c.harden.ensures.block first room in
    λ k.
    let cur = current_after (d.reads c.args.disk.now) (d.reads c.harden.new.disk) v b (ready.current k) f (c.in-Ok.ensures.written k) in
    subst (λ (x : StoreView). IsLogOf (d.reads c.harden.new.disk) x.cut x.incarnation (with_block x.log c.args.block.now.records)) is cur.log

pub returns-in-Ok-clause-ready : goal.returns-in-Ok-clause-ready
returns-in-Ok-clause-ready g c =
    let d = g.D.Disk in
    let n = c.self.inside in
    let s = c.args.self.now in
    let v : StoreView = record { log = n.log; cut = n.cut; incarnation = n.incarnation; is_closed = n.is_closed } in
    let is : v ≡ s = c.self.view_is in
    let open_ : s.is_closed ≡ false = ap (λ (x : StoreView). x.is_closed) (sym is) ∙ c.if-self.false in
    let ready = subst (IsReady (d.keeps c.args.disk.now) (d.reads c.args.disk.now) (d.may_hold c.args.disk.now)) (sym is) (c.requires.ready open_) in
    let need = need_is c.args.block.now.records c.as_slice.result.now c.small_size.result c.block_sectors_of-need.result c.small_size.ensures c.as_slice.ensures c.block_sectors_of-need.ensures in
    let free = c.free-free.ensures ∙ ap (λ (x : StoreView). free_sectors x.log) (sym is) in
    let room : block_sectors c.args.block.now.records ≤ free_sectors n.log = omega (arith, need, free, c.if-free-need.false) in
    let first : c.args.block.now.first ≡ length n.log.records + 1 = c.requires.first ∙ ap (λ (x : StoreView). length x.log.records + 1) (sym is) in
    let b = stored_by n.incarnation c.args.block.now in
    let f = follows v c.args.block.now c.requires.payload c.harden.ensures.block first room in
    let after = ready_after (d.keeps c.args.disk.now) (d.keeps c.harden.new.disk) (d.reads c.args.disk.now) (d.reads c.harden.new.disk) (d.may_hold c.args.disk.now) (d.may_hold c.harden.new.disk) v b ready f c.harden.ensures.keeps c.in-Ok.ensures.written c.in-Ok.ensures.durable in
    subst (λ log. IsReady (d.keeps c.harden.new.disk) (d.reads c.harden.new.disk) (d.may_hold c.harden.new.disk) (record { log = log; cut = n.cut; incarnation = n.incarnation; is_closed = n.is_closed })) (sym c.in-Ok.ensures.ok) after

pub returns-in-Ok-clause-any_moment : goal.returns-in-Ok-clause-any_moment
returns-in-Ok-clause-any_moment g c =
    let d = g.D.Disk in
    let n = c.self.inside in
    let s = c.args.self.now in
    let v : StoreView = record { log = n.log; cut = n.cut; incarnation = n.incarnation; is_closed = n.is_closed } in
    let is : v ≡ s = c.self.view_is in
    let open_ : s.is_closed ≡ false = ap (λ (x : StoreView). x.is_closed) (sym is) ∙ c.if-self.false in
    let ready = subst (IsReady (d.keeps c.args.disk.now) (d.reads c.args.disk.now) (d.may_hold c.args.disk.now)) (sym is) (c.requires.ready open_) in
    let need = need_is c.args.block.now.records c.as_slice.result.now c.small_size.result c.block_sectors_of-need.result c.small_size.ensures c.as_slice.ensures c.block_sectors_of-need.ensures in
    let free = c.free-free.ensures ∙ ap (λ (x : StoreView). free_sectors x.log) (sym is) in
    let room : block_sectors c.args.block.now.records ≤ free_sectors n.log = omega (arith, need, free, c.if-free-need.false) in
    let first : c.args.block.now.first ≡ length n.log.records + 1 = c.requires.first ∙ ap (λ (x : StoreView). length x.log.records + 1) (sym is) in
    let b = stored_by n.incarnation c.args.block.now in
    let f = follows v c.args.block.now c.requires.payload c.harden.ensures.block first room in
    λ _.
    let run = in_call d.keeps d.reads d.may_hold d.moment d.left_since g.met.D.Disk.tells g.met.D.Disk.only_now c.args.disk.now c.harden.new.disk v b ready f c.harden.ensures.any_moment in
    subst (λ (x : StoreView). LeavesOnly d.moment d.left_since c.args.disk.now c.harden.new.disk (IsBeforeOrAfter (d.reads c.args.disk.now) x c.args.block.now.records)) is run

pub returns-after-matches-clause-any_moment : goal.returns-after-matches-clause-any_moment
returns-after-matches-clause-any_moment g c =
    let d = g.D.Disk in
    let n = c.self.inside in
    let s = c.args.self.now in
    let v : StoreView = record { log = n.log; cut = n.cut; incarnation = n.incarnation; is_closed = n.is_closed } in
    let is : v ≡ s = c.self.view_is in
    let open_ : s.is_closed ≡ false = ap (λ (x : StoreView). x.is_closed) (sym is) ∙ c.if-self.false in
    let ready = subst (IsReady (d.keeps c.args.disk.now) (d.reads c.args.disk.now) (d.may_hold c.args.disk.now)) (sym is) (c.requires.ready open_) in
    let need = need_is c.args.block.now.records c.as_slice.result.now c.small_size.result c.block_sectors_of-need.result c.small_size.ensures c.as_slice.ensures c.block_sectors_of-need.ensures in
    let free = c.free-free.ensures ∙ ap (λ (x : StoreView). free_sectors x.log) (sym is) in
    let room : block_sectors c.args.block.now.records ≤ free_sectors n.log = omega (arith, need, free, c.if-free-need.false) in
    let first : c.args.block.now.first ≡ length n.log.records + 1 = c.requires.first ∙ ap (λ (x : StoreView). length x.log.records + 1) (sym is) in
    let b = stored_by n.incarnation c.args.block.now in
    let f = follows v c.args.block.now c.requires.payload c.harden.ensures.block first room in
    λ _.
    let run = in_call d.keeps d.reads d.may_hold d.moment d.left_since g.met.D.Disk.tells g.met.D.Disk.only_now c.args.disk.now c.harden.new.disk v b ready f c.harden.ensures.any_moment in
    subst (λ (x : StoreView). LeavesOnly d.moment d.left_since c.args.disk.now c.harden.new.disk (IsBeforeOrAfter (d.reads c.args.disk.now) x c.args.block.now.records)) is run

pub returns-then-free-need-clause-any_moment : goal.returns-then-free-need-clause-any_moment
returns-then-free-need-clause-any_moment g c = λ open_.
    let d = g.D.Disk in
    no_call d.keeps d.reads d.may_hold d.moment d.left_since g.met.D.Disk.tells g.met.D.Disk.only_now c.args.disk.now c.args.self.now c.args.block.now.records (c.requires.ready open_)
