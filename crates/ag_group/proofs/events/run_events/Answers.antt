use Rattle.std.proofs.Common.{◌∙◌, arith}
use Rattle.ag_group.proofs.Runs.{not_begun, header_cut, SoFar-start, SoFar-part, SoFar-event, SoFar-end, event_cut}
use Rattle.ag_group.proofs.events.run_events.Goals as goal

pub returns-in_default-clause-part : goal.returns-in_default-clause-part
returns-in_default-clause-part g c = not_begun c.args.c.now c.args.events.now (g.K.Sink.taken c.args.sink.now)

pub returns-in_default-create-clause-part : goal.returns-in_default-create-clause-part
returns-in_default-create-clause-part g c = not_begun c.args.c.now c.args.events.now (g.K.Sink.taken c.args.sink.now)

pub returns-in_default-header_line-clause-part : goal.returns-in_default-header_line-clause-part
returns-in_default-header_line-clause-part g c = not_begun c.args.c.now c.args.events.now (g.K.Sink.taken c.args.sink.now)

pub returns-in_default-write_all-clause-part : goal.returns-in_default-write_all-clause-part
returns-in_default-write_all-clause-part g c = header_cut c.args.c.now c.args.events.now _ _ c.as_slice.result.now (c.as_slice.ensures.value ∙ c.in-Ok-header_line.ensures) c.write_all.ensures.front

pub events-init : goal.events-init
events-init g c = record {
  so_far = SoFar-start c.args.c.now c.args.events.now c.in-Ok-create.group.group _ _ c.as_slice.result.now c.in-Ok-create.ensures.opening (c.as_slice.ensures.value ∙ c.in-Ok-header_line.ensures) c.in-Ok-write_all.ensures.ok;
  faults = c.write_all.ensures.faults;
}

pub returns-in_default-answer_line-clause-part : goal.returns-in_default-answer_line-clause-part
returns-in_default-answer_line-clause-part g c = SoFar-part c.args.c.now c.args.events.now c.events.event-index c.events.group.group _ _ c.events.invariant.so_far

pub returns-in_default-write_all-2-clause-part : goal.returns-in_default-write_all-2-clause-part
returns-in_default-write_all-2-clause-part g c =
    event_cut c.args.c.now c.args.events.now c.events.event-index c.events.group.group _ _ _ c.event-item.result c.in-Ok-step.answer c.as_slice-in-events.result.now
    c.events.invariant.so_far c.events-test.true c.event-item.is c.in-Ok-step.ensures.allowed (c.as_slice-in-events.ensures.value ∙ c.in-Ok-answer_line.ensures) c.write_all-in-events.ensures.front

pub events-preserved : goal.events-preserved
events-preserved g c = record {
  so_far = SoFar-event c.args.c.now c.args.events.now c.events.event-index c.events.group.group c.step.new.self.group _ _ _ c.event-item.result c.in-Ok-step.answer c.as_slice-in-events.result.now
      c.events.invariant.so_far c.events-test.true c.event-item.is c.in-Ok-step.ensures.allowed c.in-Ok-step.ensures.next c.in-Ok-step.ensures.config (c.as_slice-in-events.ensures.value ∙ c.in-Ok-answer_line.ensures) c.in-Ok-write_all-2.ensures.ok;
  faults = omega (arith, c.events.invariant.faults, c.write_all-in-events.ensures.faults);
}

pub returns-in_default-step-clause-part : goal.returns-in_default-step-clause-part
returns-in_default-step-clause-part g c = SoFar-part c.args.c.now c.args.events.now c.events.event-index c.events.group.group _ _ c.events.invariant.so_far

pub returns-clause-ok : goal.returns-clause-ok
returns-clause-ok g c = SoFar-end c.args.c.now c.args.events.now c.events.event-index c.events.group.group _ _ (omega (arith, c.events-test.false)) c.events.invariant.so_far

pub returns-clause-part : goal.returns-clause-part
returns-clause-part g c = SoFar-part c.args.c.now c.args.events.now c.events.event-index c.events.group.group _ _ c.events.invariant.so_far
