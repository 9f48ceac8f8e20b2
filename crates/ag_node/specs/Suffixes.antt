-- What a stop or a fail leaves of a part, as the rules cut a whole event.
use Rattle.std.specs.Prelude.{ℕ, ◌+◌, ◌-◌, length, take, nat_lt, if◌then◌else◌}
use Rattle.std.specs.List.{flat_map, sum_by}
use Rattle.ag_model.specs.declared.event.Suffix.{Suffix}
use Rattle.ag_model.specs.declared.event.Suffix.TheVariants.{Whole, Stop, Fail}
use Rattle.ag_model.specs.declared.answer.Answer.TheVariants.{Stopped, DeviceFailed}
use Rattle.ag_rules.specs.Replica.{Replica, fallen}
use Rattle.ag_rules.specs.Plan.{Part, at_once}
use Rattle.ag_rules.specs.Cut.{all_writes, page_named, stopped_disk, stopped_steps, failed_disk, failed_steps, torn_pages}

-- a part that is stopped in its write w, counted from 0
abbrev pub stopped_part : ℕ → ℕ → ℕ → Replica → Part → Part
stopped_part pages w mask r part =
    at_once (Stopped (w + 1) (stopped_steps mask w part.writes) (torn_pages pages (stopped_disk mask w r.kept part.writes) (flat_map page_named (take (w + 1) (all_writes part.writes)))))
    (fallen r (stopped_disk mask w r.kept part.writes))

-- a part of replica n whose call c, counted from 0, fails
abbrev pub failed_part : ℕ → ℕ → Replica → Part → Part
failed_part n c r part = at_once (DeviceFailed n (failed_steps c part.writes)) (fallen r (failed_disk c r.kept part.writes))

-- the part of replica n with its suffix; where the place isn't reached it is whole
abbrev pub cut_part : ℕ → ℕ → Suffix → Replica → Part → Part
cut_part pages n Whole r part = part
cut_part pages n (Stop w mask) r part = if nat_lt (w - 1) (length (all_writes part.writes)) then stopped_part pages (w - 1) mask r part else part
cut_part pages n (Fail c) r part = if nat_lt (c - 1) (sum_by (λ b. length b + 1) part.writes) then failed_part n (c - 1) r part else part
