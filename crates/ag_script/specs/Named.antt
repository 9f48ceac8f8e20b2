-- Which event a line says, by its first word.
use Rattle.std.specs.Prelude.{ℕ, List, [], ◌∷◌, codes, Option, None, if◌then◌else◌}
use Rattle.std.specs.Str.{bytes_eq}
use Rattle.ag_model.specs.declared.config.Config.{Config}
use Rattle.ag_model.specs.declared.event.Event.{Event}
use Rattle.ag_script.specs.Shapes.{Shape, read, set_shape, begin_shape, get_shape, put_shape, del_shape, commit_shape, rollback_shape, trim_shape}
use Rattle.ag_script.specs.Shapes.{harden_shape, ack_shape, send_shape, deliver_shape, repeat_shape, lose_shape, apply_shape, raise_shape, redo_shape, report_shape, read_shape}
use Rattle.ag_script.specs.Shapes.{snap_shape, view_shape, close_shape, suspects_shape, page_shape, sectors_shape, status_shape, flush_shape, crash_shape}
use Rattle.ag_script.specs.Shapes.{start_shape, spoil_shape, unread_shape, ask_shape, cut_shape, mend_shape, join_shape, resume_shape}
use Rattle.ag_script.specs.Shapes.{sync_shape, timeout_shape, planned_shape, auto_shape, force_shape, finish_shape}

-- the event by the first shape that stands beside the name
abbrev pub first_named : List (List ℕ × Shape) → List ℕ → List (List ℕ) → Option Event
first_named [] name texts = None
first_named (entry ∷ entries) name texts = if bytes_eq name entry.0 then read entry.1 texts else first_named entries name texts

-- the network, members, and failovers
unfoldable pub member_shapes : Config → List (List ℕ × Shape)
member_shapes c =
    (codes "cut", cut_shape c) ∷
    (codes "mend", mend_shape c) ∷
    (codes "join", join_shape c) ∷
    (codes "resume", resume_shape c) ∷
    (codes "sync", sync_shape c) ∷
    (codes "timeout", timeout_shape c) ∷
    (codes "planned", planned_shape c) ∷
    (codes "auto", auto_shape) ∷
    (codes "force", force_shape c) ∷
    (codes "finish", finish_shape c) ∷
    []

-- crashes, starts, and what befalls a disk, and then the members
unfoldable pub disk_shapes : Config → List (List ℕ × Shape)
disk_shapes c =
    (codes "flush", flush_shape c) ∷
    (codes "crash", crash_shape c) ∷
    (codes "start", start_shape c) ∷
    (codes "spoil", spoil_shape c) ∷
    (codes "unread", unread_shape c) ∷
    (codes "ask", ask_shape c) ∷
    member_shapes c

-- reads and looks, and then the disks
unfoldable pub look_shapes : Config → List (List ℕ × Shape)
look_shapes c =
    (codes "read", read_shape c) ∷
    (codes "snap", snap_shape c) ∷
    (codes "view", view_shape c) ∷
    (codes "close", close_shape c) ∷
    (codes "suspects", suspects_shape c) ∷
    (codes "page", page_shape c) ∷
    (codes "sectors", sectors_shape c) ∷
    (codes "status", status_shape c) ∷
    disk_shapes c

-- what brings the log on, and then reads and looks
unfoldable pub log_shapes : Config → List (List ℕ × Shape)
log_shapes c =
    (codes "harden", harden_shape c) ∷
    (codes "ack", ack_shape c) ∷
    (codes "send", send_shape c) ∷
    (codes "deliver", deliver_shape c) ∷
    (codes "repeat", repeat_shape c) ∷
    (codes "lose", lose_shape c) ∷
    (codes "apply", apply_shape c) ∷
    (codes "raise", raise_shape c) ∷
    (codes "redo", redo_shape c) ∷
    (codes "report", report_shape c) ∷
    look_shapes c

-- transactions, and then the log
unfoldable pub transaction_shapes : Config → List (List ℕ × Shape)
transaction_shapes c =
    (codes "begin", begin_shape c) ∷
    (codes "get", get_shape c) ∷
    (codes "put", put_shape c) ∷
    (codes "del", del_shape c) ∷
    (codes "commit", commit_shape c) ∷
    (codes "rollback", rollback_shape c) ∷
    (codes "trim", trim_shape c) ∷
    log_shapes c

-- each event's name, and what may follow it
abbrev pub shapes : Config → List (List ℕ × Shape)
shapes c = (codes "set", set_shape c) ∷ transaction_shapes c

-- the event that the words say
unfoldable pub event_at : Config → List (List ℕ) → Option Event
event_at c [] = None
event_at c (name ∷ texts) = first_named (shapes c) name texts
