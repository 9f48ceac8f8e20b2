-- What a stop or a fail leaves of an act at its replica, and the group after by its fields.
use Rattle.std.specs.Prelude.{ℕ, ◌+◌, ◌-◌, List, [], ◌∷◌, ◌++◌, length, take, get_or, set, nat_lt, Option, Some, None, if◌then◌else◌}
use Rattle.std.specs.List.{flat_map, sum_by}
use Rattle.ag_model.specs.declared.config.Token.{Token}
use Rattle.ag_model.specs.declared.event.Suffix.{Suffix}
use Rattle.ag_model.specs.declared.event.Suffix.TheVariants.{Whole, Stop, Fail}
use Rattle.ag_model.specs.declared.answer.Answer.{Answer}
use Rattle.ag_model.specs.declared.answer.Answer.TheVariants.{Stopped, DeviceFailed}
use Rattle.ag_model.specs.declared.message.Message.{Message}
use Rattle.ag_rules.specs.Replica.{Replica, Kept, fallen}
use Rattle.ag_rules.specs.Group.{Group, replica}
use Rattle.ag_rules.specs.Plan.{Part, Here, Posting, here}
use Rattle.ag_rules.specs.Cut.{page_named, stopped_disk, stopped_steps, failed_disk, failed_steps, all_writes, torn_pages}
use Rattle.ag_rules.specs.Next.{named, token_after}
use Rattle.ag_acts.specs.declared.told.Told.{Told}
use Rattle.ag_acts.specs.Parts.{asks_token, part_in}

-- a part that ended early, with this on its disk: nothing is sent, and the replica is down
abbrev pub ended : Replica → Part → Answer → Kept → Part
ended r part answer k = record part { answer = answer; out = []; after = fallen r k }

-- what a part answers that is stopped in its write w, counted from 0, with this on its disk
abbrev pub stopped_answer : ℕ → ℕ → Here → Part → Kept → Answer
stopped_answer w mask h part k = Stopped (w + 1) (stopped_steps mask w part.writes) (torn_pages h.pages k (flat_map page_named (take (w + 1) (all_writes part.writes))))

-- a part that is stopped in its write w, counted from 0
abbrev pub stopped_part : ℕ → ℕ → Here → Replica → Part → Part
stopped_part w mask h r part = ended r part (stopped_answer w mask h part (stopped_disk mask w r.kept part.writes)) (stopped_disk mask w r.kept part.writes)

-- a part whose call c, counted from 0, fails
abbrev pub failed_part : ℕ → Here → Replica → Part → Part
failed_part c h r part = ended r part (DeviceFailed h.number (failed_steps c part.writes)) (failed_disk c r.kept part.writes)

-- a part with its suffix; where the place isn't reached it is whole
abbrev pub cut_short : Suffix → Here → Replica → Part → Part
cut_short Whole h r part = part
cut_short (Stop w mask) h r part = if nat_lt (w - 1) (length (all_writes part.writes)) then stopped_part (w - 1) mask h r part else part
cut_short (Fail c) h r part = if nat_lt (c - 1) (sum_by (λ b. length b + 1) part.writes) then failed_part (c - 1) h r part else part

-- the links once replica n has sent these messages
abbrev pub links_after : ℕ → List Posting → List (List (List Message)) → List (List (List Message))
links_after n [] links = links
links_after n (p ∷ ps) links = links_after n ps (set links n (set (get_or links n []) p.to (get_or (get_or links n []) p.to [] ++ p.message ∷ [])))

-- the tokens once a session was answered at this term, if the answer is for one
abbrev pub tokens_after : ℕ → Answer → Option ℕ → List (Option Token) → List (Option Token)
tokens_after term answer (Some s) tokens = set tokens s (token_after term answer (get_or tokens s None))
tokens_after term answer None tokens = tokens

-- the group after a part of replica n, by its fields
abbrev pub group_after : Group → ℕ → Option ℕ → Part → Group
group_after g n s part = record g {
  replicas = set g.replicas n part.after;
  links = links_after n part.out g.links;
  tokens = tokens_after (replica g n).term part.answer s g.tokens;
}

-- what a replica does that is told so in the group, with its suffix
abbrev pub told_part : Group → Told → Part
told_part g t = cut_short t.suffix (here g (named g t.node)) (replica g (named g t.node)) (part_in g (named g t.node) t.act)

-- the group once a replica did what it is told so, with its suffix
abbrev pub told_after : Group → Told → Group
told_after g t = group_after g (named g t.node) (asks_token t.act) (told_part g t)
