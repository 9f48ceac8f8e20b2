-- A group of which the links of one node are others.
use Rattle.std.proofs.Common.{◌≡◌, ℕ, ◌<◌, List, [], length, get_or, set, ap, ◌∙◌}
use Rattle.std.specs.Prelude.{Option}
use Rattle.std.proofs.lemmas.List.{length-set, get_or_read}
use Rattle.ag_model.specs.declared.config.Config.{Config}
use Rattle.ag_model.specs.declared.config.Register.{Register}
use Rattle.ag_model.specs.declared.config.Token.{Token}
use Rattle.ag_model.specs.declared.message.Message.{Message}
use Rattle.ag_rules.specs.Group.{Group, link, with_link}
use Rattle.ag_node.specs.Seen.{NodeView}
use Rattle.ag_group.specs.Groups.{IsGroup}
use Rattle.ag_group.specs.Seen.{group_of}
use Rattle.ag_group.proofs.Nodes.{all_with}
use Rattle.ag_group.proofs.Runs.{every_at}

module _ (c : Config) (nodes : List NodeView) (links : List (List (List Message))) (register : Register) (n : ℕ) (row : List (List Message)) (within : n < length links) (found : row ≡ get_or links n row) where
  -- a node of a group has a link to each
  pub columns_at : (sessions : ℕ) → IsGroup c nodes links register sessions → length row ≡ length c.modes
  columns_at sessions g = ap (λ (r : List (List Message)). length r) found ∙ every_at (λ (r : List (List Message)). length r ≡ length c.modes) links n row g.columns within

  -- a group in which the links of one node are as many others
  pub group_with_row : (sessions : ℕ) → IsGroup c nodes links register sessions → (new : List (List Message)) → length new ≡ length row → IsGroup c nodes (set links n new) register sessions
  group_with_row sessions g new same = record {
    settings = g.settings;
    each = g.each;
    pages = g.pages;
    rows = length-set links n new ∙ g.rows;
    columns = all_with (λ (r : List (List Message)). length r ≡ length c.modes) links n new g.columns (same ∙ columns_at sessions g);
    primary = g.primary;
    term = g.term;
    tokens = g.tokens;
  }

  -- the link of a node to another one
  pub link_at : (tokens : List (Option Token)) (now : Group) (from m : ℕ) → n ≡ from → group_of c nodes links register tokens ≡ now → get_or row m [] ≡ link now from m
  link_at tokens now from m at same =
      ap (λ (r : List (List Message)). get_or r m []) (get_or_read links n row within found [])
      ∙ ap (λ (k : ℕ). link (group_of c nodes links register tokens) k m) at
      ∙ ap (λ (g : Group). link g from m) same

  -- the group with other messages in that link
  pub with_row : (tokens : List (Option Token)) (now : Group) (from m : ℕ) (new : List (List Message)) (messages : List Message → List Message) → n ≡ from → group_of c nodes links register tokens ≡ now
      → new ≡ set row m (messages (get_or row m [])) → group_of c nodes (set links n new) register tokens ≡ with_link now from m (messages (link now from m))
  with_row tokens now from m new messages at same is =
      ap (λ (r : List (List Message)). group_of c nodes (set links n r) register tokens) is
      ∙ ap (λ (r : List (List Message)). group_of c nodes (set links n (set r m (messages (get_or r m [])))) register tokens) (get_or_read links n row within found [])
      ∙ ap (λ (k : ℕ). with_link (group_of c nodes links register tokens) k m (messages (link (group_of c nodes links register tokens) k m))) at
      ∙ ap (λ (g : Group). with_link g from m (messages (link g from m))) same
