-- `deliver`, `repeat` and `lose`.
use Rattle.std.specs.Prelude.{Option, Some, None, slice_get}
use Rattle.std.proofs.Common.{◌≡◌, ◌≢◌, ℕ, ◌-◌, ◌<◌, List, [], ◌∷◌, length, Bool, refl, sym, ap, ◌∙◌, arith}
use Rattle.ag_model.specs.declared.config.Register.{Register}
use Rattle.ag_model.specs.declared.event.Suffix.{Suffix}
use Rattle.ag_model.specs.declared.answer.Answer.TheVariants.{Lost}
use Rattle.ag_model.specs.declared.answer.Refusal.TheVariants.{NoMessage}
use Rattle.ag_model.specs.declared.message.Message.{Message}
use Rattle.ag_model.specs.declared.message.Body.{Body}
use Rattle.ag_model.specs.declared.message.Body.TheVariants.{Hello, Resume, Block as OfBlock, Ack, PageAsk, PageGive, PageNo}
use Rattle.ag_rules.specs.Group.{Group, replica, link, is_full}
use Rattle.ag_rules.specs.Plan.{Part, here, at_once, at_node, refused}
use Rattle.ag_rules.specs.Checks.{is_down}
use Rattle.ag_rules.specs.DeliverEvent.{plan_of_deliver, plan_of_message, arrives, message_part, taken, leaves, plan_of_lose, plan_of_loss}
use Rattle.ag_rules.specs.KeptLaw.{Confirmed}
use Rattle.ag_lists.proofs.Tests.{if_has}
use Rattle.ag_lists.proofs.Each.{all_get}
use Rattle.ag_laws.specs.Logs.{Logs, Setting}
use Rattle.ag_laws.specs.Fits.{BodyFits, MessageFits}
use Rattle.ag_laws.specs.Good.{Good}
use Rattle.ag_laws.proofs.Plans.{unless_has}
use Rattle.ag_law_kept.specs.Past.{Past, Meets}
use Rattle.ag_law_kept.specs.Tells.{BodyTells, MessageTells}
use Rattle.ag_law_kept.specs.Holds.{Holds}
use Rattle.ag_law_kept.proofs.World.{IsWorld, world}
use Rattle.ag_law_kept.proofs.Moved.{world_like}
use Rattle.ag_law_kept.proofs.Posts.{holds_taken}
use Rattle.ag_law_kept.proofs.Goes.{fit_of}
use Rattle.ag_law_kept.proofs.Calm.{same_calm}
use Rattle.ag_law_kept.proofs.Grows.{block_calm, page_ask_calm, give_calm, no_page_calm}
use Rattle.ag_law_kept.proofs.Leads.{cut_fits, cut_calm, ack_fits}
use Rattle.ag_law_kept.proofs.Greets.{hello_holds}
use Rattle.ag_law_kept.proofs.Resumes.{resume_holds}
use Rattle.ag_law_kept.proofs.Stores.{Comes}
use Rattle.ag_law_kept.proofs.Nexts.{Remembers, next_same, cut_register}
use Rattle.ag_law_kept.proofs.Events.{Comes2, calm}

-- a message of n comes to m
arrives_holds : (past : Past) (cs : List Confirmed) (s : Setting) (logs grown : Logs) (g : Group) (n m : ℕ) (full : Bool) (term : ℕ) (b : Body) (suffix : Suffix) → IsWorld past logs g → Holds past cs logs g → Meets past s → s.now ≡ g.register.term → m < length g.replicas → n ≢ m
    → BodyFits s logs (replica g n) m (replica g m) term b → BodyTells past logs n (replica g n) m (replica g m) term b → Comes past cs logs grown suffix (at_node g m (arrives (here g m) n (replica g m) full term b))
arrives_holds past cs s logs grown g n m full term (Hello ticket its_end starts) suffix w h meets now there apart fits tells = hello_holds past cs logs grown g n m w h there apart full term ticket its_end starts suffix tells
arrives_holds past cs s logs grown g n m full term (Resume ticket fork its_end) suffix w h meets now there apart fits tells =
    resume_holds past cs logs grown g n m term fork its_end ticket suffix w h there (λ e. fits.other (sym (meets term fits.past) ∙ e)) (omega (arith, fits.past, now)) fits.waits tells
arrives_holds past cs s logs grown g n m full term (OfBlock block) suffix w h meets now there apart fits tells = cut_calm past cs logs grown g m _ suffix w h there (block_calm (here g m) n (replica g m) full term block (fit_of past m g.config.pages (replica g m) (h.states m)))
arrives_holds past cs s logs grown g n m full term (Ack hardened its_low) suffix w h meets now there apart fits tells =
    cut_fits past cs logs grown g m _ suffix w h there (ack_fits past logs g.register g.config.pages n m (replica g m) term hardened its_low (fit_of past m g.config.pages (replica g m) (h.states m)) (h.leaders m) tells)
arrives_holds past cs s logs grown g n m full term (PageAsk p lsn primary) suffix w h meets now there apart fits tells = cut_calm past cs logs grown g m _ suffix w h there (page_ask_calm (here g m) n (replica g m) full term p lsn primary (fit_of past m g.config.pages (replica g m) (h.states m)))
arrives_holds past cs s logs grown g n m full term (PageGive lsn v) suffix w h meets now there apart fits tells = cut_calm past cs logs grown g m _ suffix w h there (give_calm g.config.pages (replica g m) term v.page lsn (fit_of past m g.config.pages (replica g m) (h.states m)))
arrives_holds past cs s logs grown g n m full term (PageNo p) suffix w h meets now there apart fits tells = cut_calm past cs logs grown g m _ suffix w h there (no_page_calm g.config.pages (replica g m) term p (fit_of past m g.config.pages (replica g m) (h.states m)))

-- the same where it may be down
message_holds : (past : Past) (cs : List Confirmed) (s : Setting) (logs grown : Logs) (g : Group) (n m : ℕ) (full : Bool) (message : Message) (suffix : Suffix) → IsWorld past logs g → Holds past cs logs g → Meets past s → s.now ≡ g.register.term → m < length g.replicas → n ≢ m
    → MessageFits s logs (replica g n) m (replica g m) message → MessageTells past logs n (replica g n) m (replica g m) message → Comes past cs logs grown suffix (at_node g m (message_part (here g m) n (replica g m) full message))
message_holds past cs s logs grown g n m full message suffix w h meets now there apart fits tells =
    unless_has (λ part. Comes past cs logs grown suffix (at_node g m part)) (is_down (here g m) (replica g m) ∷ []) (replica g m) (arrives (here g m) n (replica g m) full message.term message.body)
    (λ why. cut_calm past cs logs grown g m _ suffix w h there (same_calm g.config.pages (replica g m) _ (fit_of past m g.config.pages (replica g m) (h.states m))))
    (λ _. arrives_holds past cs s logs grown g n m full message.term message.body suffix w h meets now there apart fits tells)

module _ (past : Past) (cs : List Confirmed) (s : Setting) (logs : Logs) (g : Group) (good : Good s logs g) (r : Remembers past s g) (h : Holds past cs logs g) (n m i : ℕ) (there : m < length g.replicas) where
  -- an event of m at a group with the same replicas and store
  at_like : (x : Group) (part : Part) (suffix : Suffix) → x.register ≡ g.register → ((grown : Logs) → Comes past cs logs grown suffix (at_node x m part)) → Comes2 past cs s logs g good r h suffix (at_node x m part)
  at_like x part suffix same f k = next_same past cs s logs g _ good r k (ap (λ (y : Register). y.term) (cut_register x m part suffix ∙ same)) (f k.grown)

  found_next : (repeats : Bool) (o : Option Message) (suffix : Suffix) → n ≢ m → slice_get (link g n m) (i - 1) ≡ o → Comes2 past cs s logs g good r h suffix (plan_of_message g n m i repeats o)
  found_next repeats None suffix apart e = calm past cs s logs g good r h m suffix (refused (NoMessage n m) (replica g m)) there (same_calm g.config.pages (replica g m) _ (fit_of past m g.config.pages (replica g m) (h.states m)))
  found_next repeats (Some message) suffix apart e =
      let part : Part = message_part (here g m) n (replica g m) (is_full g m n) message in
      let w : IsWorld past logs g = world past s logs g r.meets good in
      let fits : MessageFits s logs (replica g n) m (replica g m) message = all_get (MessageFits s logs (replica g n) m (replica g m)) (link g n m) (i - 1) message (good.messages n m) e in
      let tells : MessageTells past logs n (replica g n) m (replica g m) message = all_get (MessageTells past logs n (replica g n) m (replica g m)) (link g n m) (i - 1) message (h.messages n m) e in
      let here_next : Comes2 past cs s logs g good r h suffix (at_node g m part) = at_like g part suffix refl (λ grown. message_holds past cs s logs grown g n m (is_full g m n) message suffix w h r.meets (sym good.now) there apart fits tells) in
      if_has (λ (x : Group). Comes2 past cs s logs g good r h suffix (at_node x m part)) repeats g _
      (λ _. here_next)
      (λ _. if_has (λ (x : Group). Comes2 past cs s logs g good r h suffix (at_node x m part)) (leaves part.answer) g (taken g n m i)
      (λ _. here_next)
      (λ _. at_like (taken g n m i) part suffix refl
      (λ grown. message_holds past cs s logs grown (taken g n m i) n m (is_full g m n) message suffix (world_like past logs g (taken g n m i) refl refl refl refl w) (holds_taken past cs logs g n m i h) r.meets (sym good.now) there apart fits tells)))

  pub deliver_next : (repeats : Bool) (suffix : Suffix) → n ≢ m → Comes2 past cs s logs g good r h suffix (plan_of_deliver g n m i repeats)
  unfolding plan_of_deliver
  deliver_next repeats suffix apart = found_next repeats (slice_get (link g n m) (i - 1)) suffix apart refl

  loss_next : (o : Option Message) (suffix : Suffix) → Comes2 past cs s logs g good r h suffix (plan_of_loss g n m i o)
  loss_next None suffix = calm past cs s logs g good r h m suffix (refused (NoMessage n m) (replica g m)) there (same_calm g.config.pages (replica g m) _ (fit_of past m g.config.pages (replica g m) (h.states m)))
  loss_next (Some message) suffix =
      at_like (taken g n m i) (at_once Lost (replica g m)) suffix refl
      (λ grown. cut_calm past cs logs grown (taken g n m i) m (at_once Lost (replica g m)) suffix (world_like past logs g (taken g n m i) refl refl refl refl (world past s logs g r.meets good)) (holds_taken past cs logs g n m i h) there (same_calm g.config.pages (replica g m) _ (fit_of past m g.config.pages (replica g m) (h.states m))))

  pub lose_next : (suffix : Suffix) → Comes2 past cs s logs g good r h suffix (plan_of_lose g n m i)
  unfolding plan_of_lose
  lose_next suffix = loss_next (slice_get (link g n m) (i - 1)) suffix
