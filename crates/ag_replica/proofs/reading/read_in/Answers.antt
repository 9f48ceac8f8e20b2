use Rattle.std.proofs.Common.{◌≡◌, sym, subst, ◌∙◌, refl, ap, Ok}
use Rattle.std.proofs.Common.{inl, inr}
use Rattle.ag_lists.proofs.Results.{not_ok}
use Rattle.ag_page.specs.declared.home.Got.TheVariants.{Sound, Torn, Lost}
use Rattle.ag_replica.proofs.ReadIn.{bytes-say, only-fetched, only-read, is-sound, is-bad, answers-apart}
use Rattle.ag_replica.proofs.reading.read_in.Goals as goal

pub value_in-requires : goal.value_in-requires
value_in-requires g c =
    bytes-say g.D.Disk.reads c.args.up.now c.args.page c.requires.up c.requires.steady c.requires.page c.fetch.new.self c.in_ok-fetch.ensures.only
    c.fetch.new.into (sym c.in_ok-fetch.ensures.found ∙ c.in-Sound.is) (c.in_ok-fetch.ensures.image (ap Ok c.in-Sound.is))

pub returns-in_ok-value-in-Sound-clause-only : goal.returns-in_ok-value-in-Sound-clause-only
returns-in_ok-value-in-Sound-clause-only g c =
    only-read g.D.Disk.reads c.args.up.now c.args.page c.requires.up c.requires.steady c.requires.page c.fetch.new.self c.in_ok-fetch.ensures.only
    c.keep.new.self c.fetch.new.into c.in_ok-value-in-Sound.value c.keep.ensures (sym c.has.ensures ∙ c.if-has.false) (sym c.in_ok-fetch.ensures.found ∙ c.in-Sound.is) (c.in_ok-fetch.ensures.image (ap Ok c.in-Sound.is)) c.in_ok-value-in-Sound.ensures

pub returns-in_ok-value-in-Sound-clause-sound : goal.returns-in_ok-value-in-Sound-clause-sound
returns-in_ok-value-in-Sound-clause-sound g c =
    sym (is-sound g.D.Disk.reads c.args.up.now c.args.page c.requires.up c.requires.steady c.requires.page c.fetch.new.self c.in_ok-fetch.ensures.only (sym c.in_ok-fetch.ensures.found ∙ c.in-Sound.is))

pub returns-in-Torn : goal.returns-in-Torn
returns-in-Torn g c = record {
  only = only-fetched g.D.Disk.reads c.args.up.now c.args.page c.requires.up c.requires.steady c.requires.page c.fetch.new.self c.in_ok-fetch.ensures.only;
  there = λ e. absurd (answers-apart e);
  sound = sym (is-bad g.D.Disk.reads c.args.up.now c.args.page c.requires.up c.requires.steady c.requires.page c.fetch.new.self c.in_ok-fetch.ensures.only
      (λ e. elim c.in-Torn.is [ inl torn ↦ torn-sound (sym torn ∙ c.in_ok-fetch.ensures.found ∙ e) | inr lost ↦ lost-sound (sym lost ∙ c.in_ok-fetch.ensures.found ∙ e) ]));
  later = c.in_ok-fetch.ensures.later;
  fault = λ e. absurd (not_ok _ _ (sym e));
}
  where
    torn-sound : Torn ≡ Sound → ⊥
    torn-sound e = cc

    lost-sound : Lost ≡ Sound → ⊥
    lost-sound e = cc
