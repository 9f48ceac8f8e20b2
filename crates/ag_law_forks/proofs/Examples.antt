-- Worked examples of where two logs part, by computation alone.
use Rattle.std.proofs.Common.{◌≡◌, List, [], ◌∷◌, length, refl}
use Rattle.ag_model.specs.declared.record.Record.{Record}
use Rattle.ag_model.specs.declared.record.Record.TheVariants.{Trim, Term}
use Rattle.ag_model.specs.Starts.{term_starts, fork_of_starts, fork}

-- a log of term 1, one that was forced away from it after 2 records, and one that goes on from it
abbrev old : List Record
old = Term 1 ∷ Trim 16 1 ∷ Trim 17 1 ∷ []

abbrev forced : List Record
forced = Term 1 ∷ Trim 16 1 ∷ Term 2 ∷ Trim 18 1 ∷ []

abbrev longer : List Record
longer = Term 1 ∷ Trim 16 1 ∷ Trim 17 1 ∷ Term 2 ∷ []

forced_part : (fork_of_starts (term_starts old) (length old) (term_starts forced) (length forced) ≡ 2) × (fork old forced ≡ 2)
unfolding fork_of_starts fork
forced_part = (refl, refl)

none_part : (fork_of_starts (term_starts old) (length old) (term_starts longer) (length longer) ≡ 3) × (fork old longer ≡ 3)
unfolding fork_of_starts fork
none_part = (refl, refl)

-- logs that no run has: the starts tell less of them than their records do
untold : (fork_of_starts (term_starts old) (length old) (term_starts (Term 1 ∷ Trim 20 1 ∷ [])) 2 ≡ 2) × (fork old (Term 1 ∷ Trim 20 1 ∷ []) ≡ 1)
unfolding fork_of_starts fork
untold = (refl, refl)
