use Rattle.ag_front.proofs.shared.Front.split.Given as goal

abbrev pub ghosts-split_as : goal.ghosts-split_as
ghosts-split_as g a = record { count = a.parts }
