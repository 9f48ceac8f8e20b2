-- What each record of a log has, by the records before it and after it.
use Rattle.std.specs.Prelude.{◌≡◌, List, ◌∷◌, ◌++◌}
use Rattle.ag_model.specs.declared.record.Record.{Record}

-- each record, by those before it and those after it
abbrev pub EachPlace : (List Record → Record → List Record → Type 0) → List Record → Type 0
EachPlace Q log = (front : List Record) (r : Record) (back : List Record) → log ≡ front ++ r ∷ back → Q front r back
